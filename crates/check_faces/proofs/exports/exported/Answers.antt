use Rattle.std.proofs.Common.{◌≡◌, rules, map, Ok, sym, ap, ◌∙◌}
use Rattle.interface_records.specs.PlainTypes.{plain_interface}
use Rattle.check_faces.specs.Giving.{export}
use Rattle.check_faces.specs.Offers.{offer}
use Rattle.check_faces.proofs.ExportLaws.{export_at, export_next, export_on, export_out, export_start}
use Rattle.check_faces.proofs.exports.exported.Goals as goal

pub loop-interface-init : goal.loop-interface-init
loop-interface-init c = export_start (map offer c.args.offers.now) c.args.those.now ∙ ap (export_on (map offer c.args.offers.now) c.args.those.now) (sym c.new-exports.ensures)

pub returns : goal.returns
returns c =
    c.loop-interface.invariant
    ∙ export_out (map offer c.args.offers.now) c.args.those.now c.loop-interface.interface-index c.loop-interface.exports (search rules)

pub loop-interface-preserved : goal.loop-interface-preserved
loop-interface-preserved c =
    let fine : export (map offer c.args.offers.now) (plain_interface c.interface-item.result.now) ≡ Ok c.in_ok-held.export =
    search (rules, c.export_of.ensures c.in_ok-index.ensures) in
    rw c.loop-interface.invariant
    (rw (export_next (map offer c.args.offers.now) c.args.those.now c.loop-interface.interface-index c.loop-interface.exports c.interface-item.result c.in_ok-held.export
    (search rules) (search rules) fine) (search rules))

pub returns-in_err-held : goal.returns-in_err-held
returns-in_err-held c =
    rw c.loop-interface.invariant
    (rw (export_at (map offer c.args.offers.now) c.args.those.now c.loop-interface.interface-index c.loop-interface.exports c.interface-item.result (search rules) (search rules))
    (search (rules, c.export_of.ensures c.in_ok-index.ensures)))
