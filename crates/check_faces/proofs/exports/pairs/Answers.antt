use Rattle.std.proofs.Common.{◌≡◌, rules, map, Ok, option_map, sym, ap, ◌∙◌}
use Rattle.std.specs.Option.{option_copied}
use Rattle.interface_records.specs.PlainTypes.{plain_item}
use Rattle.check_faces.specs.Giving.{given}
use Rattle.check_faces.specs.Offers.{offer}
use Rattle.check_faces.proofs.ExportLaws.{go_on, pairs_at, pairs_next, pairs_out, pairs_start}
use Rattle.check_faces.proofs.exports.pairs.Goals as goal

pub loop-item-init : goal.loop-item-init
loop-item-init c = λ h. pairs_start (map offer c.args.offers.now) 0 c.args.items.now ∙ ap (go_on (map offer c.args.offers.now) 0 c.args.items.now) (sym c.new-given.ensures)

pub loop-item-preserved : goal.loop-item-preserved
loop-item-preserved c = λ h.
    let fine : given c.loop-item.number (plain_item c.item-item.result) (option_map offer (option_copied c.offer_named.result)) c.loop-item.given ≡ Ok c.give.new.given = search rules in
    rw (c.loop-item.invariant h)
    (rw (pairs_next (map offer c.args.offers.now) c.loop-item.number c.args.items.now c.loop-item.item-index c.loop-item.given c.item-item.result
    (option_map offer (option_copied c.offer_named.result)) c.give.new.given (search rules) (search rules) (c.offer_named.ensures h) fine) (search rules))

pub returns : goal.returns
returns c = λ h.
    c.loop-item.invariant h
    ∙ pairs_out (map offer c.args.offers.now) c.loop-item.number c.args.items.now c.loop-item.item-index c.loop-item.given (search rules)

pub returns-in_err-give : goal.returns-in_err-give
returns-in_err-give c = λ h.
    rw (c.loop-item.invariant h)
    (rw (pairs_at (map offer c.args.offers.now) c.loop-item.number c.args.items.now c.loop-item.item-index c.loop-item.given c.item-item.result (search rules) (search rules))
    (rw (sym (c.offer_named.ensures h)) (search (rules, c.give.ensures))))
