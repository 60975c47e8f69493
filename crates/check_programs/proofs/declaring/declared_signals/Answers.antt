use Rattle.std.proofs.Common.{rules, map, ◌∙◌, ap}
use Rattle.check_heads.specs.check_faces.specs.Offers.{offer}
use Rattle.interface_records.specs.PlainTypes.{plain_item}
use Rattle.check_state.specs.Views as words
use Rattle.check_programs.specs.Heads.{renamed}
use Rattle.check_programs.specs.Views as view
use Rattle.check_programs.proofs.DeclaredLaws.{signals_is, signals_put}
use Rattle.check_programs.proofs.ItemLaws.{renamed_are}
use Rattle.check_heads.specs.Views.{heading}
use Rattle.check_programs.proofs.declaring.declared_signals.Goals as goal

pub returns-in_err-settle_signals : goal.returns-in_err-settle_signals
returns-in_err-settle_signals c =
    rw (signals_is (view.found c.args.found.now) c.args.one.now.names c.args.one.now.access c.args.number c.args.kind (heading c.args.head)
    (map plain_item c.in_ok-items.items) (words.state c.args.state.now) (search rules)
    ((rw c.as_slice-names.ensures at c.in_ok-items.ensures) ∙ ap (λ i. map (renamed i) c.args.one.now.names) (rw c.as_slice-names.ensures at c.in_ok-head.ensures) ∙ renamed_are c.args.kind (heading c.args.head) c.args.one.now.names c.args.one.now.names))
    (search rules)

pub returns : goal.returns
returns c =
    signals_put (view.found c.args.found.now) c.args.one.now.names c.args.one.now.access c.args.number c.args.kind (heading c.args.head)
    (map plain_item c.in_ok-items.items) (words.state c.args.state.now) (words.state c.settle_signals.new.state) (map offer c.signal_offers.new.offers.items)
    (view.found c.also_signals.new.found) (search rules)
    ((rw c.as_slice-names.ensures at c.in_ok-items.ensures) ∙ ap (λ i. map (renamed i) c.args.one.now.names) (rw c.as_slice-names.ensures at c.in_ok-head.ensures) ∙ renamed_are c.args.kind (heading c.args.head) c.args.one.now.names c.args.one.now.names)
    (rw (c.as_slice-names.ensures, c.as_slice-all.ensures) at c.in_ok-settle_signals.ensures)
    (rw (c.as_slice-names.ensures, c.as_slice-all.ensures) at c.in_ok-signal_offers.ensures)
    c.in_ok-also_signals.ensures
