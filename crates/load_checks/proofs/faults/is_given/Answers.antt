use Rattle.std.proofs.Common.{ap, sym, ◌∙◌, refl, get_or}
use Rattle.mesa_types.specs.declared.faces.Pair.{Pair}
use Rattle.config_rules.specs.Exporters.{is_given}
use Rattle.load_checks.proofs.Passing.{given_here, given_more, given_none}
use Rattle.load_checks.proofs.faults.is_given.Goals as goal

pub returns-then-is_named : goal.returns-then-is_named
returns-then-is_named c =
    let none : Pair = record { item = 0; number = 0 } in
    let ps = c.as_slice-pair-items.result.now in
    given_here c.args.name.now c.args.export.now.face ps c.loop-pair.pair-index _ c.loop-pair.invariant (get_or ps c.loop-pair.pair-index none) none c.loop-pair-test.true refl
    (sym c.is_named.ensures ∙ c.if-is_named.true) ∙ ap (is_given c.args.name.now c.args.export.now.face) c.as_slice-pair-items.ensures

pub loop-pair-preserved : goal.loop-pair-preserved
loop-pair-preserved c =
    let none : Pair = record { item = 0; number = 0 } in
    let ps = c.as_slice-pair-items.result.now in
    given_more c.args.name.now c.args.export.now.face ps c.loop-pair.pair-index _ c.loop-pair.invariant (get_or ps c.loop-pair.pair-index none) none c.loop-pair-test.true refl
    (sym c.is_named.ensures ∙ c.if-is_named.false)

pub returns : goal.returns
returns c =
    given_none c.args.name.now c.args.export.now.face c.as_slice-pair-items.result.now c.loop-pair.pair-index _ c.loop-pair.invariant c.loop-pair-test.false
    ∙ ap (is_given c.args.name.now c.args.export.now.face) c.as_slice-pair-items.ensures
