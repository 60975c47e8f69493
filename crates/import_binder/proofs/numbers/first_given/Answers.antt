use Rattle.std.proofs.Common.{List, sym, ap, ◌∙◌, get_or, refl}
use Rattle.mesa_types.specs.declared.faces.Pair.{Pair}
use Rattle.config_rules.specs.Resolves.{given_for}
use Rattle.import_binder.proofs.Numbering.{given_here, given_later, none_given}
use Rattle.import_binder.proofs.numbers.first_given.Goals as goal

pub returns-then-is_named : goal.returns-then-is_named
returns-then-is_named c =
    let none : Pair = record { item = 0; number = 0 } in
    let items = c.as_slice-pair-items.result.now in
    let face = c.args.export.now.face in
    given_here face c.args.name.now items c.loop-pair.pair-index (get_or items c.loop-pair.pair-index none) none c.loop-pair-test.true refl
    (sym c.is_named.ensures ∙ c.if-is_named.true) c.loop-pair.invariant
    ∙ ap (λ (ps : List Pair). given_for c.args.name.now face ps) c.as_slice-pair-items.ensures

pub loop-pair-preserved : goal.loop-pair-preserved
loop-pair-preserved c =
    let none : Pair = record { item = 0; number = 0 } in
    let items = c.as_slice-pair-items.result.now in
    given_later c.args.export.now.face c.args.name.now items c.loop-pair.pair-index (get_or items c.loop-pair.pair-index none) none c.loop-pair-test.true refl
    (sym c.is_named.ensures ∙ c.if-is_named.false) c.loop-pair.invariant

pub returns : goal.returns
returns c =
    let face = c.args.export.now.face in
    none_given face c.args.name.now c.as_slice-pair-items.result.now c.loop-pair.pair-index c.loop-pair-test.false c.loop-pair.invariant
    ∙ ap (λ (ps : List Pair). given_for c.args.name.now face ps) c.as_slice-pair-items.ensures
