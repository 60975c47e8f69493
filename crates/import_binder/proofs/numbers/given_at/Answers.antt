use Rattle.std.proofs.Common.{List, Contains, subst, sym, ◌∙◌}
use Rattle.mesa_types.specs.declared.faces.Pair.{Pair}
use Rattle.import_binder.proofs.Numbering.{given_found}
use Rattle.import_binder.proofs.numbers.given_at.Goals as goal

pub returns-in-Some : goal.returns-in-Some
returns-in-Some c =
    let x = c.args.export.now in
    let P : List Pair → Type 0 = λ ps. Contains ps c.in-Some.pair in
    given_found x.face c.requires.names c.args.name.now x.given c.requires.numbers.0 c.in-Some.pair (subst P c.as_slice.ensures c.in-Some.ensures.1) c.args.number c.in-Some.ensures.0
    (sym c.is_named.ensures ∙ c.if-is_named.true)
