use Rattle.std.proofs.Common.{ap, ◌∙◌}
use Rattle.std.proofs.lemmas.Option.{none-some, same_Some}
use Rattle.mesa_types.specs.declared.faces.Export.{Export}
use Rattle.import_binder.specs.Choosing.{unlike_by}
use Rattle.import_binder.proofs.choosing.unlike_first.Goals as goal

pub returns-in-Some : goal.returns-in-Some
returns-in-Some c = λ x is. c.unlike_export.ensures ∙ ap (λ (y : Export). unlike_by c.args.face.now c.args.first.now y) (same_Some c.in-Some.export.now x (c.in-Some.ensures ∙ is))

pub returns-in-None : goal.returns-in-None
returns-in-None c = λ x is. absurd (none-some x (c.in-None.ensures ∙ is))
