use Rattle.std.proofs.Common.{ap, ◌∙◌, Option, Some}
use Rattle.object_rules.specs.ImageForms.{is_given, needed_of}
use Rattle.object_rules.specs.Parts.{ModulePart}
use Rattle.image_readers.proofs.link_fields.is_given_by.Goals as goal

pub returns : goal.returns
returns c = λ face. c.is_given.ensures face ∙ ap (λ (o : Option ModulePart). is_given (Some (needed_of face c.args.item.now)) o c.args.number) c.module_of.ensures
