use Rattle.check_jumps.proofs.FieldLaws.{same_fields_by}
use Rattle.check_jumps.proofs.likeness.same_fields.Goals as goal

pub returns : goal.returns
returns c = same_fields_by _ _ _ c.same_fields.ensures
