use Rattle.check_jumps.proofs.FieldLaws.{same_types_by}
use Rattle.check_jumps.proofs.likeness.same_types.Goals as goal

pub returns : goal.returns
returns c = same_types_by _ _ _ c.same_types.ensures
