use Rattle.check_jumps.proofs.FieldLaws.{same_types_by}
use Rattle.check_faces.proofs.exports.same_kinds.Goals as goal

pub returns : goal.returns
returns c = same_types_by _ _ _ c.same_types.ensures
