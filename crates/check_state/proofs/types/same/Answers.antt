use Rattle.check_state.proofs.TypeLaws.{same_by}
use Rattle.check_state.proofs.types.same.Goals as goal

pub returns : goal.returns
returns c = same_by _ _ _ c.same_type.ensures
