use Rattle.std.proofs.Common.{◌∙◌}
use Rattle.check_state.proofs.GrowingLaws.{none_frozen}
use Rattle.check_state.proofs.growing.GrowingFields.new.Goals as goal

pub returns : goal.returns
returns c = none_frozen c.new.result.items c.new-2.result c.new.ensures.items ∙ c.new-2.ensures
