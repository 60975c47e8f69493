-- Where nothing stands in several all is in one list.
use Rattle.std.proofs.Common.{◌∙◌, sym}
use Rattle.std.specs.Vec.{vec_len}
use Rattle.std.proofs.lemmas.Bool.{eqb-true}
use Rattle.check_state.proofs.GrowingLaws.{empty, none_frozen}
use Rattle.check_state.proofs.growing.GrowingFields.into_list.Goals as goal

pub returns-then-is_empty : goal.returns-then-is_empty
returns-then-is_empty c = sym (none_frozen c.self.inside.frozen.items c.self.inside.newest (empty c.self.inside.frozen (eqb-true (vec_len c.self.inside.frozen) 0 (sym c.is_empty.ensures ∙ c.if-is_empty.true)))) ∙ c.self.view_is
