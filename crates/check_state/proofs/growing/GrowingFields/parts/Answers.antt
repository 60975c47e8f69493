-- What is newest becomes the last part.
use Rattle.std.proofs.Common.{ap, ◌∙◌, ◌++◌}
use Rattle.check_state.specs.Growing.{together}
use Rattle.check_state.proofs.GrowingLaws.{one_behind}
use Rattle.check_state.proofs.growing.GrowingFields.parts.Goals as goal

pub returns : goal.returns
returns c =
    c.in_ok-merge.ensures ∙ ap together c.in_ok-push.ensures.items ∙ one_behind c.self.inside.frozen.items c.in_ok-new.field-0
    ∙ ap (λ l. together c.self.inside.frozen.items ++ l) c.in_ok-new.ensures ∙ c.self.view_is
