use Rattle.std.proofs.Common.{ℕ, List, subst, ◌∙◌}
use Rattle.check_state.specs.Ascending.{Ascends}
use Rattle.check_state.proofs.OriginLaws.{sorted_ascends}
use Rattle.check_state.proofs.origins.Origins.of.Goals as goal

pub invariant_of-result : goal.invariant_of-result
invariant_of-result c =
    subst (λ (ns : List ℕ). Ascends ns c.sort_unstable.new.self.items) (c.in_ok-ascending.ensures.items ∙ c.as_slice.ensures)
    (sorted_ascends c.in_ok-ascending.ascending.items c.sort_unstable.new.self.items c.sort_unstable.ensures.permutation c.sort_unstable.ensures.sorted)
