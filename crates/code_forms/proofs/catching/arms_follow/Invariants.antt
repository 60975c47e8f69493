use Rattle.std.proofs.Common.{◌≡◌, ◌<◌}
use Rattle.std.specs.List.{AllWithin, AllAdjacentBelow}
use Rattle.code_forms.specs.Routine.{IsStart, spots}
use Rattle.code_forms.proofs.catching.arms_follow.Given as goal

abbrev pub invariant-loop-at : goal.invariant-loop-at
invariant-loop-at l =
    AllWithin (λ a. IsStart (spots l.code) a.start × (a.start < a.end)) l.arms 0 l.at × AllAdjacentBelow (λ a b. a.end ≡ b.start) l.arms l.at
