use Rattle.std.proofs.Common.{◌≡◌, ◌+◌, ◌<◌, ◌^◌}
use Rattle.std.specs.List.{AllWithin, AllAdjacentBelow}
use Rattle.code_forms.specs.Instructions.{bytes_of}
use Rattle.code_forms.proofs.building.is_in_order.Given as goal

abbrev pub invariant-loop-at : goal.invariant-loop-at
invariant-loop-at l =
    AllWithin (λ e. e.at + bytes_of e.instruction < 2 ^ 32) l.code 0 l.at × AllAdjacentBelow (λ e f. e.at + bytes_of e.instruction ≡ f.at) l.code l.at
