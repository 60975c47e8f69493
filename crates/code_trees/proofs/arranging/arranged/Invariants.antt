use Rattle.std.proofs.Common.{◌≡◌, drop}
use Rattle.code_rules.specs.OwnCode.{arrange_code, arrange_from}
use Rattle.code_trees.proofs.arranging.arranged.Given as goal

abbrev pub invariant-loop-place : goal.invariant-loop-place
invariant-loop-place l =
    (l.at ≡ l.place-index) × (arrange_from l.at (drop l.at l.places) (drop l.at l.sizes) ≡ arrange_code l.places l.sizes)
