use Rattle.std.proofs.Common.{◌≡◌, ◌-◌, ◌++◌, length}
use Rattle.code_trees.specs.Excess.{excess_in}
use Rattle.code_trees.specs.Taken.{rolls_in_place}
use Rattle.code_trees.proofs.arranging.rolled.Given as goal

abbrev pub invariant-loop-step : goal.invariant-loop-step
invariant-loop-step l = record {
  code : l.code ++ rolls_in_place l.place (length l.places - l.step) l.places l.left l.moved ≡ rolls_in_place l.fn.first (length l.places) l.places l.sizes 0;
  fits : excess_in (rolls_in_place l.place (length l.places - l.step) l.places l.left l.moved) ≡ 0;
}
