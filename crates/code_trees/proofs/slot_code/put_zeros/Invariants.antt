use Rattle.std.proofs.Common.{◌≡◌, ◌++◌, drop}
use Rattle.code_rules.specs.Slots.{zero_code}
use Rattle.code_trees.specs.Excess.{excess_in}
use Rattle.code_trees.specs.Routines.{coded}
use Rattle.code_trees.proofs.slot_code.put_zeros.Given as goal

abbrev pub invariant-loop-home : goal.invariant-loop-home
invariant-loop-home l =
    (l.fn.code ++ zero_code (coded l.routine) l.homes l.words ≡ l.code ++ zero_code (coded l.routine) (drop l.home-index l.homes) l.words)
    × (excess_in (zero_code (coded l.routine) (drop l.home-index l.homes) l.words) ≡ 0)
