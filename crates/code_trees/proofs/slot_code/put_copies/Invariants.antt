use Rattle.std.proofs.Common.{◌≡◌, ◌++◌, drop}
use Rattle.code_rules.specs.Slots.{copy_code}
use Rattle.code_trees.specs.Excess.{excess_in}
use Rattle.code_trees.specs.Routines.{coded}
use Rattle.code_trees.proofs.slot_code.put_copies.Given as goal

abbrev pub invariant-loop-home : goal.invariant-loop-home
invariant-loop-home l =
    (l.fn.code ++ copy_code (coded l.routine) l.first l.homes l.words ≡ l.code ++ copy_code (coded l.routine) l.first (drop l.home-index l.homes) l.words)
    × (excess_in (copy_code (coded l.routine) l.first (drop l.home-index l.homes) l.words) ≡ 0)
