-- None so far is like it.
use Rattle.std.proofs.Common.{◌≡◌, drop}
use Rattle.load_checks.specs.Places.{number_in, stands_shown}
use Rattle.load_checks.proofs.wanting.number_in.Given as goal

abbrev pub invariant-loop-item : goal.invariant-loop-item
invariant-loop-item l = number_in (stands_shown (drop l.item-index l.items)) l.wanted ≡ number_in (stands_shown l.items) l.wanted
