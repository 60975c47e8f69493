use Rattle.std.proofs.Common.{◌≡◌, true, take}
use Rattle.include_rules.specs.Naming.{is_left}
use Rattle.include_checker.proofs.cycle.way_from.Given as goal

-- it does not stand before
abbrev pub invariant-loop-at : goal.invariant-loop-at
invariant-loop-at l = is_left (take l.at l.way) l.text ≡ true
