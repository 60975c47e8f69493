use Rattle.std.proofs.Common.{◌≡◌, ℕ, ◌<◌, false}
use Rattle.include_rules.specs.Naming.{is_left}
use Rattle.include_checker.proofs.order.first_open.Given as goal

-- none before is left
abbrev pub invariant-loop-text : goal.invariant-loop-text
invariant-loop-text l = (k : ℕ) → k < l.text → is_left l.taken k ≡ false
