use Rattle.std.proofs.Common.{ℕ, ◌<◌}
use Rattle.include_rules.specs.Order.{IsReady}
use Rattle.include_checker.proofs.order.next_of.Given as goal

-- none before can be taken
abbrev pub invariant-loop-text : goal.invariant-loop-text
invariant-loop-text l = (k : ℕ) → k < l.text → IsReady l.names l.taken k → ⊥
