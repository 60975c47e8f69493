use Rattle.std.proofs.Common.{subst}
use Rattle.std.specs.Prelude.{IfSome}
use Rattle.machine_signals.specs.Raising.{FindsNone}
use Rattle.machine_signals.proofs.arriving.arrive.Goals as goal

pub go_to-requires-clause-goal : goal.go_to-requires-clause-goal
go_to-requires-clause-goal c p is = subst (λ o. IfSome o (FindsNone p)) c.in-Some.is (c.requires.goal p is)
