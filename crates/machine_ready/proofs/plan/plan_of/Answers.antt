use Rattle.std.proofs.Common.{sym, subst}
use Rattle.machine_ready.specs.Targets.{JumpsToStarts}
use Rattle.machine_ready.proofs.plan.plan_of.Goals as goal

pub targets_of-requires-clause-starts : goal.targets_of-requires-clause-starts
targets_of-requires-clause-starts c = subst (λ code. JumpsToStarts code) (sym c.as_slice-code.ensures) c.requires.starts
