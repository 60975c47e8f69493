use Rattle.command_sources.proofs.Binding.{no_room}
use Rattle.command_sources.proofs.modules.module_of_component.Goals as goal

pub returns-in_err-file-clause-passes : goal.returns-in_err-file-clause-passes
returns-in_err-file-clause-passes g c = no_room _ _ _ _ c.from_residual.result c.from_residual.ensures.1

pub returns-in-Ok-clause-passes : goal.returns-in-Ok-clause-passes
returns-in-Ok-clause-passes g c = rw c.into_inner.ensures (rw c.as_slice.ensures at (rw c.in_ok-file.ensures at c.in-Ok.ensures.passes))

pub returns-in-Err-clause-passes : goal.returns-in-Err-clause-passes
returns-in-Err-clause-passes g c = rw c.as_slice.ensures at (rw c.in_ok-file.ensures at c.in-Err.ensures.passes)
