use Rattle.command_sources.proofs.Binding.{no_room}
use Rattle.command_sources.proofs.OfObjects.{filed}
use Rattle.command_sources.proofs.objects.object_of_component.Goals as goal

pub returns-in_err-file-clause-passes : goal.returns-in_err-file-clause-passes
returns-in_err-file-clause-passes g c = no_room _ _ _ _ c.from_residual.result c.from_residual.ensures.1

pub returns-clause-filed : goal.returns-clause-filed
returns-clause-filed g c = filed c.object_of_file.result c.object_of_file.ensures.filed

pub returns-clause-passes : goal.returns-clause-passes
returns-clause-passes g c = rw c.as_slice.ensures at (rw c.in_ok-file.ensures at c.object_of_file.ensures.passes)
