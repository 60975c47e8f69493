-- The run of the topmost activation over the region is a run of the machine.
use Rattle.std.proofs.Common.{length, refl}
use Rattle.machine_activations.specs.Laws.{RunsAsDefined}
use Rattle.machine_activations.proofs.Located.{valid_code}
use Rattle.machine_activations.proofs.Quiet.{comes_to_pause}
use Rattle.machine_activations.proofs.Standing.{of_code, standing}

pub runs_as_defined : RunsAsDefined
runs_as_defined image layout prepared region table r ample p a S shows code number is numbered targets leads m all begun why u pauses =
    let v = valid_code image layout prepared a.instance code is in
    comes_to_pause image layout prepared table code p v.valid v.depths (of_code image layout prepared region table r p a S shows ample code is (length (m.globals a.instance)) all) targets leads number
    (record { region = region; globals = m.globals a.instance; registers = r; turns = m.turns }) a S shows numbered
    (standing image layout prepared region table r p a S shows ample code is (length (m.globals a.instance)) all) m refl refl begun why u pauses
