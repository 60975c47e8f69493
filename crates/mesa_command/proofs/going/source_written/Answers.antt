use Rattle.command_lines.specs.command_passes.proofs.Bases.{base_ascii}
use Rattle.command_lines.specs.command_passes.specs.Stops.{stop_case}
use Rattle.mesa_command.specs.Machines.{unmade}
use Rattle.mesa_command.proofs.going.source_written.Goals as goal

pub made-requires : goal.made-requires
made-requires g c = record { ascii = base_ascii c.args.base.now c.requires.base; bound = c.requires.bound }

pub returns-in-Err : goal.returns-in-Err
returns-in-Err g c = λ trail before asked. unmade (stop_case c.in-Err.why) c.in-Err.ensures.err asked
