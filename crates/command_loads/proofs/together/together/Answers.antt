use Rattle.command_loads.specs.Loaded.{no_memory}
use Rattle.command_loads.proofs.together.together.Goals as goal

pub returns-in-Err : goal.returns-in-Err
returns-in-Err c = no_memory
