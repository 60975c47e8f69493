use Rattle.command_lines.specs.command_passes.proofs.Bases.{base_ascii}
use Rattle.mesa_command.proofs.going.source_of.Goals as goal

pub source_of_module-requires : goal.source_of_module-requires
source_of_module-requires g c = base_ascii c.args.base.now c.requires

pub source_of_config-requires : goal.source_of_config-requires
source_of_config-requires g c = base_ascii c.args.base.now c.requires
