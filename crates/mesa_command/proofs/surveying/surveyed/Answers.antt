use Rattle.command_lines.specs.command_passes.proofs.Bases.{base_ascii}
use Rattle.command_rules.specs.Surveying.{survey_in}
use Rattle.mesa_command.proofs.Printed.{alone_passes}
use Rattle.mesa_command.proofs.surveying.surveyed.Goals as goal

pub survey_of_file-requires : goal.survey_of_file-requires
survey_of_file-requires g c = base_ascii c.args.base.now c.requires

pub returns-clause-passes : goal.returns-clause-passes
returns-clause-passes g c = alone_passes (survey_in c.args.base.now) _ _ c.survey_of_file.result c.survey_of_file.ensures.passes
