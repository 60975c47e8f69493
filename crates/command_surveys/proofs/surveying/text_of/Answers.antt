use Rattle.command_surveys.proofs.Texts.{text_told}
use Rattle.command_surveys.proofs.surveying.text_of.Goals as goal

pub returns : goal.returns
returns c = text_told c.args.image.now c.in_ok-escapes.escapes c.survey_lines.result c.in_ok-escapes.ensures c.survey_lines.ensures
