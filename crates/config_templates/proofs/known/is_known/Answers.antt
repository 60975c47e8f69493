use Rattle.config_templates.proofs.MentionLaws.{asked}
use Rattle.config_templates.proofs.known.is_known.Goals as goal

pub returns : goal.returns
returns c = λ names k. asked c.args.known.now c.bytes.result.now c.args.name.now _ c.bytes.ensures c.has.ensures names k
