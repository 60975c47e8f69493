use Rattle.config_templates.proofs.MentionLaws.{one_name_more}
use Rattle.config_templates.proofs.known.note.Goals as goal

pub returns : goal.returns
returns c = λ names k. one_name_more _ _ c.bytes.result.now c.args.name.now c.bytes.ensures c.in_ok-declare.ensures.ok names k
