use Rattle.config_templates.proofs.MentionLaws.{no_names}
use Rattle.config_templates.proofs.mentioned.Mentioned.new.Goals as goal

pub returns-clause-known : goal.returns-clause-known
returns-clause-known c = no_names _ c.new.ensures
