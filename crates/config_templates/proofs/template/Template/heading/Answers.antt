use Rattle.std.proofs.Common.{ap}
use Rattle.config_rules.specs.Template.{heading_in}
use Rattle.config_templates.specs.Shown.{shown}
use Rattle.config_templates.proofs.template.Template.heading.Goals as goal

pub returns : goal.returns
unfolding shown heading_in
returns c = ap heading_in c.self.view_is
