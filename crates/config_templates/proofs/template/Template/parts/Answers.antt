use Rattle.std.proofs.Common.{ap, ◌∙◌}
use Rattle.config_rules.specs.Template.{parts_in}
use Rattle.config_templates.specs.Shown.{shown, chained}
use Rattle.config_templates.proofs.template.Template.parts.Goals as goal

pub returns : goal.returns
unfolding shown parts_in
returns c = ap chained c.as_slice.ensures ∙ ap parts_in c.self.view_is
