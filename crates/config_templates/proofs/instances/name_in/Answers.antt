use Rattle.std.proofs.Common.{sym, ap}
use Rattle.config_rules.specs.Through.{name_or}
use Rattle.config_templates.proofs.instances.name_in.Goals as goal

pub returns-in-Some : goal.returns-in-Some
unfolding name_or
returns-in-Some c = sym (ap (name_or c.args.instance.now.component) c.in-Some.is)

pub returns-in-None : goal.returns-in-None
unfolding name_or
returns-in-None c = sym (ap (name_or c.args.instance.now.component) c.in-None.is)
