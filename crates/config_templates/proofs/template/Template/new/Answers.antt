use Rattle.std.proofs.Common.{rules}
use Rattle.config_rules.specs.Template.{modules_of, scopes_of, depth_of}
use Rattle.config_templates.specs.Shown.{shown}
use Rattle.config_templates.proofs.template.Template.new.Goals as goal

pub invariant_of-result : goal.invariant_of-result
unfolding shown modules_of scopes_of depth_of
invariant_of-result c = record { modules = search rules; scopes = search rules; depth = search rules }

pub returns : goal.returns
unfolding shown
returns c = search rules
