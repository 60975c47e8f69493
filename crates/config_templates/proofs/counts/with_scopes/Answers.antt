use Rattle.std.proofs.Common.{ap, arith}
use Rattle.config_rules.specs.Template.{scopes_below, scopes_of}
use Rattle.config_templates.proofs.counts.with_scopes.Goals as goal

pub returns-in-Module-clause-scopes : goal.returns-in-Module-clause-scopes
unfolding scopes_below
returns-in-Module-clause-scopes c ps = rw c.in-Module.is (omega arith)

pub returns-in-Nested-clause-scopes : goal.returns-in-Nested-clause-scopes
unfolding scopes_below
returns-in-Nested-clause-scopes c ps = rw c.in-Nested.is (omega (arith, ap scopes_of c.get.ensures))
