use Rattle.std.proofs.Common.{ap, arith}
use Rattle.config_rules.specs.Template.{modules_below, modules_of}
use Rattle.config_templates.proofs.counts.with_modules.Goals as goal

pub returns-in-Module-clause-modules : goal.returns-in-Module-clause-modules
unfolding modules_below
returns-in-Module-clause-modules c ps = rw c.in-Module.is (omega arith)

pub returns-in-Nested-clause-modules : goal.returns-in-Nested-clause-modules
unfolding modules_below
returns-in-Nested-clause-modules c ps = rw c.in-Nested.is (omega (arith, ap modules_of c.get.ensures))
