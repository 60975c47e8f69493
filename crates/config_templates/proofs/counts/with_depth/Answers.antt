use Rattle.std.proofs.Common.{ap, arith}
use Rattle.config_rules.specs.Template.{depth_below, depth_of}
use Rattle.config_templates.proofs.counts.with_depth.Goals as goal

pub returns-in-Module-clause-depth : goal.returns-in-Module-clause-depth
unfolding depth_below
returns-in-Module-clause-depth c ps = rw c.in-Module.is (omega arith)

pub returns-in-Nested-clause-depth : goal.returns-in-Nested-clause-depth
unfolding depth_below
returns-in-Nested-clause-depth c ps = rw c.in-Nested.is (omega (arith, ap depth_of c.get.ensures))
