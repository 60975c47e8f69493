use Rattle.std.proofs.Common.{refl}
use Rattle.config_rules.specs.Template.{modules_below}
use Rattle.config_templates.proofs.Counting.{counted, more}
use Rattle.config_templates.proofs.counts.modules_below.Goals as goal

pub parts-preserved : goal.parts-preserved
parts-preserved c = (
  c.with_modules-so_far.ensures.most,
  more modules_below _ _ _ c.in-Some.ensures.cases.0 c.parts.invariant.1 (c.with_modules-so_far.ensures.modules _),
)

pub returns : goal.returns
unfolding modules_below
returns c = counted modules_below refl _ _ c.parts.invariant.0 _ c.in_default.ensures.cases c.parts.invariant.1
