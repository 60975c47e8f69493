use Rattle.std.proofs.Common.{refl}
use Rattle.config_rules.specs.Template.{depth_below}
use Rattle.config_templates.proofs.Counting.{deepest, deeper}
use Rattle.config_templates.proofs.counts.depth_below.Goals as goal

pub parts-preserved : goal.parts-preserved
parts-preserved c = (
  c.with_depth-so_far.ensures.most,
  deeper depth_below _ _ _ c.in-Some.ensures.cases.0 c.parts.invariant.1 (c.with_depth-so_far.ensures.depth _),
)

pub returns : goal.returns
unfolding depth_below
returns c = deepest depth_below refl _ _ c.parts.invariant.0 _ c.in_default.ensures.cases c.parts.invariant.1
