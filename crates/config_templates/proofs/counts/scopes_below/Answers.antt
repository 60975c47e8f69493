use Rattle.std.proofs.Common.{refl}
use Rattle.config_rules.specs.Template.{scopes_below}
use Rattle.config_templates.proofs.Counting.{counted, more}
use Rattle.config_templates.proofs.counts.scopes_below.Goals as goal

pub parts-preserved : goal.parts-preserved
parts-preserved c = (
  c.with_scopes-so_far.ensures.most,
  more scopes_below _ _ _ c.in-Some.ensures.cases.0 c.parts.invariant.1 (c.with_scopes-so_far.ensures.scopes _),
)

pub returns : goal.returns
unfolding scopes_below
returns c = counted scopes_below refl _ _ c.parts.invariant.0 _ c.in_default.ensures.cases c.parts.invariant.1
