use Rattle.std.proofs.Common.{◌≡◌, ◌≤◌, suc, ◌+◌, length}
use Rattle.mesa_base.specs.declared.limits.TheConstants.{INSTANCES}
use Rattle.config_rules.specs.Template as spec
use Rattle.config_templates.specs.Clipped.{clipped}
use Rattle.config_templates.specs.Shown.{chained}
use Rattle.config_templates.proofs.counts.scopes_below.Given as goal

abbrev pub invariant-parts : goal.invariant-parts
invariant-parts l = (l.so_far ≤ suc INSTANCES) × (clipped (spec.scopes_below (chained l.parts)) ≡ clipped (l.so_far + spec.scopes_below (chained l.rest)))

abbrev pub decreases-parts : goal.decreases-parts
decreases-parts l = length l.rest
