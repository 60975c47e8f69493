use Rattle.std.proofs.Common.{◌≡◌, ◌≤◌, length}
use Rattle.mesa_base.specs.declared.limits.TheConstants.{INSTANCES}
use Rattle.config_rules.specs.Tree as spec
use Rattle.config_templates.specs.Shown.{chained}
use Rattle.config_tree.proofs.late_faults.too_many.Given as goal

abbrev pub invariant-parts : goal.invariant-parts
invariant-parts l = (l.so_far ≤ INSTANCES) × (spec.too_many l.so_far (chained l.rest) ≡ spec.too_many 0 (chained l.parts))

abbrev pub decreases-parts : goal.decreases-parts
decreases-parts l = length l.rest
