use Rattle.std.proofs.Common.{◌≡◌, length}
use Rattle.config_rules.specs.Tree as spec
use Rattle.config_templates.specs.Shown.{chained}
use Rattle.config_tree.proofs.late_faults.too_nested.Given as goal

abbrev pub invariant-parts : goal.invariant-parts
invariant-parts l = spec.too_nested (chained l.rest) ≡ spec.too_nested (chained l.parts)

abbrev pub decreases-parts : goal.decreases-parts
decreases-parts l = length l.rest
