use Rattle.std.proofs.Common.{ap, ◌∙◌, refl}
use Rattle.config_rules.specs.Template.{Template, depth_of}
use Rattle.config_rules.specs.Tree.{too_nested}
use Rattle.config_templates.specs.Clipped.{clipped}
use Rattle.config_templates.specs.Shown.{part_of}
use Rattle.config_tree.proofs.LateFaults.{deep_is, flat_is}
use Rattle.config_tree.proofs.late_faults.nested_too_deep.Goals as goal

pub returns-in-Module : goal.returns-in-Module
unfolding too_nested
returns-in-Module c ps = rw c.in-Module.is refl

pub returns-then-depth-gt-CONFIGURATION_DEPTH : goal.returns-then-depth-gt-CONFIGURATION_DEPTH
returns-then-depth-gt-CONFIGURATION_DEPTH c ps =
    rw c.in-Nested.is
    (deep_is (part_of c.in-Nested.part) c.in-Nested.nested c.depth.result ps (c.depth.ensures ∙ ap (λ (t : Template). clipped (depth_of t)) c.get.ensures) c.if-depth-gt-CONFIGURATION_DEPTH.true)

pub returns-else-depth-gt-CONFIGURATION_DEPTH : goal.returns-else-depth-gt-CONFIGURATION_DEPTH
returns-else-depth-gt-CONFIGURATION_DEPTH c ps =
    rw c.in-Nested.is
    (flat_is (part_of c.in-Nested.part) c.in-Nested.nested c.depth.result ps (c.depth.ensures ∙ ap (λ (t : Template). clipped (depth_of t)) c.get.ensures) c.if-depth-gt-CONFIGURATION_DEPTH.false)
