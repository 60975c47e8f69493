use Rattle.std.proofs.Common.{◌+◌, ap, ◌∙◌, refl}
use Rattle.config_rules.specs.Template.{Template, modules_of, scopes_of}
use Rattle.config_templates.specs.Clipped.{clipped}
use Rattle.config_templates.specs.Shown.{part_of}
use Rattle.config_tree.proofs.LateFaults.{one_module, one_nested}
use Rattle.config_tree.proofs.late_faults.instances_of.Goals as goal

pub returns-in-Module-clause-many : goal.returns-in-Module-clause-many
returns-in-Module-clause-many c n ps = rw c.in-Module.is (one_module (part_of c.in-Module.field-0) c.in-Module.field-1 n ps)

pub returns-in-Nested-clause-many : goal.returns-in-Nested-clause-many
returns-in-Nested-clause-many c n ps =
    rw c.in-Nested.is
    (one_nested (part_of c.in-Nested.field-0) c.in-Nested.nested c.scopes.result c.modules.result (1 + c.scopes.result + c.modules.result) n ps
    (c.scopes.ensures ∙ ap (λ (t : Template). clipped (scopes_of t)) c.get.ensures) (c.modules.ensures ∙ ap (λ (t : Template). clipped (modules_of t)) c.get-in-Nested.ensures) refl)
