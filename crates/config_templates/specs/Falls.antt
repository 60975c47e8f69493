-- A nested template is smaller than the one that it stands in.
use Rattle.std.proofs.Common.{List, [], ◌∷◌, ◌≤◌, ◌+◌, arith}
use denote.Param.Weighed.{most}
use Rattle.config_templates.specs.declared.template.TemplatePart.{TemplatePart}
use Rattle.config_templates.specs.declared.template.TemplatePart.TheVariants.{Module, Nested}
use Rattle.config_templates.specs.declared.template.Template.TheInside.{Inside}
use Rattle.config_templates.specs.declared.template.Template.TheDeep.{deep-Template, deep-TemplatePart}
use Rattle.config_templates.specs.Size.{nodes, nodes_in}
use Rattle.config_templates.specs.Shown.{shown, chained}

most_of : (ps : List TemplatePart) → most deep-TemplatePart ps ≤ 1 + nodes_in (chained ps)
unfolding nodes nodes_in chained
most_of [] = omega arith
most_of (Module p c ∷ ps) = omega (arith, most_of ps)
most_of (Nested p t ∷ ps) = omega (arith, most_of ps)

pub parts_fall : (a : Inside) → deep-Template a ≤ nodes (shown a)
unfolding nodes nodes_in shown
parts_fall a = omega (arith, most_of a.parts)
