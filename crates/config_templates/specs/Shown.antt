-- What the template of the code shows: the one of the definition, with its counts beside it.
use Rattle.std.specs.Prelude.{◌≡◌, List, [], ◌∷◌}
use Rattle.config_rules.specs.Template as spec
use Rattle.config_templates.specs.Clipped.{clipped}
use Rattle.config_templates.specs.declared.template.Part.{Part}
use Rattle.config_templates.specs.declared.template.TemplatePart.{TemplatePart}
use Rattle.config_templates.specs.declared.template.TemplatePart.TheVariants.{Module, Nested}
use Rattle.config_templates.specs.declared.template.Template.TheInside.{Inside}

abbrev pub part_of : Part → spec.Part
part_of p = record { name = p.name; imports = p.imports; exports = p.exports; place = p.place }

-- the part, and then these
abbrev pub before : TemplatePart → spec.Parts → spec.Parts
before (Module p c) ps = spec.AndModule (part_of p) c ps
before (Nested p t) ps = spec.AndNested (part_of p) t ps

unfoldable pub chained : List TemplatePart → spec.Parts
chained [] = spec.NoParts
chained (p ∷ ps) = before p (chained ps)

-- these, and then others
unfoldable pub followed : List TemplatePart → spec.Parts → spec.Parts
followed [] ps = ps
followed (q ∷ qs) ps = before q (followed qs ps)

unfoldable pub shown : Inside → spec.Template
shown a = spec.Gone a.heading (chained a.parts)

pub record IsCounted (a : Inside) : Type 0 where
  pub modules : a.modules ≡ clipped (spec.modules_of (shown a))
  pub scopes : a.scopes ≡ clipped (spec.scopes_of (shown a))
  pub depth : a.depth ≡ clipped (spec.depth_of (shown a))
