-- Where the statement of a part stands.
use Rattle.mesa_base.specs.declared.place.Place.{Place}
use Rattle.config_templates.specs.declared.template.TemplatePart.{TemplatePart}
use Rattle.config_templates.specs.declared.template.TemplatePart.TheVariants.{Module, Nested}

abbrev pub part_place : TemplatePart → Place
part_place (Module p c) = p.place
part_place (Nested p t) = p.place
