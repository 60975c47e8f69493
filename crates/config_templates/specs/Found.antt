-- Of what a statement makes an instance, in the code and in the definition.
use Rattle.std.specs.Prelude.{ℕ, List, map, Ok}
use Rattle.mesa_types.specs.declared.faces.Import.{Import}
use Rattle.mesa_types.specs.declared.faces.Export.{Export}
use Rattle.cmesa_grammar.specs.declared.syntax.Instantiation.{Instantiation}
use Rattle.check_scopes.specs.Scopes.{has}
use Rattle.config_rules.specs.Components.{names_of}
use Rattle.config_rules.specs.Template.{Template, heading_in}
use Rattle.config_rules.specs.Through as spec
use Rattle.config_rules.specs.Through.{Answer, ◌>>=◌, unless, listed, name_in}
use Rattle.config_rules.specs.Tree.{modules_with}
use Rattle.config_rules.specs.declared.fault.TreeCause.TheVariants.{TwiceNamed}
use Rattle.config_templates.specs.Shown.{part_of}
use Rattle.config_templates.specs.declared.template.TemplatePart.{TemplatePart}
use Rattle.config_templates.specs.declared.template.TemplatePart.TheVariants.{Module, Nested}
use Rattle.config_templates.specs.declared.found.Thing.{Thing}
use Rattle.config_templates.specs.declared.found.Thing.TheVariants.{OfModule, OfNested}
use Rattle.config_templates.specs.declared.found.Found.{Found}
use Rattle.config_templates.specs.declared.modules.Modules.{Modules}

abbrev pub names_imported : List Import → List (List ℕ)
names_imported imports = map (λ (m : Import). m.face.name) imports

abbrev pub names_exported : List Export → List (List ℕ)
names_exported exports = map (λ (x : Export). x.face.name) exports

abbrev pub modules_of : Modules → List spec.Module
modules_of m = modules_with m.components.now m.shapes.now

abbrev pub thing_of : Thing → spec.Thing
thing_of (OfModule n) = spec.AModule n
thing_of (OfNested t) = spec.ANested t

abbrev pub found_of : Found → spec.Found
found_of f = record { thing = thing_of f.thing; imports = f.imports; exports = f.exports }

abbrev pub of_template : Template → spec.Found
of_template t = record { thing = spec.ANested t; imports = names_of (heading_in t).imports; exports = names_of (heading_in t).exports }

abbrev pub made_of : TemplatePart → spec.Made
made_of (Module p n) = record { part = part_of p; thing = spec.AModule n }
made_of (Nested p t) = record { part = part_of p; thing = spec.ANested t }

-- the instance of what was found
abbrev pub made_from : (names : List (List ℕ)) → Instantiation → spec.Found → Answer spec.Made
made_from names i f =
    unless (has (name_in i).name names) TwiceNamed (name_in i).place >>= (λ _.
    listed i.records f.exports >>= (λ exports.
    listed i.arguments f.imports >>= (λ imports.
    Ok (record { part = record { name = (name_in i).name; imports = imports; exports = exports; place = i.place }; thing = f.thing }))))
