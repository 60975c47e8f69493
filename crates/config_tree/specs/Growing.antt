-- What the parts of a template add to the scopes and instances that were grown before.
use Rattle.std.specs.Prelude.{◌≡◌, ℕ, ◌<◌, List, [], ◌∷◌, ◌++◌, map, length}
use Rattle.mesa_types.specs.declared.faces.Shape.{Shape}
use Rattle.config_rules.specs.Template.{Template, Gone, Parts, NoParts, AndModule, AndNested, parts_in}
use Rattle.config_rules.specs.Through.{Module}
use Rattle.config_rules.specs.declared.tree.TreeInstance.{TreeInstance}
use Rattle.config_rules.specs.Grown.{inner_scopes, inner_instances, shape_of, starts, control_of}
use Rattle.config_templates.specs.Shown.{before}
use Rattle.config_templates.specs.declared.template.Part.{Part}
use Rattle.config_templates.specs.declared.template.TemplatePart.{TemplatePart}
use Rattle.config_templates.specs.declared.template.TemplatePart.TheVariants as part
use Rattle.config_tree.specs.declared.growth.Growth.{Growth}

-- modules of which only the shape is looked at
abbrev pub nameless : List Shape → List Module
nameless shapes = map (λ (s : Shape). record { name = []; shape = s }) shapes

-- each instance of a module is one of so many components
unfoldable mutual
  pub Within : (count : ℕ) → Template → Type 0
  Within count (Gone h ps) = PartsWithin count ps

  pub PartsWithin : (count : ℕ) → Parts → Type 0
  PartsWithin count NoParts = Unit {0}
  PartsWithin count (AndModule p c ps) = (c < count) × PartsWithin count ps
  PartsWithin count (AndNested p t ps) = Within count t × PartsWithin count ps

-- the parts, in this scope and under this path, add their scopes and instances behind the others, in tree order
pub record Adds (shapes : List Shape) (path : List (List ℕ)) (scope : ℕ) (old new : Growth) (ps : Parts) : Type 0 where
  pub scopes : new.scopes ≡ old.scopes ++ inner_scopes scope (length old.scopes) ps
  pub instances : new.instances ≡ old.instances ++ inner_instances (nameless shapes) path scope (length old.scopes) ps

-- so does a template, and starts what its CONTROL list names
pub record Grows (shapes : List Shape) (path : List (List ℕ)) (scope : ℕ) (old new : Growth) (t : Template) (started : List ℕ) : Type 0 where
  pub added : Adds shapes path scope old new (parts_in t)
  pub control : started ≡ control_of (length old.instances) t

abbrev pub name_in : TemplatePart → List ℕ
name_in (part.Module p c) = p.name
name_in (part.Nested p t) = p.name

-- so does one part, whose name starts this
pub record PartGrows (shapes : List Shape) (path : List (List ℕ)) (scope : ℕ) (old new : Growth) (p : TemplatePart) (started : List ℕ) : Type 0 where
  pub added : Adds shapes path scope old new (before p NoParts)
  pub named : starts (length old.instances) (before p NoParts) ≡ record { name = name_in p; instances = started } ∷ []

abbrev pub instance_of : List Shape → (path : List (List ℕ)) → (scope : ℕ) → Part → (component : ℕ) → TreeInstance
instance_of shapes path scope p c = record { path = path ++ p.name ∷ []; component = c; scope = scope; shape = shape_of (nameless shapes) c; imports = p.imports; exports = p.exports }
