-- The tree of a configuration, or its first fault (a rule of this project).
use Rattle.std.specs.Prelude.{◌≡◌, ℕ, suc, ◌+◌, ◌⊎◌, List, [], ◌∷◌, ◌++◌, map, flat_map, take, nat_lt, Contains, Option, Some, None, Ok, Err, MatchResult, slice_get, if◌then◌else◌}
use Rattle.mesa_base.specs.declared.limits.TheConstants.{CONFIGURATION_DEPTH, INSTANCES}
use Rattle.mesa_types.specs.declared.faces.Face.{Face}
use Rattle.mesa_types.specs.declared.faces.Import.{Import}
use Rattle.mesa_types.specs.declared.faces.Export.{Export}
use Rattle.mesa_types.specs.declared.faces.Shape.{Shape}
use Rattle.interface_records.specs.Faces.{SameFace, iodefs}
use Rattle.cmesa_grammar.specs.Syntax.{Place, Config, Configuration}
use Rattle.config_rules.specs.Components.{components}
use Rattle.config_rules.specs.Template.{Parts, NoParts, AndModule, AndNested, parts_in, depth_of, modules_of, scopes_of}
use Rattle.config_rules.specs.Through.{Answer, ◌>>=◌, Module, through, interfaces_imported, interfaces_exported}
use Rattle.config_rules.specs.Grown.{grown}
use Rattle.config_rules.specs.declared.fault.TreeCause.{TreeCause}
use Rattle.config_rules.specs.declared.fault.TreeCause.TheVariants.{TooNested, TooManyInstances, InterfaceDiffers}
use Rattle.config_rules.specs.declared.fault.TreeFault.TheVariants.{At}
use Rattle.config_rules.specs.declared.tree.Component.{Component}
use Rattle.config_rules.specs.declared.tree.Tree.{Tree}

-- the first outermost statement under which a path has too many names
unfoldable pub too_nested : Parts → Option Place
too_nested NoParts = None
too_nested (AndModule p c ps) = too_nested ps
too_nested (AndNested p t ps) = if nat_lt CONFIGURATION_DEPTH (1 + depth_of t) then Some p.place else too_nested ps

-- the outermost statement with which the instances, so many before it, are too many
unfoldable pub too_many : (before : ℕ) → Parts → Option Place
too_many before NoParts = None
too_many before (AndModule p c ps) = if nat_lt INSTANCES (before + 1) then Some p.place else too_many (before + 1) ps
too_many before (AndNested p t ps) =
    if nat_lt INSTANCES (before + 1 + scopes_of t + modules_of t) then Some p.place else too_many (before + 1 + scopes_of t + modules_of t) ps

unfoldable pub unless_there : Option Place → TreeCause → Answer (Unit {0})
unless_there None cause = Ok tt
unless_there (Some place) cause = Err (At cause place)

-- all but whether interfaces of one name and stamp are the same
unfoldable pub made : List Module → Configuration → Answer Tree
made modules c =
    through modules 1 [] c >>= (λ t.
    unless_there (too_nested (parts_in t)) TooNested >>= (λ _.
    unless_there (too_many 0 (parts_in t)) TooManyInstances >>= (λ _.
    Ok (grown modules t))))

abbrev pub faces_of : Shape → List Face
faces_of s = map (λ (m : Import). m.face) s.imports ++ map (λ (x : Export). x.face) s.exports

-- faces of one name and stamp are one
abbrev pub Agree : List Face → Type 0
Agree faces = (f g : Face) → Contains faces f → Contains faces g → f.name ≡ g.name → f.stamp ≡ g.stamp → SameFace f g

-- the faces of the shapes, behind that of the built-in interface
abbrev pub all_faces : List Shape → List Face
all_faces shapes = iodefs.face ∷ flat_map faces_of shapes

-- the first component with a face that differs from an earlier one of its name and stamp
pub record FirstToDiffer (shapes : List Shape) (n : ℕ) : Type 0 where
  pub before : Agree (all_faces (take n shapes))
  pub then_not : Agree (all_faces (take (suc n) shapes)) → ⊥

unfoldable pub modules_with : List Component → List Shape → List Module
modules_with [] _ = []
modules_with _ [] = []
modules_with (c ∷ cs) (s ∷ ss) = record { name = c.name; shape = s } ∷ modules_with cs ss

abbrev pub Agreed : List Component → List Shape → Tree → Answer Tree → Type 0
Agreed cs shapes tree answer =
    (Agree (all_faces shapes) × (answer ≡ Ok tree))
    ⊎ ((n : ℕ) × (c : Component) × (slice_get cs n ≡ Some c) × FirstToDiffer shapes n × (answer ≡ Err (At InterfaceDiffers c.place)))

-- the answer for a configuration and the shapes of its components, in their order
unfoldable pub IsTree : Config → List Shape → Answer Tree → Type 0
IsTree c shapes answer =
    MatchResult (made (modules_with (components c) shapes) c.outermost) (λ tree. Agreed (components c) shapes tree answer) (λ fault. answer ≡ Err fault)

-- the tree of one module by itself: it imports the built-in interface, has that one instance, and starts it. An export of the module to the built-in
-- interface serves no import
unfoldable pub single_tree : Shape → Tree
single_tree s = record {
  scopes = record { around = None; imports = record { inside = iodefs.face.name; outside = iodefs.face.name } ∷ []; exports = [] } ∷ [];
  instances = record { path = s.name ∷ []; component = 0; scope = 0; shape = s; imports = interfaces_imported s; exports = interfaces_exported s } ∷ [];
  control = 0 ∷ [];
}

abbrev pub first_place : Place
first_place = record { token = 0; line = 1; column = 1 }

unfoldable pub IsSingle : Shape → Answer Tree → Type 0
IsSingle s answer =
    (Agree (all_faces (s ∷ [])) × (answer ≡ Ok (single_tree s)))
    ⊎ ((Agree (all_faces (s ∷ [])) → ⊥) × (answer ≡ Err (At InterfaceDiffers first_place)))
