-- Going through a configuration, with the first fault in the order of checking (a rule of this project): that too many stand around it; its
-- statements in text order, a nested one as a whole at its place; its IMPORTS; its EXPORTS; its CONTROL.
use Rattle.std.specs.Prelude.{ℕ, suc, Bool, true, false, not, List, [], ◌∷◌, map, length, nat_lt, nat_eq, bytes_eq, Option, Some, None, is_some, Result, Ok, Err, if◌then◌else◌}
use Rattle.mesa_base.specs.declared.limits.TheConstants.{CONFIGURATION_DEPTH}
use Rattle.mesa_types.specs.declared.faces.Shape.{Shape}
use Rattle.mesa_types.specs.declared.faces.Import.{Import}
use Rattle.mesa_types.specs.declared.faces.Export.{Export}
use Rattle.interface_records.specs.check_scopes.specs.Scopes.{Scope, nothing, with_name, find, innermost, outer, has}
use Rattle.cmesa_grammar.specs.Syntax.{Place, Identifier, Configuration, Configured, Statements, NoStatements, AndDeclare, AndInstance}
use Rattle.cmesa_grammar.specs.declared.syntax.Heading.{Heading}
use Rattle.cmesa_grammar.specs.declared.syntax.Instantiation.{Instantiation}
use Rattle.config_rules.specs.Components.{names_of, own_name}
use Rattle.config_rules.specs.Template.{Part, Template, Gone, Parts, NoParts, AndModule, AndNested, heading_in, instance_names, exported}
use Rattle.config_rules.specs.declared.fault.TreeCause.{TreeCause}
use Rattle.config_rules.specs.declared.fault.TreeCause.TheVariants.{UnknownComponent, TwiceNamed, CountDiffers, RecordClash, UnknownRecord, UnknownControl, TooNested}
use Rattle.config_rules.specs.declared.fault.TreeFault.{TreeFault}
use Rattle.config_rules.specs.declared.fault.TreeFault.TheVariants.{At}

abbrev pub Answer : Type 0 → Type 0
Answer A = Result A TreeFault

infixl 20 ◌>>=◌
unfoldable pub ◌>>=◌ : {A B : Type 0} → Answer A → (A → Answer B) → Answer B
Ok a >>= f = f a
Err e >>= f = Err e

-- unless the cause is there
unfoldable pub unless : Bool → TreeCause → Place → Answer (Unit {0})
unless true cause place = Err (At cause place)
unless false cause place = Ok tt

-- a module that the configuration mentions, with its shape; its number counts from 0 in the order of first mention
pub record Module : Type 0 where
  pub name : List ℕ
  pub shape : Shape

-- the nested configurations that are declared, in scopes in one another
abbrev pub Nested : Type 0
Nested = List (Scope Template)

-- declared in the innermost scope
abbrev pub declare : List ℕ → Template → Nested → Nested
declare name t nested = with_name name t (innermost nested) ∷ outer nested

-- of what a statement makes an instance, with the names of its lists
pub data Thing : Type 0 where
  AModule : (component : ℕ) → Thing
  ANested : Template → Thing

pub record Found : Type 0 where
  pub thing : Thing
  pub imports : List (List ℕ)
  pub exports : List (List ℕ)

abbrev pub interfaces_imported : Shape → List (List ℕ)
interfaces_imported s = map (λ (m : Import). m.face.name) s.imports

abbrev pub interfaces_exported : Shape → List (List ℕ)
interfaces_exported s = map (λ (x : Export). x.face.name) s.exports

-- a file whose module has another name is none of the component
unfoldable pub found_module : (number : ℕ) → List Module → Identifier → Answer Found
found_module n [] c = Err (At UnknownComponent c.place)
found_module n (m ∷ ms) c =
    if bytes_eq m.name c.name
    then (unless (not (bytes_eq m.shape.name c.name)) UnknownComponent c.place
    >>= (λ _. Ok (record { thing = AModule n; imports = interfaces_imported m.shape; exports = interfaces_exported m.shape })))
    else found_module (suc n) ms c

unfoldable pub found_as : List Module → Identifier → Option Template → Answer Found
found_as modules c None = found_module 0 modules c
found_as modules c (Some t) = Ok (record { thing = ANested t; imports = names_of (heading_in t).imports; exports = names_of (heading_in t).exports })

abbrev pub found : List Module → Nested → Identifier → Answer Found
found modules nested c = found_as modules c (find c.name nested)

-- an explicit list has one record for each; without one, or with an empty one, each takes its own name
unfoldable pub listed : List Identifier → List (List ℕ) → Answer (List (List ℕ))
listed [] names = Ok names
listed (r ∷ rs) names = unless (not (nat_eq (length (r ∷ rs)) (length names))) CountDiffers r.place >>= (λ _. Ok (names_of (r ∷ rs)))

-- an instance has the name that it is given, or the component's
unfoldable pub name_or : Identifier → Option Identifier → Identifier
name_or component None = component
name_or component (Some i) = i

abbrev pub name_in : Instantiation → Identifier
name_in i = name_or i.component i.name

pub record Made : Type 0 where
  pub part : Part
  pub thing : Thing

unfoldable pub instance : List Module → Nested → (names : List (List ℕ)) → Instantiation → Answer Made
instance modules nested names i =
    found modules nested i.component >>= (λ f.
    unless (has (name_in i).name names) TwiceNamed (name_in i).place >>= (λ _.
    listed i.records f.exports >>= (λ exports.
    listed i.arguments f.imports >>= (λ imports.
    Ok (record { part = record { name = (name_in i).name; imports = imports; exports = exports; place = i.place }; thing = f.thing })))))

unfoldable pub add : Part → Thing → Parts → Parts
add p (AModule c) ps = AndModule p c ps
add p (ANested t) ps = AndNested p t ps

-- the names of a list in order: none stands twice, and none is wrong
unfoldable pub each_name : (wrong : List ℕ → Bool) → TreeCause → (before : List (List ℕ)) → List Identifier → Answer (Unit {0})
each_name wrong cause before [] = Ok tt
each_name wrong cause before (i ∷ is) =
    unless (has i.name before) TwiceNamed i.place >>= (λ _.
    unless (wrong i.name) cause i.place >>= (λ _.
    each_name wrong cause (i.name ∷ before) is))

unfoldable pub each_control : List (List ℕ) → List Identifier → Answer (Unit {0})
each_control names [] = Ok tt
each_control names (i ∷ is) = unless (not (has i.name names)) UnknownControl i.place >>= (λ _. each_control names is)

unfoldable pub headed : Heading → Parts → Answer Template
headed h ps =
    each_name (λ r. has r (exported ps)) RecordClash [] h.imports >>= (λ _.
    each_name (λ r. not (has r (exported ps))) UnknownRecord [] h.exports >>= (λ _.
    each_control (instance_names ps) h.control >>= (λ _.
    Ok (Gone h ps))))

unfoldable mutual
  -- with so many configurations around each other, this one counted, and the nested ones declared around it
  pub through : List Module → (depth : ℕ) → Nested → Configuration → Answer Template
  through modules depth nested (Configured h ss) =
      unless (nat_lt CONFIGURATION_DEPTH depth) TooNested h.name.place >>= (λ _.
      statements modules depth (nothing ∷ nested) [] ss >>= (λ ps.
      headed h ps))

  -- with the nested configurations and the names of the instances of this scope so far
  pub statements : List Module → (depth : ℕ) → Nested → (names : List (List ℕ)) → Statements → Answer Parts
  statements modules depth nested names NoStatements = Ok NoParts
  statements modules depth nested names (AndDeclare c ss) =
      unless (is_some (innermost nested (own_name c).name)) TwiceNamed (own_name c).place >>= (λ _.
      through modules (suc depth) nested c >>= (λ t.
      statements modules depth (declare (own_name c).name t nested) names ss))
  statements modules depth nested names (AndInstance i ss) =
      instance modules nested names i >>= (λ m.
      statements modules depth nested (m.part.name ∷ names) ss >>= (λ ps.
      Ok (add m.part m.thing ps)))
