-- Interfaces: what their names mean, and the lists that name them (Language Manual, chapter 7; that the elements of an
-- interface's enumerations are names of it is a rule of this project).
use Rattle.std.specs.Prelude.{ℕ, ◌+◌, Bool, false, not, ◌&&◌, List, [], ◌∷◌, ◌++◌, map, Option, Some, None, Ok, if◌then◌else◌, bytes_eq, nat_eq, is_some, slice_get, codes}
use Rattle.interface_records.specs.PlainTypes as v
use Rattle.mesa_types.specs.declared.types.Origin.{Origin}
use Rattle.mesa_types.specs.declared.faces.ItemKind.{ItemKind}
use Rattle.mesa_types.specs.declared.faces.ItemKind.TheVariants as item
use Rattle.mesa_base.specs.declared.identifier.Identifier.{Identifier}
use Rattle.syntax_trees.specs.declared.syntax.DirectoryItem.{DirectoryItem}
use Rattle.check_rules.specs.Typed as t
use Rattle.check_rules.specs.Scopes.{Scope, nothing, over, has}
use Rattle.check_rules.specs.Meanings.{Meaning, NotImported}
use Rattle.check_rules.specs.Meanings as m
use Rattle.check_rules.specs.Parts.{names_of}
use Rattle.check_rules.specs.Steps.{Checked, and_then, only, refuse}
use Rattle.check_rules.specs.declared.fault.Cause.TheVariants.{UnknownName, TwiceDeclared}
use Rattle.interface_records.specs.PlainTypes.{PlainConstant, PlainField, PlainInterface, PlainItem, PlainName, PlainType}

pub record Entry : Type 0 where
  pub name : List ℕ
  pub meaning : Meaning

abbrev pub entry : List ℕ → Meaning → Entry
entry x m = record { name = x; meaning = m }

-- what a name means by the first entry of it
unfoldable pub first_entry : List Entry → Scope Meaning
first_entry [] x = None
first_entry (e ∷ es) x = if bytes_eq x e.name then Some e.meaning else first_entry es x

-- the elements of an enumeration, from this number on
unfoldable pub elements_from : PlainType → ℕ → List (List ℕ) → List Entry
elements_from k n [] = []
elements_from k n (x ∷ xs) = entry x (m.Constant k n) ∷ elements_from k (n + 1) xs

abbrev pub is_stamp : ℕ → Option ℕ → Bool
is_stamp n (Some k) = nat_eq n k
is_stamp n None = false

abbrev pub is_own : PlainInterface → Origin → Bool
is_own face o = bytes_eq face.name o.«module» && is_stamp face.stamp o.stamp

-- the elements of those enumerations in a type that the interface itself declares
unfoldable mutual
  pub elements_in : PlainInterface → PlainType → List Entry
  elements_in face (v.Enumeration o xs) = if is_own face o then elements_from (v.Enumeration o xs) 0 xs else []
  elements_in face (v.Subrange k first last) = elements_in face k
  elements_in face (v.Array i e) = elements_in face i ++ elements_in face e
  elements_in face (v.Record o ps) = in_parts face ps
  elements_in face _ = []

  pub in_parts : PlainInterface → v.Parts → List Entry
  in_parts face v.NoPart = []
  in_parts face (v.AndPart x k ps) = elements_in face k ++ in_parts face ps

unfoldable pub in_fields : PlainInterface → List PlainField → List Entry
in_fields face [] = []
in_fields face (f ∷ fs) = elements_in face f.kind ++ in_fields face fs

unfoldable pub in_items : PlainInterface → List PlainItem → List Entry
in_items face [] = []
in_items face (i ∷ is) = in_fields face i.takes ++ (in_fields face i.gives ++ in_items face is)

unfoldable pub in_constants : PlainInterface → List PlainConstant → List Entry
in_constants face [] = []
in_constants face (c ∷ cs) = elements_in face c.kind ++ in_constants face cs

unfoldable pub in_types : PlainInterface → List PlainName → List Entry
in_types face [] = []
in_types face (x ∷ xs) = elements_in face x.kind ++ in_types face xs

-- an item of an interface, which is the import of this number or none
abbrev pub linked : ItemKind → ℕ → ℕ → PlainItem → Meaning
linked item.Procedure import n i = m.Procedure (t.LinkedProcedure import n) i
linked item.Signal import n i = m.Signal (t.LinkedSignal import n) i
linked item.Error import n i = m.Signal (t.LinkedSignal import n) i

abbrev pub of_import : Option ℕ → ℕ → PlainItem → Meaning
of_import (Some import) n i = linked i.kind import n i
of_import None n i = NotImported

unfoldable pub items_from : Option ℕ → ℕ → List PlainItem → List Entry
items_from import n [] = []
items_from import n (i ∷ is) = entry i.name (of_import import n i) ∷ items_from import (n + 1) is

abbrev pub constant_entry : PlainConstant → Entry
constant_entry c = entry c.name (m.Constant c.kind c.value)

abbrev pub type_entry : PlainName → Entry
type_entry x = entry x.name (m.TypeName x.kind)

-- the interface's own entries come before the elements, and of two elements the first in the file's order
unfoldable pub entries : Option ℕ → PlainInterface → List Entry
entries import i =
    items_from import 0 i.items ++ (map constant_entry i.constants ++ (map type_entry i.types
    ++ (in_items i i.items ++ (in_constants i i.constants ++ in_types i i.types))))

abbrev pub restricted : Option (List Identifier) → Scope Meaning → Scope Meaning
restricted None scope x = scope x
restricted (Some xs) scope x = if has x (names_of xs) then scope x else None

unfoldable pub place_in : ℕ → List Identifier → List ℕ → Option ℕ
place_in n [] x = None
place_in n (y ∷ ys) x = if bytes_eq x y.name then Some n else place_in (n + 1) ys x

-- what each item of the DIRECTORY offers to a module with these IMPORTS
unfoldable pub offered : List Identifier → List DirectoryItem → List PlainInterface → List (Scope Meaning)
offered imports (d ∷ ds) (i ∷ is) = restricted d.used (first_entry (entries (place_in 0 imports d.name.name) i)) ∷ offered imports ds is
offered imports _ _ = []

abbrev pub names_in : List DirectoryItem → List Identifier
names_in = map (λ (d : DirectoryItem). d.name)

-- the names of the DIRECTORY
unfoldable pub directory_scope : ℕ → List DirectoryItem → Scope Meaning
directory_scope n [] x = None
directory_scope n (d ∷ ds) x = if bytes_eq x d.name.name then Some (m.Interface n) else directory_scope (n + 1) ds x

abbrev pub scope_at : List (Scope Meaning) → Option ℕ → Scope Meaning
scope_at scopes None = nothing
scope_at scopes (Some n) = or_none (slice_get scopes n)
  where
    or_none : Option (Scope Meaning) → Scope Meaning
    or_none None = nothing
    or_none (Some scope) = scope

-- of two opened interfaces with one name the first gives it
unfoldable pub opened : List DirectoryItem → List (Scope Meaning) → List Identifier → Scope Meaning
opened ds scopes [] = nothing
opened ds scopes (x ∷ xs) = over (scope_at scopes (place_in 0 (names_in ds) x.name)) (opened ds scopes xs)

abbrev pub predeclared_error : List ℕ → PlainItem
predeclared_error x = record { kind = item.Error; name = x; takes = []; gives = [] }

abbrev pub predeclared_entry : List ℕ → t.Raised → Entry
predeclared_entry x r = entry x (m.Signal r (predeclared_error x))

abbrev pub predeclared : Scope Meaning
predeclared = first_entry (predeclared_entry (codes "BoundsFault") t.TheBoundsFault ∷ predeclared_entry (codes "ZeroDivisor") t.TheZeroDivisor ∷ [])

-- a name of a USING list is one of the interface
unfoldable pub used_names : Scope Meaning → List (List ℕ) → List Identifier → Checked (Unit {0})
used_names scope before [] = Ok tt
used_names scope before (x ∷ xs) =
    and_then (only (is_some (scope x.name)) UnknownName x.place) (λ _.
    and_then (only (not (has x.name before)) TwiceDeclared x.place) (λ _. used_names scope (x.name ∷ before) xs))

abbrev pub using : Scope Meaning → Option (List Identifier) → Checked (Unit {0})
using scope None = Ok tt
using scope (Some xs) = used_names scope [] xs

-- each item names its file's interface, and has a name of its own; an item whose interface is not given is not known by its name
unfoldable pub directory : List (List ℕ) → List DirectoryItem → List PlainInterface → Checked (Unit {0})
directory before (d ∷ ds) (i ∷ is) =
    and_then (only (bytes_eq d.name.name i.name) UnknownName d.name.place) (λ _.
    and_then (only (not (has d.name.name before)) TwiceDeclared d.name.place) (λ _.
    and_then (using (first_entry (entries None i)) d.used) (λ _. directory (d.name.name ∷ before) ds is)))
directory before (d ∷ ds) [] = refuse UnknownName d.name.place
directory before [] _ = Ok tt

-- IMPORTS, EXPORTS and OPEN name items of the DIRECTORY, each at most once
unfoldable pub listed : List (List ℕ) → List (List ℕ) → List Identifier → Checked (Unit {0})
listed known before [] = Ok tt
listed known before (x ∷ xs) =
    and_then (only (has x.name known) UnknownName x.place) (λ _.
    and_then (only (not (has x.name before)) TwiceDeclared x.place) (λ _. listed known (x.name ∷ before) xs))

-- the interfaces that a list names
abbrev pub interface_at : List PlainInterface → Option ℕ → Option PlainInterface
interface_at is (Some n) = slice_get is n
interface_at is None = None

abbrev pub put_some : Option PlainInterface → List PlainInterface → List PlainInterface
put_some (Some i) is = i ∷ is
put_some None is = is

unfoldable pub those_of : List DirectoryItem → List PlainInterface → List Identifier → List PlainInterface
those_of ds is [] = []
those_of ds is (x ∷ xs) = put_some (interface_at is (place_in 0 (names_in ds) x.name)) (those_of ds is xs)
