-- First tokens, fields by name, lists of names, and typed lists.
use Rattle.std.specs.Prelude.{ℕ, ◌+◌, Bool, true, false, ◌&&◌, not, List, [], ◌∷◌, ◌++◌, length, map, Option, Some, None, Ok, if◌then◌else◌, bytes_eq, is_some, nat_eq}
use Rattle.syntax_trees.specs.Syntax as s
use Rattle.mesa_base.specs.declared.place.Place.{Place}
use Rattle.check_rules.specs.Typed as t
use Rattle.interface_records.specs.PlainTypes as v
use Rattle.mesa_base.specs.declared.identifier.Identifier.{Identifier}
use Rattle.syntax_trees.specs.declared.syntax.QualifiedName.{QualifiedName}
use Rattle.syntax_trees.specs.declared.syntax.TypeBase.{TypeBase}
use Rattle.syntax_trees.specs.declared.syntax.TypeBase.TheVariants.{Unsaid, OfInteger, OfCardinal, OfCharacter, OfName}
use Rattle.check_rules.specs.Scopes.{has}
use Rattle.check_rules.specs.Steps.{Checked, and_then, only}
use Rattle.check_rules.specs.declared.fault.Cause.TheVariants.{TwiceDeclared}
use Rattle.interface_records.specs.PlainTypes.{PlainField, PlainType, same, same_name, words_of}

unfoldable pub first : s.Expr → Place
first (s.Run e ss) = first e
first (s.Not p e) = p
first (s.Compare d b r p e) = first d
first (s.Within e b p i) = first e
first (s.Signed x p e) = p
first (s.NumberLiteral p n) = p
first (s.CharacterLiteral p n) = p
first (s.StringLiteral p bytes) = p
first (s.Truth p b) = p
first (s.Parenthesis p e) = p
first (s.Reference l) = s.left_place l
first (s.Constructor p items) = p
first (s.Raised r) = s.raise_place r

abbrev pub first_of_interval : s.Interval → Place
first_of_interval (s.Between p x low high y) = p

abbrev pub first_of_base : TypeBase → s.Interval → Place
first_of_base Unsaid i = first_of_interval i
first_of_base (OfInteger p) i = p
first_of_base (OfCardinal p) i = p
first_of_base (OfCharacter p) i = p
first_of_base (OfName q) i = q.first.place

abbrev pub first_of_type : s.TypeExp → Place
first_of_type (s.Integer p) = p
first_of_type (s.Cardinal p) = p
first_of_type (s.LongInteger p) = p
first_of_type (s.LongCardinal p) = p
first_of_type (s.Boolean p) = p
first_of_type (s.Character p) = p
first_of_type (s.String p) = p
first_of_type (s.Called q) = q.first.place
first_of_type (s.Enumeration p xs) = p
first_of_type (s.Subrange b i) = first_of_base b i
first_of_type (s.Array p i e) = p
first_of_type (s.Record p fs) = p

-- the first of the names of a declaration, which has one at least
abbrev pub first_name : List Identifier → Place
first_name (x ∷ xs) = x.place
first_name [] = record { token = 0; line = 1; column = 1 }

abbrev pub last_part : Identifier → Option Identifier → Identifier
last_part x None = x
last_part x (Some y) = y

-- the last part of a name, at which its faults are
abbrev pub last_of : QualifiedName → Identifier
last_of q = last_part q.first q.second

abbrev pub names_of : List Identifier → List (List ℕ)
names_of = map (λ (x : Identifier). x.name)

-- no name stands twice, or among these
unfoldable pub distinct : List (List ℕ) → List Identifier → Checked (Unit {0})
distinct before [] = Ok tt
distinct before (x ∷ xs) = and_then (only (not (has x.name before)) TwiceDeclared x.place) (λ _. distinct (x.name ∷ before) xs)

-- a field or parameter: its number, the words before it, its type
pub record Found : Type 0 where
  pub number : ℕ
  pub offset : ℕ
  pub kind : PlainType

abbrev pub has_name : List ℕ → Option (List ℕ) → Bool
has_name x (Some y) = bytes_eq x y
has_name x None = false

-- the first with this name, where so many stand before these, with so many words
unfoldable pub found : List ℕ → ℕ → ℕ → List PlainField → Option Found
found x n offset [] = None
found x n offset (f ∷ fs) =
    if has_name x f.name then Some (record { number = n; offset = offset; kind = f.kind })
    else found x (n + 1) (offset + words_of f.kind) fs

abbrev pub field_named : List PlainField → Identifier → Option Found
field_named fs x = found x.name 0 0 fs

abbrev pub kinds : List PlainField → List PlainType
kinds [] = []
kinds (f ∷ fs) = f.kind ∷ kinds fs

abbrev pub each_of : PlainType → List Identifier → List PlainField
each_of k [] = []
each_of k (x ∷ xs) = record { name = Some x.name; kind = k } ∷ each_of k xs

unfoldable pub same_types : List PlainField → List PlainField → Bool
same_types [] [] = true
same_types (f ∷ fs) (g ∷ gs) = same f.kind g.kind && same_types fs gs
same_types _ _ = false

unfoldable pub same_fields : List PlainField → List PlainField → Bool
same_fields [] [] = true
same_fields (f ∷ fs) (g ∷ gs) = same_name f.name g.name && (same f.kind g.kind && same_fields fs gs)
same_fields _ _ = false

unfoldable pub count : s.Exprs → ℕ
count s.NoExprs = 0
count (s.AndExpr e es) = count es + 1

unfoldable pub keys : s.KeyedExprs → List Identifier
keys s.NoKeyedExprs = []
keys (s.AndKeyedExpr x e es) = x ∷ keys es

unfoldable pub count_lefts : s.Lefts → ℕ
count_lefts s.NoLefts = 0
count_lefts (s.AndLeft l ls) = count_lefts ls + 1

unfoldable pub keys_of_lefts : s.KeyedLefts → List Identifier
keys_of_lefts s.NoKeyedLefts = []
keys_of_lefts (s.AndKeyedLeft x l ls) = x ∷ keys_of_lefts ls

unfoldable pub are_fields : List PlainField → List Identifier → Bool
are_fields fs [] = true
are_fields fs (x ∷ xs) = is_some (field_named fs x) && are_fields fs xs

unfoldable pub differ : List Identifier → Bool
differ [] = true
differ (x ∷ xs) = not (has x.name (names_of xs)) && differ xs

-- a keyed list is complete: each field has one key
abbrev pub complete : List PlainField → List Identifier → Bool
complete fs xs = nat_eq (length xs) (length fs) && (are_fields fs xs && differ xs)

abbrev pub number_by : Option Found → ℕ
number_by (Some f) = f.number
number_by None = 0

abbrev pub kind_by : Option Found → PlainType
kind_by (Some f) = f.kind
kind_by None = v.Integer

abbrev pub places_of : List PlainField → List Identifier → List ℕ
places_of fs [] = []
places_of fs (x ∷ xs) = number_by (field_named fs x) ∷ places_of fs xs

-- operations, suffixes and parts, and one more behind them
unfoldable pub and_operation : t.Operations → (t.Operations → t.Operations) → t.Operations
and_operation t.NoOperation f = f t.NoOperation
and_operation (t.Then r o e os) f = t.Then r o e (and_operation os f)

unfoldable pub and_suffix : t.Suffixes → (t.Suffixes → t.Suffixes) → t.Suffixes
and_suffix t.NoSuffix f = f t.NoSuffix
and_suffix (t.Field k o ss) f = t.Field k o (and_suffix ss f)
and_suffix (t.Index r n m w e ss) f = t.Index r n m w e (and_suffix ss f)

abbrev pub and_part : t.Expr → t.Part → t.Expr
and_part (t.FieldOf e ps) p = t.FieldOf e (ps ++ p ∷ [])
and_part e p = t.FieldOf e (p ∷ [])

unfoldable pub join_stmts : t.Stmts → t.Stmts → t.Stmts
join_stmts t.NoStmts ss = ss
join_stmts (t.AndStmt s rest) ss = t.AndStmt s (join_stmts rest ss)
