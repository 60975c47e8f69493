-- What a name has led to, and what its suffixes lead to from there (Language Manual, chapters 2, 3 and 6).
use Rattle.std.specs.Prelude.{ℕ, Bool, true, false, List, [], ◌∷◌, Option, Some, None, Ok, length, if◌then◌else◌, bytes_eq, codes, is_some, min, nat_eq}
use Rattle.mesa_base.specs.declared.place.Place.{Place}
use Rattle.check_rules.specs.Typed as t
use Rattle.check_rules.specs.Typed.{Home, Base, Signed, Unsigned, Range, Every}
use Rattle.interface_records.specs.PlainTypes as v
use Rattle.mesa_base.specs.declared.identifier.Identifier.{Identifier}
use Rattle.check_rules.specs.Steps.{Check, Checked, and_then, ◌>>=◌, pure, fail, refuse, or_refuse, only, ensure, lift, spend}
use Rattle.check_rules.specs.Meanings.{Meaning}
use Rattle.check_rules.specs.Meanings as m
use Rattle.check_rules.specs.Around.{Around}
use Rattle.check_rules.specs.Names.{of_interface}
use Rattle.check_rules.specs.Parts.{Found, field_named, and_suffix, and_part}
use Rattle.check_rules.specs.Ranges.{Typed, typed, range_between, Aim, Free, Into, Several}
use Rattle.check_rules.specs.declared.fault.Cause.TheVariants.{UnknownName, TypeMismatch, WrongCount}
use Rattle.interface_records.specs.PlainTypes.{PlainField, PlainItem, PlainType, array_parts, base_of, bounds, elements_of, fields, is_long, is_text, one_ordinal_base, sign_of, words_of, words_of_fields}

pub data Reached : Type 0 where
  -- a variable or a part of one
  Variable : Home → t.Suffixes → PlainType → Reached
  -- with the words that it still counts for its statement
  Value : ℕ → t.Expr → PlainType → Reached
  -- what a call or a raise gave, which is counted already
  Results : t.Expr → List PlainField → Reached
  Named : Meaning → Reached

-- a name that is read, into which is stored, or which is called by a statement
pub data Use : Type 0 where
  Read : Use
  Store : Use
  Perform : Use

-- a constant's value, of one word or LONG
abbrev pub constant_value : (is_long : Bool) → ℕ → t.Expr
constant_value true n = t.LongNumber n
constant_value false n = t.Number n

unfoldable pub reached : Meaning → Reached
reached (m.Variable h k) = Variable h t.NoSuffix k
reached (m.Constant k n) = Value (words_of k) (constant_value (is_long k) n) k
reached (m.TextConstant n) = Value 2 (t.Literal n) v.String
reached m = Named m

-- one result is a value
abbrev pub settled : Reached → Reached
settled (Results e (f ∷ [])) = Value 0 e f.kind
settled r = r

abbrev pub several : Aim → t.Expr → List PlainField → Checked Typed
several (Several start) e fs = Ok (record { value = e; kind = v.Integer; literal = false; gave = Some fs })
several (Free start) e fs = refuse TypeMismatch start
several (Into k start) e fs = refuse TypeMismatch start

abbrev pub results : Aim → t.Expr → List PlainField → Checked Typed
results aim e (f ∷ []) = Ok (record { value = e; kind = f.kind; literal = false; gave = Some (f ∷ []) })
results aim e fs = several aim e fs

-- the value of what was reached; `last` is the place of the last name
unfoldable pub value : Aim → Place → Reached → Check Typed
value aim last (Variable h ss k) = spend (words_of k) >>= (λ _. pure (typed k (t.Variable h ss (words_of k))))
value aim last (Value n e k) = spend n >>= (λ _. pure (typed k e))
value aim last (Results e fs) = lift (results aim e fs)
value aim last (Named m) = fail TypeMismatch last

abbrev pub is_length : Identifier → Bool
is_length x = bytes_eq x.name (codes "length")

abbrev pub length_of : Identifier → ℕ → t.Expr → Checked Reached
length_of x n e = if is_length x then Ok (Value n (t.LengthOf e) v.Cardinal) else refuse UnknownName x.place

abbrev pub field_of_fields : (Found → Reached) → Identifier → Option (List PlainField) → Checked Reached → Checked Reached
field_of_fields make x (Some fs) other = and_then (or_refuse (field_named fs x) UnknownName x.place) (λ f. Ok (make f))
field_of_fields make x None other = other

-- the field of a record, or the length of a STRING; `last` is the last name before it
unfoldable pub field_in : Place → (Found → Reached) → ℕ → t.Expr → PlainType → Identifier → Checked Reached
field_in last make n e k x = field_of_fields make x (fields k) (if is_text k then length_of x n e else refuse TypeMismatch last)

abbrev pub field_of_variable : Home → t.Suffixes → Found → Reached
field_of_variable h ss f = Variable h (and_suffix ss (t.Field f.number f.offset)) f.kind

abbrev pub part_of : Found → t.Part
part_of f = record { field = f.number; offset = f.offset; words = words_of f.kind }

abbrev pub field_of_value : ℕ → t.Expr → Found → Reached
field_of_value n e f = Value n (and_part e (part_of f)) f.kind

unfoldable pub field : Around → Place → Reached → Identifier → Check Reached
field a last (Variable h ss k) x = lift (field_in last (field_of_variable h ss) 1 (t.Variable h ss (words_of k)) k x)
field a last (Value n e k) x = lift (field_in last (field_of_value n e) (min n 1) e k x)
field a last (Named (m.Interface n)) x = of_interface a n x >>= (λ m. pure (reached m))
field a last r x = fail TypeMismatch last

-- what brackets behind something do
pub data Bracketed : Type 0 where
  -- an element of an array, with its index and element types
  InArray : Home → t.Suffixes → PlainType → PlainType → Bracketed
  -- a byte of a string, with the words that it still counts
  InText : ℕ → t.Expr → Bracketed

-- of a string that is named, its byte is named; what a call gave is counted already
abbrev pub text_at : Place → PlainType → ℕ → t.Expr → Checked Bracketed
text_at last k n e = if is_text k then Ok (InText (min n 1) e) else refuse TypeMismatch last

abbrev pub indexed_by : Place → Home → t.Suffixes → PlainType → Option (PlainType × PlainType) → Checked Bracketed
indexed_by last h ss k (Some p) = Ok (InArray h ss p.0 p.1)
indexed_by last h ss k None = text_at last k 1 (t.Variable h ss (words_of k))

unfoldable pub indexed : Place → Home → t.Suffixes → PlainType → Checked Bracketed
indexed last h ss k = indexed_by last h ss k (array_parts k)

-- brackets that fit the use: into an array's element may be stored, a procedure may be called by a statement
abbrev pub may_apply : Use → Reached → Bool
may_apply Store (Variable h ss k) = is_some (array_parts k)
may_apply Store _ = false
may_apply Perform (Named (m.Procedure c i)) = true
may_apply Perform _ = false
may_apply Read _ = true

abbrev pub first_word : Option (ℕ × ℕ) → ℕ
first_word (Some b) = b.0
first_word None = 0

-- an index is checked by its own base, where that is not the index type's
abbrev pub range_by_signs : Base → Base → Option (ℕ × ℕ) → Range
range_by_signs Signed Unsigned (Some b) = range_between Signed Unsigned b.0 b.1
range_by_signs Unsigned Signed (Some b) = range_between Unsigned Signed b.0 b.1
range_by_signs _ _ _ = Every

abbrev pub index_range : PlainType → PlainType → Range
index_range from to = range_by_signs (sign_of from) (sign_of to) (bounds to)

abbrev pub index_of : PlainType → PlainType → Typed → t.Suffixes → t.Suffixes
index_of index element i = t.Index (index_range i.kind index) (first_word (bounds index)) (elements_of index) (words_of element) i.value

-- an index that begins at `start`; no LONG value is one
unfoldable pub at_index : Bracketed → Place → Typed → Checked Reached
at_index (InArray h ss index element) start i =
    and_then (only (one_ordinal_base (base_of i.kind) (base_of index)) TypeMismatch start) (λ _. Ok (Variable h (and_suffix ss (index_of index element i)) element))
at_index (InText n e) start i =
    and_then (only (one_ordinal_base (base_of i.kind) (Some v.Integer)) TypeMismatch start) (λ _. Ok (Value n (t.ByteOf e i.value) v.Character))

-- what a constructor of a type is made of
pub data Shape : Type 0 where
  OfFields : List PlainField → Shape
  OfElements : ℕ → PlainType → Shape
  NoShape : Shape

abbrev pub shape_by : Option (List PlainField) → Option (PlainType × PlainType) → Shape
shape_by (Some fs) parts = OfFields fs
shape_by None (Some p) = OfElements (elements_of p.0) p.1
shape_by None None = NoShape

unfoldable pub shape_of : PlainType → Shape
shape_of k = shape_by (fields k) (array_parts k)

-- a variable into which is stored
pub record Target : Type 0 where
  pub home : Home
  pub suffixes : t.Suffixes
  pub kind : PlainType

unfoldable pub stored : Place → Reached → Check Target
stored last (Variable h ss k) = spend (words_of k) >>= (λ _. pure (record { home = h; suffixes = ss; kind = k }))
stored last r = fail TypeMismatch last

-- a call that stands as a statement, which begins at `start`; without brackets only where there are no parameters
abbrev pub bare_call : Place → t.Callee → PlainItem → Check t.Expr
bare_call start c i = do
  _ ← ensure (nat_eq 0 (length i.takes)) WrongCount start
  _ ← spend (words_of_fields i.gives)
  pure (t.Call c [] t.NoExprs (words_of_fields i.gives) t.NoPhrase)

unfoldable pub performed : Place → Place → Reached → Check t.Expr
performed start last (Results e fs) = pure e
performed start last (Named (m.Procedure c i)) = bare_call start c i
performed start last r = fail TypeMismatch last
