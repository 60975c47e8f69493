-- Types in files: one definition for each row (rule of this project).
use Rattle.std.specs.Prelude.{ℕ, zero, suc, Bool, true, false, not, ◌&&◌, ◌||◌, ◌==◌, List, [], ◌∷◌, nat_le, Option, Some, None, is_some, if◌then◌else◌}
use Rattle.std.specs.List.{flat_map}
use Rattle.mesa_base.specs.Name.{is_name}
use Rattle.mesa_base.specs.declared.limits.TheConstants.{TYPE_WORDS, TYPE_DEPTH, ENUMERATION_ELEMENTS}
use Rattle.mesa_types.specs.Types.{words_of}
use Rattle.mesa_types.specs.declared.types.Origin.{Origin}
use Rattle.mesa_types.specs.declared.types.TypeTree.{TypeTree, out-TypeTree}
use Rattle.mesa_types.specs.declared.types.TypeTree.TheVariants as v
use Rattle.mesa_types.specs.declared.types.FieldType.{FieldType, roll-FieldType, out-FieldType}
use Rattle.mesa_base.specs.declared.file_fault.Field.TheVariants as field
use Rattle.file_forms.specs.Forms.{Form, number, always, pair, led, ruled, built, variant, list, choose, at_least, between}
use Rattle.file_forms.specs.Names.{short_text, is_some_text, is_among, name, fresh_name}
use Rattle.face_rules.specs.Layers.{tag_of, of_enumeration, of_subrange, of_array, of_record, holds, in_order}

-- ---- tags

abbrev pub any : ℕ → Bool
any tag = true

-- the LONG types have tags in version 2 alone
abbrev pub last_tag : ℕ → ℕ
last_tag version = if version == 1 then 9 else 11

abbrev pub is_known : ℕ → ℕ → Bool
is_known version tag = nat_le 1 tag && nat_le tag (last_tag version)

abbrev pub is_base : ℕ → Bool
is_base tag = nat_le tag 4 || (tag == 6)

abbrev pub is_index : ℕ → Bool
is_index tag = (tag == 3) || (tag == 4) || (tag == 6) || (tag == 7)

abbrev pub is_ordinal : ℕ → Bool
is_ordinal tag = nat_le tag 4 || (tag == 6) || (tag == 7)

-- a constant is of an ordinal type, or of a LONG type
abbrev pub is_of_constants : ℕ → Bool
is_of_constants tag = is_ordinal tag || (tag == 10) || (tag == 11)

abbrev pub long_or_text : ℕ → TypeTree
long_or_text tag = if tag == 10 then v.LongInteger else if tag == 11 then v.LongCardinal else v.String

abbrev pub basic : ℕ → TypeTree
basic tag =
    if tag == 1 then v.Integer else if tag == 2 then v.Cardinal else if tag == 3 then v.Boolean else if tag == 4 then v.Character else long_or_text tag

-- ---- origins: name, stamp, u32

abbrev pub origin_of : List ℕ × (ℕ × ℕ) → Origin
origin_of p = record { «module» = p.0; stamp = Some p.1.0; number = p.1.1 }

abbrev pub origin_at : List ℕ → ℕ → Option ℕ → Option (List ℕ × (ℕ × ℕ))
origin_at x number (Some stamp) = Some (x, (stamp, number))
origin_at x number None = None

abbrev pub origin_parts : Origin → Option (List ℕ × (ℕ × ℕ))
origin_parts o = origin_at o.«module» o.number o.stamp

unfoldable pub origin : Form Origin
origin = variant origin_of origin_parts (pair name (λ _. pair (number 6) (λ _. number 4)))

-- ---- fields: list of a name of 0 to 255 bytes and a type; all names are empty, or all are there and distinct

abbrev pub label_of : List ℕ → Option (List ℕ)
label_of [] = None
label_of (b ∷ bytes) = Some (b ∷ bytes)

abbrev pub label_text : Option (List ℕ) → Option (List ℕ)
label_text None = Some []
label_text (Some []) = None
label_text (Some (b ∷ bytes)) = Some (b ∷ bytes)

abbrev pub label_list : Option (List ℕ) → List (List ℕ)
label_list None = []
label_list (Some x) = x ∷ []

abbrev pub labels : List FieldType → List (List ℕ)
labels fields = flat_map (λ f. label_list (out-FieldType f).name) fields

-- as the first field
abbrev pub is_alike : List FieldType → List ℕ → Bool
is_alike [] x = true
is_alike (f ∷ fields) x = if is_some (out-FieldType f).name then is_some_text x else not (is_some_text x)

abbrev pub is_label : List ℕ → Bool
is_label x = not (is_some_text x) || is_name x

-- none of the names before
abbrev pub is_new : List FieldType → List ℕ → Bool
is_new before x = not (is_some_text x && is_among (labels before) x)

unfoldable pub label : List FieldType → Form (Option (List ℕ))
label before = variant label_of label_text
    (ruled (ruled (ruled short_text (is_alike before) field.Length) is_label field.Name) (is_new before) field.Twice)

abbrev pub field_of : Option (List ℕ) × TypeTree → FieldType
field_of p = roll-FieldType (record { name = p.0; kind = p.1 })

abbrev pub field_parts : FieldType → Option (List ℕ) × TypeTree
field_parts f = ((out-FieldType f).name, (out-FieldType f).kind)

unfoldable pub field_form : Form TypeTree → List FieldType → Form FieldType
field_form inner before = built field_of field_parts (pair (label before) (λ _. inner))

-- so many fields at least
unfoldable pub fields_form : Form TypeTree → ℕ → Form (List FieldType)
fields_form inner least = list (at_least least) (field_form inner)

-- ---- types

unfoldable pub enumeration : Form TypeTree
enumeration = variant (λ p. v.Enumeration p.0 p.1) (λ t. of_enumeration (out-TypeTree t)) (pair origin (λ _. list (between 1 ENUMERATION_ELEMENTS) fresh_name))

-- the first value, and the last, not below the first
unfoldable pub bounds : TypeTree → Form (ℕ × ℕ)
bounds base = pair (ruled (number 2) (holds base) field.Number) (λ first. ruled (number 2) (λ last. holds base last && in_order base first last) field.Number)

unfoldable pub subrange : ((ℕ → Bool) → Form TypeTree) → Form TypeTree
subrange inner = variant (λ p. v.Subrange p.0 p.1.0 p.1.1) (λ t. of_subrange (out-TypeTree t)) (pair (inner is_base) bounds)

unfoldable pub array : ((ℕ → Bool) → Form TypeTree) → Form TypeTree
array inner = variant (λ p. v.Array p.0 p.1) (λ t. of_array (out-TypeTree t)) (pair (inner is_index) (λ _. inner any))

unfoldable pub record_of : ((ℕ → Bool) → Form TypeTree) → Form TypeTree
record_of inner = variant (λ p. v.Record p.0 p.1) (λ t. of_record (out-TypeTree t)) (pair origin (λ _. fields_form (inner any) 1))

-- by the tag
unfoldable pub tagged : ((ℕ → Bool) → Form TypeTree) → ℕ → Form TypeTree
tagged inner n =
    choose (n == 6) enumeration (choose (n == 7) (subrange inner) (choose (n == 8) (array inner) (choose (n == 9) (record_of inner) (always (basic n)))))

abbrev pub is_small : TypeTree → Bool
is_small t = nat_le (words_of t) TYPE_WORDS

-- the tag of a type
unfoldable pub tag : ℕ → (ℕ → Bool) → Form ℕ
tag version allowed = ruled (number 1) (λ n. is_known version n && allowed n) field.TypeTag

-- a type, of which the inner ones have this form
unfoldable pub typed : ℕ → ((ℕ → Bool) → Form TypeTree) → (ℕ → Bool) → Form TypeTree
typed version inner allowed = ruled (led tag_of (tag version allowed) (tagged inner)) is_small field.TypeTag

-- a tag that stands too deep
unfoldable pub too_deep : Form TypeTree
too_deep = led tag_of (ruled (number 1) (λ n. false) field.TypeTag) (λ n. always (basic n))

-- a type whose tag is one of those allowed, in which so many types may stand in one another
unfoldable pub type_form : ℕ → ℕ → (ℕ → Bool) → Form TypeTree
type_form version zero allowed = too_deep
type_form version (suc levels) allowed = typed version (type_form version levels) allowed

abbrev pub types : ℕ → (ℕ → Bool) → Form TypeTree
types version allowed = type_form version TYPE_DEPTH allowed

abbrev pub fields : ℕ → Form (List FieldType)
fields version = fields_form (types version any) 0
