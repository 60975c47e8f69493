-- The text of each type, form by form.
use Rattle.std.proofs.Common.{◌≡◌, ℕ, List, ◌++◌, sym, ap, ◌∙◌}
use Rattle.std.specs.Prelude.{Option, codes}
use Rattle.mesa_types.specs.declared.types.Origin.{Origin}
use Rattle.mesa_types.specs.declared.types.TypeTree.{TypeTree, roll-TypeTree, out-TypeTree, out-roll-TypeTree}
use Rattle.mesa_types.specs.declared.types.TypeTree.TheVariants as v
use Rattle.mesa_types.specs.declared.types.TypeTree.TheOpen.{TypeTree-F}
use Rattle.mesa_types.specs.declared.types.TypeTree.TheFolds.{fold-roll-TypeTree, fold_out-FieldType, fold-roll-FieldType}
use Rattle.mesa_types.specs.declared.types.FieldType.{FieldType, out-FieldType, roll-FieldType}
use Rattle.listing_rules.specs.Types.{Printed, signed, unsigned, bounds_text, names_text, label_text, print_step, print_field, printed, type_text, is_signed, word_text, signed_long, value_by, value_text, field_text, fields_text}

pub integer_printed : printed v.Integer ≡ signed (codes "INTEGER")
integer_printed = ap printed (sym v.rolls-Integer) ∙ fold-roll-TypeTree Printed (List ℕ) print_step print_field TypeTree-F.Integer

pub cardinal_printed : printed v.Cardinal ≡ unsigned (codes "CARDINAL")
cardinal_printed = ap printed (sym v.rolls-Cardinal) ∙ fold-roll-TypeTree Printed (List ℕ) print_step print_field TypeTree-F.Cardinal

pub long_integer_printed : printed v.LongInteger ≡ unsigned (codes "LONG INTEGER")
long_integer_printed = ap printed (sym v.rolls-LongInteger) ∙ fold-roll-TypeTree Printed (List ℕ) print_step print_field TypeTree-F.LongInteger

pub long_cardinal_printed : printed v.LongCardinal ≡ unsigned (codes "LONG CARDINAL")
long_cardinal_printed = ap printed (sym v.rolls-LongCardinal) ∙ fold-roll-TypeTree Printed (List ℕ) print_step print_field TypeTree-F.LongCardinal

pub boolean_printed : printed v.Boolean ≡ unsigned (codes "BOOLEAN")
boolean_printed = ap printed (sym v.rolls-Boolean) ∙ fold-roll-TypeTree Printed (List ℕ) print_step print_field TypeTree-F.Boolean

pub character_printed : printed v.Character ≡ unsigned (codes "CHARACTER")
character_printed = ap printed (sym v.rolls-Character) ∙ fold-roll-TypeTree Printed (List ℕ) print_step print_field TypeTree-F.Character

pub string_printed : printed v.String ≡ unsigned (codes "STRING")
string_printed = ap printed (sym v.rolls-String) ∙ fold-roll-TypeTree Printed (List ℕ) print_step print_field TypeTree-F.String

pub enumeration_printed : (o : Origin) (names : List (List ℕ)) → printed (v.Enumeration o names) ≡ unsigned (names_text names)
enumeration_printed o names =
    ap printed (sym (v.rolls-Enumeration o names)) ∙ fold-roll-TypeTree Printed (List ℕ) print_step print_field (TypeTree-F.Enumeration o names)

pub subrange_printed : (base : TypeTree) (first last : ℕ)
    → printed (v.Subrange base first last) ≡ record { text = type_text base ++ bounds_text (is_signed base) first last; is_signed = is_signed base }
subrange_printed base first last =
    ap printed (sym (v.rolls-Subrange base first last)) ∙ fold-roll-TypeTree Printed (List ℕ) print_step print_field (TypeTree-F.Subrange base first last)

pub array_printed : (index element : TypeTree)
    → printed (v.Array index element) ≡ unsigned (codes "ARRAY " ++ (type_text index ++ (codes " OF " ++ type_text element)))
array_printed index element =
    ap printed (sym (v.rolls-Array index element)) ∙ fold-roll-TypeTree Printed (List ℕ) print_step print_field (TypeTree-F.Array index element)

pub record_printed : (o : Origin) (fields : List FieldType) → printed (v.Record o fields) ≡ unsigned (codes "RECORD " ++ fields_text fields)
record_printed o fields =
    ap printed (sym (v.rolls-Record o fields)) ∙ fold-roll-TypeTree Printed (List ℕ) print_step print_field (TypeTree-F.Record o fields)

pub field_printed : (field : FieldType) → field_text field ≡ label_text (out-FieldType field).name ++ type_text (out-FieldType field).kind
field_printed field = fold_out-FieldType Printed (List ℕ) print_step print_field field

pub made_field_printed : (name : Option (List ℕ)) (kind : TypeTree)
    → field_text (roll-FieldType (record { name = name; kind = kind })) ≡ label_text name ++ type_text kind
made_field_printed name kind = fold-roll-FieldType Printed (List ℕ) print_step print_field (record { name = name; kind = kind })

-- ---- the values of each type

value_at : (y : TypeTree-F TypeTree FieldType) (t : TypeTree) (n : ℕ) → roll-TypeTree y ≡ t → value_text t n ≡ value_by y (is_signed t) n
value_at y t n e = ap (λ (z : TypeTree-F TypeTree FieldType). value_by z (is_signed t) n) (ap out-TypeTree (sym e) ∙ out-roll-TypeTree y)

pub long_integer_value : (n : ℕ) → value_text v.LongInteger n ≡ signed_long n
long_integer_value n = value_at TypeTree-F.LongInteger v.LongInteger n v.rolls-LongInteger

pub integer_value : (n : ℕ) → value_text v.Integer n ≡ word_text (is_signed v.Integer) n
integer_value n = value_at TypeTree-F.Integer v.Integer n v.rolls-Integer

pub cardinal_value : (n : ℕ) → value_text v.Cardinal n ≡ word_text (is_signed v.Cardinal) n
cardinal_value n = value_at TypeTree-F.Cardinal v.Cardinal n v.rolls-Cardinal

pub long_cardinal_value : (n : ℕ) → value_text v.LongCardinal n ≡ word_text (is_signed v.LongCardinal) n
long_cardinal_value n = value_at TypeTree-F.LongCardinal v.LongCardinal n v.rolls-LongCardinal

pub boolean_value : (n : ℕ) → value_text v.Boolean n ≡ word_text (is_signed v.Boolean) n
boolean_value n = value_at TypeTree-F.Boolean v.Boolean n v.rolls-Boolean

pub character_value : (n : ℕ) → value_text v.Character n ≡ word_text (is_signed v.Character) n
character_value n = value_at TypeTree-F.Character v.Character n v.rolls-Character

pub string_value : (n : ℕ) → value_text v.String n ≡ word_text (is_signed v.String) n
string_value n = value_at TypeTree-F.String v.String n v.rolls-String

pub enumeration_value : (o : Origin) (names : List (List ℕ)) (n : ℕ) → value_text (v.Enumeration o names) n ≡ word_text (is_signed (v.Enumeration o names)) n
enumeration_value o names n = value_at (TypeTree-F.Enumeration o names) (v.Enumeration o names) n (v.rolls-Enumeration o names)

pub subrange_value : (base : TypeTree) (first last : ℕ) (n : ℕ) → value_text (v.Subrange base first last) n ≡ word_text (is_signed (v.Subrange base first last)) n
subrange_value base first last n = value_at (TypeTree-F.Subrange base first last) (v.Subrange base first last) n (v.rolls-Subrange base first last)

pub array_value : (index element : TypeTree) (n : ℕ) → value_text (v.Array index element) n ≡ word_text (is_signed (v.Array index element)) n
array_value index element n = value_at (TypeTree-F.Array index element) (v.Array index element) n (v.rolls-Array index element)

pub record_value : (o : Origin) (fields : List FieldType) (n : ℕ) → value_text (v.Record o fields) n ≡ word_text (is_signed (v.Record o fields)) n
record_value o fields n = value_at (TypeTree-F.Record o fields) (v.Record o fields) n (v.rolls-Record o fields)

pub ruleset values = (long_integer_value, integer_value, cardinal_value, long_cardinal_value, boolean_value, character_value, string_value, enumeration_value, subrange_value, array_value, record_value)
