-- Types in a listing (rule of this project). A type prints as in a source; a record or an enumeration prints without its origin, and the
-- bounds of a subrange are numbers, signed where its base is INTEGER. The number of a constant of LONG INTEGER is signed too.
use Rattle.std.specs.Prelude.{ℕ, ◌-◌, Bool, true, false, List, [], ◌∷◌, ◌++◌, map, codes, decimal, Option, Some, None, if◌then◌else◌, nat_lt}
use Rattle.mesa_base.specs.Decimal.{signed_word}
use Rattle.mesa_types.specs.declared.types.TypeTree.{TypeTree, out-TypeTree}
use Rattle.mesa_types.specs.declared.types.FieldType.{FieldType}
use Rattle.mesa_types.specs.declared.types.TypeTree.TheOpen.{TypeTree-F, FieldType-F}
use Rattle.mesa_types.specs.declared.types.TypeTree.TheFolds.{fold-TypeTree, fold-FieldType}
use Rattle.listing_rules.specs.Lines.{between}

-- a type's text, and whether the words of its values are signed numbers: those of INTEGER and of its subranges
pub record Printed : Type 0 where
  pub text : List ℕ
  pub is_signed : Bool

abbrev pub signed : List ℕ → Printed
signed text = record { text = text; is_signed = true }

abbrev pub unsigned : List ℕ → Printed
unsigned text = record { text = text; is_signed = false }

-- a word as a number
abbrev pub word_text : Bool → ℕ → List ℕ
word_text is_signed word = if is_signed then signed_word word else decimal word

-- ` [first..last]`
abbrev pub bounds_text : Bool → ℕ → ℕ → List ℕ
bounds_text is_signed first last = codes " [" ++ (word_text is_signed first ++ (codes ".." ++ (word_text is_signed last ++ codes "]")))

-- `{a, b}`
abbrev pub names_text : List (List ℕ) → List ℕ
names_text names = codes "{" ++ (between (codes ", ") names ++ codes "}")

-- `[x: t]`, or `[t]`
abbrev pub in_brackets : List (List ℕ) → List ℕ
in_brackets fields = codes "[" ++ (between (codes ", ") fields ++ codes "]")

-- a field's name and a colon, where it has a name
abbrev pub label_text : Option (List ℕ) → List ℕ
label_text None = []
label_text (Some name) = name ++ codes ": "

abbrev pub print_step : TypeTree-F Printed (List ℕ) → Printed
print_step TypeTree-F.Integer = signed (codes "INTEGER")
print_step TypeTree-F.Cardinal = unsigned (codes "CARDINAL")
print_step TypeTree-F.LongInteger = unsigned (codes "LONG INTEGER")
print_step TypeTree-F.LongCardinal = unsigned (codes "LONG CARDINAL")
print_step TypeTree-F.Boolean = unsigned (codes "BOOLEAN")
print_step TypeTree-F.Character = unsigned (codes "CHARACTER")
print_step TypeTree-F.String = unsigned (codes "STRING")
print_step (TypeTree-F.Enumeration origin names) = unsigned (names_text names)
print_step (TypeTree-F.Subrange base first last) = record { text = base.text ++ bounds_text base.is_signed first last; is_signed = base.is_signed }
print_step (TypeTree-F.Array index element) = unsigned (codes "ARRAY " ++ (index.text ++ (codes " OF " ++ element.text)))
print_step (TypeTree-F.Record origin fields) = unsigned (codes "RECORD " ++ in_brackets fields)

abbrev pub print_field : FieldType-F Printed (List ℕ) → List ℕ
print_field field = label_text field.name ++ field.kind.text

abbrev pub printed : TypeTree → Printed
printed = fold-TypeTree Printed (List ℕ) print_step print_field

abbrev pub type_text : TypeTree → List ℕ
type_text t = (printed t).text

-- the words of its values are signed numbers
abbrev pub is_signed : TypeTree → Bool
is_signed t = (printed t).is_signed

-- two words as a number with a sign
abbrev pub signed_long : ℕ → List ℕ
signed_long n = if nat_lt n 2147483648 then decimal n else 45 ∷ decimal (4294967296 - n)

abbrev pub value_by : TypeTree-F TypeTree FieldType → Bool → ℕ → List ℕ
value_by TypeTree-F.LongInteger is_signed n = signed_long n
value_by _ is_signed n = word_text is_signed n

-- a value of an ordinal type or a LONG type
abbrev pub value_text : TypeTree → ℕ → List ℕ
value_text t n = value_by (out-TypeTree t) (is_signed t) n

abbrev pub field_text : FieldType → List ℕ
field_text = fold-FieldType Printed (List ℕ) print_step print_field

-- fields, parameters or results
abbrev pub fields_text : List FieldType → List ℕ
fields_text fields = in_brackets (map field_text fields)
