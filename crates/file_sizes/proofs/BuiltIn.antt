-- How many bytes the built-in face takes.
use Rattle.std.proofs.Common.{◌≡◌, ℕ, ◌+◌, ◌≤◌, List, [], ◌∷◌, ◌++◌, length, Bool, Option, Some, None, refl, sym, ap, ◌∙◌, arith}
use Rattle.std.specs.Prelude.{codes}
use Rattle.mesa_types.specs.declared.types.FieldType.{FieldType, roll-FieldType, out-FieldType, out-roll-FieldType}
use Rattle.mesa_types.specs.declared.types.TypeTree.{TypeTree, roll-TypeTree, out-TypeTree, out-roll-TypeTree}
use Rattle.mesa_types.specs.declared.types.TypeTree.TheOpen.{TypeTree-F, FieldType-F}
use Rattle.mesa_types.specs.declared.types.TypeTree.TheVariants as v
use Rattle.interface_records.specs.Faces.{iodefs, io_items, parameter, unnamed, procedure, error}
use Rattle.file_forms.specs.Forms.{Form, number, at_least}
use Rattle.file_forms.specs.Names.{short_text, name}
use Rattle.file_forms.proofs.Numbers.{length-number}
use Rattle.face_rules.specs.FaceForms.{item_kind, gives, item_named, item}
use Rattle.face_rules.specs.Layers.{Layer, layer_tag, tag_of}
use Rattle.face_rules.specs.TypeForms.{any, label, field_form, fields_form, tagged, tag, typed, type_form, types, fields}
use Rattle.file_sizes.specs.Sizes.{total, item_size, face_size}
use Rattle.file_sizes.proofs.Faces.{name_sized, faces_sized}
use Rattle.file_sizes.proofs.Lists.{list_sized, two, four}

-- ---- types of one byte, their tag

tag_is : (y : Layer) (t : TypeTree) → roll-TypeTree y ≡ t → tag_of t ≡ layer_tag y
unfolding tag_of
tag_is y t h = ap (λ (u : TypeTree). layer_tag (out-TypeTree u)) (sym h) ∙ ap layer_tag (out-roll-TypeTree y)

spelled_by : (inner : (ℕ → Bool) → Form TypeTree) (t : TypeTree) (n : ℕ) → tag_of t ≡ n
    → length ((typed 2 inner any).spell t) ≡ length ((number 1).spell n ++ (tagged inner n).spell t)
unfolding typed tag
spelled_by inner t n e = ap (λ (m : ℕ). length ((number 1).spell m ++ (tagged inner m).spell t)) e

abbrev type_size : TypeTree → ℕ
type_size t = length ((types 2 any).spell t)

integer : type_size v.Integer ≡ 1
unfolding type_form tagged
integer = spelled_by (type_form 2 63) v.Integer 1 (tag_is TypeTree-F.Integer v.Integer v.rolls-Integer)

boolean : type_size v.Boolean ≡ 1
unfolding type_form tagged
boolean = spelled_by (type_form 2 63) v.Boolean 3 (tag_is TypeTree-F.Boolean v.Boolean v.rolls-Boolean)

character : type_size v.Character ≡ 1
unfolding type_form tagged
character = spelled_by (type_form 2 63) v.Character 4 (tag_is TypeTree-F.Character v.Character v.rolls-Character)

string : type_size v.String ≡ 1
unfolding type_form tagged
string = spelled_by (type_form 2 63) v.String 5 (tag_is TypeTree-F.String v.String v.rolls-String)

-- ---- fields

abbrev field_size : FieldType → ℕ
field_size f = length ((label []).spell (out-FieldType f).name) + type_size (out-FieldType f).kind

field_sized : (before : List FieldType) (f : FieldType) → length ((field_form (types 2 any) before).spell f) ≡ field_size f
unfolding field_form label
field_sized before f = two ((label before).spell (out-FieldType f).name) ((types 2 any).spell (out-FieldType f).kind)

fields_sized : (fs : List FieldType) → length ((fields 2).spell fs) ≡ 4 + total field_size fs
unfolding fields_form
fields_sized fs = list_sized (field_form (types 2 any)) field_size field_sized (at_least 0) fs

field_is : (name : Option (List ℕ)) (k : TypeTree) → field_size (roll-FieldType (record { name = name; kind = k })) ≡ length ((label []).spell name) + type_size k
field_is name k = ap (λ (f : FieldType-F TypeTree FieldType). length ((label []).spell f.name) + type_size f.kind) (out-roll-FieldType (record { name = name; kind = k }))

label_of_one : (b : ℕ) → length ((label []).spell (Some (b ∷ []))) ≡ 2
unfolding label short_text
label_of_one b = refl

no_label : length ((label []).spell None) ≡ 1
unfolding label short_text
no_label = refl

none_sized : length ((fields 2).spell []) ≡ 4
unfolding total
none_sized = omega (arith, fields_sized [])

parameter_sized : (b : ℕ) (k : TypeTree) → length ((fields 2).spell (parameter (b ∷ []) k)) ≡ 6 + type_size k
unfolding total
parameter_sized b k = omega (arith, fields_sized (parameter (b ∷ []) k), field_is (Some (b ∷ [])) k, label_of_one b)

unnamed_sized : (k : TypeTree) → length ((fields 2).spell (unnamed k)) ≡ 5 + type_size k
unfolding total
unnamed_sized k = omega (arith, fields_sized (unnamed k), field_is None k, no_label)

-- ---- items

procedure_sized : (x : List ℕ) (takes given : List FieldType) (a b : ℕ) → length ((fields 2).spell takes) ≡ a → length ((fields 2).spell given) ≡ b
    → item_size (procedure x takes given) ≡ 2 + length x + a + b
unfolding item_size item_named item_kind gives
procedure_sized x takes given a b e f =
    let whole : length ((item 2).spell (procedure x takes given))
    ≡ length ((number 1).spell 1) + (length (name.spell x) + (length ((fields 2).spell takes) + length ((fields 2).spell given))) =
    four ((number 1).spell 1) (name.spell x) ((fields 2).spell takes) ((fields 2).spell given) in
    omega (arith, whole, length-number 1 1, name_sized x, e, f)

error_sized : (x : List ℕ) → item_size (error x) ≡ 6 + length x
unfolding item_size item_named item_kind gives
error_sized x =
    let whole : length ((item 2).spell (error x)) ≡ length ((number 1).spell 3) + (length (name.spell x) + (length ((fields 2).spell []) + 0)) =
    four ((number 1).spell 3) (name.spell x) ((fields 2).spell []) [] in
    omega (arith, whole, length-number 1 3, name_sized x, none_sized)

items_sized : total item_size io_items ≡ 126
unfolding total
items_sized = omega (
  arith,
  procedure_sized (codes "WriteChar") (parameter (codes "c") v.Character) [] (6 + type_size v.Character) 4 (parameter_sized 99 v.Character) none_sized,
  procedure_sized (codes "WriteString") (parameter (codes "s") v.String) [] (6 + type_size v.String) 4 (parameter_sized 115 v.String) none_sized,
  procedure_sized (codes "WriteDecimal") (parameter (codes "n") v.Integer) [] (6 + type_size v.Integer) 4 (parameter_sized 110 v.Integer) none_sized,
  procedure_sized (codes "ReadChar") [] (unnamed v.Character) 4 (5 + type_size v.Character) none_sized (unnamed_sized v.Character),
  procedure_sized (codes "EndOfInput") [] (unnamed v.Boolean) 4 (5 + type_size v.Boolean) none_sized (unnamed_sized v.Boolean),
  error_sized (codes "NoInput"),
  integer,
  boolean,
  character,
  string,
)

pub built_in_sized : face_size iodefs.face ≤ 200
built_in_sized = omega (arith, faces_sized iodefs.face, items_sized)
