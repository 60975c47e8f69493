-- The bytes of the two interface files.
use Rattle.std.proofs.Common.{◌≡◌, ℕ, [], ◌∷◌, ◌++◌, refl, ap}
use Rattle.std.specs.Prelude.{Bool, codes}
use Rattle.mesa_types.specs.declared.types.TypeTree.{TypeTree}
use Rattle.mesa_types.specs.declared.types.TypeTree.TheVariants.{Integer}
use Rattle.file_forms.specs.Forms.{Form, number, spell_each}
use Rattle.file_forms.specs.Names.{short_text, name, fresh_name}
use Rattle.face_rules.specs.TypeForms.{any, types, fields, fields_form, field_form, label, type_form, typed, tag, tagged}
use Rattle.face_rules.specs.FaceForms.{item_kind, gives, item_named, items, face}
use Rattle.face_rules.specs.InterfaceForms.{constants, named_types, interface}
use Rattle.face_rules.proofs.WriteTags.{integer_tag}
use Rattle.interface_records.specs.Faces.{parameter, unnamed}
use Rattle.exercise_texts.specs.Files.{file_of_interface}
use Rattle.exercise_texts.specs.Interfaces.{step_defs, sig_defs}

integer_spelled : (inner : (ℕ → Bool) → Form TypeTree) → (typed 2 inner any).spell Integer ≡ 1 ∷ []
unfolding typed tag tagged
integer_spelled inner = ap (λ (n : ℕ). (number 1).spell n ++ (tagged inner n).spell Integer) integer_tag

-- of the type alone it is asked how it is spelled, not in how many others it may stand
integer_any : (types 2 any).spell Integer ≡ 1 ∷ []
unfolding type_form
integer_any = integer_spelled _

parameter_in : (inner : Form TypeTree) → inner.spell Integer ≡ 1 ∷ [] → (fields_form inner 0).spell (parameter (codes "n") Integer) ≡ 0 ∷ 0 ∷ 0 ∷ 1 ∷ 1 ∷ 110 ∷ 1 ∷ []
unfolding fields_form field_form label short_text spell_each
parameter_in inner e = rw e refl

unnamed_in : (inner : Form TypeTree) → inner.spell Integer ≡ 1 ∷ [] → (fields_form inner 0).spell (unnamed Integer) ≡ 0 ∷ 0 ∷ 0 ∷ 1 ∷ 0 ∷ 1 ∷ []
unfolding fields_form field_form label short_text spell_each
unnamed_in inner e = rw e refl

parameter_spelled : (fields 2).spell (parameter (codes "n") Integer) ≡ 0 ∷ 0 ∷ 0 ∷ 1 ∷ 1 ∷ 110 ∷ 1 ∷ []
parameter_spelled = parameter_in (types 2 any) integer_any

unnamed_spelled : (fields 2).spell (unnamed Integer) ≡ 0 ∷ 0 ∷ 0 ∷ 1 ∷ 0 ∷ 1 ∷ []
unnamed_spelled = unnamed_in (types 2 any) integer_any

pub step_bytes : file_of_interface step_defs ≡ 0x4D ∷ 0x49 ∷ 0x46 ∷ 0x02 ∷ 0x08 ∷ 0x53 ∷ 0x74 ∷ 0x65 ∷ 0x70 ∷ 0x44 ∷ 0x65 ∷ 0x66 ∷ 0x73 ∷ 0x00 ∷ 0x00 ∷ 0x00 ∷ 0x00 ∷ 0x00 ∷ 0xAA ∷ 0x00 ∷ 0x00 ∷ 0x00 ∷ 0x01 ∷ 0x01 ∷ 0x04 ∷ 0x53 ∷ 0x74 ∷ 0x65 ∷ 0x70 ∷ 0x00 ∷ 0x00 ∷ 0x00 ∷ 0x01 ∷ 0x01 ∷ 0x6E ∷ 0x01 ∷ 0x00 ∷ 0x00 ∷ 0x00 ∷ 0x01 ∷ 0x00 ∷ 0x01 ∷ 0x00 ∷ 0x00 ∷ 0x00 ∷ 0x00 ∷ 0x00 ∷ 0x00 ∷ 0x00 ∷ 0x00 ∷ []
unfolding interface face items item_named item_kind gives name fresh_name short_text constants named_types spell_each
step_bytes = rw (parameter_spelled, unnamed_spelled) refl

pub sig_bytes : file_of_interface sig_defs ≡ 0x4D ∷ 0x49 ∷ 0x46 ∷ 0x02 ∷ 0x07 ∷ 0x53 ∷ 0x69 ∷ 0x67 ∷ 0x44 ∷ 0x65 ∷ 0x66 ∷ 0x73 ∷ 0x00 ∷ 0x00 ∷ 0x00 ∷ 0x00 ∷ 0x00 ∷ 0xAB ∷ 0x00 ∷ 0x00 ∷ 0x00 ∷ 0x01 ∷ 0x02 ∷ 0x03 ∷ 0x4F ∷ 0x64 ∷ 0x64 ∷ 0x00 ∷ 0x00 ∷ 0x00 ∷ 0x01 ∷ 0x01 ∷ 0x6E ∷ 0x01 ∷ 0x00 ∷ 0x00 ∷ 0x00 ∷ 0x01 ∷ 0x00 ∷ 0x01 ∷ 0x00 ∷ 0x00 ∷ 0x00 ∷ 0x00 ∷ 0x00 ∷ 0x00 ∷ 0x00 ∷ 0x00 ∷ []
unfolding interface face items item_named item_kind gives name fresh_name short_text constants named_types spell_each
sig_bytes = rw (parameter_spelled, unnamed_spelled) refl
