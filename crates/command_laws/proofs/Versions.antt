-- A value has one length in both versions, so what a file holds is not too large in version 2.
use Rattle.std.proofs.Common.{◌≡◌, ℕ, suc, ◌+◌, ◌≤◌, List, ◌++◌, length, codes, sym, ◌∙◌, ap, subst}
use Rattle.std.proofs.lemmas.List.{length-append}
use Rattle.mesa_base.specs.declared.limits.TheConstants.{FILE_BYTES}
use Rattle.file_forms.specs.Files.{IsFile, versioned}
use Rattle.file_forms.specs.Forms.{Form}
use Rattle.face_rules.specs.InterfaceForms.{interface}
use Rattle.object_rules.specs.ImageForms.{image_form, parts_of_image}
use Rattle.object_rules.specs.ModuleForms.{module_form}
use Rattle.object_rules.specs.Parts.{parts_of}
use Rattle.face_rules.proofs.Grows.{Grows}
use Rattle.face_rules.proofs.Versions.{interface_grows}
use Rattle.object_rules.proofs.Versions.{module_grows, image_grows}
use Rattle.command_rules.specs.Forms.{FileKind}
use Rattle.command_rules.specs.Listing.{Holds, is_interface, is_object, is_image}
use Rattle.command_rules.specs.Passes.{Has}
use Rattle.command_rules.specs.Writing.{Value, size_of}
use Rattle.command_laws.specs.Laws.{ValuesKeepTheirSize}
use Rattle.command_laws.proofs.Sizes.{file_is}

-- a spelling has as many bytes as that of version 2
as_long : {A : Type 0} (letters : List ℕ) (f : ℕ → Form A) (version : ℕ) (a : A) → Grows (f version) (f 2) → (f version).fits a
    → length (letters ++ (versioned f).spell (2, a)) ≡ length (letters ++ (versioned f).spell (version, a))
as_long letters f version a e h =
    length-append letters ((versioned f).spell (2, a)) ∙ ap (λ (text : List ℕ). length letters + suc (length text)) (sym (e.spells a h))
    ∙ sym (length-append letters ((versioned f).spell (version, a)))

file_long : {A : Type 0} (letters : List ℕ) (f : ℕ → Form A) (version : ℕ) (a : A) (bytes : List ℕ) → Grows (f version) (f 2) → IsFile letters f version a bytes
    → length (letters ++ (versioned f).spell (2, a)) ≡ length bytes
file_long letters f version a bytes e h = as_long letters f version a e h.spells.fits.1 ∙ ap length (sym (file_is letters f version a bytes h))

value_long : (kind : FileKind) (file bytes : List ℕ) (v : Value) → Holds file bytes kind (Has v) → size_of v ≡ length bytes
value_long kind file bytes v (is_interface version i h) = file_long (codes "MIF") interface version i bytes (interface_grows version) h
value_long kind file bytes v (is_object version o h) = file_long (codes "MOB") module_form version (parts_of o) bytes (module_grows version) h.file
value_long kind file bytes v (is_image version i h) = file_long (codes "MIM") image_form version (parts_of_image i) bytes (image_grows version) h.file

few_bytes : (kind : FileKind) (file bytes : List ℕ) (v : Value) → Holds file bytes kind (Has v) → length bytes ≤ FILE_BYTES
few_bytes kind file bytes v (is_interface version i h) = h.few
few_bytes kind file bytes v (is_object version o h) = h.file.few
few_bytes kind file bytes v (is_image version i h) = h.file.few

pub values_keep_their_size : ValuesKeepTheirSize
values_keep_their_size kind file bytes v h =
    let e = value_long kind file bytes v h in (e, subst (λ n. n ≤ FILE_BYTES) (sym e) (few_bytes kind file bytes v h))
