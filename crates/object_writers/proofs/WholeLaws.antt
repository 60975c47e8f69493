-- What writing a whole file from its start gives.
use Rattle.std.proofs.Common.{◌≡◌, ℕ, ◌<◌, ◌≤◌, inl, inr, List, [], ◌++◌, length, Some, Result, Ok, Err, refl, sym, ap, subst, ◌∙◌, arith}
use Rattle.std.specs.Prelude.{◌≢◌, ◌↔◌, All, IfOk, codes}
use Rattle.std.proofs.lemmas.Bool.{cases_lt}
use Rattle.std.proofs.lemmas.List.{append-nil, take_at, drop_at}
use Rattle.mesa_base.specs.declared.limits.TheConstants.{FILE_BYTES}
use Rattle.mesa_base.specs.declared.file_fault.WriteFault.{WriteFault}
use Rattle.mesa_base.specs.declared.file_fault.WriteFault.TheVariants.{TooLarge, Memory}
use Rattle.file_forms.specs.Files.{IsFile, versioned}
use Rattle.file_forms.specs.Forms.{Form, Spells}
use Rattle.file_forms.specs.Written.{Written, appended, file_of}
use Rattle.file_forms.proofs.WrittenLaws.{file_from_start, no_file_from_start}
use Rattle.object_files.specs.declared.image.Image.{Image}
use Rattle.object_files.specs.declared.object.Object.{Object}
use Rattle.object_rules.specs.ImageFiles.{IsImageFile}
use Rattle.object_rules.specs.ImageForms.{parts_of_image, image_form}
use Rattle.object_rules.specs.ModuleForms.{module_form}
use Rattle.object_rules.specs.ObjectFiles.{IsObjectFile}
use Rattle.object_rules.specs.Parts.{parts_of, IsWhole}
use Rattle.object_writers.specs.ObjectBytes.{module_bytes, image_bytes, object_file, image_file}
use Rattle.object_writers.specs.Spelling.{u8_bytes}
use Rattle.object_writers.proofs.ImageLaws.{image_spelled}
use Rattle.object_writers.proofs.ModuleLaws.{module_spelled}

-- letters and the spelling of a value that fits are a file, where they are few enough
module _ {A : Type 0} (letters : List ℕ) (f : ℕ → Form A) (three : length letters ≡ 3) (a : A) (fits : (f 2).fits a) where
  abbrev text : List ℕ
  text = (versioned f).spell (2, a)

  is_file : length (letters ++ text) ≤ FILE_BYTES → IsFile letters f 2 a (letters ++ text)
  is_file few = record {
    few = few;
    begins = take_at letters text 3 three;
    spells =
        let behind : Spells (versioned f) (2, a) text [] = record { fits = ((omega arith, refl), fits); text = sym (append-nil text) } in
        subst (λ (bytes : List ℕ). Spells (versioned f) (2, a) bytes []) (sym (drop_at letters text 3 three)) behind;
  }

abbrev IsWritten : (List ℕ → Type 0) → List ℕ → Result (List ℕ) WriteFault → Type 0
IsWritten P whole r = IfOk r P × (r ≢ Err Memory → (r ≡ Err TooLarge ↔ FILE_BYTES < length whole))

-- what was written from the start on, taken as a file
written_whole : (P : List ℕ → Type 0) (whole : List ℕ) → (length whole ≤ FILE_BYTES → P whole) → (start out : Written) (r : Result (List ℕ) WriteFault)
    → start ≡ Some [] → out ≡ appended start whole → r ≡ file_of out → IsWritten P whole r
written_whole P whole good start out r begun e d =
    let is : r ≡ file_of (appended (Some []) whole) = d ∙ ap file_of (e ∙ ap (λ o. appended o whole) begun) in
    elim (cases_lt FILE_BYTES (length whole)) [
      | inl more ↦
          let large : r ≡ Err TooLarge = is ∙ no_file_from_start whole more in
          subst (IsWritten P whole) (sym large) (tt, λ other. (λ same. more, λ same. refl))
      | inr few ↦
          let fine : r ≡ Ok whole = is ∙ file_from_start whole few in
          subst (IsWritten P whole) (sym fine) (good few, λ other. (λ same. absurd cc, λ more. absurd (omega (arith, more, few))))
    ]

pub object_written : (o : Object) (start out : Written) (r : Result (List ℕ) WriteFault) → (module_form 2).fits (parts_of o) → IsWhole o → start ≡ Some []
    → out ≡ appended start (codes "MOB" ++ (u8_bytes 2 ++ module_bytes o)) → r ≡ file_of out → IsWritten (λ bytes. IsObjectFile 2 o bytes) (object_file o) r
object_written o start out r fits whole begun e d =
    written_whole (λ bytes. IsObjectFile 2 o bytes) (object_file o) (λ few. record { file = is_file (codes "MOB") module_form refl (parts_of o) fits few; whole = whole })
    start out r begun (e ∙ ap (λ (t : List ℕ). appended start (codes "MOB" ++ (u8_bytes 2 ++ t))) (sym (module_spelled o))) d

pub image_written : (i : Image) (start out : Written) (r : Result (List ℕ) WriteFault) → (image_form 2).fits (parts_of_image i) → All IsWhole i.modules → start ≡ Some []
    → out ≡ appended start (codes "MIM" ++ (u8_bytes 2 ++ image_bytes i)) → r ≡ file_of out → IsWritten (λ bytes. IsImageFile 2 i bytes) (image_file i) r
image_written i start out r fits whole begun e d =
    written_whole (λ bytes. IsImageFile 2 i bytes) (image_file i) (λ few. record { file = is_file (codes "MIM") image_form refl (parts_of_image i) fits few; whole = whole })
    start out r begun (e ∙ ap (λ (t : List ℕ). appended start (codes "MIM" ++ (u8_bytes 2 ++ t))) (sym (image_spelled i))) d
