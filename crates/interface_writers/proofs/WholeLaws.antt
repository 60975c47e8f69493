-- What writing a whole file from its start gives.
use Rattle.std.proofs.Common.{◌≡◌, ℕ, ◌<◌, ◌≤◌, inl, inr, List, [], ◌++◌, length, Some, Result, Ok, Err, refl, sym, ap, subst, ◌∙◌, arith}
use Rattle.std.specs.Prelude.{◌≢◌, ◌↔◌, IfOk}
use Rattle.std.proofs.lemmas.Bool.{cases_lt}
use Rattle.std.proofs.lemmas.List.{append-nil}
use Rattle.mesa_base.specs.declared.limits.TheConstants.{FILE_BYTES}
use Rattle.mesa_base.specs.declared.file_fault.WriteFault.{WriteFault}
use Rattle.mesa_base.specs.declared.file_fault.WriteFault.TheVariants.{TooLarge, Memory}
use Rattle.interface_records.specs.declared.interface.Interface.{Interface}
use Rattle.file_forms.specs.Files.{versioned}
use Rattle.file_forms.specs.Written.{Written, appended, file_of}
use Rattle.file_forms.proofs.WrittenLaws.{appended_both, file_from_start, no_file_from_start}
use Rattle.face_rules.specs.FaceForms.{item_names, face}
use Rattle.face_rules.specs.InterfaceForms.{constants, constant_names, named_types, interface, IsInterfaceFile}
use Rattle.interface_writers.specs.Whole.{interface_file}
use Rattle.interface_writers.proofs.ElementLaws.{constants_alike, named_types_alike}

is_file : (i : Interface) → (interface 2).fits i → length (interface_file i) ≤ FILE_BYTES → IsInterfaceFile 2 i (interface_file i)
is_file i fits few = record {
  few = few;
  begins = refl;
  spells = record { fits = ((omega arith, refl), fits); text = sym (append-nil ((versioned interface).spell (2, i))) };
}

abbrev IsWritten : Interface → Result (List ℕ) WriteFault → Type 0
IsWritten i r = IfOk r (λ bytes. IsInterfaceFile 2 i bytes) × (r ≢ Err Memory → (r ≡ Err TooLarge ↔ FILE_BYTES < length (interface_file i)))

-- what was written from the start on, taken as a file
pub written_whole : (i : Interface) (start out : Written) (r : Result (List ℕ) WriteFault) → (interface 2).fits i → start ≡ Some [] → out ≡ appended start (interface_file i) → r ≡ file_of out → IsWritten i r
written_whole i start out r fits begun e d =
    let is : r ≡ file_of (appended (Some []) (interface_file i)) = d ∙ ap file_of (e ∙ ap (λ o. appended o (interface_file i)) begun) in
    elim (cases_lt FILE_BYTES (length (interface_file i))) [
      | inl more ↦
          let large : r ≡ Err TooLarge = is ∙ no_file_from_start (interface_file i) more in
          subst (IsWritten i) (sym large) (tt, λ other. (λ same. more, λ same. refl))
      | inr few ↦
          let fine : r ≡ Ok (interface_file i) = is ∙ file_from_start (interface_file i) few in
          subst (IsWritten i) (sym fine) (is_file i fits few, λ other. (λ same. absurd cc, λ more. absurd (omega (arith, more, few))))
    ]

-- what was written from the start on is the bytes, where there are any
pub bytes_written : (start out : Written) (text bytes : List ℕ) → start ≡ Some [] → out ≡ appended start text → out ≡ Some bytes → bytes ≡ text
bytes_written start out text bytes begun e d =
    let is : file_of (appended (Some []) text) ≡ Ok bytes = ap file_of (ap (λ o. appended o text) (sym begun) ∙ sym e ∙ d) in
    elim (cases_lt FILE_BYTES (length text)) [
      | inl more ↦ let none = no_file_from_start text more in absurd cc
      | inr few ↦ let all = file_from_start text few in cc
    ]

-- the three parts of an interface, one behind the other
pub interface_written : (i : Interface) (start a b out : Written) → a ≡ appended start ((face 2).spell i.face) → b ≡ appended a ((constants 2 []).spell i.constants)
    → out ≡ appended b ((named_types 2 []).spell i.types) → out ≡ appended start ((interface 2).spell i)
unfolding interface
interface_written i start a b out first second third =
    let seen = item_names i.face.items in
    let more = seen ++ constant_names i.constants in
    appended_both start a out ((face 2).spell i.face) ((constants 2 seen).spell i.constants ++ (named_types 2 more).spell i.types) first
    (appended_both a b out ((constants 2 seen).spell i.constants) ((named_types 2 more).spell i.types)
    (second ∙ ap (λ (t : List ℕ). appended a t) (constants_alike seen i.constants)) (third ∙ ap (λ (t : List ℕ). appended b t) (named_types_alike more i.types)))
