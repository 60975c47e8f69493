-- Bytes written in parts are those written at once.
use Rattle.std.proofs.Common.{◌≡◌, ℕ, ◌-◌, ◌<◌, ◌≤◌, inl, inr, List, [], ◌++◌, length, Some, None, refl, sym, ap, ◌∙◌, append_assoc, length-append, arith}
use Rattle.std.specs.Prelude.{Ok, Err}
use Rattle.std.proofs.lemmas.Bool.{le-leb, lt-leb, cases_lt}
use Rattle.std.proofs.lemmas.List.{append-nil}
use Rattle.mesa_base.specs.declared.limits.TheConstants.{FILE_BYTES}
use Rattle.mesa_base.specs.declared.file_fault.WriteFault.TheVariants.{TooLarge}
use Rattle.file_forms.specs.Written.{Written, appended, file_of}

there_is_room : (bytes text : List ℕ) → length text ≤ FILE_BYTES - length bytes → appended (Some bytes) text ≡ Some (bytes ++ text)
unfolding appended
there_is_room bytes text few = rw (le-leb _ _ few) refl

there_is_none : (bytes text : List ℕ) → FILE_BYTES - length bytes < length text → appended (Some bytes) text ≡ None
unfolding appended
there_is_none bytes text more = rw (lt-leb _ _ more) refl

pub appended_none : (text : List ℕ) → appended None text ≡ None
unfolding appended
appended_none text = refl

pub appended_nothing : (out : Written) → out ≡ appended out []
appended_nothing None = sym (appended_none [])
appended_nothing (Some bytes) = sym (there_is_room bytes [] (omega arith) ∙ ap (λ b. Some b) (append-nil bytes))

pub appended_twice : (out : Written) (first second : List ℕ) → appended (appended out first) second ≡ appended out (first ++ second)
appended_twice None first second =
    ap (λ o. appended o second) (appended_none first) ∙ appended_none second ∙ sym (appended_none (first ++ second))
appended_twice (Some bytes) first second =
    let lengths = length-append first second in
    let front = length-append bytes first in
    elim (cases_lt (FILE_BYTES - length bytes) (length first)) [
      | inl more ↦ ap (λ o. appended o second) (there_is_none bytes first more) ∙ appended_none second ∙ sym (there_is_none bytes (first ++ second) (omega arith))
      | inr few ↦
          ap (λ o. appended o second) (there_is_room bytes first few)
          ∙ elim (cases_lt (FILE_BYTES - length (bytes ++ first)) (length second)) [
            | inl more ↦ there_is_none (bytes ++ first) second more ∙ sym (there_is_none bytes (first ++ second) (omega arith))
            | inr still ↦
                there_is_room (bytes ++ first) second still ∙ ap (λ b. Some b) (append_assoc bytes first second)
                ∙ sym (there_is_room bytes (first ++ second) (omega arith))
          ]
    ]

-- what is written behind what was written
pub appended_both : (old mid new : Written) (first second : List ℕ) → mid ≡ appended old first → new ≡ appended mid second → new ≡ appended old (first ++ second)
appended_both old mid new first second e d = d ∙ ap (λ o. appended o second) e ∙ appended_twice old first second

-- once the bytes are too many nothing more comes of them
pub appended_full : (out : Written) (text : List ℕ) → out ≡ None → out ≡ appended out text
appended_full out text none = none ∙ sym (appended_none text) ∙ ap (λ o. appended o text) (sym none)

-- what was written from the start is a file exactly where it is not too long
pub file_from_start : (text : List ℕ) → length text ≤ FILE_BYTES → file_of (appended (Some []) text) ≡ Ok text
file_from_start text few = ap file_of (there_is_room [] text (omega arith))

pub no_file_from_start : (text : List ℕ) → FILE_BYTES < length text → file_of (appended (Some []) text) ≡ Err TooLarge
no_file_from_start text more = ap file_of (there_is_none [] text (omega arith))
