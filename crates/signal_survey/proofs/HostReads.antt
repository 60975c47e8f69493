-- The name of the host's ReadChar.
use Rattle.std.proofs.Common.{◌≡◌, Bool, true, false, List, ℕ, Some, None, refl, sym, ap, subst, ◌∙◌, codes}
use Rattle.std.specs.Prelude.{◌↔◌, bytes_eq, if◌then◌else◌}
use Rattle.std.proofs.lemmas.Bool.{false≢true}
use Rattle.std.proofs.lemmas.Option.{none-some, same_Some}
use Rattle.std.proofs.lemmas.Slice.Eq.{bytes_eq-Decides}
use Rattle.machine_rules.specs.LookUps.{Host, host_named, WriteChar, WriteString, WriteDecimal, ReadChar, EndOfInput}

abbrev is_reading : Host → Bool
is_reading ReadChar = true
is_reading _ = false

not_read : (h : Host) → is_reading h ≡ false → Some h ≡ Some ReadChar → ⊥
not_read h e same = false≢true (sym e ∙ ap is_reading (same_Some h ReadChar same))

decided : (a b c d e : Bool)
    → (if a then Some WriteChar else (if b then Some WriteString else (if c then Some WriteDecimal else (if d then Some ReadChar else (if e then Some EndOfInput else None))))) ≡ Some ReadChar
    → d ≡ true
decided true b c d e h = absurd (not_read WriteChar refl h)
decided false true c d e h = absurd (not_read WriteString refl h)
decided false false true d e h = absurd (not_read WriteDecimal refl h)
decided false false false true e h = refl
decided false false false false true h = absurd (not_read EndOfInput refl h)
decided false false false false false h = absurd (none-some ReadChar h)

named_so : (name : List ℕ) → host_named name ≡ Some ReadChar → bytes_eq name (codes "ReadChar") ≡ true
unfolding host_named
named_so name h =
    decided (bytes_eq name (codes "WriteChar")) (bytes_eq name (codes "WriteString")) (bytes_eq name (codes "WriteDecimal")) (bytes_eq name (codes "ReadChar"))
    (bytes_eq name (codes "EndOfInput")) h

of_name : (name : List ℕ) → name ≡ codes "ReadChar" → host_named name ≡ Some ReadChar
unfolding host_named
of_name name e = subst (λ x. host_named x ≡ Some ReadChar) (sym e) refl

pub reads_char : (name : List ℕ) → (bytes_eq name (codes "ReadChar") ≡ true) ↔ (host_named name ≡ Some ReadChar)
reads_char name = (λ t. of_name name ((bytes_eq-Decides name (codes "ReadChar")).0 t), λ h. named_so name h)

pub reads_char_of : (name text : List ℕ) → text ≡ codes "ReadChar" → (bytes_eq name text ≡ true) ↔ (host_named name ≡ Some ReadChar)
reads_char_of name text e = subst (λ (t : List ℕ). (bytes_eq name t ≡ true) ↔ (host_named name ≡ Some ReadChar)) (sym e) (reads_char name)
