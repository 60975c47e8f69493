-- The names of the host's procedures, each of a length of its own.
use Rattle.std.proofs.Common.{◌≡◌, ℕ, Bool, true, false, List, length, Some, refl, sym, ap, subst, ◌∙◌, codes}
use Rattle.std.specs.Prelude.{IsSome, bytes_eq, nat_eq, if◌then◌else◌, None}
use Rattle.std.proofs.lemmas.Bool.{false≢true}
use Rattle.std.proofs.lemmas.Slice.Eq.{bytes_eq-Decides}
use Rattle.machine_rules.specs.LookUps.{Host, host_named, WriteChar, WriteString, WriteDecimal, ReadChar, EndOfInput}

data IsOne (name : List ℕ) : Type 0 where
  write_char : name ≡ codes "WriteChar" → IsOne name
  write_string : name ≡ codes "WriteString" → IsOne name
  write_decimal : name ≡ codes "WriteDecimal" → IsOne name
  read_char : name ≡ codes "ReadChar" → IsOne name
  end_of_input : name ≡ codes "EndOfInput" → IsOne name

module _ (name : List ℕ) where
  decided : (a b c d e : Bool) → bytes_eq name (codes "WriteChar") ≡ a → bytes_eq name (codes "WriteString") ≡ b → bytes_eq name (codes "WriteDecimal") ≡ c
      → bytes_eq name (codes "ReadChar") ≡ d → bytes_eq name (codes "EndOfInput") ≡ e
      → IsSome (if a then Some WriteChar else (if b then Some WriteString else (if c then Some WriteDecimal else (if d then Some ReadChar else (if e then Some EndOfInput else None)))))
      → IsOne name
  decided true b c d e is _ _ _ _ h = write_char ((bytes_eq-Decides name (codes "WriteChar")).0 is)
  decided false true c d e _ is _ _ _ h = write_string ((bytes_eq-Decides name (codes "WriteString")).0 is)
  decided false false true d e _ _ is _ _ h = write_decimal ((bytes_eq-Decides name (codes "WriteDecimal")).0 is)
  decided false false false true e _ _ _ is _ h = read_char ((bytes_eq-Decides name (codes "ReadChar")).0 is)
  decided false false false false true _ _ _ _ is h = end_of_input ((bytes_eq-Decides name (codes "EndOfInput")).0 is)
  decided false false false false false _ _ _ _ _ h = absurd (false≢true h)

  is_one : IsSome (host_named name) → IsOne name
  unfolding host_named
  is_one h = decided (bytes_eq name (codes "WriteChar")) (bytes_eq name (codes "WriteString")) (bytes_eq name (codes "WriteDecimal")) (bytes_eq name (codes "ReadChar"))
      (bytes_eq name (codes "EndOfInput")) refl refl refl refl refl h

-- the one whose name has this length
abbrev pub of_length : ℕ → Host
of_length n = if nat_eq n 9 then WriteChar else (if nat_eq n 8 then ReadChar else (if nat_eq n 10 then EndOfInput else (if nat_eq n 11 then WriteString else WriteDecimal)))

told : (name : List ℕ) → IsOne name → host_named name ≡ Some (of_length (length name))
unfolding host_named
told name (write_char e) = subst (λ x. host_named x ≡ Some (of_length (length x))) (sym e) refl
told name (write_string e) = subst (λ x. host_named x ≡ Some (of_length (length x))) (sym e) refl
told name (write_decimal e) = subst (λ x. host_named x ≡ Some (of_length (length x))) (sym e) refl
told name (read_char e) = subst (λ x. host_named x ≡ Some (of_length (length x))) (sym e) refl
told name (end_of_input e) = subst (λ x. host_named x ≡ Some (of_length (length x))) (sym e) refl

-- a name that is one of theirs is told by its length
pub named : (name : List ℕ) (n : ℕ) → IsSome (host_named name) → n ≡ length name → host_named name ≡ Some (of_length n)
named name n h e = told name (is_one name h) ∙ ap (λ m. Some (of_length m)) (sym e)

last : (name : List ℕ) → IsOne name → (length name ≡ 9 → ⊥) → (length name ≡ 8 → ⊥) → (length name ≡ 10 → ⊥) → (length name ≡ 11 → ⊥)
    → host_named name ≡ Some WriteDecimal
unfolding host_named
last name (write_char e) a b c d = absurd (a (ap length e))
last name (write_string e) a b c d = absurd (d (ap length e))
last name (write_decimal e) a b c d = subst (λ x. host_named x ≡ Some WriteDecimal) (sym e) refl
last name (read_char e) a b c d = absurd (b (ap length e))
last name (end_of_input e) a b c d = absurd (c (ap length e))

-- and the last one by what its length is not
pub named_last : (name : List ℕ) → IsSome (host_named name) → (length name ≡ 9 → ⊥) → (length name ≡ 8 → ⊥) → (length name ≡ 10 → ⊥) → (length name ≡ 11 → ⊥)
    → host_named name ≡ Some WriteDecimal
named_last name h = last name (is_one name h)
