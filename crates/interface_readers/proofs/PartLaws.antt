-- What the readers of parts find at an offset.
use Rattle.std.proofs.Common.{◌≡◌, ℕ, ◌+◌, ◌-◌, ◌≤◌, List, length, take, drop, Result, Ok, Err, refl, sym, ap, subst, ◌∙◌, arith}
use Rattle.std.specs.Prelude.{◌≢◌}
use Rattle.std.proofs.lemmas.List.{length-append, length-drop, drop-drop, drop_at, take_rest}
use Rattle.file_forms.specs.declared.stopped.Stopped.{Stopped}
use Rattle.file_forms.specs.declared.stopped.Stopped.TheVariants as stop
use Rattle.file_forms.specs.Files.{fault_of}
use Rattle.file_forms.specs.Forms.{Form, Reading, Spells, AreBytes}
use Rattle.file_forms.specs.Lawful.{Lawful}
use Rattle.file_forms.specs.Opening.{left_of}
use Rattle.file_forms.proofs.Numbers.{bytes-drop}
use Rattle.file_forms.proofs.OneSpelling.{one_value, one_fault, no_fault}
use Rattle.mesa_base.specs.declared.file_fault.FileFault.{FileFault}
use Rattle.mesa_base.specs.declared.file_fault.FileFault.TheVariants.{Memory}
use Rattle.interface_readers.specs.Parts.{StandsAt, ReadsAt}

module _ {A : Type 0} (f : Form A) (law : Lawful f) (bytes : List ℕ) (at : ℕ) (inside : at ≤ length bytes) (are : AreBytes bytes) where
  ends_at : (a : A) (rest : List ℕ) → Spells f a (drop at bytes) rest → at + length (f.spell a) ≡ length bytes - length rest
  ends_at a rest s =
      let whole : length bytes - at ≡ length (f.spell a) + length rest = sym (length-drop at bytes) ∙ ap length s.text ∙ length-append (f.spell a) rest in
      omega (arith, whole, inside)

  rest_is : (a : A) (rest : List ℕ) → Spells f a (drop at bytes) rest → rest ≡ drop (length bytes - length rest) bytes
  rest_is a rest s =
      sym (drop_at (f.spell a) rest (length (f.spell a)) refl) ∙ ap (drop (length (f.spell a))) (sym s.text)
      ∙ drop-drop (length (f.spell a)) at bytes ∙ ap (λ n. drop n bytes) (ends_at a rest s)

  spelled : (a : A) (rest : List ℕ) → f.read (drop at bytes) ≡ Ok (a, rest) → Spells f a (drop at bytes) rest
  spelled a rest e = law.found (drop at bytes) a rest (bytes-drop at bytes are) e

  broken : (why : Stopped) → f.read (drop at bytes) ≡ Err why → f.breaks (drop at bytes) why
  broken why e = law.stops (drop at bytes) why (bytes-drop at bytes are) e

  -- what the code reads: the bytes from the offset to the end
  abbrev read_on : Reading A
  read_on = f.read (take (length bytes - at) (drop at bytes))

  from_there : f.read (drop at bytes) ≡ read_on
  from_there = ap f.read (sym (take_rest bytes at))

  -- the code's own bounds

  rest_fits : (a : A) (rest : List ℕ) → f.read (drop at bytes) ≡ Ok (a, rest) → length rest ≤ length bytes
  rest_fits a rest e = omega (arith, length-drop at bytes, ap length (spelled a rest e).text, length-append (f.spell a) rest)

  pub part_rest_fits : (a : A) (rest : List ℕ) → read_on ≡ Ok (a, rest) → length rest ≤ length bytes
  part_rest_fits a rest e = rest_fits a rest (from_there ∙ e)

  left_within : (why : Stopped) → f.read (drop at bytes) ≡ Err why → left_of why ≤ length bytes
  left_within why e = omega (arith, law.within (drop at bytes) why (broken why e), length-drop at bytes)

  pub part_left_fits : (why : Stopped) → (why ≢ stop.Memory → read_on ≡ Err why) → left_of why ≤ length bytes
  part_left_fits stop.Cut read = omega arith
  part_left_fits (stop.Bad field n) read = left_within (stop.Bad field n) (from_there ∙ read (λ e. absurd cc))
  part_left_fits stop.Memory read = omega arith

  -- a part

  stands : (a : A) (rest : List ℕ) → f.read (drop at bytes) ≡ Ok (a, rest) → StandsAt f a bytes at (length bytes - length rest)
  stands a rest e = record {
    spells = subst (Spells f a (drop at bytes)) (rest_is a rest (spelled a rest e)) (spelled a rest e);
    within = omega arith;
  }

  same_offset : (rest : List ℕ) (after : ℕ) → after ≤ length bytes → rest ≡ drop after bytes → length bytes - length rest ≡ after
  same_offset rest after within e = omega (arith, ap length e, length-drop after bytes)

  same_part : (a b : A) (rest : List ℕ) (after : ℕ) → f.read (drop at bytes) ≡ Ok (a, rest) → StandsAt f b bytes at after → let one : A × ℕ = (a, length bytes - length rest) in one ≡ (b, after)
  same_part a b rest after e s =
      let same = one_value f law a b (drop at bytes) rest (drop after bytes) (spelled a rest e) s.spells in
      ap (λ x. (x, length bytes - length rest)) same.0 ∙ ap (λ n. (b, n)) (same_offset rest after s.within same.1)

  found_at : (a : A) (rest : List ℕ) → f.read (drop at bytes) ≡ Ok (a, rest) → ReadsAt f bytes at (Ok (a, length bytes - length rest))
  found_at a rest e = record {
    found = stands a rest e;
    fault = tt;
    only = λ b after s other. ap (λ (x : A × ℕ). Ok x) (same_part a b rest after e s);
    first = λ d fails other. absurd (no_fault f law a (drop at bytes) rest fails.0 (spelled a rest e) fails.1);
  }

  pub part_found : (a : A) (rest : List ℕ) → read_on ≡ Ok (a, rest) → ReadsAt f bytes at (Ok (a, length bytes - length rest))
  part_found a rest e = found_at a rest (from_there ∙ e)

  -- no part

  read_why : (why : Stopped) → (why ≢ stop.Memory → read_on ≡ Err why) → fault_of (length bytes) why ≢ Memory → f.breaks (drop at bytes) why
  read_why why read other = broken why (from_there ∙ read (λ e. other (ap (fault_of (length bytes)) e)))

  live : (e : FileFault) → (let failed : Result (A × ℕ) FileFault = Err e in failed) ≢ Err Memory → e ≢ Memory
  live e other same = other (ap (λ (d : FileFault). Err d) same)

  pub part_fails : (why : Stopped) → (why ≢ stop.Memory → read_on ≡ Err why) → ReadsAt f bytes at (Err (fault_of (length bytes) why))
  part_fails why read = record {
    found = tt;
    fault = λ other. (why, read_why why read other, refl);
    only = λ b after s other. absurd (no_fault f law b (drop at bytes) (drop after bytes) why s.spells (read_why why read (live _ other)));
    first = λ d fails other.
        ap (λ (x : FileFault). Err x) (ap (fault_of (length bytes)) (one_fault f law (drop at bytes) why fails.0 (read_why why read (live _ other)) fails.1) ∙ sym fails.2);
  }
