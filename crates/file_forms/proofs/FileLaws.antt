-- Bytes are a file of one value in one version, or have one first fault.
use Rattle.std.proofs.Common.{◌≡◌, ℕ, ◌-◌, ◌≤◌, ◌<◌, true, false, cond, ltb, nat_eq, Result, Ok, Err, List, [], length, take, drop, refl, sym, ap, subst, ◌∙◌, arith}
use Rattle.std.specs.Cmp.Lexicographic.{bytes_decides}
use Rattle.std.proofs.lemmas.Bool.{le-ltb, lt-ltb}
use Rattle.std.proofs.lemmas.List.{length-take, length-drop, length-append}
use Rattle.std.specs.Prelude.{◌≢◌}
use Rattle.std.proofs.lemmas.Grind.{common_steps}
use Rattle.std.proofs.lemmas.Bool.Decides.{nat_tests}
use Rattle.mesa_base.specs.declared.limits.TheConstants.{FILE_BYTES}
use Rattle.mesa_base.specs.declared.file_fault.Field.TheVariants.{Version}
use Rattle.file_forms.specs.declared.stopped.Stopped.{Stopped}
use Rattle.file_forms.specs.declared.stopped.Stopped.TheVariants as stop
use Rattle.mesa_base.specs.declared.file_fault.FileFault.{FileFault}
use Rattle.mesa_base.specs.declared.file_fault.FileFault.TheVariants.{BadMagic, TooLong, Cut, BadField, TrailingBytes, Memory}
use Rattle.file_forms.specs.Forms.{Form, AreBytes, number, ruled}
use Rattle.file_forms.specs.Opening.{left_of, HasLetters, OpensFault}
use Rattle.file_forms.proofs.Numbers.{bytes-drop}
use Rattle.file_forms.specs.Files.{is_version, versioned, IsFile, agrees, fault_of, FirstFault, too_long, bad_magic, ends, field, trailing}
use Rattle.file_forms.specs.Lawful.{Lawful}
use Rattle.file_forms.proofs.Fields.{number_law}
use Rattle.file_forms.proofs.Pairs.{pair_law}
use Rattle.file_forms.proofs.Made.{ruled_law}
use Rattle.file_forms.proofs.OneSpelling.{one_value}
use Rattle.file_forms.proofs.Steps.{read_spelled}

neq-zero : (n : ℕ) → 0 < n → nat_eq n 0 ≡ false
neq-zero n h = grind (arith, nat_tests)

take-all : (xs : List ℕ) (n : ℕ) → length xs ≤ n → take n xs ≡ xs
take-all xs n h = grind (arith, common_steps)

module _ {A : Type 0} (letters : List ℕ) (f : ℕ → Form A) (laws : (version : ℕ) → Lawful (f version)) where
  pub versioned_law : Lawful (versioned f)
  versioned_law = pair_law (ruled (number 1) is_version Version) f (ruled_law (number 1) is_version Version (number_law 1)) (λ version fits. laws version)

  -- one spelling: two files of the same bytes hold one value, in one version
  pub one_file : (version other : ℕ) (a b : A) (bytes : List ℕ) → IsFile letters f version a bytes → IsFile letters f other b bytes → (version ≡ other) × (a ≡ b)
  one_file version other a b bytes s t =
      let same = one_value (versioned f) versioned_law (version, a) (other, b) (drop 3 bytes) [] [] s.spells t.spells in
      (ap (λ p. p.0) same.0, ap (λ p. p.1) same.0)

  -- what reading a whole file comes to
  abbrev finish : ℕ → Result ((ℕ × A) × List ℕ) Stopped → Result (ℕ × A) FileFault
  finish whole (Ok x) = cond (nat_eq (length x.1) 0) (Ok x.0) (Err (TrailingBytes (whole - length x.1)))
  finish whole (Err why) = Err (fault_of whole why)

  abbrev behind : List ℕ → Result (ℕ × A) FileFault
  behind bytes = cond (ltb (length bytes) 3) (Err (Cut (length bytes))) (finish (length bytes) ((versioned f).read (drop 3 bytes)))

  abbrev read_file : List ℕ → Result (ℕ × A) FileFault
  read_file bytes = cond (ltb FILE_BYTES (length bytes)) (Err TooLong) (cond (agrees letters bytes) (behind bytes) (Err BadMagic))

  abbrev read_error : FileFault → Result (ℕ × A) FileFault
  read_error e = Err e

  module _ (three : length letters ≡ 3) where
    agreed : (bytes : List ℕ) → take 3 bytes ≡ letters → agrees letters bytes ≡ true
    agreed bytes e =
        let long : 3 ≤ length bytes = omega (arith, three, ap length e, length-take 3 bytes) in
        let all : take (length bytes) letters ≡ letters = take-all letters (length bytes) (omega (arith, three)) in
        (bytes_decides (take 3 bytes) (take (length bytes) letters)).1 (e ∙ sym all)

    long_enough : (bytes : List ℕ) → take 3 bytes ≡ letters → ltb (length bytes) 3 ≡ false
    long_enough bytes e = le-ltb (length bytes) 3 (omega (arith, three, ap length e, length-take 3 bytes))

    to_the_form : (bytes : List ℕ) → length bytes ≤ FILE_BYTES → take 3 bytes ≡ letters → read_file bytes ≡ finish (length bytes) ((versioned f).read (drop 3 bytes))
    to_the_form bytes few e =
        let small = le-ltb FILE_BYTES (length bytes) few in
        rw (small, agreed bytes e, long_enough bytes e) refl

    file_is_read : (version : ℕ) (a : A) (bytes : List ℕ) → IsFile letters f version a bytes → read_file bytes ≡ Ok (version, a)
    file_is_read version a bytes s =
        to_the_form bytes s.few s.begins ∙ ap (finish (length bytes)) (read_spelled (versioned f) versioned_law (version, a) (drop 3 bytes) [] s.spells)

    fault_is_read : (bytes : List ℕ) (e : FileFault) → FirstFault letters f bytes e → read_file bytes ≡ Err e
    fault_is_read bytes e (too_long h) = rw (lt-ltb FILE_BYTES (length bytes) h) refl
    fault_is_read bytes e (bad_magic few h) = rw (le-ltb FILE_BYTES (length bytes) few, h) refl
    fault_is_read bytes e (ends h agree) = rw (le-ltb FILE_BYTES (length bytes) (omega (arith, h)), agree, lt-ltb (length bytes) 3 h) refl
    fault_is_read bytes e (field why few begins h) = to_the_form bytes few begins ∙ ap (finish (length bytes)) (versioned_law.broken (drop 3 bytes) why h)
    fault_is_read bytes e (trailing version a rest few begins s more) =
        to_the_form bytes few begins ∙ ap (finish (length bytes)) (read_spelled (versioned f) versioned_law (version, a) (drop 3 bytes) rest s)
        ∙ ap (λ b. cond b (Ok (version, a)) (Err (TrailingBytes (length bytes - length rest)))) (neq-zero (length rest) more)

    -- one first fault, and none where the bytes are a file
    pub one_first_fault : (bytes : List ℕ) (d e : FileFault) → FirstFault letters f bytes d → FirstFault letters f bytes e → d ≡ e
    one_first_fault bytes d e g h = let same : read_error d ≡ read_error e = sym (fault_is_read bytes d g) ∙ fault_is_read bytes e h in cc

    pub file_or_fault : (version : ℕ) (a : A) (bytes : List ℕ) (e : FileFault) → IsFile letters f version a bytes → FirstFault letters f bytes e → ⊥
    file_or_fault version a bytes e s h = let same : read_file bytes ≡ read_error e = fault_is_read bytes e h in let other = file_is_read version a bytes s in cc

  -- ---- what the code finds

  left_fits-at : (bytes : List ℕ) (why : Stopped) → AreBytes (drop 3 bytes) → (versioned f).read (drop 3 bytes) ≡ Err why → left_of why ≤ length bytes
  left_fits-at bytes why are e =
      let few = versioned_law.within (drop 3 bytes) why (versioned_law.stops (drop 3 bytes) why are e) in
      omega (arith, few, length-drop 3 bytes)

  pub left_fits : (bytes : List ℕ) (why : Stopped) → AreBytes bytes → (why ≢ stop.Memory → (versioned f).read (drop 3 bytes) ≡ Err why) → left_of why ≤ length bytes
  left_fits bytes stop.Cut are read = omega arith
  left_fits bytes (stop.Bad at n) are read = left_fits-at bytes (stop.Bad at n) (bytes-drop 3 bytes are) (read (λ e. absurd cc))
  left_fits bytes stop.Memory are read = omega arith

  field_found : (bytes : List ℕ) (why : Stopped) → AreBytes bytes → HasLetters letters bytes → (versioned f).read (drop 3 bytes) ≡ Err why → FirstFault letters f bytes (fault_of (length bytes) why)
  field_found bytes why are has e = field why has.0 has.1 (versioned_law.stops (drop 3 bytes) why (bytes-drop 3 bytes are) e)

  pub fault_found : (bytes : List ℕ) (why : Stopped) → AreBytes bytes → HasLetters letters bytes → (why ≢ stop.Memory → (versioned f).read (drop 3 bytes) ≡ Err why)
      → fault_of (length bytes) why ≢ Memory → FirstFault letters f bytes (fault_of (length bytes) why)
  fault_found bytes stop.Cut are has read other = field_found bytes stop.Cut are has (read (λ e. absurd cc))
  fault_found bytes (stop.Bad at n) are has read other = field_found bytes (stop.Bad at n) are has (read (λ e. absurd cc))
  fault_found bytes stop.Memory are has read other = absurd (other refl)

  pub trailing_found : (bytes : List ℕ) (version : ℕ) (a : A) (rest : List ℕ) → AreBytes bytes → HasLetters letters bytes
      → (versioned f).read (drop 3 bytes) ≡ Ok ((version, a), rest) → 0 < length rest → FirstFault letters f bytes (TrailingBytes (length bytes - length rest))
  trailing_found bytes version a rest are has e more = trailing version a rest has.0 has.1 (versioned_law.found (drop 3 bytes) (version, a) rest (bytes-drop 3 bytes are) e) more

  pub file_found : (bytes : List ℕ) (version : ℕ) (a : A) (rest : List ℕ) → AreBytes bytes → HasLetters letters bytes
      → (versioned f).read (drop 3 bytes) ≡ Ok ((version, a), rest) → rest ≡ [] → IsFile letters f version a bytes
  file_found bytes version a rest are has e none = record {
    few = has.0;
    begins = has.1;
    spells = versioned_law.found (drop 3 bytes) (version, a) [] (bytes-drop 3 bytes are) (e ∙ ap (λ (xs : List ℕ). Ok ((version, a), xs)) none);
  }

  pub rest_fits : (bytes : List ℕ) (x : ℕ × A) (rest : List ℕ) → AreBytes bytes → (versioned f).read (drop 3 bytes) ≡ Ok (x, rest) → length rest ≤ length bytes
  rest_fits bytes x rest are e =
      let s = versioned_law.found (drop 3 bytes) x rest (bytes-drop 3 bytes are) e in
      omega (arith, length-drop 3 bytes, ap length s.text, length-append ((versioned f).spell x) rest)

  pub opening_found : (bytes : List ℕ) (e : FileFault) → OpensFault letters bytes e → FirstFault letters f bytes e
  opening_found bytes TooLong h = too_long h
  opening_found bytes BadMagic h = bad_magic h.0 h.1
  opening_found bytes (Cut at) h = subst (λ n. FirstFault letters f bytes (Cut n)) (sym h.2) (ends h.0 h.1)
  opening_found bytes (BadField at which) h = absurd h
  opening_found bytes (TrailingBytes at) h = absurd h
  opening_found bytes Memory h = absurd h
