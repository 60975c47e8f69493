-- The laws of fields: numbers, bytes as they are, what takes no bytes.
use Rattle.std.proofs.Common.{◌≡◌, ℕ, ◌^◌, ◌<◌, ◌≤◌, inl, inr, cond, ltb, List, ◌++◌, length, take, drop, Ok, Err, refl, sym, ap, subst, ◌∙◌, arith}
use Rattle.std.proofs.lemmas.Bool.{ltb-false, ltb-true, le-ltb, lt-ltb}
use Rattle.std.proofs.lemmas.List.{take_at, drop_at, take-append-drop, length-append, length-take}
use Rattle.std.specs.Int.{bytes_high_first}
use Rattle.file_forms.specs.declared.stopped.Stopped.{Stopped}
use Rattle.file_forms.specs.declared.stopped.Stopped.TheVariants.{Cut}
use Rattle.file_forms.specs.Forms.{Spells, AreBytes, IsShort, number_in, number, raw, always}
use Rattle.file_forms.specs.Lawful.{Lawful}
use Rattle.file_forms.specs.Opening.{left_of}
use Rattle.file_forms.proofs.Numbers.{bytes-take, length-number, number-again, number-below, number-bytes}
use Rattle.file_forms.proofs.Steps.{tested, ok_is, err_is, never, never_err}

short_stops : {A : Type 0} (size : ℕ) (bytes : List ℕ) (x : A) (why : Stopped) → cond (ltb (length bytes) size) (Err Cut) (Ok x) ≡ Err why → IsShort size bytes why
short_stops size bytes x why e =
    elim (tested (ltb (length bytes) size) (Err Cut) (Ok x) (Err why) e) [
      | inl h ↦ (ltb-true _ _ h.0, sym (err_is Cut why h.1))
      | inr h ↦ never x why h.1
    ]

short_broken : {A : Type 0} (size : ℕ) (bytes : List ℕ) (x : A) (why : Stopped) → IsShort size bytes why → cond (ltb (length bytes) size) (Err Cut) (Ok x) ≡ Err why
short_broken size bytes x why h = rw (lt-ltb _ _ h.0, h.1) refl

short_within : (size : ℕ) (bytes : List ℕ) (why : Stopped) → IsShort size bytes why → left_of why ≤ length bytes
short_within size bytes why h = rw h.1 (omega arith)

pub number_law : (size : ℕ) → Lawful (number size)
number_law size = record {
  again = λ n rest fits. again n rest fits;
  found = λ bytes n rest are e. found bytes n rest are e;
  stops = λ bytes why are e. short_stops size bytes (number_in (take size bytes), drop size bytes) why e;
  broken = λ bytes why h. short_broken size bytes (number_in (take size bytes), drop size bytes) why h;
  within = short_within size;
}
  where
    again : (n : ℕ) (rest : List ℕ) → n < 256 ^ size → (number size).read ((number size).spell n ++ rest) ≡ Ok (n, rest)
    again n rest fits =
        let len = length-number size n in
        let long = le-ltb (length ((number size).spell n ++ rest)) size (omega (arith, length-append ((number size).spell n) rest)) in
        rw (long, take_at ((number size).spell n) rest size len, drop_at ((number size).spell n) rest size len, number-again size n fits) refl

    found : (bytes : List ℕ) (n : ℕ) (rest : List ℕ) → AreBytes bytes → (number size).read bytes ≡ Ok (n, rest) → Spells (number size) n bytes rest
    found bytes n rest are e =
        elim (tested (ltb (length bytes) size) (Err Cut) (Ok (number_in (take size bytes), drop size bytes)) (Ok (n, rest)) e) [
          | inl h ↦ never_err Cut (n, rest) h.1
          | inr h ↦
              let long : size ≤ length bytes = ltb-false _ _ h.0 in
              let len : length (take size bytes) ≡ size = omega (arith, length-take size bytes) in
              let few = bytes-take size bytes are in
              let same = ok_is (number_in (take size bytes), drop size bytes) (n, rest) h.1 in
              let whole : Spells (number size) (number_in (take size bytes)) bytes (drop size bytes) = record {
                fits = subst (λ (k : ℕ). number_in (take size bytes) < 256 ^ k) len (number-below (take size bytes) few);
                text = sym (take-append-drop size bytes) ∙ ap (λ (t : List ℕ). t ++ drop size bytes) (sym (spelled (take size bytes) len few));
              } in
              subst (λ (p : ℕ × List ℕ). Spells (number size) p.0 bytes p.1) same whole
        ]
      where
        spelled : (text : List ℕ) → length text ≡ size → AreBytes text → (number size).spell (number_in text) ≡ text
        spelled text len few = subst (λ (k : ℕ). bytes_high_first k (number_in text) ≡ text) len (number-bytes text few)

pub raw_law : (size : ℕ) → Lawful (raw size)
raw_law size = record {
  again = λ text rest fits. again text rest fits.0;
  found = λ bytes text rest are e. found bytes text rest are e;
  stops = λ bytes why are e. short_stops size bytes (take size bytes, drop size bytes) why e;
  broken = λ bytes why h. short_broken size bytes (take size bytes, drop size bytes) why h;
  within = short_within size;
}
  where
    again : (text rest : List ℕ) → length text ≡ size → (raw size).read (text ++ rest) ≡ Ok (text, rest)
    again text rest len =
        let long = le-ltb (length (text ++ rest)) size (omega (arith, length-append text rest)) in
        rw (long, take_at text rest size len, drop_at text rest size len) refl

    found : (bytes text rest : List ℕ) → AreBytes bytes → (raw size).read bytes ≡ Ok (text, rest) → Spells (raw size) text bytes rest
    found bytes text rest are e =
        elim (tested (ltb (length bytes) size) (Err Cut) (Ok (take size bytes, drop size bytes)) (Ok (text, rest)) e) [
          | inl h ↦ never_err Cut (text, rest) h.1
          | inr h ↦
              let long : size ≤ length bytes = ltb-false _ _ h.0 in
              let same = ok_is (take size bytes, drop size bytes) (text, rest) h.1 in
              let whole : Spells (raw size) (take size bytes) bytes (drop size bytes) = record {
                fits = (omega (arith, length-take size bytes), bytes-take size bytes are);
                text = sym (take-append-drop size bytes);
              } in
              subst (λ (p : List ℕ × List ℕ). Spells (raw size) p.0 bytes p.1) same whole
        ]

pub always_law : {A : Type 0} (x : A) → Lawful (always x)
always_law x = record {
  again = λ a rest fits. ap (λ y. Ok (y, rest)) (sym fits);
  found = λ bytes a rest are e.
      let same = ok_is (x, bytes) (a, rest) e in
      record { fits = sym (ap (λ p. p.0) same); text = ap (λ p. p.1) same };
  stops = λ bytes why are e. never (x, bytes) why e;
  broken = λ bytes why h. absurd h;
  within = λ bytes why h. absurd h;
}
