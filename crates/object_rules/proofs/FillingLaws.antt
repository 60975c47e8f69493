-- The laws of elements that fill so many bytes.
use Rattle.std.proofs.Common.{◌≡◌, ℕ, zero, suc, ◌-◌, ◌<◌, ◌≤◌, inl, inr, List, [], ◌∷◌, ◌++◌, length, Ok, Err, refl, sym, ap, subst, ◌∙◌, append_assoc, arith}
use Rattle.std.proofs.lemmas.List.{append-nil}
use Rattle.file_forms.specs.declared.stopped.Stopped.{Stopped}
use Rattle.file_forms.specs.Forms.{Form, AreBytes}
use Rattle.file_forms.specs.Lawful.{Lawful}
use Rattle.file_forms.specs.Opening.{left_of}
use Rattle.file_forms.proofs.Steps.{bind_ok, bind_err, ok_is, never, spelled_behind, shorter, read_spelled}
use Rattle.object_rules.specs.Filling.{FitFull, spell_full, read_full, BreakFull, filling, size_of_all}

module _ {A : Type 0} (size : A → ℕ) (each : ℕ → Form A) (laws : (left : ℕ) → Lawful (each left))
    (sized : (left : ℕ) (a : A) → (each left).fits a → (0 < size a) × (size a ≤ left)) where
  -- the elements that fit have the bytes that are left
  pub full_size : (left : ℕ) (all : List A) → FitFull size each left all → size_of_all size all ≡ left
  unfolding FitFull size_of_all
  full_size left [] fits = sym fits
  full_size left (a ∷ all) fits = omega (arith, sized left a fits.1, full_size (left - size a) all fits.2)

  full_again : (n left : ℕ) (before all : List A) (rest : List ℕ) → left ≤ n → FitFull size each left all
      → read_full size each n left before (spell_full size each left all ++ rest) ≡ Ok (before ++ all, rest)
  unfolding FitFull spell_full read_full
  full_again zero left before [] rest few fits = ap (λ (xs : List A). Ok (xs, rest)) (sym (append-nil before))
  full_again zero left before (a ∷ all) rest few fits = absurd (omega (arith, few, fits.0))
  full_again (suc n) zero before [] rest few fits = ap (λ (xs : List A). Ok (xs, rest)) (sym (append-nil before))
  full_again (suc n) zero before (a ∷ all) rest few fits = absurd (omega (arith, fits.0))
  full_again (suc n) (suc left) before [] rest few fits = absurd (omega (arith, fits))
  full_again (suc n) (suc left) before (a ∷ all) rest few fits =
      let less = suc left - size a in
      let first = (laws (suc left)).again a (spell_full size each less all ++ rest) fits.1 in
      rw (append_assoc ((each (suc left)).spell a) (spell_full size each less all) rest, first)
      (full_again n less (before ++ a ∷ []) all rest (omega (arith, few, sized (suc left) a fits.1)) fits.2 ∙ ap (λ (xs : List A). Ok (xs, rest)) (append_assoc before (a ∷ []) all))

  record FoundFull (left : ℕ) (before all : List A) (bytes rest : List ℕ) : Type 0 where
    more : List A
    is : all ≡ before ++ more
    fits : FitFull size each left more
    text : bytes ≡ spell_full size each left more ++ rest

  full_found : (n left : ℕ) (before all : List A) (bytes rest : List ℕ) → left ≤ n → AreBytes bytes → read_full size each n left before bytes ≡ Ok (all, rest)
      → FoundFull left before all bytes rest
  unfolding FitFull spell_full read_full
  full_found zero left before all bytes rest few are e =
      let same = ok_is (before, bytes) (all, rest) e in
      record { more = []; is = sym (ap (λ p. p.0) same) ∙ sym (append-nil before); fits = omega (arith, few); text = ap (λ p. p.1) same }
  full_found (suc n) zero before all bytes rest few are e =
      let same = ok_is (before, bytes) (all, rest) e in
      record { more = []; is = sym (ap (λ p. p.0) same) ∙ sym (append-nil before); fits = refl; text = ap (λ p. p.1) same }
  full_found (suc n) (suc left) before all bytes rest few are e =
      let b = bind_ok ((each (suc left)).read bytes) (λ x. read_full size each n (suc left - size x.0) (before ++ x.0 ∷ []) x.1) (all, rest) e in
      let s = (laws (suc left)).found bytes b.0.0 b.0.1 are b.1 in
      let less = suc left - size b.0.0 in
      let t = full_found n less (before ++ b.0.0 ∷ []) all b.0.1 rest (omega (arith, few, sized (suc left) b.0.0 s.fits)) (spelled_behind (each (suc left)) b.0.0 bytes b.0.1 s are) b.2 in
      record {
        more = b.0.0 ∷ t.more;
        is = t.is ∙ append_assoc before (b.0.0 ∷ []) t.more;
        fits = (omega arith, s.fits, t.fits);
        text = s.text ∙ ap (λ (u : List ℕ). (each (suc left)).spell b.0.0 ++ u) t.text ∙ sym (append_assoc ((each (suc left)).spell b.0.0) (spell_full size each less t.more) rest);
      }

  full_stops : (n left : ℕ) (before : List A) (bytes : List ℕ) (why : Stopped) → AreBytes bytes → read_full size each n left before bytes ≡ Err why → BreakFull size each n left bytes why
  unfolding read_full BreakFull
  full_stops zero left before bytes why are e = never (before, bytes) why e
  full_stops (suc n) zero before bytes why are e = never (before, bytes) why e
  full_stops (suc n) (suc left) before bytes why are e =
      elim (bind_err ((each (suc left)).read bytes) (λ x. read_full size each n (suc left - size x.0) (before ++ x.0 ∷ []) x.1) why e) [
        | inl h ↦ inl ((laws (suc left)).stops bytes why are h)
        | inr h ↦
            let s = (laws (suc left)).found bytes h.0.0 h.0.1 are h.1 in
            inr (h.0.0, h.0.1, s, full_stops n (suc left - size h.0.0) (before ++ h.0.0 ∷ []) h.0.1 why (spelled_behind (each (suc left)) h.0.0 bytes h.0.1 s are) h.2)
      ]

  full_broken : (n left : ℕ) (before : List A) (bytes : List ℕ) (why : Stopped) → BreakFull size each n left bytes why → read_full size each n left before bytes ≡ Err why
  unfolding read_full BreakFull
  full_broken zero left before bytes why h = absurd h
  full_broken (suc n) zero before bytes why h = absurd h
  full_broken (suc n) (suc left) before bytes why h =
      elim h [
        | inl b ↦ rw ((laws (suc left)).broken bytes why b) refl
        | inr p ↦ rw (read_spelled (each (suc left)) (laws (suc left)) p.0 bytes p.1 p.2) (full_broken n (suc left - size p.0) (before ++ p.0 ∷ []) p.1 why p.3)
      ]

  full_within : (n left : ℕ) (bytes : List ℕ) (why : Stopped) → BreakFull size each n left bytes why → left_of why ≤ length bytes
  unfolding BreakFull
  full_within zero left bytes why h = absurd h
  full_within (suc n) zero bytes why h = absurd h
  full_within (suc n) (suc left) bytes why h =
      elim h [
        | inl b ↦ (laws (suc left)).within bytes why b
        | inr p ↦ omega (arith, shorter (each (suc left)) p.0 bytes p.1 p.2, full_within n (suc left - size p.0) p.1 why p.3)
      ]

  pub filling_law : (n : ℕ) → Lawful (filling size each n)
  filling_law n = record {
    again = λ all rest fits. full_again n n [] all rest (omega arith) fits;
    found = λ bytes all rest are e.
        let t = full_found n n [] all bytes rest (omega arith) are e in
        record {
          fits = subst (FitFull size each n) (sym t.is) t.fits;
          text = t.text ∙ ap (λ xs. spell_full size each n xs ++ rest) (sym t.is);
        };
    stops = full_stops n n [];
    broken = full_broken n n [];
    within = full_within n n;
  }
