-- The laws of lists, each element in a form that those before it may narrow.
use Rattle.std.proofs.Common.{◌≡◌, ℕ, zero, suc, ◌≤◌, inl, inr, Bool, List, [], ◌∷◌, ◌++◌, length, Ok, Err, refl, sym, ap, subst, ◌∙◌, append_assoc, arith}
use Rattle.std.proofs.lemmas.List.{append-nil}
use Rattle.mesa_base.specs.declared.file_fault.Field.TheVariants.{Length}
use Rattle.file_forms.specs.declared.stopped.Stopped.{Stopped}
use Rattle.file_forms.specs.Forms.{Form, AreBytes, number, ruled, FitEach, spell_each, read_each, BreakEach, several, list}
use Rattle.file_forms.specs.Lawful.{Lawful}
use Rattle.file_forms.specs.Opening.{left_of}
use Rattle.file_forms.proofs.Steps.{bind_ok, bind_err, ok_is, never, spelled_behind, shorter, read_spelled}
use Rattle.file_forms.proofs.Fields.{number_law}
use Rattle.file_forms.proofs.Pairs.{led_law}
use Rattle.file_forms.proofs.Made.{ruled_law}

module _ {A : Type 0} (each : List A → Form A) (laws : (before : List A) → Lawful (each before)) where
  each_again : (before all : List A) (rest : List ℕ) → FitEach each before all → read_each each (length all) before (spell_each each before all ++ rest) ≡ Ok (before ++ all, rest)
  unfolding FitEach spell_each read_each
  each_again before [] rest fits = ap (λ (xs : List A). Ok (xs, rest)) (sym (append-nil before))
  each_again before (a ∷ all) rest fits =
      let first = (laws before).again a (spell_each each (before ++ a ∷ []) all ++ rest) fits.0 in
      rw (append_assoc ((each before).spell a) (spell_each each (before ++ a ∷ []) all) rest, first) (each_again (before ++ a ∷ []) all rest fits.1 ∙ ap (λ (xs : List A). Ok (xs, rest)) (append_assoc before (a ∷ []) all))

  record FoundEach (n : ℕ) (before all : List A) (bytes rest : List ℕ) : Type 0 where
    more : List A
    is : all ≡ before ++ more
    long : length more ≡ n
    fits : FitEach each before more
    text : bytes ≡ spell_each each before more ++ rest

  each_found : (n : ℕ) (before all : List A) (bytes rest : List ℕ) → AreBytes bytes → read_each each n before bytes ≡ Ok (all, rest) → FoundEach n before all bytes rest
  unfolding FitEach spell_each read_each
  each_found zero before all bytes rest are e =
      let same = ok_is (before, bytes) (all, rest) e in
      record { more = []; is = sym (ap (λ p. p.0) same) ∙ sym (append-nil before); long = refl; fits = tt; text = ap (λ p. p.1) same }
  each_found (suc n) before all bytes rest are e =
      let b = bind_ok ((each before).read bytes) (λ x. read_each each n (before ++ x.0 ∷ []) x.1) (all, rest) e in
      let s = (laws before).found bytes b.0.0 b.0.1 are b.1 in
      let t = each_found n (before ++ b.0.0 ∷ []) all b.0.1 rest (spelled_behind (each before) b.0.0 bytes b.0.1 s are) b.2 in
      record {
        more = b.0.0 ∷ t.more;
        is = t.is ∙ append_assoc before (b.0.0 ∷ []) t.more;
        long = ap suc t.long;
        fits = (s.fits, t.fits);
        text = s.text ∙ ap (λ (u : List ℕ). (each before).spell b.0.0 ++ u) t.text ∙ sym (append_assoc ((each before).spell b.0.0) (spell_each each (before ++ b.0.0 ∷ []) t.more) rest);
      }

  each_stops : (n : ℕ) (before : List A) (bytes : List ℕ) (why : Stopped) → AreBytes bytes → read_each each n before bytes ≡ Err why → BreakEach each n before bytes why
  unfolding read_each BreakEach
  each_stops zero before bytes why are e = never (before, bytes) why e
  each_stops (suc n) before bytes why are e =
      elim (bind_err ((each before).read bytes) (λ x. read_each each n (before ++ x.0 ∷ []) x.1) why e) [
        | inl h ↦ inl ((laws before).stops bytes why are h)
        | inr h ↦
            let s = (laws before).found bytes h.0.0 h.0.1 are h.1 in
            inr (h.0.0, h.0.1, s, each_stops n (before ++ h.0.0 ∷ []) h.0.1 why (spelled_behind (each before) h.0.0 bytes h.0.1 s are) h.2)
      ]

  each_broken : (n : ℕ) (before : List A) (bytes : List ℕ) (why : Stopped) → BreakEach each n before bytes why → read_each each n before bytes ≡ Err why
  unfolding read_each BreakEach
  each_broken zero before bytes why h = absurd h
  each_broken (suc n) before bytes why h =
      elim h [
        | inl b ↦ rw ((laws before).broken bytes why b) refl
        | inr p ↦ rw (read_spelled (each before) (laws before) p.0 bytes p.1 p.2) (each_broken n (before ++ p.0 ∷ []) p.1 why p.3)
      ]

  each_within : (n : ℕ) (before : List A) (bytes : List ℕ) (why : Stopped) → BreakEach each n before bytes why → left_of why ≤ length bytes
  unfolding BreakEach
  each_within zero before bytes why h = absurd h
  each_within (suc n) before bytes why h =
      elim h [
        | inl b ↦ (laws before).within bytes why b
        | inr p ↦ omega (arith, shorter (each before) p.0 bytes p.1 p.2, each_within n (before ++ p.0 ∷ []) p.1 why p.3)
      ]

  pub several_law : (n : ℕ) → Lawful (several n each)
  several_law n = record {
    again = λ all rest fits. subst (λ (k : ℕ). read_each each k [] (spell_each each [] all ++ rest) ≡ Ok (all, rest)) fits.0 (each_again [] all rest fits.1);
    found = λ bytes all rest are e.
        let t = each_found n [] all bytes rest are e in
        record {
          fits = (ap length t.is ∙ t.long, subst (FitEach each []) (sym t.is) t.fits);
          text = t.text ∙ ap (λ xs. spell_each each [] xs ++ rest) (sym t.is);
        };
    stops = each_stops n [];
    broken = each_broken n [];
    within = each_within n [];
  }

  pub list_law : (test : ℕ → Bool) → Lawful (list test each)
  list_law test =
      led_law length (ruled (number 4) test Length) (λ n. several n each) (ruled_law (number 4) test Length (number_law 4)) (λ n fits. several_law n) (λ n all few fits. fits.0)
