-- The laws of a form behind another, which the first may tell.
use Rattle.std.proofs.Common.{◌≡◌, ℕ, ◌≤◌, inl, inr, List, ◌++◌, length, Result, Ok, Err, refl, sym, ap, subst, ◌∙◌, append_assoc, arith}
use Rattle.file_forms.specs.declared.stopped.Stopped.{Stopped}
use Rattle.file_forms.specs.Forms.{◌>>=◌, Form, Spells, Past, AreBytes, pair, led}
use Rattle.file_forms.specs.Lawful.{Lawful}
use Rattle.file_forms.specs.Opening.{left_of}
use Rattle.file_forms.proofs.Steps.{bind_ok, bind_err, ok_is, never, spelled_behind, shorter, read_spelled}

module _ {A B : Type 0} (f : Form A) (g : A → Form B) (law : Lawful f) (laws : (a : A) → f.fits a → Lawful (g a)) where
  past_stops : (bytes : List ℕ) (why : Stopped) (a : A) (rest : List ℕ) → AreBytes bytes → f.read bytes ≡ Ok (a, rest) → (g a).read rest ≡ Err why → Past f bytes (λ a rest. (g a).breaks rest why)
  past_stops bytes why a rest are e d =
      let s = law.found bytes a rest are e in
      (a, rest, s, (laws a s.fits).stops rest why (spelled_behind f a bytes rest s are) d)

  past_within : (bytes : List ℕ) (why : Stopped) → Past f bytes (λ a rest. (g a).breaks rest why) → left_of why ≤ length bytes
  past_within bytes why h = omega (arith, shorter f h.0 bytes h.1 h.2, (laws h.0 h.2.fits).within h.1 why h.3)

  pub pair_law : Lawful (pair f g)
  pair_law = record {
    again = again;
    found = found;
    stops = stops;
    broken = broken;
    within = λ bytes why h. elim h [ inl b ↦ law.within bytes why b | inr p ↦ past_within bytes why p ];
  }
    where
      second : (a : A) (rest : List ℕ) → Result ((A × B) × List ℕ) Stopped
      second a rest = (g a).read rest >>= λ y. Ok ((a, y.0), y.1)

      again : (p : A × B) (rest : List ℕ) → (pair f g).fits p → (pair f g).read ((pair f g).spell p ++ rest) ≡ Ok (p, rest)
      again p rest fits =
          let first = law.again p.0 ((g p.0).spell p.1 ++ rest) fits.0 in
          let next = (laws p.0 fits.0).again p.1 rest fits.1 in
          rw (append_assoc (f.spell p.0) ((g p.0).spell p.1) rest, first, next) refl

      found : (bytes : List ℕ) (p : A × B) (rest : List ℕ) → AreBytes bytes → (pair f g).read bytes ≡ Ok (p, rest) → Spells (pair f g) p bytes rest
      found bytes p rest are e =
          let b = bind_ok (f.read bytes) (λ x. (g x.0).read x.1 >>= λ y. Ok ((x.0, y.0), y.1)) (p, rest) e in
          let s = law.found bytes b.0.0 b.0.1 are b.1 in
          let c = bind_ok ((g b.0.0).read b.0.1) (λ y. Ok ((b.0.0, y.0), y.1)) (p, rest) b.2 in
          let t = (laws b.0.0 s.fits).found b.0.1 c.0.0 c.0.1 (spelled_behind f b.0.0 bytes b.0.1 s are) c.1 in
          let same = ok_is ((b.0.0, c.0.0), c.0.1) (p, rest) c.2 in
          let whole : Spells (pair f g) (b.0.0, c.0.0) bytes c.0.1 = record {
            fits = (s.fits, t.fits);
            text = s.text ∙ ap (λ (u : List ℕ). f.spell b.0.0 ++ u) t.text ∙ sym (append_assoc (f.spell b.0.0) ((g b.0.0).spell c.0.0) c.0.1);
          } in
          subst (λ (q : (A × B) × List ℕ). Spells (pair f g) q.0 bytes q.1) same whole

      stops : (bytes : List ℕ) (why : Stopped) → AreBytes bytes → (pair f g).read bytes ≡ Err why → (pair f g).breaks bytes why
      stops bytes why are e =
          elim (bind_err (f.read bytes) (λ x. (g x.0).read x.1 >>= λ y. Ok ((x.0, y.0), y.1)) why e) [
            | inl h ↦ inl (law.stops bytes why are h)
            | inr h ↦ elim (bind_err ((g h.0.0).read h.0.1) (λ y. Ok ((h.0.0, y.0), y.1)) why h.2) [
              | inl d ↦ inr (past_stops bytes why h.0.0 h.0.1 are h.1 d)
              | inr d ↦ never ((h.0.0, d.0.0), d.0.1) why d.2
            ]
          ]

      broken : (bytes : List ℕ) (why : Stopped) → (pair f g).breaks bytes why → (pair f g).read bytes ≡ Err why
      broken bytes why h =
          elim h [
            | inl b ↦ rw (law.broken bytes why b) refl
            | inr p ↦ rw (read_spelled f law p.0 bytes p.1 p.2, (laws p.0 p.2.fits).broken p.1 why p.3) refl
          ]

module _ {A B : Type 0} (tells : B → A) (f : Form A) (g : A → Form B) (law : Lawful f) (laws : (a : A) → f.fits a → Lawful (g a))
    (told : (a : A) (b : B) → f.fits a → (g a).fits b → tells b ≡ a) where
  pub led_law : Lawful (led tells f g)
  led_law = record {
    again = again;
    found = found;
    stops = stops;
    broken = broken;
    within = λ bytes why h. elim h [ inl b ↦ law.within bytes why b | inr p ↦ past_within f g law laws bytes why p ];
  }
    where
      again : (b : B) (rest : List ℕ) → (led tells f g).fits b → (led tells f g).read ((led tells f g).spell b ++ rest) ≡ Ok (b, rest)
      again b rest fits =
          let first = law.again (tells b) ((g (tells b)).spell b ++ rest) fits.0 in
          let next = (laws (tells b) fits.0).again b rest fits.1 in
          rw (append_assoc (f.spell (tells b)) ((g (tells b)).spell b) rest, first, next) refl

      found : (bytes : List ℕ) (b : B) (rest : List ℕ) → AreBytes bytes → (led tells f g).read bytes ≡ Ok (b, rest) → Spells (led tells f g) b bytes rest
      found bytes b rest are e =
          let p = bind_ok (f.read bytes) (λ x. (g x.0).read x.1) (b, rest) e in
          let s = law.found bytes p.0.0 p.0.1 are p.1 in
          let t = (laws p.0.0 s.fits).found p.0.1 b rest (spelled_behind f p.0.0 bytes p.0.1 s are) p.2 in
          let is = told p.0.0 b s.fits t.fits in
          let at : A → Type 0 = λ a. f.fits a × (g a).fits b in
          let whole : A → Type 0 = λ a. bytes ≡ (f.spell a ++ (g a).spell b) ++ rest in
          record {
            fits = subst at (sym is) (s.fits, t.fits);
            text = subst whole (sym is) (s.text ∙ ap (λ (u : List ℕ). f.spell p.0.0 ++ u) t.text ∙ sym (append_assoc (f.spell p.0.0) ((g p.0.0).spell b) rest));
          }

      stops : (bytes : List ℕ) (why : Stopped) → AreBytes bytes → (led tells f g).read bytes ≡ Err why → (led tells f g).breaks bytes why
      stops bytes why are e =
          elim (bind_err (f.read bytes) (λ x. (g x.0).read x.1) why e) [
            | inl h ↦ inl (law.stops bytes why are h)
            | inr h ↦ inr (past_stops f g law laws bytes why h.0.0 h.0.1 are h.1 h.2)
          ]

      broken : (bytes : List ℕ) (why : Stopped) → (led tells f g).breaks bytes why → (led tells f g).read bytes ≡ Err why
      broken bytes why h =
          elim h [
            | inl b ↦ rw (law.broken bytes why b) refl
            | inr p ↦ rw (read_spelled f law p.0 bytes p.1 p.2) ((laws p.0 p.2.fits).broken p.1 why p.3)
          ]
