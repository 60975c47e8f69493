-- The laws of forms with a rule on the whole, of values made of parts, and of a choice between forms.
use Rattle.std.proofs.Common.{◌≡◌, ℕ, ◌≤◌, inl, inr, Bool, true, false, cond, List, ◌++◌, length, Option, Some, None, Result, Ok, Err, refl, sym, ap, subst, ◌∙◌, arith}
use Rattle.std.specs.Prelude.{IsSomeAnd}
use Rattle.mesa_base.specs.declared.file_fault.Field.{Field}
use Rattle.file_forms.specs.declared.stopped.Stopped.{Stopped}
use Rattle.file_forms.specs.declared.stopped.Stopped.TheVariants.{Bad}
use Rattle.file_forms.specs.Forms.{◌>>=◌, Form, Spells, AreBytes, ruled, built, spell_some, variant, choose}
use Rattle.file_forms.specs.Lawful.{Lawful}
use Rattle.file_forms.specs.Opening.{left_of}
use Rattle.file_forms.proofs.Steps.{bind_ok, bind_err, tested, ok_is, err_is, never, never_err, read_spelled}

module _ {A : Type 0} (f : Form A) (test : A → Bool) (field : Field) (law : Lawful f) where
  abbrev judged : ℕ → A × List ℕ → Result (A × List ℕ) Stopped
  judged n x = cond (test x.0) (Ok x) (Err (Bad field n))

  pub ruled_law : Lawful (ruled f test field)
  ruled_law = record {
    again = again;
    found = found;
    stops = stops;
    broken = broken;
    within = within;
  }
    where
      again : (a : A) (rest : List ℕ) → (ruled f test field).fits a → (ruled f test field).read (f.spell a ++ rest) ≡ Ok (a, rest)
      again a rest fits = rw (law.again a rest fits.0, fits.1) refl

      found : (bytes : List ℕ) (a : A) (rest : List ℕ) → AreBytes bytes → (ruled f test field).read bytes ≡ Ok (a, rest) → Spells (ruled f test field) a bytes rest
      found bytes a rest are e =
          let b = bind_ok (f.read bytes) (judged (length bytes)) (a, rest) e in
          elim (tested (test b.0.0) (Ok b.0) (Err (Bad field (length bytes))) (Ok (a, rest)) b.2) [
            | inl h ↦
                let same = ok_is b.0 (a, rest) h.1 in
                let s = law.found bytes b.0.0 b.0.1 are b.1 in
                let whole : Spells (ruled f test field) b.0.0 bytes b.0.1 = record { fits = (s.fits, h.0); text = s.text } in
                subst (λ (p : A × List ℕ). Spells (ruled f test field) p.0 bytes p.1) same whole
            | inr h ↦ never_err (Bad field (length bytes)) (a, rest) h.1
          ]

      stops : (bytes : List ℕ) (why : Stopped) → AreBytes bytes → (ruled f test field).read bytes ≡ Err why → (ruled f test field).breaks bytes why
      stops bytes why are e =
          elim (bind_err (f.read bytes) (judged (length bytes)) why e) [
            | inl h ↦ inl (law.stops bytes why are h)
            | inr h ↦ elim (tested (test h.0.0) (Ok h.0) (Err (Bad field (length bytes))) (Err why) h.2) [
              | inl d ↦ never h.0 why d.1
              | inr d ↦ inr (h.0.0, h.0.1, law.found bytes h.0.0 h.0.1 are h.1, (d.0, sym (err_is (Bad field (length bytes)) why d.1)))
            ]
          ]

      broken : (bytes : List ℕ) (why : Stopped) → (ruled f test field).breaks bytes why → (ruled f test field).read bytes ≡ Err why
      broken bytes why h =
          elim h [
            | inl b ↦ rw (law.broken bytes why b) refl
            | inr p ↦ rw (read_spelled f law p.0 bytes p.1 p.2, p.3.0, p.3.1) refl
          ]

      within : (bytes : List ℕ) (why : Stopped) → (ruled f test field).breaks bytes why → left_of why ≤ length bytes
      within bytes why h =
          elim h [
            | inl b ↦ law.within bytes why b
            | inr p ↦ rw p.3.1 (omega arith)
          ]

module _ {A B : Type 0} (make : A → B) (f : Form A) (law : Lawful f) where
  abbrev remade : A × List ℕ → Result (B × List ℕ) Stopped
  remade x = Ok (make x.0, x.1)

  made_stops : (bytes : List ℕ) (why : Stopped) → AreBytes bytes → (f.read bytes >>= remade) ≡ Err why → f.breaks bytes why
  made_stops bytes why are e =
      elim (bind_err (f.read bytes) remade why e) [
        | inl h ↦ law.stops bytes why are h
        | inr h ↦ never (make h.0.0, h.0.1) why h.2
      ]

  made_broken : (bytes : List ℕ) (why : Stopped) → f.breaks bytes why → (f.read bytes >>= remade) ≡ Err why
  made_broken bytes why h = rw (law.broken bytes why h) refl

  pub built_law : (parts : B → A) → ((a : A) → f.fits a → parts (make a) ≡ a) → ((b : B) → make (parts b) ≡ b) → Lawful (built make parts f)
  built_law parts back forth = record {
    again = again;
    found = found;
    stops = made_stops;
    broken = made_broken;
    within = law.within;
  }
    where
      again : (b : B) (rest : List ℕ) → f.fits (parts b) → (built make parts f).read (f.spell (parts b) ++ rest) ≡ Ok (b, rest)
      again b rest fits = rw (law.again (parts b) rest fits) (ap (λ c. Ok (c, rest)) (forth b))

      found : (bytes : List ℕ) (b : B) (rest : List ℕ) → AreBytes bytes → (built make parts f).read bytes ≡ Ok (b, rest) → Spells (built make parts f) b bytes rest
      found bytes b rest are e =
          let p = bind_ok (f.read bytes) remade (b, rest) e in
          let s = law.found bytes p.0.0 p.0.1 are p.1 in
          let same = ok_is (make p.0.0, p.0.1) (b, rest) p.2 in
          let is = back p.0.0 s.fits in
          let whole : Spells (built make parts f) (make p.0.0) bytes p.0.1 = record {
            fits = subst f.fits (sym is) s.fits;
            text = s.text ∙ ap (λ a. f.spell a ++ p.0.1) (sym is);
          } in
          subst (λ (q : B × List ℕ). Spells (built make parts f) q.0 bytes q.1) same whole

  pub variant_law : (parts : B → Option A) → ((a : A) → f.fits a → parts (make a) ≡ Some a) → ((b : B) (a : A) → parts b ≡ Some a → b ≡ make a) → Lawful (variant make parts f)
  variant_law parts back forth = record {
    again = λ b rest fits. again b (parts b) refl rest fits;
    found = found;
    stops = made_stops;
    broken = made_broken;
    within = law.within;
  }
    where
      again : (b : B) (o : Option A) → parts b ≡ o → (rest : List ℕ) → IsSomeAnd o f.fits → (variant make parts f).read (spell_some f o ++ rest) ≡ Ok (b, rest)
      again b None is rest fits = absurd fits
      again b (Some a) is rest fits = rw (law.again a rest fits) (ap (λ c. Ok (c, rest)) (sym (forth b a is)))

      found : (bytes : List ℕ) (b : B) (rest : List ℕ) → AreBytes bytes → (variant make parts f).read bytes ≡ Ok (b, rest) → Spells (variant make parts f) b bytes rest
      found bytes b rest are e =
          let p = bind_ok (f.read bytes) remade (b, rest) e in
          let s = law.found bytes p.0.0 p.0.1 are p.1 in
          let same = ok_is (make p.0.0, p.0.1) (b, rest) p.2 in
          let is = back p.0.0 s.fits in
          let whole : Spells (variant make parts f) (make p.0.0) bytes p.0.1 = record {
            fits = subst (λ o. IsSomeAnd o f.fits) (sym is) s.fits;
            text = s.text ∙ ap (λ o. spell_some f o ++ p.0.1) (sym is);
          } in
          subst (λ (q : B × List ℕ). Spells (variant make parts f) q.0 bytes q.1) same whole

pub choose_law : {A : Type 0} (b : Bool) (f g : Form A) → (b ≡ true → Lawful f) → (b ≡ false → Lawful g) → Lawful (choose b f g)
choose_law true f g first second = first refl
choose_law false f g first second = second refl
