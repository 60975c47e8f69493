-- Elements until so many bytes are full, each in a form that is told how many are left (rule of this project).
use Rattle.std.specs.Prelude.{◌≡◌, ℕ, zero, suc, ◌+◌, ◌-◌, ◌<◌, ◌⊎◌, List, [], ◌∷◌, ◌++◌, Ok}
use Rattle.file_forms.specs.declared.stopped.Stopped.{Stopped}
use Rattle.file_forms.specs.Forms.{Form, Reading, ◌>>=◌, Past}

-- `size` says how many bytes an element takes; each takes one at least
module _ {A : Type 0} (size : A → ℕ) (each : ℕ → Form A) where
  unfoldable pub FitFull : ℕ → List A → Type 0
  FitFull left [] = left ≡ 0
  FitFull left (a ∷ more) = (0 < left) × (each left).fits a × FitFull (left - size a) more

  unfoldable pub spell_full : ℕ → List A → List ℕ
  spell_full left [] = []
  spell_full left (a ∷ more) = (each left).spell a ++ spell_full (left - size a) more

  -- so many elements at most, for so many bytes that are left, behind those before
  unfoldable pub read_full : (steps left : ℕ) → List A → List ℕ → Reading (List A)
  read_full zero left before bytes = Ok (before, bytes)
  read_full (suc n) zero before bytes = Ok (before, bytes)
  read_full (suc n) (suc left) before bytes = (each (suc left)).read bytes >>= λ x. read_full n (suc left - size x.0) (before ++ x.0 ∷ []) x.1

  unfoldable pub BreakFull : (steps left : ℕ) → List ℕ → Stopped → Type 0
  BreakFull zero left bytes why = ⊥
  BreakFull (suc n) zero bytes why = ⊥
  BreakFull (suc n) (suc left) bytes why = (each (suc left)).breaks bytes why ⊎ Past (each (suc left)) bytes (λ a rest. BreakFull n (suc left - size a) rest why)

  abbrev pub filling : ℕ → Form (List A)
  filling n = record {
    fits = FitFull n;
    spell = spell_full n;
    read = λ bytes. read_full n n [] bytes;
    breaks = λ bytes why. BreakFull n n bytes why;
  }

-- the bytes of all
unfoldable pub size_of_all : {A : Type 0} → (A → ℕ) → List A → ℕ
size_of_all size [] = 0
size_of_all size (a ∷ all) = size a + size_of_all size all
