-- Lists each of whose elements fits a form.
use Rattle.std.proofs.Common.{◌≡◌, ℕ, zero, suc, List, [], ◌∷◌, ◌++◌, map, Some, subst, arith}
use Rattle.std.specs.Prelude.{All, slice_get}
use Rattle.file_forms.specs.Forms.{Form, FitEach}

pub all_fit : {A : Type 0} (P : A → Type 0) (each : List A → Form A) → ((before : List A) (a : A) → (each before).fits a → P a) → (before all : List A) → FitEach each before all → All P all
unfolding FitEach
all_fit P each fit before [] fits k d less = absurd (omega (arith, less))
all_fit P each fit before (a ∷ all) fits zero d less = fit before a fits.0
all_fit P each fit before (a ∷ all) fits (suc k) d less = all_fit P each fit (before ++ a ∷ []) all fits.1 k d (omega (arith, less))

pub all_mapped : {A B : Type 0} (P : B → Type 0) (f : A → B) (all : List A) → All (λ a. P (f a)) all → All P (map f all)
all_mapped P f [] h k d less = absurd (omega (arith, less))
all_mapped P f (a ∷ all) h zero d less = h zero a (omega arith)
all_mapped P f (a ∷ all) h (suc k) d less = all_mapped P f all (λ n e few. h (suc n) e (omega (arith, few))) k d (omega (arith, less))

pub there : {A : Type 0} (P : A → Type 0) (all : List A) (k : ℕ) (a : A) → All P all → slice_get all k ≡ Some a → P a
there P [] k a h is = absurd cc
there P (x ∷ all) zero a h is = let same : x ≡ a = cc in subst P same (h zero x (omega arith))
there P (x ∷ all) (suc k) a h is = there P all k a (λ n e few. h (suc n) e (omega (arith, few))) is
