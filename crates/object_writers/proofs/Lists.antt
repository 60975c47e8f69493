-- Lists of parts are spelled part by part.
use Rattle.std.proofs.Common.{◌≡◌, ℕ, zero, suc, ◌+◌, ◌<◌, Bool, List, [], ◌∷◌, ◌++◌, length, map, take, get_or, add-one, refl, ap, ◌∙◌, arith}
use Rattle.std.specs.Prelude.{All}
use Rattle.std.proofs.lemmas.List.{length-map}
use Rattle.std.proofs.Math.Seq.{take-suc}
use Rattle.file_forms.specs.Forms.{Form, list, spell_each}
use Rattle.object_writers.specs.Spelling.{spell_all, spell_list, u32_bytes}

-- each part as its form sees it
module _ {A B : Type 0} (view : A → B) (each : List B → Form B) (s : A → List ℕ) (alike : (before : List B) (a : A) → (each before).spell (view a) ≡ s a) where
  pub each_view_spelled : (before : List B) (all : List A) → spell_each each before (map view all) ≡ spell_all s all
  unfolding spell_each spell_all
  each_view_spelled before [] = refl
  each_view_spelled before (a ∷ all) =
      ap (λ (t : List ℕ). t ++ spell_each each (before ++ view a ∷ []) (map view all)) (alike before a) ∙ ap (λ (t : List ℕ). s a ++ t) (each_view_spelled (before ++ view a ∷ []) all)

  pub list_view_spelled : (test : ℕ → Bool) (all : List A) → (list test each).spell (map view all) ≡ spell_list s all
  list_view_spelled test all =
      ap (λ n. u32_bytes n ++ spell_each each [] (map view all)) (length-map all view) ∙ ap (λ (t : List ℕ). u32_bytes (length all) ++ t) (each_view_spelled [] all)

module _ {A : Type 0} (each : List A → Form A) (s : A → List ℕ) (alike : (before : List A) (a : A) → (each before).spell a ≡ s a) where
  pub each_spelled : (before all : List A) → spell_each each before all ≡ spell_all s all
  unfolding spell_each spell_all
  each_spelled before [] = refl
  each_spelled before (a ∷ all) =
      ap (λ (t : List ℕ). t ++ spell_each each (before ++ a ∷ []) all) (alike before a) ∙ ap (λ (t : List ℕ). s a ++ t) (each_spelled (before ++ a ∷ []) all)

pub list_spelled : {A : Type 0} (test : ℕ → Bool) (each : List A → Form A) (s : A → List ℕ) → ((before : List A) (a : A) → (each before).spell a ≡ s a) → (all : List A)
    → (list test each).spell all ≡ spell_list s all
list_spelled test each s alike all = ap (λ (t : List ℕ). u32_bytes (length all) ++ t) (each_spelled each s alike [] all)

-- what holds of each view
pub all_viewed : {A B : Type 0} (P : B → Type 0) (view : A → B) (all : List A) → All P (map view all) → All (λ a. P (view a)) all
all_viewed P view [] h k d less = absurd (omega (arith, less))
all_viewed P view (a ∷ all) h zero d less = h zero (view a) (omega arith)
all_viewed P view (a ∷ all) h (suc k) d less = all_viewed P view all (λ n e few. h (suc n) e (omega (arith, few))) k d (omega (arith, less))

pub all_then : {A : Type 0} (P Q : A → Type 0) (all : List A) → ((a : A) → P a → Q a) → All P all → All Q all
all_then P Q all f h k d less = f (get_or all k d) (h k d less)

pub take_more : {A : Type 0} (all : List A) (i : ℕ) (d : A) → i < length all → take (i + 1) all ≡ take i all ++ get_or all i d ∷ []
take_more all i d less = rw add-one (take-suc all i d less)
