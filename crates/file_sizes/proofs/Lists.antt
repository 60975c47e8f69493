-- How many bytes lists of parts take.
use Rattle.std.proofs.Common.{◌≡◌, ℕ, ◌+◌, ◌*◌, ◌≤◌, Bool, List, [], ◌∷◌, ◌++◌, length, map, refl, arith}
use Rattle.std.specs.Int.{bytes_high_first}
use Rattle.std.proofs.lemmas.List.{length-append}
use Rattle.file_forms.specs.Forms.{Form, list, spell_each}
use Rattle.file_forms.proofs.Numbers.{length-number}
use Rattle.file_sizes.specs.Sizes.{total}

-- each part as its form sees it
module _ {A B : Type 0} (view : A → B) (each : List B → Form B) (size : A → ℕ) (sized : (before : List B) (a : A) → length ((each before).spell (view a)) ≡ size a) where
  each_view_sized : (before : List B) (all : List A) → length (spell_each each before (map view all)) ≡ total size all
  unfolding spell_each total
  each_view_sized before [] = refl
  each_view_sized before (a ∷ all) = omega (
    arith,
    length-append ((each before).spell (view a)) (spell_each each (before ++ view a ∷ []) (map view all)),
    sized before a,
    each_view_sized (before ++ view a ∷ []) all,
  )

  pub list_view_sized : (test : ℕ → Bool) (all : List A) → length ((list test each).spell (map view all)) ≡ 4 + total size all
  list_view_sized test all = omega (
    arith,
    length-append (bytes_high_first 4 (length (map view all))) (spell_each each [] (map view all)),
    length-number 4 (length (map view all)),
    each_view_sized [] all,
  )

module _ {A : Type 0} (each : List A → Form A) (size : A → ℕ) (sized : (before : List A) (a : A) → length ((each before).spell a) ≡ size a) where
  pub each_sized : (before all : List A) → length (spell_each each before all) ≡ total size all
  unfolding spell_each total
  each_sized before [] = refl
  each_sized before (a ∷ all) = omega (
    arith,
    length-append ((each before).spell a) (spell_each each (before ++ a ∷ []) all),
    sized before a,
    each_sized (before ++ a ∷ []) all,
  )

  pub list_sized : (test : ℕ → Bool) (all : List A) → length ((list test each).spell all) ≡ 4 + total size all
  list_sized test all = omega (
    arith,
    length-append (bytes_high_first 4 (length all)) (spell_each each [] all),
    length-number 4 (length all),
    each_sized [] all,
  )

pub list_some : {A : Type 0} (test : ℕ → Bool) (each : List A → Form A) (all : List A) → 4 ≤ length ((list test each).spell all)
list_some test each all = omega (arith, length-append (bytes_high_first 4 (length all)) (spell_each each [] all), length-number 4 (length all))

-- each alike
pub total_of : {A : Type 0} (n : ℕ) (all : List A) → total (λ (a : A). n) all ≡ n * length all
unfolding total
total_of n [] = omega arith
total_of n (a ∷ all) = grind (arith, total_of n all)

-- ---- one behind the other

pub two : (a b : List ℕ) → length (a ++ b) ≡ length a + length b
two a b = length-append a b

pub three : (a b c : List ℕ) → length (a ++ (b ++ c)) ≡ length a + (length b + length c)
three a b c = omega (arith, length-append a (b ++ c), length-append b c)

pub four : (a b c d : List ℕ) → length (a ++ (b ++ (c ++ d))) ≡ length a + (length b + (length c + length d))
four a b c d = omega (arith, length-append a (b ++ (c ++ d)), three b c d)

pub five : (a b c d e : List ℕ) → length (a ++ (b ++ (c ++ (d ++ e)))) ≡ length a + (length b + (length c + (length d + length e)))
five a b c d e = omega (arith, length-append a (b ++ (c ++ (d ++ e))), four b c d e)

pub six : (a b c d e f : List ℕ) → length (a ++ (b ++ (c ++ (d ++ (e ++ f))))) ≡ length a + (length b + (length c + (length d + (length e + length f))))
six a b c d e f = omega (arith, length-append a (b ++ (c ++ (d ++ (e ++ f)))), five b c d e f)

pub seven : (a b c d e f g : List ℕ)
    → length (a ++ (b ++ (c ++ (d ++ (e ++ (f ++ g)))))) ≡ length a + (length b + (length c + (length d + (length e + (length f + length g)))))
seven a b c d e f g = omega (arith, length-append a (b ++ (c ++ (d ++ (e ++ (f ++ g))))), six b c d e f g)
