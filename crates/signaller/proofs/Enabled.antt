-- The innermost phrase at an offset, found by going over the table from its beginning.
use Rattle.std.proofs.Common.{◌≡◌, ℕ, zero, suc, ◌+◌, List, [], ◌∷◌, ◌++◌, length, true, false, Option, Some, None, refl, ap, ◌∙◌, arith}
use Rattle.std.specs.Prelude.{slice_get, filter, reverse, if◌then◌else◌}
use Rattle.std.specs.List.{range_with_len}
use Rattle.std.proofs.lemmas.List.{reverse-append}
use Rattle.code_forms.specs.declared.module_code.Phrase.{Phrase}
use Rattle.signaller.specs.Search.{covers, covers_in, first_of, enabled_before, innermost_of}

unfoldable pub innermost_at : ℕ → Option ℕ → ℕ → Option Phrase → Option ℕ
innermost_at number before offset None = before
innermost_at number before offset (Some p) = if covers p offset then Some number else before

unfoldable pub innermost_before : List Phrase → ℕ → ℕ → Option ℕ
innermost_before table zero offset = None
innermost_before table (suc n) offset = innermost_at n (innermost_before table n offset) offset (slice_get table n)

range_more : (a n : ℕ) → range_with_len a (suc n) ≡ range_with_len a n ++ (a + n) ∷ []
range_more a zero = ap (λ k. k ∷ []) (omega arith)
range_more a (suc n) = ap (λ xs. a ∷ xs) (range_more (a + 1) n ∙ ap (λ k. range_with_len (a + 1) n ++ k ∷ []) (omega arith))

pub down_more : (n : ℕ) → reverse (range_with_len 0 (suc n)) ≡ n ∷ reverse (range_with_len 0 n)
down_more n = ap reverse (range_more 0 n ∙ ap (λ k. range_with_len 0 n ++ k ∷ []) (omega arith)) ∙ reverse-append (range_with_len 0 n) (n ∷ [])

pub enabled_more : (table : List Phrase) (n offset : ℕ) → enabled_before table (suc n) offset
    ≡ (if covers_in (slice_get table n) offset then n ∷ enabled_before table n offset else enabled_before table n offset)
enabled_more table n offset = ap (λ xs. filter (λ k. covers_in (slice_get table k) offset) xs) (down_more n)

at_first : (n : ℕ) (numbers : List ℕ) (offset : ℕ) (o : Option Phrase)
    → first_of (if covers_in o offset then n ∷ numbers else numbers) ≡ innermost_at n (first_of numbers) offset o
unfolding innermost_at
at_first n numbers offset None = refl
at_first n numbers offset (Some p) = elim (covers p offset) as (λ b. first_of (if b then n ∷ numbers else numbers) ≡ (if b then Some n else first_of numbers)) [ true ↦ refl | false ↦ refl ]

first_before : (table : List Phrase) (n offset : ℕ) → first_of (enabled_before table n offset) ≡ innermost_before table n offset
unfolding innermost_before
first_before table zero offset = refl
first_before table (suc n) offset =
    ap first_of (enabled_more table n offset) ∙ (at_first n (enabled_before table n offset) offset (slice_get table n)
    ∙ ap (λ o. innermost_at n o offset (slice_get table n)) (first_before table n offset))

pub innermost_is : (table : List Phrase) (offset : ℕ) → innermost_of table offset ≡ innermost_before table (length table) offset
innermost_is table offset = first_before table (length table) offset
