-- The first of some phrases with an arm that fits.
use Rattle.std.proofs.Common.{◌≡◌, ℕ, List, [], ◌∷◌, Bool, Option, Some, None, refl, ap, arith}
use Rattle.std.specs.Prelude.{All, MatchOption, slice_get, position}
use Rattle.std.proofs.lemmas.List.Elements.{All-cons}
use Rattle.code_forms.specs.declared.module_code.Arm.{Arm}
use Rattle.code_forms.specs.declared.module_code.Phrase.{Phrase}
use Rattle.signaller.specs.declared.place.Place.{Place}
use Rattle.signaller.specs.Search.{arms_of, place_at, first_place}
use Rattle.signaller.specs.Laws.{IsFirstPlace, FindsFirst}

-- no arm of the phrase of a number fits
abbrev pub NoneOf : (Arm → Bool) → List Phrase → ℕ → Type 0
NoneOf fits table n = position fits (arms_of (slice_get table n)) ≡ None

place_first : (fits : Arm → Bool) (table : List Phrase) (n : ℕ) (numbers : List ℕ) (x : Option ℕ) (further : Option Place) → position fits (arms_of (slice_get table n)) ≡ x
    → MatchOption further (All (NoneOf fits table) numbers) (IsFirstPlace fits table numbers)
    → MatchOption (place_at n x further) (All (NoneOf fits table) (n ∷ numbers)) (IsFirstPlace fits table (n ∷ numbers))
place_first fits table n numbers (Some k) further is h = record { before = []; after = numbers; parts = refl; none = λ j d l. absurd (omega arith); arm = is }
place_first fits table n numbers None None is h = All-cons (NoneOf fits table) n numbers is h
place_first fits table n numbers None (Some place) is h =
    record { before = n ∷ h.before; after = h.after; parts = ap (λ xs. n ∷ xs) h.parts; none = All-cons (NoneOf fits table) n h.before is h.none; arm = h.arm }

pub finds_first : FindsFirst
unfolding first_place
finds_first fits table [] = λ j d l. absurd (omega arith)
finds_first fits table (n ∷ numbers) =
    place_first fits table n numbers (position fits (arms_of (slice_get table n))) (first_place fits table numbers) refl (finds_first fits table numbers)
