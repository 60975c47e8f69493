-- Laws of the search and the index for valid code (rule of this project).
use Rattle.std.specs.Prelude.{◌≡◌, ◌↔◌, ◌++◌, ℕ, ◌+◌, ◌<◌, ◌≤◌, List, [], ◌∷◌, length, All, Bool, true, false, Some, None, MatchOption, slice_get, position, flat_map}
use Rattle.code_forms.specs.declared.module_code.Arm.{Arm}
use Rattle.code_forms.specs.declared.module_code.CodeProcedure.{CodeProcedure}
use Rattle.code_forms.specs.declared.module_code.ModuleCode.{ModuleCode}
use Rattle.code_forms.specs.declared.module_code.Phrase.{Phrase}
use Rattle.code_forms.specs.declared.region.Region.{Region}
use Rattle.code_forms.specs.declared.region.Region.TheVariants.{Body, ArmOf}
use Rattle.code_forms.specs.Phrases.{PhrasesFill}
use Rattle.code_forms.specs.Regions.{region_at}
use Rattle.code_forms.specs.Routine.{Spot, code_end}
use Rattle.code_forms.specs.Valid.{Valid}
use Rattle.signaller.specs.declared.place.Place.{Place}
use Rattle.signaller.specs.Search.{covers, arms_of, enabled_before, enabled, innermost_of, around, beyond, asked, search_from, search_at, first_place, arms_before, numbered, next}
use Rattle.signaller.specs.Sought.{IsPlace}
use Rattle.signaller.specs.Tables.{IsCatchTable}

-- the phrases of each procedure of valid code are a table as the calls ask for it
abbrev pub TablesOfValid : Type 0
TablesOfValid = (m : ModuleCode) → Valid m → (n : ℕ) (p : CodeProcedure) → slice_get m.procedures n ≡ Some p → IsCatchTable p.phrases

-- the phrases around the region of an arm: outward of arms those beyond the phrase that holds the arm, and else none
abbrev pub outer : Bool → List Phrase → Region → List ℕ
outer false table region = []
outer true table Body = []
outer true table (ArmOf phrase arm) = beyond true table phrase

-- the phrases to ask about an offset are those that are enabled there, and then those around its region
abbrev pub AsksEnabled : Type 0
AsksEnabled = (code : List Spot) (table : List Phrase) → PhrasesFill code table → (outward : Bool) (offset : ℕ) → offset < code_end code
    → around outward table (length table) offset ≡ enabled table offset ++ outer outward table (region_at table offset)

-- so a search that begins at an offset begins with the innermost phrase, or, where there is none, around the region
pub record IsBegun (table : List Phrase) (outward : Bool) (offset : ℕ) : Type 0 where
  pub inside : (n : ℕ) → innermost_of table offset ≡ Some n → search_at outward table offset ≡ record { phrase = Some n }
  pub around : innermost_of table offset ≡ None → search_at outward table offset ≡ search_from (outer outward table (region_at table offset))

abbrev pub BeginsInnermost : Type 0
BeginsInnermost = (code : List Spot) (table : List Phrase) → PhrasesFill code table → (outward : Bool) (offset : ℕ) → offset < code_end code → IsBegun table outward offset

-- and finds the first arm that fits of the phrases that are enabled there, and then of those around its region
abbrev pub FindsEnabled : Type 0
FindsEnabled = (code : List Spot) (table : List Phrase) → PhrasesFill code table → (outward : Bool) (fits : Arm → Bool) (offset : ℕ) → offset < code_end code
    → next outward fits table (search_at outward table offset)
    ≡ numbered outward table (first_place fits table (enabled table offset ++ outer outward table (region_at table offset)))

-- beyond a phrase are those before it that are enabled where it begins, and then those around its region
abbrev pub GoesOutward : Type 0
GoesOutward = (code : List Spot) (table : List Phrase) → PhrasesFill code table → (outward : Bool) (n : ℕ) (p : Phrase) → slice_get table n ≡ Some p
    → beyond outward table n ≡ enabled_before table n p.from ++ outer outward table (region_at table p.from)

-- a phrase is enabled in one region alone
abbrev pub StaysInside : Type 0
StaysInside = (code : List Spot) (table : List Phrase) → PhrasesFill code table → (n : ℕ) (p : Phrase) (offset : ℕ) → slice_get table n ≡ Some p
    → covers p offset ≡ true → region_at table p.from ≡ region_at table offset

-- the innermost phrase is enabled, and its range lies in that of each phrase that is
pub record IsInnermost (table : List Phrase) (offset : ℕ) (p : Phrase) : Type 0 where
  pub enabled : covers p offset ≡ true
  pub within : (m : ℕ) (q : Phrase) → slice_get table m ≡ Some q → covers q offset ≡ true → (q.from ≤ p.from) × (p.to ≤ q.to)

abbrev pub FindsInnermost : Type 0
FindsInnermost = (code : List Spot) (table : List Phrase) → PhrasesFill code table → (offset n : ℕ) → innermost_of table offset ≡ Some n
    → (p : Phrase) × (slice_get table n ≡ Some p) × IsInnermost table offset p

-- there is none exactly where no phrase is enabled
abbrev pub FindsNone : Type 0
FindsNone = (table : List Phrase) (offset : ℕ) → (innermost_of table offset ≡ None) ↔ All (λ p. covers p offset ≡ false) table

-- a search that begins with the first of the phrases around an offset asks all of them
abbrev pub AsksAll : Type 0
AsksAll = (outward : Bool) (table : List Phrase) (count offset : ℕ)
    → asked outward table (search_from (around outward table count offset)).phrase ≡ around outward table count offset

-- the number of an arm over the table is its place among all the arms of the table
abbrev pub NumbersArms : Type 0
NumbersArms = (table : List Phrase) (place : Place) → IsPlace table place
    → slice_get (flat_map (λ p. p.arms) table) (arms_before table place.phrase + place.arm) ≡ slice_get (arms_of (slice_get table place.phrase)) place.arm

-- beyond a phrase that is asked are exactly those that are asked after it
abbrev pub LeavesTheRest : Type 0
LeavesTheRest = (outward : Bool) (table : List Phrase) (count offset n : ℕ) (before after : List ℕ)
    → around outward table count offset ≡ before ++ n ∷ after → after ≡ beyond outward table n

-- of the phrases before this one no arm fits, and of this one this is the first that does
pub record IsFirstPlace (fits : Arm → Bool) (table : List Phrase) (numbers : List ℕ) (place : Place) : Type 0 where
  pub before : List ℕ
  pub after : List ℕ
  pub parts : numbers ≡ before ++ place.phrase ∷ after
  pub none : All (λ n. position fits (arms_of (slice_get table n)) ≡ None) before
  pub arm : position fits (arms_of (slice_get table place.phrase)) ≡ Some place.arm

abbrev pub FindsFirst : Type 0
FindsFirst = (fits : Arm → Bool) (table : List Phrase) (numbers : List ℕ) → MatchOption (first_place fits table numbers)
    (All (λ n. position fits (arms_of (slice_get table n)) ≡ None) numbers) (IsFirstPlace fits table numbers)
