-- Which of the first phrases are open at an offset, as their tables tell (rule of this project).
use Rattle.std.specs.Prelude.{◌≡◌, ℕ, zero, suc, ◌<◌, ◌≤◌, true, List, [], length, Option, Some, None, slice_get, slice_index_or}
use Rattle.code_forms.specs.declared.module_code.CodeEntry.{CodeEntry}
use Rattle.code_forms.specs.declared.module_code.CodeProcedure.{CodeProcedure}
use Rattle.code_forms.specs.declared.module_code.Phrase.{Phrase}
use Rattle.code_forms.specs.Phrases.{first_start, PhrasesFill}
use Rattle.code_forms.specs.Routine.{Spot}
use Rattle.signaller.specs.Search.{first_of, enabled_before, beyond}
use Rattle.survey_rules.specs.Escapes.{position_of}

abbrev pub no_phrase : Phrase
no_phrase = record { from = 0; to = 0; arms = [] }

-- where the range of the phrase of a number begins, and where it ends
abbrev pub from_at : List Phrase → ℕ → ℕ
from_at table k = (slice_index_or table k no_phrase).from

abbrev pub to_at : List Phrase → ℕ → ℕ
to_at table k = (slice_index_or table k no_phrase).to

-- of the first so many phrases those behind this one, or all, end at the offset or before it
abbrev pub AreOver : List Phrase → (count at : ℕ) → Option ℕ → Type 0
AreOver table count at None = (k : ℕ) → k < count → to_at table k ≤ at
AreOver table count at (Some phrase) = (phrase < count) × ((k : ℕ) → phrase < k → k < count → to_at table k ≤ at)

-- and this one does not
abbrev pub GoesOn : List Phrase → (at : ℕ) → Option ℕ → Type 0
GoesOn table at None = Unit {0}
GoesOn table at (Some phrase) = at < to_at table phrase

-- of each phrase, the innermost of those before it in whose range it begins
abbrev pub AreParents : List Phrase → List (Option ℕ) → Type 0
AreParents table parents =
    (k : ℕ) → k < length parents → slice_index_or parents k None ≡ first_of (enabled_before table k (from_at table k))

abbrev pub number_before : ℕ → Option ℕ
number_before zero = None
number_before (suc k) = Some k

-- they are those of some valid code
abbrev pub Fills : List Phrase → Type 0
Fills table = (code : List Spot) × PhrasesFill code table

-- where the first arm of the phrase of a number begins
abbrev pub arms_at : List Phrase → ℕ → ℕ
arms_at table k = first_start (slice_index_or table k no_phrase).arms

-- the last phrase whose arms begin at the offset or before it
abbrev pub IsHolder : List Phrase → (at : ℕ) → Option ℕ → Type 0
IsHolder table at None = (k : ℕ) → k < length table → at < arms_at table k
IsHolder table at (Some q) = (q < length table) × (arms_at table q ≤ at) × ((k : ℕ) → q < k → k < length table → at < arms_at table k)

-- of each phrase, the next one outward of it
abbrev pub AreBeyond : List Phrase → List (Option ℕ) → Type 0
AreBeyond table beyonds = (k : ℕ) → k < length beyonds → slice_index_or beyonds k None ≡ first_of (beyond true table k)

-- of each instruction, the innermost phrase around it
abbrev pub ArePositions : CodeProcedure → List (Option ℕ) → Type 0
ArePositions p positions = (k : ℕ) (e : CodeEntry) → k < length positions → slice_get p.code k ≡ Some e → slice_index_or positions k None ≡ position_of p e.at
