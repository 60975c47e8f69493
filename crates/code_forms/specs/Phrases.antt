-- Which phrases are right: their ranges, how they nest, and the regions of their arms (rule of this project).
use Rattle.std.specs.Prelude.{◌≡◌, ℕ, ◌-◌, ◌<◌, ◌≤◌, ◌⊎◌, List, [], ◌∷◌, Option, Some, None, All, slice_get, take, length}
use Rattle.std.specs.List.{AllAdjacentBelow}
use Rattle.code_forms.specs.declared.module_code.Arm.{Arm}
use Rattle.code_forms.specs.declared.module_code.Phrase.{Phrase}
use Rattle.code_forms.specs.Routine.{Spot, IsStart, code_end}
use Rattle.code_forms.specs.Regions.{region_at}

abbrev pub arm_start : Option Arm → ℕ
arm_start None = 0
arm_start (Some a) = a.start

abbrev pub arm_end : Option Arm → ℕ
arm_end None = 0
arm_end (Some a) = a.end

-- where the first of the arms begins, and where the last one ends
abbrev pub first_start : List Arm → ℕ
first_start arms = arm_start (slice_get arms 0)

abbrev pub last_end : List Arm → ℕ
last_end arms = arm_end (slice_get arms (length arms - 1))

abbrev pub phrase_end : Option Phrase → ℕ
phrase_end None = 0
phrase_end (Some p) = last_end p.arms

-- where the last region of the phrases ends
abbrev pub regions_end : List Phrase → ℕ
regions_end phrases = phrase_end (slice_get phrases (length phrases - 1))

-- the regions of arms follow each other, none of them empty and each beginning at an instruction
pub record ArmsFollow (code : List Spot) (arms : List Arm) : Type 0 where
  pub each : All (λ a. IsStart code a.start × (a.start < a.end)) arms
  pub joined : AllAdjacentBelow (λ a b. a.end ≡ b.start) arms (length arms)

-- a phrase's first region begins where the region before it ends; before the first phrase's is the body, which is not empty
abbrev pub RegionsFollow : List Phrase → ℕ → Type 0
RegionsFollow [] start = 0 < start
RegionsFollow (p ∷ phrases) start = regions_end (p ∷ phrases) ≡ start

-- a phrase stands in order, in one region, and its arms have regions
pub record Stands (code : List Spot) (before : List Phrase) (p : Phrase) : Type 0 where
  pub from : IsStart code p.from
  pub to : IsStart code p.to
  pub filled : p.from < p.to
  -- in order of `from`
  pub listed : All (λ q. q.from ≤ p.from) before
  -- the range lies in one region, before those of its arms
  pub inside : region_at before p.from ≡ region_at before (p.to - 1)
  pub earlier : p.to ≤ first_start p.arms
  pub regions : RegionsFollow before (first_start p.arms)
  pub arms : ArmsFollow code p.arms

-- after another, it begins behind that one's range or lies in it: so an outer one stands before an inner one
abbrev pub Nests : Phrase → Phrase → Type 0
Nests p q = (q.to ≤ p.from) ⊎ (p.to ≤ q.to)

-- a phrase is right, by itself and with the phrases before it
pub record PhraseIsRight (code : List Spot) (before : List Phrase) (p : Phrase) : Type 0 where
  pub stands : Stands code before p
  pub nests : All (Nests p) before

-- the first so many phrases are right
abbrev pub PhrasesAreRight : List Spot → List Phrase → ℕ → Type 0
PhrasesAreRight code phrases count = (n : ℕ) (p : Phrase) → n < count → slice_get phrases n ≡ Some p → PhraseIsRight code (take n phrases) p

-- the last arm ends where the code does
abbrev pub EndsWithCode : List Spot → List Phrase → Type 0
EndsWithCode code [] = Unit {0}
EndsWithCode code (p ∷ phrases) = regions_end (p ∷ phrases) ≡ code_end code

-- all phrases are right, and the regions fill the code
pub record PhrasesFill (code : List Spot) (phrases : List Phrase) : Type 0 where
  pub right : PhrasesAreRight code phrases (length phrases)
  pub filled : EndsWithCode code phrases
