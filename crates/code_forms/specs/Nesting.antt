-- Phrases that stand rightly and nest, as the test finds them (rule of this project).
use Rattle.std.specs.Prelude.{ℕ, ◌<◌, ◌≤◌, List, take, slice_index_or}
use Rattle.code_forms.specs.declared.module_code.Phrase.{Phrase}
use Rattle.code_forms.specs.Phrases.{Stands, Nests}
use Rattle.code_forms.specs.Routine.{Spot}

-- the first so many phrases stand rightly
abbrev pub AllStand : List Spot → List Phrase → ℕ → Type 0
AllStand code phrases count = (n : ℕ) (d : Phrase) → n < count → Stands code (take n phrases) (slice_index_or phrases n d)

-- those after one, up to a limit, nest with it
abbrev pub NestWith : List Phrase → ℕ → ℕ → Type 0
NestWith phrases q limit = (n : ℕ) (d : Phrase) → q < n → n < limit → Nests (slice_index_or phrases n d) (slice_index_or phrases q d)

-- those from one on, up to a limit, nest with each other
abbrev pub NestUpTo : List Phrase → ℕ → ℕ → Type 0
NestUpTo phrases first limit = (q : ℕ) → first ≤ q → NestWith phrases q limit

-- a phrase does not nest with one before it
pub record Crosses (phrases : List Phrase) (n : ℕ) : Type 0 where
  pub outer : ℕ
  pub earlier : outer < n
  pub crosses : (d : Phrase) → Nests (slice_index_or phrases n d) (slice_index_or phrases outer d) → ⊥
