-- How far a sweep over the ends of the ranges has come (rule of this project).
use Rattle.std.specs.Prelude.{◌≡◌, ℕ, ◌+◌, ◌-◌, ◌*◌, ◌<◌, ◌≤◌, List, length, All, Contains, slice_index, slice_index_or}
use Rattle.std.specs.List.Sorted.{IsNonDecreasing}
use Rattle.code_forms.specs.declared.module_code.Phrase.{Phrase}
use Rattle.signaller.specs.declared.catch_index.Segment.{Segment}
use Rattle.signaller.specs.declared.sweep.Sweep.{Sweep}
use Rattle.signaller.specs.Search.{innermost_of}

-- the ends of the ranges, in order
pub record AreEdges (table : List Phrase) (edges : List ℕ) : Type 0 where
  pub sorted : IsNonDecreasing edges
  pub ends : All (λ p. Contains edges p.from × Contains edges p.to) table
  pub count : length edges ≡ 2 * length table

-- the phrases that are open at an offset, in order of number, among the first so many: each that goes on beyond it is there
pub record Sweeps (table : List Phrase) (opened : List ℕ) (next at : ℕ) : Type 0 where
  pub bound : next ≤ length table
  pub below : (j : ℕ) → j < length opened → slice_index opened j < next
  pub rising : (i j : ℕ) → i < j → j < length opened → slice_index opened i < slice_index opened j
  pub begun : (j : ℕ) (d : Phrase) → j < length opened → (slice_index_or table (slice_index opened j) d).from ≤ at
  pub kept : (k offset : ℕ) (d : Phrase) → k < next → at ≤ offset → offset < (slice_index_or table k d).to → Contains opened k

-- the phrases from the next one on begin behind the offset
abbrev pub BeginLater : List Phrase → ℕ → ℕ → Type 0
BeginLater table next at = next < length table → (d : Phrase) → at < (slice_index_or table next d).from

-- the innermost of the open phrases goes on beyond the offset
abbrev pub GoesOn : List Phrase → List ℕ → ℕ → Type 0
GoesOn table opened at = 0 < length opened → (d : Phrase) → at < (slice_index_or table (slice_index opened (length opened - 1)) d).to

-- segments from 0 on, rising up to an offset, each with the innermost phrase at its start
pub record AreTold (table : List Phrase) (segments : List Segment) (at : ℕ) : Type 0 where
  pub some : 0 < length segments
  pub first : (d : Segment) → (slice_index_or segments 0 d).start ≡ 0
  pub last : (d : Segment) → (slice_index_or segments (length segments - 1) d).start ≡ at
  pub rising : (k : ℕ) (d : Segment) → k + 1 < length segments → (slice_index_or segments k d).start < (slice_index_or segments (k + 1) d).start
  pub tells : (k : ℕ) (d : Segment) → k < length segments → innermost_of table (slice_index_or segments k d).start ≡ (slice_index_or segments k d).phrase

-- a segment begins at the edge
pub record HasStart (segments : List Segment) (edge : ℕ) : Type 0 where
  pub number : ℕ
  pub there : number < length segments
  pub start : (d : Segment) → (slice_index_or segments number d).start ≡ edge

-- how far the sweep has come
pub record IsSwept (table : List Phrase) (sweep : Sweep) : Type 0 where
  pub opened : Sweeps table sweep.opened.items sweep.next sweep.at
  pub later : BeginLater table sweep.next sweep.at
  pub told : AreTold table sweep.segments.items sweep.at
