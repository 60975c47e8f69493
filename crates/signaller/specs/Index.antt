-- The index of the ranges: segments of the code, each with its innermost phrase (rule of this project).
use Rattle.std.specs.Prelude.{◌≡◌, ℕ, ◌+◌, ◌*◌, ◌<◌, ◌≤◌, List, length, Some, slice_get}
use Rattle.code_forms.specs.declared.module_code.Phrase.{Phrase}
use Rattle.signaller.specs.declared.catch_index.Segment.{Segment}
use Rattle.signaller.specs.Search.{innermost_of}

-- the first segment begins at 0, each begins behind the one before it, and up to the next one each tells the innermost phrase
pub record Indexes (table : List Phrase) (segments : List Segment) : Type 0 where
  pub some : 0 < length segments
  pub few : length segments ≤ 2 * length table + 1
  pub first : (s : Segment) → slice_get segments 0 ≡ Some s → s.start ≡ 0
  pub ordered : (i : ℕ) (s t : Segment) → slice_get segments i ≡ Some s → slice_get segments (i + 1) ≡ Some t → s.start < t.start
  pub tells : (i : ℕ) (s : Segment) → slice_get segments i ≡ Some s → (offset : ℕ) → s.start ≤ offset
      → ((t : Segment) → slice_get segments (i + 1) ≡ Some t → offset < t.start) → innermost_of table offset ≡ s.phrase
