-- How far the marking of a graph's nodes has come (rule of this project).
use Rattle.std.specs.Prelude.{◌≡◌, ◌⊎◌, ℕ, ◌<◌, ◌≤◌, List, [], ◌∷◌, ◌++◌, length, Bool, true, false, Some, Contains, slice_get, slice_index, slice_index_or, slice_set}
use Rattle.std.specs.List.{count_by}
use Rattle.survey_code.specs.Graphs.{IsReached, IsMarked}

-- a node that was marked leaves all as it is; another is marked and stands last in the queue
abbrev pub Marks : (marks : List Bool) (queue : List ℕ) (node : ℕ) (marks' : List Bool) (queue' : List ℕ) → Type 0
Marks marks queue node marks' queue' =
    (IsMarked marks node × (marks' ≡ marks) × (queue' ≡ queue))
    ⊎ ((slice_index_or marks node false ≡ false) × (marks' ≡ slice_set marks node true) × (queue' ≡ queue ++ node ∷ []))

-- what is marked is reached, and stands in the queue once
pub record Reaches (graph : List (List ℕ)) (marks : List Bool) (queue : List ℕ) : Type 0 where
  pub count : length marks ≡ length graph
  pub reached : (node : ℕ) → IsMarked marks node → IsReached graph node
  pub queued : (node : ℕ) → IsMarked marks node → Contains queue node
  pub marked : (i : ℕ) → i < length queue → IsMarked marks (slice_index queue i)
  pub once : length queue ≡ count_by (λ b. b) marks

-- marks stay, and the queue goes on
pub record Grows (marks : List Bool) (queue : List ℕ) (marks' : List Bool) (queue' : List ℕ) : Type 0 where
  pub stay : (node : ℕ) → IsMarked marks node → IsMarked marks' node
  pub longer : length queue ≤ length queue'
  pub same : (i : ℕ) → i < length queue → slice_index queue' i ≡ slice_index queue i

-- all to which a node leads is marked
abbrev pub RowIsMarked : (graph : List (List ℕ)) (marks : List Bool) (node : ℕ) → Type 0
RowIsMarked graph marks node = (next : ℕ) (row : List ℕ) → slice_get graph node ≡ Some row → Contains row next → IsMarked marks next
