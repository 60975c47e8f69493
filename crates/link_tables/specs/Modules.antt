-- The modules of an image in code: marks of the components that have an instance, and how many are marked before each.
use Rattle.std.specs.Prelude.{◌≡◌, ℕ, ◌+◌, ◌<◌, Bool, false, List, [], ◌∷◌, ◌++◌, length, take, count_by, slice_index, slice_index_or, if◌then◌else◌}
use Rattle.object_files.specs.declared.image.Instance.{Instance}
use Rattle.object_files.specs.declared.object.Object.{Object}
use Rattle.config_rules.specs.declared.tree.TreeInstance.{TreeInstance}
use Rattle.link_tables.specs.Linked.{has_instance}

-- so many marks tell of the components from number `n` on whether they have an instance
pub record AreMarks (xs : List TreeInstance) (n many : ℕ) (marks : List Bool) : Type 0 where
  pub length_is : length marks ≡ many
  pub each : (c : ℕ) → c < many → slice_index_or marks c false ≡ has_instance xs (n + c)

-- how many are marked before this one
abbrev pub marked_before : List Bool → ℕ → ℕ
marked_before marks c = count_by (λ m. m) (take c marks)

pub record AreNumbers (marks : List Bool) (numbers : List ℕ) : Type 0 where
  pub length_is : length numbers ≡ length marks
  pub each : (c : ℕ) → c < length marks → slice_index numbers c ≡ marked_before marks c

abbrev pub numbered : List ℕ → TreeInstance → Instance
numbered numbers x = record { path = x.path; «module» = slice_index numbers x.component }

abbrev pub kept_one : Object → Bool → List Object
kept_one o b = if b then o ∷ [] else []

-- those that are marked
abbrev pub marked : List Object → List Bool → List Object
marked [] _ = []
marked _ [] = []
marked (o ∷ os) (b ∷ bs) = kept_one o b ++ marked os bs
