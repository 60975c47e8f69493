-- The points of a sound body have their ways: a jump leaves as many arms as it says.
use Rattle.std.specs.Prelude.{◌≡◌, ℕ, ◌+◌, ◌<◌, ◌≤◌, List, Contains, Option, Some, None}
use Rattle.mesa_types.specs.declared.types.FieldType.{FieldType}
use Rattle.mesa_types.specs.declared.typed_parts.Label.{Label}
use Rattle.mesa_types.specs.Typed.{Point, Start, After, At, Leave, Exits, Body, Module}
use Rattle.mesa_types.specs.Sound as sound
use Rattle.mesa_types.specs.Sound.{Scope, Seen, LabelsIn, labels_in, scope_of}
use Rattle.code_rules.specs.Points.{Way, NoWay, OutOf, Points, in_marked, in_labelled, in_arm, in_body}

abbrev pub seen : Point → ℕ → Seen
seen p depth = record { point = p; depth = depth }

abbrev pub IsOutOf : {A : Type 0} → ℕ → Way A → Type 0
IsOutOf arms NoWay = ⊥
IsOutOf arms (OutOf k place) = k ≡ arms

-- its number is used around
abbrev pub IsUsed : Scope → Point → Type 0
IsUsed Γ (Start n) = n < Γ.statements
IsUsed Γ (After n) = n < Γ.statements
IsUsed Γ (At l) = l < Γ.labels
IsUsed Γ Leave = Unit {0}

-- each point that is visible in a scope has a way, out of the arms that are around the scope and not around the point
pub record Agrees {A : Type 0} (Γ : Scope) (points : Points A) : Type 0 where
  pub ways : (p : Point) (depth arms : ℕ) → Contains Γ.points (seen p depth) → depth + arms ≡ Γ.depth → IsOutOf arms (points p)
  pub used : (p : Point) (depth : ℕ) → Contains Γ.points (seen p depth) → IsUsed Γ p
  pub around : (p : Point) (depth : ℕ) → Contains Γ.points (seen p depth) → depth ≤ Γ.depth

-- it is so in a body, and stays so in a marked statement, where labels are visible and in an arm; so where a point is reached by
-- leaving some arms, its way is out of so many
pub record WaysAgree (A : Type 0) : Type 0 where
  pub body : (m : Module) (takes gives : List FieldType) (body : Body) (return : A) → Agrees (scope_of m takes gives body) (in_body return)
  pub marked : (Γ : Scope) (points : Points A) (n : ℕ) (start after : A) → Agrees Γ points → Γ.statements ≤ n
      → Agrees (sound.in_marked n Γ) (in_marked n start after points)
  pub labelled : (Γ : Scope) (points : Points A) (past : ℕ) (es : Exits) (label : ℕ → Option A) → Agrees Γ points → LabelsIn Γ past es
      → ((l : ℕ) → Contains (labels_in es) l → (place : A) × (label l ≡ Some place)) → ((l : ℕ) → l < Γ.labels → label l ≡ None)
      → Agrees (sound.in_labelled past es Γ) (in_labelled label points)
  pub arm : (Γ : Scope) (points : Points A) (n : ℕ) (labels : List Label) → Agrees Γ points → Agrees (sound.in_arm n labels Γ) (in_arm points)
  pub jump : (Γ : Scope) (points : Points A) (arms : ℕ) (p : Point) → Agrees Γ points → sound.Reaches Γ arms p → IsOutOf arms (points p)
