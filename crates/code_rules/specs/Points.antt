-- The points of a body to which a jump can go, and how many arms it leaves on its way (Language Manual, chapters 4 and 8; rule of
-- this project). EXIT names the place after its loop, LOOP the place after its loop's body, GOTO a label, RETURN the return; RETRY
-- names the start of the statement to which the phrase of its arm belongs, CONTINUE the place after it.
use Rattle.std.specs.Prelude.{ℕ, suc, List, [], ◌∷◌, Bool, true, false, ◌||◌, Option, Some, None, nat_eq}
use Rattle.mesa_types.specs.Typed.{Point, Start, After, At, Leave}

-- how a jump comes to a point: out of so many arms, to what lies there; there is no way to a point that is not visible
pub data Way (A : Type 0) : Type 0 where
  NoWay : Way A
  OutOf : (arms : ℕ) → (place : A) → Way A

abbrev pub Points : Type 0 → Type 0
Points A = Point → Way A

-- in no arm, where something lies there; else as further out
abbrev pub here_if : {A : Type 0} → Bool → A → Way A → Way A
here_if true place outer = OutOf 0 place
here_if false place outer = outer

abbrev pub here_or : {A : Type 0} → Option A → Way A → Way A
here_or (Some place) outer = OutOf 0 place
here_or None outer = outer

-- in a numbered statement
abbrev pub in_marked : {A : Type 0} → ℕ → (start after : A) → Points A → Points A
in_marked n start after points (Start k) = here_if (nat_eq n k) start (points (Start k))
in_marked n start after points (After k) = here_if (nat_eq n k) after (points (After k))
in_marked n start after points (At l) = points (At l)
in_marked n start after points Leave = points Leave

-- where labels are visible
abbrev pub in_labelled : {A : Type 0} → (label : ℕ → Option A) → Points A → Points A
in_labelled label points (Start k) = points (Start k)
in_labelled label points (After k) = points (After k)
in_labelled label points (At l) = here_or (label l) (points (At l))
in_labelled label points Leave = points Leave

-- in an arm
abbrev pub one_arm_more : {A : Type 0} → Way A → Way A
one_arm_more NoWay = NoWay
one_arm_more (OutOf arms place) = OutOf (suc arms) place

abbrev pub in_arm : {A : Type 0} → Points A → Points A
in_arm points p = one_arm_more (points p)

-- in a body nothing is visible but the return
abbrev pub in_body : {A : Type 0} → (return : A) → Points A
in_body return Leave = OutOf 0 return
in_body return _ = NoWay

abbrev pub is_among : ℕ → List ℕ → Bool
is_among l [] = false
is_among l (k ∷ ks) = nat_eq l k || is_among l ks
