-- A walk goes on from where it begins, until it comes nowhere new.
use Rattle.std.specs.Prelude.{◌≡◌, ◌↔◌, ◌⊎◌, ℕ, ◌+◌, ◌<◌, [], Contains, Some}
use Rattle.place_walks.specs.declared.place.Place.{Place}
use Rattle.place_walks.specs.declared.walk.Walk.{Walk}
use Rattle.place_walks.specs.Reach.{Reached}
use Rattle.place_walks.specs.Walks.{mark_at, IsThere, IsMarked}

-- where the walk of this number came is reached, and from there it has gone on or has yet to
pub record IsGoing (begins : Place → Type 0) (follows : Place → Place → Type 0) (round : ℕ) (walk : Walk) : Type 0 where
  pub sound : (x : Place) → IsMarked walk.marks round x → Reached begins follows x
  pub begun : (x : Place) → begins x → IsMarked walk.marks round x
  pub closed : (x y : Place) → IsMarked walk.marks round x → follows x y → IsMarked walk.marks round y ⊎ Contains walk.work.items x
  pub working : (x : Place) → Contains walk.work.items x → IsMarked walk.marks round x
  pub there : (x y : Place) → Reached begins follows x → follows x y → IsThere walk.marks y
  pub upto : (x : Place) (mark : ℕ) → mark_at walk.marks x ≡ Some mark → mark < round + 1

-- all walks have ended, and had numbers below this one
pub record IsResting (round : ℕ) (walk : Walk) : Type 0 where
  pub before : (x : Place) (mark : ℕ) → mark_at walk.marks x ≡ Some mark → mark < round
  pub no_work : walk.work.items ≡ []

-- the places at which the walk of this number came are those that are reached
pub record HasCome (begins : Place → Type 0) (follows : Place → Place → Type 0) (round : ℕ) (walk : Walk) : Type 0 where
  pub marked : (x : Place) → IsMarked walk.marks round x ↔ Reached begins follows x
  pub rests : IsResting (round + 1) walk
