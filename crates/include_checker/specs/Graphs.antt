-- The texts that each text names, as lists in which none stands twice.
use Rattle.std.specs.Prelude.{◌≡◌, ℕ, ◌<◌, ◌≤◌, List, length, Some}
use Rattle.include_rules.specs.Naming.{first_left}
use Rattle.include_rules.specs.Plans.{most_texts}

-- few texts, each of which names none but these
pub record IsGraph (names : List (List ℕ)) : Type 0 where
  pub few : length names ≤ most_texts
  pub within : (taken : List ℕ) (k j : ℕ) → first_left names taken k ≡ Some j → j < length names

-- as many texts, and whatever is taken, each has the same first one left
pub record LooksAs (names others : List (List ℕ)) : Type 0 where
  pub as_long : length names ≡ length others
  pub same_left : (taken : List ℕ) (k : ℕ) → first_left names taken k ≡ first_left others taken k
