-- Where a counted loop stands: the rounds that are left, and the three hidden words of the code that say the same.
use Rattle.std.specs.Prelude.{◌≡◌, ℕ, zero, suc, ◌+◌, ◌<◌, ◌≤◌, Bool, true, false}
use Rattle.mesa_types.specs.Typed.{Count, Endless, Counting}
use Rattle.mesa_types.specs.Operators.{wrap}
use Rattle.mesa_types.specs.Sound.{Scope, GivenIn}
use Rattle.code_rules.specs.Loops.{Counter, NoCounter, CountedIn}
use Rattle.code_rules.specs.Reading.{Place}

-- so many rounds are left, the next of this number: first and last are the interval's numbers, going up from the first or down from the last
abbrev pub WordsLeft : (down : Bool) → (left next first last flag : ℕ) → Type 0
WordsLeft down zero next first last flag = flag ≡ 0
WordsLeft false (suc more) next first last flag = (flag ≡ 1) × (next < 65536) × (first ≡ next) × (last ≡ wrap (next + more)) × (more < 65536)
WordsLeft true (suc more) next first last flag = (flag ≡ 1) × (next < 65536) × (first < 65536) × (last ≡ next) × (next ≡ wrap (first + more)) × (more < 65536)

abbrev pub RoundsLeft : Counter → Count → (slots : ℕ → ℕ) → Type 0
RoundsLeft NoCounter Endless m = Unit {0}
RoundsLeft NoCounter (Counting g down left next) m = ⊥
RoundsLeft (CountedIn z g down) Endless m = ⊥
RoundsLeft (CountedIn z g down) (Counting h up left next) m = (h ≡ g) × (up ≡ down) × WordsLeft down left next (m z) (m (z + 1)) (m (z + 2))

-- the first of the hidden words of a loop, which lie before those of its body
abbrev pub first_word : Counter → Place → ℕ
first_word NoCounter w = w.slot
first_word (CountedIn z g down) w = z

abbrev pub CounterLies : Counter → Scope → Place → Type 0
CounterLies NoCounter Γ w = Unit {0}
CounterLies (CountedIn z g down) Γ w = (z + 3 ≤ w.slot) × GivenIn Γ g
