-- The order of texts, or the cycle for which there is none, by what each names (rule of this project).
use Rattle.std.specs.Prelude.{◌≡◌, ℕ, ◌<◌, true, false, List, [], ◌∷◌, ◌++◌, length, None, Some}
use Rattle.include_rules.specs.Naming.{is_left, first_left}

-- ---- the order: again and again the first text is taken that names none which is not yet taken

-- it is not yet taken, and all that it names are
pub record IsReady (names : List (List ℕ)) (taken : List ℕ) (k : ℕ) : Type 0 where
  pub is_text : k < length names
  pub left : is_left taken k ≡ true
  pub all_taken : first_left names taken k ≡ None

-- the first such text
pub record IsNext (names : List (List ℕ)) (taken : List ℕ) (k : ℕ) : Type 0 where
  pub ready : IsReady names taken k
  pub first : (j : ℕ) → j < k → IsReady names taken j → ⊥

-- what is taken, one text after the other
pub data Takes (names : List (List ℕ)) : List ℕ → Type 0 where
  none : Takes names []
  another : (taken : List ℕ) (k : ℕ) → Takes names taken → IsNext names taken k → Takes names (taken ++ k ∷ [])

-- every text is taken
pub record IsOrder (names : List (List ℕ)) (order : List ℕ) : Type 0 where
  pub takes : Takes names order
  pub whole : (k : ℕ) → k < length names → is_left order k ≡ false

-- ---- the cycle: some are left, none of them can be taken, and the way from one that is left to the next comes to one again

-- none can be taken
pub record IsStuck (names : List (List ℕ)) (taken : List ℕ) : Type 0 where
  pub takes : Takes names taken
  pub stuck : (k : ℕ) → IsReady names taken k → ⊥

pub record IsFirstLeft (names : List (List ℕ)) (taken : List ℕ) (k : ℕ) : Type 0 where
  pub is_text : k < length names
  pub left : is_left taken k ≡ true
  pub first : (j : ℕ) → j < k → is_left taken j ≡ false

-- The way begins at the first text that is left and goes by the first item of a DIRECTORY that names a text which is left; so far it went
-- through these texts, each once, and came to this one.
pub data Walks (names : List (List ℕ)) (taken : List ℕ) : (before : List ℕ) → (at : ℕ) → Type 0 where
  begins : (k : ℕ) → IsFirstLeft names taken k → Walks names taken [] k
  goes : (before : List ℕ) (k j : ℕ) → Walks names taken before k → first_left names taken k ≡ Some j → is_left (before ++ k ∷ []) j ≡ true
      → Walks names taken (before ++ k ∷ []) j

-- from its last text it would come to one again: the cycle is what it went through from that one on
pub record IsCycle (names : List (List ℕ)) (cycle : List ℕ) : Type 0 where
  pub taken : List ℕ
  pub stuck : IsStuck names taken
  pub way : List ℕ
  pub last : ℕ
  pub walks : Walks names taken way last
  pub again : ℕ
  pub comes_again : first_left names taken last ≡ Some again
  pub before : List ℕ
  pub behind : List ℕ
  pub is : cycle ≡ again ∷ behind
  pub of_way : way ++ last ∷ [] ≡ before ++ cycle
