-- Blanks and comments: what stands between tokens (Language Manual, chapter 2).
use Rattle.std.specs.Prelude.{ℕ, suc, Bool, false, ◌&&◌, ◌||◌, ◌==◌, List, [], ◌∷◌, IsTrue, IsFalse}

-- line feed and carriage return end a line
abbrev pub ends_line : ℕ → Bool
ends_line b = (b == 10) || (b == 13)

-- the blanks are tab, line feed, form feed, carriage return and space
abbrev pub is_blank : ℕ → Bool
is_blank b = (b == 9) || ((b == 10) || ((b == 12) || ((b == 13) || (b == 32))))

-- this byte stands first
abbrev pub begins_with : ℕ → List ℕ → Bool
begins_with b [] = false
begins_with b (a ∷ rest) = a == b

-- two hyphens stand first
abbrev pub begins_with_hyphens : List ℕ → Bool
begins_with_hyphens [] = false
begins_with_hyphens (a ∷ rest) = (a == 45) && begins_with 45 rest

-- behind its first two hyphens a comment goes on for n bytes: to a line's end or the text's end, or through the next two hyphens
pub data GoesOn : List ℕ → ℕ → Type 0 where
  to_text_end : GoesOn [] 0
  to_line_end : {b : ℕ} {rest : List ℕ} → IsTrue (ends_line b) → GoesOn (b ∷ rest) 0
  through_hyphens : {rest : List ℕ} → IsTrue (begins_with_hyphens rest) → GoesOn rest 2
  past : {b n : ℕ} {rest : List ℕ} → IsFalse (ends_line b) → IsFalse (begins_with_hyphens (b ∷ rest)) → GoesOn rest n → GoesOn (b ∷ rest) (suc n)

-- the bytes begin with a blank, or with a comment, of n bytes
pub data IsGap : List ℕ → ℕ → Type 0 where
  blank : {b : ℕ} {rest : List ℕ} → IsTrue (is_blank b) → IsGap (b ∷ rest) 1
  comment : {a b n : ℕ} {rest : List ℕ} → IsTrue (begins_with_hyphens (a ∷ b ∷ rest)) → GoesOn rest n → IsGap (a ∷ b ∷ rest) (suc (suc n))
