-- What is gathered so far, and what is found once more mentions are read.
use Rattle.std.specs.Prelude.{◌≡◌, ℕ, List, ◌++◌, reverse, is_some}
use Rattle.check_scopes.specs.Scopes.{has}
use Rattle.check_scopes.specs.Shows.{means}
use Rattle.check_rules.specs.Mentions.{Mention, texts, origins}
use Rattle.check_mentions.specs.declared.gathered.Gathered.{Gathered}

-- the literals, each where it stands first, and the tokens
pub record Found : Type 0 where
  pub texts : List (List ℕ)
  pub origins : List ℕ

-- what is found once these are read too
unfoldable pub found : Gathered → List Mention → Found
found g ms = record { texts = g.texts ++ texts (reverse g.texts) ms; origins = g.origins ++ origins ms }

-- the index has the literals and no others
abbrev pub IsIndexed : Gathered → Type 0
IsIndexed g = (x : List ℕ) → has x (reverse g.texts) ≡ is_some (means g.seen x)

-- of these mentions so much is read that those are left
pub record Leaves (old : Gathered) (all : List Mention) (new : Gathered) (left : List Mention) : Type 0 where
  pub indexed : IsIndexed new
  pub agrees : (ms : List Mention) → found new (left ++ ms) ≡ found old (all ++ ms)
