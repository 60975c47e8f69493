-- Rows of blocks of a walk over a list: none, and one more.
use Rattle.std.proofs.Common.{◌≡◌, ap, ◌∙◌, ℕ, ◌+◌, ◌≤◌, List, [], ◌∷◌, ◌++◌, arith}
use Rattle.code_blocks.specs.Blocks.{Block}
use Rattle.code_blocks.specs.Sizes.{size}
use Rattle.code_trees.specs.Excess.{excess}
use Rattle.code_trees.specs.Plain.{in_order}
use Rattle.code_trees.specs.Rows.{sizes_in}
use Rattle.code_trees.proofs.RowLaws.{size_begun, turn_small}
use Rattle.code_trees.proofs.SizeFits.{size_fits}

pub begun_small : (bs : List Block) (all : Block) → bs ≡ [] → excess all ≡ 0 → sizes_in bs + size all ≤ 4294967295
begun_small bs all is h = omega (arith, size_begun bs (size all) is, size_fits all h)

pub sizes_begun : (old all : List ℕ) → old ≡ [] → old ++ all ≡ all
sizes_begun old all is = ap (λ l. l ++ all) is

-- one more behind those that were held

pub one_put : {A : Type 0} (old held new : List A) (made b : A) → held ≡ old → made ≡ b → new ≡ held ++ made ∷ [] → new ≡ old ++ b ∷ []
one_put old held new made b is_held is_made put = put ∙ ap (λ l. l ++ made ∷ []) is_held ∙ ap (λ x. old ++ x ∷ []) is_made

pub two_put : {A : Type 0} (old held new : List A) (made b c : A) → held ≡ old → made ≡ b → new ≡ held ++ made ∷ c ∷ [] → new ≡ old ++ b ∷ c ∷ []
two_put old held new made b c is_held is_made put = put ∙ ap (λ l. l ++ made ∷ c ∷ []) is_held ∙ ap (λ x. old ++ x ∷ c ∷ []) is_made

pub three_put : {A : Type 0} (old held new : List A) (a made b c : A) → held ≡ old → made ≡ b → new ≡ held ++ a ∷ made ∷ c ∷ [] → new ≡ old ++ a ∷ b ∷
    c ∷ []
three_put old held new a made b c is_held is_made put = put ∙ ap (λ l. l ++ a ∷ made ∷ c ∷ []) is_held ∙ ap (λ x. old ++ a ∷ x ∷ c ∷ []) is_made

pub turn_room : (old made new : List Block) (all rest : Block) → all ≡ in_order made rest → new ≡ old ++ made → sizes_in old + size all ≤ 4294967295
    → sizes_in new + size rest ≤ 4294967295
turn_room old made new all rest is put h = omega (arith, h, turn_small old made new all rest is put)
