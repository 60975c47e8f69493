-- What is found in the tables of links is the number of the link.
use Rattle.std.proofs.Common.{◌≡◌, refl, sym, ap, ◌∙◌, ℕ, zero, suc, ◌+◌, ◌-◌, ◌<◌, ◌≤◌, List, [], ◌∷◌, ◌++◌, Some, None, length, get_or, drop, drop-cons, eq-eqb, if◌then◌else◌, arith}
use Rattle.std.proofs.lemmas.Bool.{ne_eqb}
use Rattle.std.specs.Prelude.{slice_get, slice_set}
use Rattle.mesa_types.specs.declared.faces.Import.{Import}
use Rattle.code_rules.specs.Links.{link_number, rank}
use Rattle.code_trees.specs.LinkTables.{count_links, ranks_from, tables_from}
use Rattle.code_trees.specs.declared.link_table.LinkTable.{LinkTable}

-- Making the ranks.

unused_next : (more item count : ℕ) → ranks_from more item count [] ++ more ∷ [] ≡ ranks_from more item (suc count) []
unfolding ranks_from
unused_next more item zero = ap (λ n. n ∷ []) {x = more} {y = more + 0} (omega arith)
unused_next more item (suc count) = ap (λ l. (more + 0) ∷ l) (unused_next more (suc item) count)

pub one_more_unused : (more count : ℕ) → ranks_from more 0 count [] ++ more ∷ [] ≡ ranks_from more 0 (count + 1) []
one_more_unused more count = unused_next more 0 count ∙ ap (λ n. ranks_from more 0 n []) {x = suc count} {y = count + 1} (omega arith)

pub none_unused : (more : ℕ) → ranks_from more 0 0 [] ≡ []
unfolding ranks_from
none_unused more = refl

pub as_many_ranks : (more item count : ℕ) (used : List ℕ) → length (ranks_from more item count used) ≡ count
unfolding ranks_from
as_many_ranks more item zero used = refl
as_many_ranks more item (suc count) used = ap suc (as_many_ranks more (suc item) count used)

rank_first : (m : ℕ) (rest : List ℕ) → rank m (m ∷ rest) ≡ 0
rank_first m rest = ap (λ b. if b then 0 else suc (rank m rest)) (eq-eqb m m refl)

rank_other : (i m : ℕ) (rest : List ℕ) → (m ≡ i → ⊥) → rank i (m ∷ rest) ≡ suc (rank i rest)
rank_other i m rest other = ap (λ b. if b then 0 else suc (rank i rest)) (ne_eqb m i other)

-- an item that is used once more, before those of the rest, is none of these
others : (more item count m : ℕ) (rest : List ℕ) → ((i : ℕ) → item ≤ i → i < item + count → m ≡ i → ⊥)
    → ranks_from (suc more) item count rest ≡ ranks_from more item count (m ∷ rest)
unfolding ranks_from
others more item zero m rest other = refl
others more item (suc count) m rest other =
    let here : suc more + rank item rest ≡ more + rank item (m ∷ rest) = omega (arith, rank_other item m rest (other item (omega arith) (omega arith))) in
    ap (λ n. n ∷ ranks_from (suc more) (suc item) count rest) here
    ∙ ap (λ l. (more + rank item (m ∷ rest)) ∷ l) (others more (suc item) count m rest (λ i from upto. other i (omega (arith, from)) (omega (arith, upto))))

-- or it is one of these, and gets the first rank
ranked : (more item count k m : ℕ) (rest : List ℕ) → item + k ≡ m → k < count
    → slice_set (ranks_from (suc more) item count rest) k more ≡ ranks_from more item count (m ∷ rest)
unfolding ranks_from
ranked more item zero k m rest is lt = let no : ⊥ = omega (arith, lt) in absurd no
ranked more item (suc count) zero m rest is lt =
    let same : m ≡ item = omega (arith, is) in
    let here : more ≡ more + rank item (m ∷ rest) = omega (arith, ap (λ n. rank item (n ∷ rest)) same, rank_first item rest) in
    ap (λ n. n ∷ ranks_from (suc more) (suc item) count rest) here
    ∙ ap (λ l. (more + rank item (m ∷ rest)) ∷ l) (others more (suc item) count m rest (λ i from upto e. omega (arith, from, e, same)))
ranked more item (suc count) (suc k) m rest is lt =
    let here : suc more + rank item rest ≡ more + rank item (m ∷ rest) = omega (arith, rank_other item m rest (λ e. omega (arith, e, is))) in
    ap (λ n. n ∷ slice_set (ranks_from (suc more) (suc item) count rest) k more) here
    ∙ ap (λ l. (more + rank item (m ∷ rest)) ∷ l) (ranked more (suc item) count k m rest (omega (arith, is)) (omega (arith, lt)))

-- the used items are gone through from the last one on
module _ (used : List ℕ) (items k : ℕ) (some : 0 < k) (within : k ≤ length used) where
  one_less : k ≡ suc (k - 1)
  one_less = omega (arith, some)

  split : drop (k - 1) used ≡ get_or used (k - 1) 0 ∷ drop k used
  split = drop-cons used (k - 1) 0 (omega (arith, some, within)) ∙ ap (λ n. get_or used (k - 1) 0 ∷ drop n used) (sym one_less)

  pub rank_put : (old new : List ℕ) → old ≡ ranks_from k 0 items (drop k used) → get_or used (k - 1) 0 < items
      → new ≡ slice_set old (get_or used (k - 1) 0) (k - 1) → new ≡ ranks_from (k - 1) 0 items (drop (k - 1) used)
  rank_put old new is_old inside is_new =
      is_new
      ∙ ap (λ l. slice_set l (get_or used (k - 1) 0) (k - 1)) is_old
      ∙ ap (λ n. slice_set (ranks_from n 0 items (drop k used)) (get_or used (k - 1) 0) (k - 1)) one_less
      ∙ ranked (k - 1) 0 items (get_or used (k - 1) 0) (get_or used (k - 1) 0) (drop k used) (omega arith) inside
      ∙ ap (λ l. ranks_from (k - 1) 0 items l) (sym split)

  pub rank_left : (old : List ℕ) → old ≡ ranks_from k 0 items (drop k used) → (get_or used (k - 1) 0 < items → ⊥)
      → old ≡ ranks_from (k - 1) 0 items (drop (k - 1) used)
  rank_left old is_old outside =
      is_old
      ∙ ap (λ n. ranks_from n 0 items (drop k used)) one_less
      ∙ others (k - 1) 0 items (get_or used (k - 1) 0) (drop k used) (λ i from upto e. outside (omega (arith, upto, e)))
      ∙ ap (λ l. ranks_from (k - 1) 0 items l) (sym split)

-- Looking up.

rank_there : (more item count i : ℕ) (used : List ℕ) (found : ℕ) → slice_get (ranks_from more item count used) i ≡ Some found → found ≡ more + rank (item + i) used
unfolding ranks_from
rank_there more item zero i used found e = cc
rank_there more item (suc count) zero used found e =
    let here : more + rank item used ≡ found = cc in
    sym here ∙ ap (λ k. more + rank k used) {x = item} {y = item + 0} (omega arith)
rank_there more item (suc count) (suc i) used found e =
    rank_there more (suc item) count i used found e ∙ ap (λ k. more + rank k used) {x = suc item + i} {y = item + suc i} (omega arith)

table_there : (start : ℕ) (imports : List Import) (k n : ℕ) (t : LinkTable) (found : ℕ)
    → slice_get (tables_from start imports) k ≡ Some t → slice_get t.ranks n ≡ Some found → start + link_number imports k n ≡ t.start + found
unfolding tables_from
table_there start [] k n t found e f = cc
table_there start (m ∷ ms) zero n t found e f =
    let same : record { start = start; ranks = ranks_from 0 0 (length m.face.items) m.used } ≡ t = cc in
    let rank_is : found ≡ 0 + rank (0 + n) m.used = rank_there 0 0 (length m.face.items) n m.used found (ap (λ (x : LinkTable). slice_get x.ranks n) same ∙ f) in
    let plain_rank : rank (0 + n) m.used ≡ rank n m.used = ap (λ k. rank k m.used) {x = 0 + n} {y = n} (omega arith) in
    let start_is : start ≡ t.start = ap (λ (x : LinkTable). x.start) same in
    omega (arith, rank_is, plain_rank, start_is)
table_there start (m ∷ ms) (suc k) n t found e f = omega (arith, table_there (start + length m.used) ms k n t found e f)

import_there : (start : ℕ) (imports : List Import) (k n : ℕ) (t : LinkTable) (m : Import)
    → slice_get (tables_from start imports) k ≡ Some t → slice_get imports k ≡ Some m → start + link_number imports k n ≡ t.start + rank n m.used
unfolding tables_from
import_there start [] k n t m e f = cc
import_there start (i ∷ is) zero n t m e f =
    let same : record { start = start; ranks = ranks_from 0 0 (length i.face.items) i.used } ≡ t = cc in
    let import_is : i ≡ m = cc in
    let start_is : start ≡ t.start = ap (λ (x : LinkTable). x.start) same in
    let rank_is : rank n i.used ≡ rank n m.used = ap (λ (x : Import). rank n x.used) import_is in
    omega (arith, start_is, rank_is)
import_there start (i ∷ is) (suc k) n t m e f = omega (arith, import_there (start + length i.used) is k n t m e f)

pub past_imports : (imports : List Import) (k n : ℕ) → slice_get imports k ≡ None → count_links imports ≡ link_number imports k n
unfolding count_links
past_imports [] k n e = refl
past_imports (m ∷ ms) zero n e = cc
past_imports (m ∷ ms) (suc k) n e = ap (λ c. length m.used + c) (past_imports ms k n e)

tables_end : (start : ℕ) (imports : List Import) (k n : ℕ) → slice_get (tables_from start imports) k ≡ None → count_links imports ≡ link_number imports k n
unfolding tables_from count_links
tables_end start [] k n e = refl
tables_end start (m ∷ ms) zero n e = cc
tables_end start (m ∷ ms) (suc k) n e = ap (λ c. length m.used + c) (tables_end (start + length m.used) ms k n e)

pub past_tables : (imports : List Import) (k n : ℕ) → slice_get (tables_from 0 imports) k ≡ None → count_links imports ≡ link_number imports k n
past_tables imports k n e = tables_end 0 imports k n e

pub in_table : (imports : List Import) (k n : ℕ) (t : LinkTable) (found : ℕ) → slice_get (tables_from 0 imports) k ≡ Some t
    → slice_get t.ranks n ≡ Some found → t.start + found ≡ link_number imports k n
in_table imports k n t found e f = omega (arith, table_there 0 imports k n t found e f)

pub in_import : (imports : List Import) (k n : ℕ) (t : LinkTable) (m : Import) → slice_get (tables_from 0 imports) k ≡ Some t
    → slice_get imports k ≡ Some m → t.start + rank n m.used ≡ link_number imports k n
in_import imports k n t m e f = omega (arith, import_there 0 imports k n t m e f)
