-- The way from the first text that is left.
use Rattle.std.proofs.Common.{◌≡◌, ℕ, ◌+◌, ◌<◌, ◌≤◌, Bool, true, false, cond, List, [], ◌∷◌, ◌++◌, None, Some, length, find, take, drop, get_or, refl, sym, ap, ◌∙◌, subst}
use Rattle.std.proofs.lemmas.Bool.{both_ways}
use Rattle.std.proofs.lemmas.Option.{none-some, same_Some}
use Rattle.std.proofs.lemmas.List.{drop_more, take_more, take-append-drop, take_all}
use Rattle.include_rules.specs.Naming.{is_left, first_left}
use Rattle.include_rules.specs.Order.{IsStuck, IsFirstLeft, Walks, begins, goes, IsCycle}
use Rattle.include_checker.specs.Graphs.{IsGraph}
use Rattle.include_checker.specs.Ways.{Ends}
use Rattle.include_checker.proofs.Taking.{count_left, fewer_left, still_left}

-- what is found passes
found : (p : ℕ → Bool) (xs : List ℕ) (j : ℕ) → find p xs ≡ Some j → p j ≡ true
found p [] j e = absurd (none-some j e)
found p (x ∷ xs) j e =
    let by : (b : Bool) → p x ≡ b → cond b (Some x) (find p xs) ≡ Some j → p j ≡ true = λ b.
    elim b as (λ b. p x ≡ b → cond b (Some x) (find p xs) ≡ Some j → p j ≡ true) [
      | true ↦ λ passes same. ap p (sym (same_Some x j same)) ∙ passes
      | false ↦ λ fails rest. found p xs j rest
    ] in
    by (p x) refl e

-- a text that is left and named by one from which it is gone on
pub is_left_too : (names : List (List ℕ)) (taken : List ℕ) (k : ℕ) (j : ℕ) → first_left names taken k ≡ Some j → is_left taken j ≡ true
is_left_too names taken k j names_it = found (is_left taken) _ j names_it

-- where nothing can be taken, one that is left names one that is left
pub goes_on : (names : List (List ℕ)) (taken : List ℕ) (k : ℕ) → IsStuck names taken → k < length names → is_left taken k ≡ true
    → first_left names taken k ≡ None → ⊥
goes_on names taken k s below left ends = s.stuck k (record { is_text = below; left = left; all_taken = ends })

-- the way so far, with its last text, and the one that comes next
pub record Walked (names : List (List ℕ)) (taken way : List ℕ) (next : ℕ) : Type 0 where
  pub before : List ℕ
  pub last : ℕ
  pub walks : Walks names taken before last
  pub is : way ≡ before ++ last ∷ []
  pub comes : first_left names taken last ≡ Some next

pub begun : (names : List (List ℕ)) (taken way : List ℕ) (first next : ℕ) → IsFirstLeft names taken first → way ≡ first ∷ [] → first_left names taken first ≡ Some next
    → Walked names taken way next
begun names taken way first next f is comes = record { before = []; last = first; walks = begins first f; is = is; comes = comes }

pub gone_on : (names : List (List ℕ)) (taken way seen more : List ℕ) (next behind : ℕ) → seen ≡ way → is_left seen next ≡ true → more ≡ way ++ next ∷ []
    → first_left names taken next ≡ Some behind → Walked names taken way next → Walked names taken more behind
gone_on names taken way seen more next behind same new is comes w =
    let P : List ℕ → Type 0 = λ t. is_left t next ≡ true in
    record {
      before = w.before ++ w.last ∷ [];
      last = next;
      walks = goes w.before w.last next w.walks w.comes (subst P (same ∙ w.is) new);
      is = is ∙ ap (λ t. t ++ next ∷ []) w.is;
      comes = comes;
    }

pub next_is_text : (names : List (List ℕ)) (taken way : List ℕ) (next : ℕ) → IsGraph names → Walked names taken way next → next < length names
next_is_text names taken way next g w = g.within taken w.last next w.comes

pub next_is_left : (names : List (List ℕ)) (taken way : List ℕ) (next : ℕ) → Walked names taken way next → is_left taken next ≡ true
next_is_left names taken way next w = is_left_too names taken w.last next w.comes

pub fewer_to_walk : (names : List (List ℕ)) (taken way seen more : List ℕ) (next : ℕ) → IsGraph names → seen ≡ way → is_left seen next ≡ true → more ≡ way ++ next ∷ []
    → Walked names taken way next → count_left more (length names) < count_left way (length names)
fewer_to_walk names taken way seen more next g same new is w =
    let P : List ℕ → Type 0 = λ t. is_left t next ≡ true in
    let Q : List ℕ → Type 0 = λ t. count_left t (length names) < count_left way (length names) in
    subst Q (sym is) (fewer_left way next (length names) (next_is_text names taken way next g w) (subst P same new))

pub closes : (names : List (List ℕ)) (taken way seen cycle : List ℕ) (next : ℕ) → IsStuck names taken → seen ≡ way → Walked names taken way next → Ends seen next cycle
    → IsCycle names cycle
closes names taken way seen cycle next s same w e = record {
  taken = taken;
  stuck = s;
  way = w.before;
  last = w.last;
  walks = w.walks;
  again = next;
  comes_again = w.comes;
  before = e.before;
  behind = e.behind;
  is = e.is;
  of_way = sym w.is ∙ sym same ∙ e.of_way;
}

-- ---- the end of a way

pub ends_at : (way : List ℕ) (text at : ℕ) (cycle : List ℕ) → at < length way → get_or way at 0 ≡ text → cycle ≡ drop at way → Ends way text cycle
ends_at way text at cycle below same is = record {
  before = take at way;
  behind = drop (at + 1) way;
  is = is ∙ drop_more way at 0 below ∙ ap (λ k. k ∷ drop (at + 1) way) same;
  of_way = sym (take-append-drop at way) ∙ ap (λ rest. take at way ++ rest) (sym is);
}

pub not_yet : (way : List ℕ) (text at : ℕ) → at < length way → (get_or way at 0 ≡ text → ⊥) → is_left (take at way) text ≡ true → is_left (take (at + 1) way) text ≡ true
not_yet way text at below other left = ap (λ t. is_left t text) (take_more way at 0 below) ∙ still_left (take at way) (get_or way at 0) text other ∙ left

pub never : (way : List ℕ) (text at : ℕ) → length way ≤ at → is_left (take at way) text ≡ true → is_left way text ≡ false → ⊥
never way text at past left gone = both_ways (is_left way text) gone (sym (ap (λ t. is_left t text) (take_all at way past)) ∙ left)
