-- Orders and cycles are the same in graphs that look alike.
use Rattle.std.proofs.Common.{ℕ, ◌<◌, List, sym, ◌∙◌, subst}
use Rattle.include_rules.specs.Order.{IsReady, IsNext, Takes, none, another, IsOrder, IsStuck, IsFirstLeft, Walks, begins, goes, IsCycle}
use Rattle.include_checker.specs.Graphs.{LooksAs}

module _ (names others : List (List ℕ)) (same : LooksAs names others) where
  ready : (taken : List ℕ) (k : ℕ) → IsReady names taken k → IsReady others taken k
  ready taken k r = let P : ℕ → Type 0 = λ n. k < n in record {
    is_text = subst P same.as_long r.is_text;
    left = r.left;
    all_taken = sym (same.same_left taken k) ∙ r.all_taken;
  }

  ready_before : (taken : List ℕ) (k : ℕ) → IsReady others taken k → IsReady names taken k
  ready_before taken k r = let P : ℕ → Type 0 = λ n. k < n in record {
    is_text = subst P (sym same.as_long) r.is_text;
    left = r.left;
    all_taken = same.same_left taken k ∙ r.all_taken;
  }

  next : (taken : List ℕ) (k : ℕ) → IsNext names taken k → IsNext others taken k
  next taken k n = record { ready = ready taken k n.ready; first = λ j below r. n.first j below (ready_before taken j r) }

  takes : {taken : List ℕ} → Takes names taken → Takes others taken
  takes none = none
  takes (another taken k before n) = another taken k (takes before) (next taken k n)

  stuck : (taken : List ℕ) → IsStuck names taken → IsStuck others taken
  stuck taken s = record { takes = takes s.takes; stuck = λ k r. s.stuck k (ready_before taken k r) }

  first : (taken : List ℕ) (k : ℕ) → IsFirstLeft names taken k → IsFirstLeft others taken k
  first taken k f = let P : ℕ → Type 0 = λ n. k < n in record { is_text = subst P same.as_long f.is_text; left = f.left; first = f.first }

  walks : {taken before : List ℕ} {at : ℕ} → Walks names taken before at → Walks others taken before at
  walks {taken = taken} (begins k f) = begins k (first taken k f)
  walks {taken = taken} (goes before k j w names_it new) = goes before k j (walks w) (sym (same.same_left taken k) ∙ names_it) new

  pub same_order : (order : List ℕ) → IsOrder names order → IsOrder others order
  same_order order o = record {
    takes = takes o.takes;
    whole = λ k below. o.whole k (let P : ℕ → Type 0 = λ n. k < n in subst P (sym same.as_long) below);
  }

  pub same_cycle : (cycle : List ℕ) → IsCycle names cycle → IsCycle others cycle
  same_cycle cycle c = record {
    taken = c.taken;
    stuck = stuck c.taken c.stuck;
    way = c.way;
    last = c.last;
    walks = walks c.walks;
    again = c.again;
    comes_again = sym (same.same_left c.taken c.last) ∙ c.comes_again;
    before = c.before;
    behind = c.behind;
    is = c.is;
    of_way = c.of_way;
  }
