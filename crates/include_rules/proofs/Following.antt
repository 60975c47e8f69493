-- In an order each text stands once, behind all that it names.
use Rattle.std.proofs.Common.{◌≡◌, ℕ, true, List, [], ◌∷◌, ◌++◌, nat_eq}
use Rattle.std.proofs.lemmas.Bool.{and_parts, not-true}
use Rattle.std.specs.List.{AllByRecursion, IsDistinct}
use Rattle.include_rules.specs.Laws.{OrdersFollowNames}
use Rattle.include_rules.specs.Naming.{is_left, named_by}
use Rattle.include_rules.specs.Order.{IsNext, Takes, none, another}
use Rattle.include_rules.proofs.Taking.{EachIs, each_more, each_none, find_none, splits, taken_contains}

all_more : (P : ℕ → Type 0) (L : List ℕ) (k : ℕ) → AllByRecursion P L → P k → AllByRecursion P (L ++ k ∷ [])
all_more P [] k all here = (here, tt)
all_more P (t ∷ L) k all here = (all.0, all_more P L k all.1 here)

distinct_more : (L : List ℕ) (k : ℕ) → IsDistinct nat_eq L → is_left L k ≡ true → IsDistinct nat_eq (L ++ k ∷ [])
unfolding IsDistinct is_left
distinct_more [] k d h = (tt, tt)
distinct_more (t ∷ L) k d h = let q = and_parts _ (is_left L k) h in (all_more _ L k d.0 (not-true (nat_eq t k) q.0), distinct_more L k d.1 q.1)

module _ (names : List (List ℕ)) where
  takes_distinct : (L : List ℕ) → Takes names L → IsDistinct nat_eq L
  unfolding IsDistinct
  takes_distinct L none = tt
  takes_distinct L (another taken k t n) = distinct_more taken k (takes_distinct taken t) n.ready.left

  pub takes_next : (L : List ℕ) → Takes names L → EachIs (IsNext names) L
  takes_next L none = each_none (IsNext names)
  takes_next L (another taken k t n) = each_more (IsNext names) taken k (takes_next taken t) n

pub orders_follow_names : OrdersFollowNames
orders_follow_names names order o = record {
  once = takes_distinct names order o.takes;
  texts = λ k. (λ c. let s = splits order k c in (takes_next names order o.takes s.before s.rest k s.is).ready.is_text, λ l. taken_contains order k (o.whole k l));
  behind = λ before rest k j e c.
      taken_contains before j (find_none (is_left before) (named_by names k) (takes_next names order o.takes before rest k e).ready.all_taken j c);
}
