-- Texts have one order or one cycle, and never both: each step, of what is taken and of the way, is the only one.
use Rattle.std.proofs.Common.{◌≡◌, ℕ, ◌<◌, ◌⊎◌, true, false, List, [], ◌∷◌, ◌++◌, Contains, Some, inl, inr, refl, sym, ap, ◌∙◌, subst}
use Rattle.std.proofs.lemmas.Bool.{both_ways, cases_order}
use Rattle.std.proofs.lemmas.Option.{same_Some}
use Rattle.include_rules.specs.Laws.{PlansComeOnce}
use Rattle.include_rules.specs.Naming.{is_left, first_left}
use Rattle.include_rules.specs.Order.{IsNext, Takes, none, another, IsOrder, IsStuck, IsFirstLeft, Walks, begins, goes, IsCycle}
use Rattle.include_rules.proofs.Taking.{IsOnce, contains_first, contains_split, contains_taken, each_more, each_none, heads, left_absent, left_rest, tails}

module _ (names : List (List ℕ)) where
  next_once : (taken : List ℕ) (k j : ℕ) → IsNext names taken k → IsNext names taken j → k ≡ j
  next_once taken k j a b = by (cases_order k j)
    where
      by : (k ≡ j) ⊎ ((k < j) ⊎ (j < k)) → k ≡ j
      by (inl e) = e
      by (inr (inl l)) = absurd (b.first k l a.ready)
      by (inr (inr l)) = absurd (a.first j l b.ready)

  -- ---- what is taken from one list on

  data Onward : List ℕ → List ℕ → Type 0 where
    here : (a : List ℕ) → Onward a a
    next : (a b : List ℕ) (k : ℕ) → IsNext names a k → Onward (a ++ k ∷ []) b → Onward a b

  one_more : (a b : List ℕ) (k : ℕ) → Onward a b → IsNext names b k → Onward a (b ++ k ∷ [])
  one_more a b k (here c) n = next c (c ++ k ∷ []) k n (here (c ++ k ∷ []))
  one_more a b k (next c d j m o) n = next c (d ++ k ∷ []) j m (one_more (c ++ j ∷ []) d k o n)

  onward : (a : List ℕ) → Takes names a → Onward [] a
  onward a none = here []
  onward a (another b k t n) = one_more [] b k (onward b t) n

  Ends : List ℕ → Type 0
  Ends a = (k : ℕ) → IsNext names a k → ⊥

  -- from one list on, one list ends
  one_end : (x a b : List ℕ) → Onward x a → Ends a → Onward x b → Ends b → a ≡ b
  unfolding Ends
  one_end x a b (here c) e (here d) f = refl
  one_end x a b (here c) e (next d g k n o) f = absurd (e k n)
  one_end x a b (next c d j m p) e (here g) f = absurd (f j m)
  one_end x a b (next c d j m p) e (next g h k n o) f = one_end (c ++ j ∷ []) d h p e (subst (λ y. Onward (c ++ y ∷ []) h) (next_once c k j n m) o) f

  ordered_ends : (a : List ℕ) → IsOrder names a → Ends a
  unfolding Ends
  ordered_ends a o k n = both_ways (is_left a k) (o.whole k n.ready.is_text) n.ready.left

  stuck_ends : (a : List ℕ) → IsStuck names a → Ends a
  unfolding Ends
  stuck_ends a s k n = s.stuck k n.ready

  one_order : (a b : List ℕ) → IsOrder names a → IsOrder names b → a ≡ b
  one_order a b o p = one_end [] a b (onward a o.takes) (ordered_ends a o) (onward b p.takes) (ordered_ends b p)

  one_stuck : (a b : List ℕ) → IsStuck names a → IsStuck names b → a ≡ b
  one_stuck a b s t = one_end [] a b (onward a s.takes) (stuck_ends a s) (onward b t.takes) (stuck_ends b t)

  -- ---- the way

  module _ (taken : List ℕ) where
    first_once : (k j : ℕ) → IsFirstLeft names taken k → IsFirstLeft names taken j → k ≡ j
    first_once k j a b = by (cases_order k j)
      where
        by : (k ≡ j) ⊎ ((k < j) ⊎ (j < k)) → k ≡ j
        by (inl e) = e
        by (inr (inl l)) = absurd (both_ways (is_left taken k) (b.first k l) a.left)
        by (inr (inr l)) = absurd (both_ways (is_left taken j) (a.first j l) b.left)

    -- from one text on, behind those that it went through, to another
    data Leads : List ℕ → ℕ → List ℕ → ℕ → Type 0 where
      there : (before : List ℕ) (k : ℕ) → Leads before k before k
      by_way : (before : List ℕ) (k j : ℕ) (way : List ℕ) (last : ℕ) → first_left names taken k ≡ Some j → is_left (before ++ k ∷ []) j ≡ true
          → Leads (before ++ k ∷ []) j way last → Leads before k way last

    leads_more : (b : List ℕ) (k : ℕ) (way : List ℕ) (last j : ℕ) → Leads b k way last → first_left names taken last ≡ Some j
        → is_left (way ++ last ∷ []) j ≡ true → Leads b k (way ++ last ∷ []) j
    leads_more b k way last j (there c l) e h = by_way c l j (c ++ l ∷ []) j e h (there (c ++ l ∷ []) j)
    leads_more b k way last j (by_way c l m w z f g o) e h = by_way c l m (w ++ z ∷ []) j f g (leads_more (c ++ l ∷ []) m w z j o e h)

    record Led (way : List ℕ) (last : ℕ) : Type 0 where
      from : ℕ
      first : IsFirstLeft names taken from
      leads : Leads [] from way last

    led : (way : List ℕ) (last : ℕ) → Walks names taken way last → Led way last
    led way last (begins k f) = record { from = k; first = f; leads = there [] k }
    led way last (goes b k j w e h) = let q = led b k w in record { from = q.from; first = q.first; leads = leads_more [] q.from b k j q.leads e h }

    record Closes (way : List ℕ) (last : ℕ) : Type 0 where
      again : ℕ
      comes : first_left names taken last ≡ Some again
      gone : is_left (way ++ last ∷ []) again ≡ false

    not_on : (way : List ℕ) (last j : ℕ) → Closes way last → first_left names taken last ≡ Some j → is_left (way ++ last ∷ []) j ≡ true → ⊥
    not_on way last j c e h = both_ways (is_left (way ++ last ∷ []) j) (subst (λ y. is_left (way ++ last ∷ []) y ≡ false) (same_Some c.again j (sym c.comes ∙ e)) c.gone) h

    -- from one text on, one way closes
    one_way : (b : List ℕ) (k : ℕ) (way : List ℕ) (last : ℕ) (way' : List ℕ) (last' : ℕ) → Leads b k way last → Closes way last → Leads b k way' last' → Closes way' last'
        → (way ≡ way') × (last ≡ last')
    one_way b k way last way' last' (there c l) x (there d m) y = (refl, refl)
    one_way b k way last way' last' (there c l) x (by_way d m j w z e h o) y = absurd (not_on c l j x e h)
    one_way b k way last way' last' (by_way c l i v u f g p) x (there d m) y = absurd (not_on d m i y f g)
    one_way b k way last way' last' (by_way c l i v u f g p) x (by_way d m j w z e h o) y =
        one_way (c ++ l ∷ []) i v u w z p x (subst (λ t. Leads (c ++ l ∷ []) t w z) (same_Some j i (sym e ∙ f)) o) y

    one_walk : (way : List ℕ) (last : ℕ) (way' : List ℕ) (last' : ℕ) → Walks names taken way last → Closes way last → Walks names taken way' last' → Closes way' last'
        → (way ≡ way') × (last ≡ last')
    one_walk way last way' last' w x w' y =
        let a = led way last w in
        let b = led way' last' w' in
        one_way [] a.from way last way' last' a.leads x (subst (λ t. Leads [] t way' last') (first_once b.from a.from b.first a.first) b.leads) y

    walks_once : (way : List ℕ) (last : ℕ) → Walks names taken way last → IsOnce (way ++ last ∷ [])
    unfolding is_left
    walks_once way last (begins k f) = each_more _ [] k (each_none _) refl
    walks_once way last (goes b k j w e h) = each_more _ (b ++ k ∷ []) j (walks_once b k w) h

  -- ---- an element stands in one place where each stands once

  one_place : (before rest before' rest' : List ℕ) (k : ℕ) → before ++ k ∷ rest ≡ before' ++ k ∷ rest' → IsOnce (before ++ k ∷ rest) → rest ≡ rest'
  one_place [] rest [] rest' k e once = tails e
  one_place [] rest (y ∷ b) rest' k e once = absurd (left_absent (y ∷ b) k (once (y ∷ b) rest' k e) (contains_first y b k (sym (heads e))))
  one_place (x ∷ a) rest [] rest' k e once = absurd (left_absent (x ∷ a) k (once (x ∷ a) rest k refl) (contains_first x a k (heads e)))
  one_place (x ∷ a) rest (y ∷ b) rest' k e once = one_place a rest b rest' k (tails e) (λ c r j s. left_rest x c j (once (x ∷ c) r j (ap (λ l. x ∷ l) s)))

  about : (cycle : List ℕ) (c : IsCycle names cycle) → c.way ++ c.last ∷ [] ≡ c.before ++ c.again ∷ c.behind
  about cycle c = c.of_way ∙ ap (λ l. c.before ++ l) c.is

  closes : (cycle : List ℕ) (c : IsCycle names cycle) → Closes c.taken c.way c.last
  closes cycle c = record {
    again = c.again;
    comes = c.comes_again;
    gone = contains_taken (c.way ++ c.last ∷ []) c.again (subst (λ l. Contains l c.again) (sym (about cycle c)) (contains_split c.before c.behind c.again));
  }

  one_cycle : (a b : List ℕ) → IsCycle names a → IsCycle names b → a ≡ b
  one_cycle a b x y =
      let e = one_stuck y.taken x.taken y.stuck x.stuck in
      let walks : Walks names x.taken y.way y.last = subst (λ t. Walks names t y.way y.last) e y.walks in
      let closing : Closes x.taken y.way y.last = subst (λ t. Closes t y.way y.last) e (closes b y) in
      let q = one_walk x.taken x.way x.last y.way y.last x.walks (closes a x) walks closing in
      let way = q.0 in
      let last = q.1 in
      let comes : first_left names x.taken y.last ≡ Some y.again = subst (λ t. first_left names t y.last ≡ Some y.again) e y.comes_again in
      let again : y.again ≡ x.again = same_Some y.again x.again (sym comes ∙ sym (ap (λ z. first_left names x.taken z) last) ∙ x.comes_again) in
      let one : x.before ++ x.again ∷ x.behind ≡ y.before ++ x.again ∷ y.behind =
      sym (about a x) ∙ ap (λ w. w ++ x.last ∷ []) way ∙ ap (λ z. y.way ++ z ∷ []) last ∙ about b y ∙ ap (λ z. y.before ++ z ∷ y.behind) again in
      let behind = one_place x.before x.behind y.before y.behind x.again one (subst IsOnce (about a x) (walks_once x.taken x.way x.last x.walks)) in
      x.is ∙ ap (λ l. x.again ∷ l) behind ∙ ap (λ z. z ∷ y.behind) (sym again) ∙ sym y.is

  not_both : (a b : List ℕ) → IsOrder names a → IsCycle names b → ⊥
  not_both a b o c =
      let e = one_end [] c.taken a (onward c.taken c.stuck.takes) (stuck_ends c.taken c.stuck) (onward a o.takes) (ordered_ends a o) in
      let q = led c.taken c.way c.last c.walks in
      both_ways (is_left c.taken q.from) (subst (λ t. is_left t q.from ≡ false) (sym e) (o.whole q.from q.first.is_text)) q.first.left

pub plans_come_once : PlansComeOnce
plans_come_once = record { one_order = one_order; one_cycle = one_cycle; not_both = not_both }
