-- The sweep over the ends of the ranges.
use Rattle.std.proofs.Common.{◌≡◌, ℕ, zero, suc, ◌+◌, ◌-◌, ◌<◌, ◌≤◌, ◌⊎◌, inl, inr, ⊎_elim, List, [], ◌∷◌, ◌++◌, length, get_or, true, false, ◌&&◌, cond, nat_le, nat_lt, Option, Some, None, refl, sym, ap, subst, ◌∙◌, arith}
use Rattle.std.specs.Prelude.{Contains}
use Rattle.std.specs.List.Sorted.{IsNonDecreasingBy}
use Rattle.std.proofs.Math.Seq.{get_or-append_seam}
use Rattle.std.proofs.lemmas.Bool.{cases_lt, cases_eq, le-leb, lt-leb, lt-ltb, le-ltb}
use Rattle.std.proofs.lemmas.List.{length-append, get_or_append_left}
use Rattle.std.proofs.lemmas.List.Elements.{Contains-append_left, Contains-push, Contains-push_cases}
use Rattle.std.proofs.lemmas.Option.{slice_get-get_or, get_or_from_slice_get}
use Rattle.code_forms.specs.declared.module_code.Phrase.{Phrase}
use Rattle.signaller.specs.Search.{covers, innermost_of}
use Rattle.signaller.specs.Sweep.{Sweeps}
use Rattle.signaller.proofs.Enabled.{innermost_at, innermost_before, innermost_is}

-- a phrase, where any will do
abbrev pub no_phrase : Phrase
no_phrase = record { from = 0; to = 0; arms = [] }

pub same_default : {X : Type 0} (xs : List X) (i : ℕ) (d e : X) → i < length xs → get_or xs i d ≡ get_or xs i e
same_default xs i d e l = get_or_from_slice_get xs i (get_or xs i e) d (slice_get-get_or xs i e l)

pub sweeps_none : (table : List Phrase) (at : ℕ) → Sweeps table [] 0 at
sweeps_none table at = record {
  bound = omega arith;
  below = λ j l. absurd (omega arith);
  rising = λ i j l m. absurd (omega arith);
  begun = λ j d l. absurd (omega arith);
  kept = λ k o d l m n. absurd (omega arith);
}

pub sweeps_on : (table : List Phrase) (opened : List ℕ) (next before at : ℕ) → before ≤ at → Sweeps table opened next before → Sweeps table opened next at
sweeps_on table opened next before at l s = record {
  bound = s.bound;
  below = s.below;
  rising = s.rising;
  begun = λ j d m. (let b = s.begun j d m in omega (arith, b, l));
  kept = λ k o d m n h. s.kept k o d m (omega arith) h;
}

-- the last of a list that was pushed to
last_is : (xs : List ℕ) (x : ℕ) → get_or (xs ++ x ∷ []) (length xs) 0 ≡ x
last_is xs x = get_or-append_seam xs x [] 0

pub sweeps_push : (table : List Phrase) (opened : List ℕ) (next at : ℕ) → Sweeps table opened next at → next < length table → ((d : Phrase) → (get_or table next d).from ≤ at) → Sweeps table (opened ++ next ∷ []) (next + 1) at
sweeps_push table opened next at s l from =
    let len = length-append opened (next ∷ []) in
    let read : (j : ℕ) → j < length opened → get_or (opened ++ next ∷ []) j 0 ≡ get_or opened j 0 = λ j m. get_or_append_left opened (next ∷ []) 0 j m in
    let last : (j : ℕ) → j < length (opened ++ next ∷ []) → length opened ≤ j → get_or (opened ++ next ∷ []) j 0 ≡ next
    = λ j m n. (let e : j ≡ length opened = omega (arith, len, m, n) in ap (λ i. get_or (opened ++ next ∷ []) i 0) e ∙ last_is opened next) in
    record {
      bound = omega arith;
      below = λ j m. ⊎_elim
          (λ (a : j < length opened). let r = read j a in let b = s.below j a in omega (arith, r, b))
          (λ (a : length opened ≤ j). let r = last j m a in omega (arith, r))
          (cases_lt j (length opened));
      rising = λ i j ij m. ⊎_elim
          (λ (a : j < length opened). let r = read j a in let q = read i (omega arith) in let b = s.rising i j ij a in omega (arith, r, q, b))
          (λ (a : length opened ≤ j). let r = last j m a in let w : i < length opened = omega (arith, len, m, ij) in let q = read i w in let b = s.below i w in omega (arith, r, q, b))
          (cases_lt j (length opened));
      begun = λ j d m. ⊎_elim
          (λ (a : j < length opened). let r = ap (λ i. (get_or table i d).from) (read j a) in let b = s.begun j d a in omega (arith, r, b))
          (λ (a : length opened ≤ j). let r = ap (λ i. (get_or table i d).from) (last j m a) in let b = from d in omega (arith, r, b))
          (cases_lt j (length opened));
      kept = λ k o d m n h. ⊎_elim
          (λ (a : k < next). Contains-append_left opened (next ∷ []) k (s.kept k o d a n h))
          (λ (a : next ≤ k). let e : next ≡ k = omega arith in subst (λ i. Contains (opened ++ next ∷ []) i) e (Contains-push opened next))
          (cases_lt k next);
    }

pub sweeps_pop : (table : List Phrase) (opened rest : List ℕ) (top next at : ℕ) → opened ≡ rest ++ top ∷ [] → Sweeps table opened next at → ((d : Phrase) → (get_or table (get_or opened (length opened - 1) 0) d).to ≤ at) → Sweeps table rest next at
sweeps_pop table opened rest top next at e s over =
    let len = ap length e ∙ length-append rest (top ∷ []) in
    let read : (j : ℕ) → j < length rest → get_or opened j 0 ≡ get_or rest j 0 = λ j m. ap (λ l. get_or l j 0) e ∙ get_or_append_left rest (top ∷ []) 0 j m in
    let is : get_or opened (length opened - 1) 0 ≡ top = (let k : length opened - 1 ≡ length rest = omega (arith, len) in ap (λ i. get_or opened i 0) k ∙ (ap (λ l. get_or l (length rest) 0) e ∙ last_is rest top)) in
    record {
      bound = s.bound;
      below = λ j m. (let r = read j m in let b = s.below j (omega (arith, len, m)) in omega (arith, r, b));
      rising = λ i j ij m. (let r = read j m in let q = read i (omega arith) in let b = s.rising i j ij (omega (arith, len, m)) in omega (arith, r, q, b));
      begun = λ j d m. (let r = ap (λ i. (get_or table i d).from) (read j m) in let b = s.begun j d (omega (arith, len, m)) in omega (arith, r, b));
      kept = λ k o d m n h. ⊎_elim
          (λ (c : Contains rest k). c)
          (λ (c : top ≡ k). absurd (let v = over d in let w = ap (λ i. (get_or table i d).to) (is ∙ c) in omega (arith, v, w, h, n)))
          (Contains-push_cases rest top k (subst (λ l. Contains l k) e (s.kept k o d m n h)));
    }

-- what covers an offset and what does not
pub covers_not : (p : Phrase) (o : ℕ) → (o < p.from) ⊎ (p.to ≤ o) → covers p o ≡ false
covers_not p o h = ⊎_elim
    (λ (a : o < p.from). ap (λ b. b && nat_lt o p.to) (lt-leb p.from o a))
    (λ (a : p.to ≤ o). elim (nat_le p.from o) as (λ b. (b && nat_lt o p.to) ≡ false) [ true ↦ le-ltb o p.to a | false ↦ refl ]) h

pub covers_it : (p : Phrase) (o : ℕ) → p.from ≤ o → o < p.to → covers p o ≡ true
covers_it p o a b = ap (λ c. c && nat_lt o p.to) (le-leb p.from o a) ∙ lt-ltb o p.to b

at_covered : (n : ℕ) (before : Option ℕ) (o : ℕ) (p : Phrase) → covers p o ≡ true → innermost_at n before o (Some p) ≡ Some n
unfolding innermost_at
at_covered n before o p e = ap (λ b. cond b (Some n) before) e

at_passed : (n : ℕ) (before : Option ℕ) (o : ℕ) (p : Phrase) → covers p o ≡ false → innermost_at n before o (Some p) ≡ before
unfolding innermost_at
at_passed n before o p e = ap (λ b. cond b (Some n) before) e

step_is : (table : List Phrase) (n o : ℕ) (d : Phrase) → n < length table → innermost_before table (suc n) o ≡ innermost_at n (innermost_before table n o) o (Some (get_or table n d))
unfolding innermost_before
step_is table n o d l = ap (innermost_at n (innermost_before table n o) o) (slice_get-get_or table n d l)

-- the last that covers is the innermost
pub passed : (table : List Phrase) (m n o : ℕ) (d : Phrase) → m ≤ n → n ≤ length table → ((k : ℕ) → m ≤ k → k < n → covers (get_or table k d) o ≡ false) → innermost_before table n o ≡ innermost_before table m o
passed table m zero o d l b h = let e : zero ≡ m = omega arith in ap (λ k. innermost_before table k o) e
passed table m (suc n) o d l b h =
    ⊎_elim
    (λ (a : m ≡ suc n). ap (λ k. innermost_before table k o) (sym a))
    (λ (a : m ≡ suc n → ⊥). step_is table n o d (omega arith) ∙ (at_passed n (innermost_before table n o) o (get_or table n d) (h n (omega arith) (omega arith)) ∙ passed table m n o d (omega arith) (omega arith) (λ k x y. h k x (omega arith))))
    (cases_eq m (suc n))

pub none_before : (table : List Phrase) (o : ℕ) → innermost_before table 0 o ≡ None
unfolding innermost_before
none_before table o = refl

-- a phrase that the sweep has not come to begins later
begins_later : (table : List Phrase) (next k at : ℕ) (d : Phrase) → IsNonDecreasingBy (λ p. p.from) table → (next < length table → (d : Phrase) → at < (get_or table next d).from) → next ≤ k → k < length table → at < (get_or table k d).from
begins_later table next k at d sorted later l m = let a = later (omega arith) d in let b = sorted next k d l m in omega (arith, a, b)

-- where none is open none covers
pub none_open : (table : List Phrase) (opened : List ℕ) (next at : ℕ) (d : Phrase) → IsNonDecreasingBy (λ p. p.from) table → Sweeps table opened next at
    → (next < length table → (d : Phrase) → at < (get_or table next d).from) → length opened ≡ 0 → None ≡ innermost_of table at
none_open table opened next at d sorted s later e =
    sym (innermost_is table at ∙ (passed table 0 (length table) at d (omega arith) (omega arith)
    (λ k x y. ⊎_elim
    (λ (a : k < next). ⊎_elim
    (λ (b : at < (get_or table k d).to). absurd (let c = s.kept k at d a (omega arith) b in let z = c.1 in omega (arith, z, e)))
    (λ (b : (get_or table k d).to ≤ at). covers_not (get_or table k d) at (inr b))
    (cases_lt at (get_or table k d).to))
    (λ (a : next ≤ k). covers_not (get_or table k d) at (inl (begins_later table next k at d sorted later a y)))
    (cases_lt k next))
    ∙ none_before table at))

-- else the last one that is open is the innermost
pub last_open : (table : List Phrase) (opened : List ℕ) (next at top : ℕ) (d : Phrase) → IsNonDecreasingBy (λ p. p.from) table → Sweeps table opened next at
    → (next < length table → (d : Phrase) → at < (get_or table next d).from) → 0 < length opened → get_or opened (length opened - 1) 0 ≡ top
    → ((d : Phrase) → at < (get_or table (get_or opened (length opened - 1) 0) d).to) → Some top ≡ innermost_of table at
last_open table opened next at top d sorted s later some is stays =
    let below = s.below (length opened - 1) (omega arith) in
    let bound = s.bound in
    let there : top < length table = omega (arith, below, is, bound) in
    let begun : (get_or table top d).from ≤ at = (let b = s.begun (length opened - 1) d (omega arith) in let e = ap (λ i. (get_or table i d).from) is in omega (arith, b, e)) in
    let open_still : at < (get_or table top d).to = (let b = stays d in let e = ap (λ i. (get_or table i d).to) is in omega (arith, b, e)) in
    sym (innermost_is table at ∙ (passed table (suc top) (length table) at d (omega arith) (omega arith)
    (λ k x y. ⊎_elim
    (λ (a : k < next). ⊎_elim
    (λ (b : at < (get_or table k d).to).
    let c = s.kept k at d a (omega arith) b in
    absurd (let z = c.1 in let q : get_or opened c.0 0 ≡ k = same_default opened c.0 0 k c.1 ∙ c.2 in
    ⊎_elim (λ (m : c.0 < length opened - 1). let r = s.rising c.0 (length opened - 1) m (omega arith) in omega (arith, r, q, is, x))
    (λ (m : length opened - 1 ≤ c.0). let w : c.0 ≡ length opened - 1 = omega (arith, z, m) in let v = ap (λ i. get_or opened i 0) w in omega (arith, v, q, is, x))
    (cases_lt c.0 (length opened - 1))))
    (λ (b : (get_or table k d).to ≤ at). covers_not (get_or table k d) at (inr b))
    (cases_lt at (get_or table k d).to))
    (λ (a : next ≤ k). covers_not (get_or table k d) at (inl (begins_later table next k at d sorted later a y)))
    (cases_lt k next))
    ∙ (step_is table top at d there ∙ at_covered top (innermost_before table top at) at (get_or table top d) (covers_it (get_or table top d) at begun open_still))))

-- the innermost stays where no range begins or ends
steady_at : (table : List Phrase) (n s o : ℕ) (d : Phrase) → n ≤ length table → s ≤ o
    → ((k : ℕ) → k < n → (((get_or table k d).from ≤ s) ⊎ (o < (get_or table k d).from)) × (((get_or table k d).to ≤ s) ⊎ (o < (get_or table k d).to)))
    → innermost_before table n o ≡ innermost_before table n s
steady_at table zero s o d l so h = none_before table o ∙ sym (none_before table s)
steady_at table (suc n) s o d l so h =
    let before = steady_at table n s o d (omega arith) so (λ k m. h k (omega arith)) in
    let e = h n (omega arith) in
    let p = get_or table n d in
    let out : covers p o ≡ false → covers p s ≡ false → innermost_before table (suc n) o ≡ innermost_before table (suc n) s =
    λ a b. step_is table n o d (omega arith) ∙ (at_passed n _ o p a ∙ (before ∙ (sym (at_passed n _ s p b) ∙ sym (step_is table n s d (omega arith))))) in
    ⊎_elim
    (λ (a : p.from ≤ s). ⊎_elim
    (λ (b : p.to ≤ s). out (covers_not p o (inr (omega (arith, b)))) (covers_not p s (inr b)))
    (λ (b : o < p.to). step_is table n o d (omega arith) ∙ (at_covered n _ o p (covers_it p o (omega (arith, a)) b)
    ∙ (sym (at_covered n _ s p (covers_it p s a (omega (arith, b)))) ∙ sym (step_is table n s d (omega arith)))))
    e.1)
    (λ (a : o < p.from). out (covers_not p o (inl a)) (covers_not p s (inl (omega (arith, a)))))
    e.0

pub steady : (table : List Phrase) (s o : ℕ) (d : Phrase) → s ≤ o
    → ((k : ℕ) → k < length table → (((get_or table k d).from ≤ s) ⊎ (o < (get_or table k d).from)) × (((get_or table k d).to ≤ s) ⊎ (o < (get_or table k d).to)))
    → innermost_of table o ≡ innermost_of table s
steady table s o d so h = innermost_is table o ∙ (steady_at table (length table) s o d (omega arith) so h ∙ sym (innermost_is table s))
