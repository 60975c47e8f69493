-- Marks of the components that have an instance, and the modules' numbers by them.
use Rattle.std.proofs.Common.{◌≡◌, ℕ, zero, suc, ◌+◌, ◌<◌, ◌≤◌, Bool, true, false, ◌||◌, List, [], ◌∷◌, ◌++◌, length, map, flat_map, take, get_or, nat_eq, count_by, slice_index, slice_get, Some, eqb-true, Bor, refl, sym, ap, ◌∙◌, arith, if◌then◌else◌}
use Rattle.std.specs.List.{zip}
use Rattle.std.proofs.Math.ListN.{set, replicate, length-set}
use Rattle.std.proofs.lemmas.List.{take_more, get_or-set_other, get_or-replicate, length-replicate}
use Rattle.std.proofs.lemmas.Bool.{false≢true}
use Rattle.std.proofs.lemmas.Bool.Decides.{Decides-eqb}
use Rattle.std.proofs.lemmas.Grind.{get_or-set_at}
use Rattle.std.proofs.lemmas.List.Folds.{flat_map-map}
use Rattle.std.proofs.lemmas.List.Sums.{sum_by-cons}
use Rattle.object_files.specs.declared.object.Object.{Object}
use Rattle.config_rules.specs.declared.tree.TreeInstance.{TreeInstance}
use Rattle.link_tables.specs.Linked.{has_instance, kept, many_kept, instance_of}
use Rattle.link_tables.specs.Modules.{AreMarks, AreNumbers, marked_before, numbered, kept_one, marked}

-- ---- one instance more

has_behind : (xs : List TreeInstance) (x : TreeInstance) (k : ℕ) → has_instance (xs ++ x ∷ []) k ≡ has_instance xs k || nat_eq x.component k
unfolding has_instance
has_behind [] x k = by (nat_eq x.component k)
  where
    by : (b : Bool) → b || false ≡ false || b
    by true = refl
    by false = refl
has_behind (y ∷ xs) x k = ap (λ b. nat_eq y.component k || b) (has_behind xs x k) ∙ by (nat_eq y.component k)
  where
    by : (b : Bool) → b || (has_instance xs k || nat_eq x.component k) ≡ (b || has_instance xs k) || nat_eq x.component k
    by true = refl
    by false = refl

has_more : (xs : List TreeInstance) (i : ℕ) (x : TreeInstance) (k : ℕ) → i < length xs → x ≡ get_or xs i x → has_instance (take (i + 1) xs) k ≡ has_instance (take i xs) k || nat_eq x.component k
has_more xs i x k less is = ap (λ l. has_instance l k) (take_more xs i x less ∙ ap (λ y. take i xs ++ y ∷ []) (sym is)) ∙ has_behind (take i xs) x k

pub none_marked : (many : ℕ) → AreMarks [] 0 many (replicate many false)
unfolding has_instance
none_marked many = record { length_is = length-replicate many false; each = λ c less. get_or-replicate many c false false less }

or_true : (b : Bool) → b || true ≡ true
or_true true = refl
or_true false = refl

or_false : (b : Bool) → b || false ≡ b
or_false true = refl
or_false false = refl

module _ (xs : List TreeInstance) (i many : ℕ) (x : TreeInstance) (marks : List Bool) (less : i < length xs) (is : x ≡ get_or xs i x) (before : AreMarks (take i xs) 0 many marks) where
  told : (c : ℕ) (b : Bool) → nat_eq x.component (0 + c) ≡ b → has_instance (take (i + 1) xs) (0 + c) ≡ has_instance (take i xs) (0 + c) || b
  told c b e = has_more xs i x (0 + c) less is ∙ ap (λ q. has_instance (take i xs) (0 + c) || q) e

  other : (c : ℕ) → nat_eq x.component (0 + c) ≡ false → c ≡ x.component → ⊥
  other c e s = false≢true (sym e ∙ (Decides-eqb x.component (0 + c)).1 (omega (arith, s)))

  pub one_marked : x.component < length marks → AreMarks (take (i + 1) xs) 0 many (set marks x.component true)
  one_marked within = record { length_is = length-set marks x.component true ∙ before.length_is; each = λ c l. by c l (nat_eq x.component (0 + c)) refl }
    where
      by : (c : ℕ) → c < many → (b : Bool) → nat_eq x.component (0 + c) ≡ b → get_or (set marks x.component true) c false ≡ has_instance (take (i + 1) xs) (0 + c)
      by c l true e =
          let same : c ≡ x.component = (let q = eqb-true x.component (0 + c) e in omega (arith, q)) in
          get_or-set_at marks x.component c true false same within ∙ sym (told c true e ∙ or_true (has_instance (take i xs) (0 + c)))
      by c l false e = get_or-set_other marks x.component c true false (other c e) ∙ before.each c l ∙ sym (told c false e ∙ or_false (has_instance (take i xs) (0 + c)))

  pub none_within : length marks ≤ x.component → AreMarks (take (i + 1) xs) 0 many marks
  none_within past = record { length_is = before.length_is; each = λ c l. by c l (nat_eq x.component (0 + c)) refl }
    where
      by : (c : ℕ) → c < many → (b : Bool) → nat_eq x.component (0 + c) ≡ b → get_or marks c false ≡ has_instance (take (i + 1) xs) (0 + c)
      by c l true e = absurd (let q = eqb-true x.component (0 + c) e in let m = before.length_is in omega (arith, q, l, m, past))
      by c l false e = before.each c l ∙ sym (told c false e ∙ or_false (has_instance (take i xs) (0 + c)))

-- ---- what the marks say

module _ (xs : List TreeInstance) where
  first_mark : (n many : ℕ) (b : Bool) (bs : List Bool) → AreMarks xs n (suc many) (b ∷ bs) → b ≡ has_instance xs n
  first_mark n many b bs h = h.each 0 (omega arith) ∙ ap (has_instance xs) {x = n + 0} {y = n} (omega arith)

  rest_marks : (n many : ℕ) (b : Bool) (bs : List Bool) → AreMarks xs n (suc many) (b ∷ bs) → AreMarks xs (suc n) many bs
  rest_marks n many b bs h = record {
    length_is = (let l = h.length_is in omega (arith, l));
    each = λ c l. h.each (suc c) (omega (arith, l)) ∙ ap (has_instance xs) {x = n + suc c} {y = suc n + c} (omega arith);
  }

  pub marked_kept : (n : ℕ) (os : List Object) (bs : List Bool) → AreMarks xs n (length os) bs → marked os bs ≡ kept xs n os
  unfolding kept
  marked_kept n [] bs h = refl
  marked_kept n (o ∷ os) [] h = absurd (let l = h.length_is in omega (arith, l))
  marked_kept n (o ∷ os) (b ∷ bs) h =
      ap (λ c. kept_one o c ++ marked os bs) (first_mark n (length os) b bs h)
      ∙ by (has_instance xs n) (marked_kept (suc n) os bs (rest_marks n (length os) b bs h))
    where
      by : (c : Bool) → marked os bs ≡ kept xs (suc n) os → kept_one o c ++ marked os bs ≡ (if c then o ∷ kept xs (suc n) os else kept xs (suc n) os)
      by true e = ap (λ l. o ∷ l) e
      by false e = e

  counted : (n many c : ℕ) (bs : List Bool) → AreMarks xs n many bs → c ≤ many → marked_before bs c ≡ many_kept xs n c
  unfolding many_kept
  counted n many zero bs h l = ap (count_by (λ m. m)) (take_none bs)
    where
      take_none : (cs : List Bool) → take 0 cs ≡ []
      take_none [] = refl
      take_none (d ∷ cs) = refl
  counted n zero (suc c) bs h l = absurd (omega (arith, l))
  counted n (suc many) (suc c) [] h l = absurd (let e = h.length_is in omega (arith, e))
  counted n (suc many) (suc c) (b ∷ bs) h l =
      by b (has_instance xs n) (first_mark n many b bs h) (counted (suc n) many c bs (rest_marks n many b bs h) (omega (arith, l)))
    where
      one_more : (k : ℕ) → 1 + k ≡ suc k
      one_more k = omega arith

      by : (b c' : Bool) → b ≡ c' → marked_before bs c ≡ many_kept xs (suc n) c → count_by (λ m. m) (b ∷ take c bs) ≡ (if c' then suc (many_kept xs (suc n) c) else many_kept xs (suc n) c)
      by true true s e = sum_by-cons (λ m. if m then 1 else 0) true (take c bs) ∙ one_more (marked_before bs c) ∙ ap suc e
      by true false s e = absurd cc
      by false true s e = absurd cc
      by false false s e = e

  module _ (many : ℕ) (marks : List Bool) (numbers : List ℕ) (tell : AreMarks xs 0 many marks) (count : AreNumbers marks numbers) where
    one_number : (c : ℕ) → c < many → slice_index numbers c ≡ many_kept xs 0 c
    one_number c l = count.each c (let m = tell.length_is in omega (arith, l, m)) ∙ counted 0 many c marks tell (omega (arith, l))

    -- the instances of components that there are have the numbers of their modules
    pub all_numbered : (ys : List TreeInstance) → ((j : ℕ) (y : TreeInstance) → slice_get ys j ≡ Some y → y.component < many) → map (numbered numbers) ys ≡ map (instance_of xs) ys
    all_numbered [] h = refl
    all_numbered (y ∷ ys) h = λ j. record { path = y.path; «module» = one_number y.component (h 0 y refl) j } ∷ all_numbered ys (λ k z e. h (suc k) z e) j

-- ---- objects beside their marks

pub pairs_marked : (os : List Object) (bs : List Bool) → flat_map (λ (p : Object × Bool). kept_one p.0 p.1) (zip os bs) ≡ marked os bs
pairs_marked [] bs = refl
pairs_marked (o ∷ os) [] = refl
pairs_marked (o ∷ os) (b ∷ bs) = ap (λ l. kept_one o b ++ l) (pairs_marked os bs)

pub seen_marked : (ps : List (Object × Bor Bool)) (os : List Object) (bs : List Bool) → map (λ (p : Object × Bor Bool). (p.0, p.1.now)) ps ≡ zip os bs
    → flat_map (λ (p : Object × Bor Bool). kept_one p.0 p.1.now) ps ≡ marked os bs
seen_marked ps os bs h =
    sym (flat_map-map (λ (p : Object × Bool). kept_one p.0 p.1) (λ (p : Object × Bor Bool). (p.0, p.1.now)) ps)
    ∙ ap (flat_map (λ (p : Object × Bool). kept_one p.0 p.1)) h ∙ pairs_marked os bs
