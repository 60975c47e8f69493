-- An export goes to at most one record of the outermost configuration, so it is offered once at most.
use Rattle.std.specs.Prelude.{◌≡◌, ℕ, suc, ◌+◌, ◌≤◌, Bool, true, false, ◌&&◌, ◌||◌, List, [], ◌∷◌, length, filter, flat_map, nat_eq, bytes_eq, if◌then◌else◌}
use Rattle.std.specs.List.{list_any}
use Rattle.std.proofs.Common.{eqb-true, eq-eqb, refl, sym, ap, subst, ◌∙◌, arith}
use Rattle.std.proofs.lemmas.List.{length-append, length-map}
use Rattle.mesa_types.specs.declared.faces.Export.{Export}
use Rattle.check_scopes.specs.Scopes.{has}
use Rattle.config_rules.specs.Exporters.{Spot, same_spot, reached, Outlet, outlets_of, outlets_from, outlets, goes_to}
use Rattle.config_rules.specs.InOrder.{IsInward}
use Rattle.config_rules.specs.declared.tree.RecordPair.{RecordPair}
use Rattle.config_rules.specs.declared.tree.Tree.{Tree}
use Rattle.config_rules.specs.declared.tree.TreeInstance.{TreeInstance}
use Rattle.config_rules.proofs.Entries.{Falling, falls}
use Rattle.link_tables.specs.Linked.{outermost_exports, in_outermost, offer_of, offered_as, offers}
use Rattle.file_sizes.specs.Sizes.{total}

-- ---- names that stand once

-- no record stands twice, or among those before
abbrev pub OnceAmong : List (List ℕ) → List RecordPair → Type 0
OnceAmong before [] = Unit {0}
OnceAmong before (r ∷ rs) = (has r.inside before ≡ false) × OnceAmong (r.inside ∷ before) rs

abbrev one_if : Bool → ℕ
one_if true = 1
one_if false = 0

-- how many records have this name
unfoldable named : List ℕ → List RecordPair → ℕ
named x [] = 0
named x (r ∷ rs) = one_if (bytes_eq r.inside x) + named x rs

same_bytes : (xs ys : List ℕ) → bytes_eq xs ys ≡ true → xs ≡ ys
same_bytes [] [] e = refl
same_bytes [] (y ∷ ys) e = absurd cc
same_bytes (x ∷ xs) [] e = absurd cc
same_bytes (x ∷ xs) (y ∷ ys) e = both (nat_eq x y) refl e (same_bytes xs ys)
  where
    both : (b : Bool) → nat_eq x y ≡ b → b && bytes_eq xs ys ≡ true → (bytes_eq xs ys ≡ true → xs ≡ ys) → (x ∷ xs) ≡ (y ∷ ys)
    both true s f again = let first = eqb-true x y s in let rest = again f in rw (first, rest) refl
    both false s f again = absurd cc

-- none of this name where it stands before
named_before : (x : List ℕ) (before : List (List ℕ)) (rs : List RecordPair) → OnceAmong before rs → has x before ≡ true → named x rs ≡ 0
unfolding named has
named_before x before [] h k = refl
named_before x before (r ∷ rs) h k = by (bytes_eq r.inside x) refl (named_before x (r.inside ∷ before) rs h.1 (or_true (bytes_eq x r.inside) (has x before) k))
  where
    or_true : (a b : Bool) → b ≡ true → a || b ≡ true
    or_true true b e = refl
    or_true false b e = e

    by : (b : Bool) → bytes_eq r.inside x ≡ b → named x rs ≡ 0 → one_if b + named x rs ≡ 0
    by true e rest =
        let other : has x before ≡ false = subst (λ y. has y before ≡ false) (same_bytes r.inside x e) h.0 in
        absurd cc
    by false e rest = omega (arith, rest)

bytes_same : (xs : List ℕ) → bytes_eq xs xs ≡ true
bytes_same [] = refl
bytes_same (x ∷ xs) = rw (eq-eqb x x refl, bytes_same xs) refl

named_once : (x : List ℕ) (before : List (List ℕ)) (rs : List RecordPair) → OnceAmong before rs → named x rs ≤ 1
unfolding named has
named_once x before [] h = omega arith
named_once x before (r ∷ rs) h = by (bytes_eq r.inside x) refl (named_once x (r.inside ∷ before) rs h.1)
  where
    by : (b : Bool) → bytes_eq r.inside x ≡ b → named x rs ≤ 1 → one_if b + named x rs ≤ 1
    by true e rest =
        let same : x ≡ r.inside = sym (same_bytes r.inside x e) in
        let again : bytes_eq x r.inside ≡ true = subst (λ y. bytes_eq x y ≡ true) same (bytes_same x) in
        let none = named_before x (r.inside ∷ before) rs h.1 (ap (λ b. b || has x before) again) in
        omega (arith, none)
    by false e rest = omega (arith, rest)

-- ---- one outlet

-- how many of these records it goes to
unfoldable goes : Tree → Outlet → List RecordPair → ℕ
goes t o [] = 0
goes t o (r ∷ rs) = one_if (goes_to t (in_outermost r.inside) o) + goes t o rs

-- by the spots that it reaches
unfoldable reaches : List Spot → List RecordPair → ℕ
reaches bs [] = 0
reaches bs (r ∷ rs) = one_if (list_any (same_spot (in_outermost r.inside)) bs) + reaches bs rs

none_reached : (rs : List RecordPair) → reaches [] rs ≡ 0
unfolding reaches
none_reached [] = refl
none_reached (r ∷ rs) = omega (arith, none_reached rs)

-- a spot of another scope counts nothing
inner_spot : (b : Spot) (bs : List Spot) → nat_eq 0 b.scope ≡ false → (rs : List RecordPair) → reaches (b ∷ bs) rs ≡ reaches bs rs
unfolding reaches
inner_spot b bs e [] = refl
inner_spot b bs e (r ∷ rs) =
    let here : one_if ((nat_eq 0 b.scope && bytes_eq r.inside b.record_name) || list_any (same_spot (in_outermost r.inside)) bs)
    ≡ one_if (list_any (same_spot (in_outermost r.inside)) bs) =
    ap (λ c. one_if ((c && bytes_eq r.inside b.record_name) || list_any (same_spot (in_outermost r.inside)) bs)) e in
    omega (arith, here, inner_spot b bs e rs)

-- one of the outermost scope is the last
outer_spot : (b : Spot) → nat_eq 0 b.scope ≡ true → (rs : List RecordPair) → reaches (b ∷ []) rs ≡ named b.record_name rs
unfolding reaches named
outer_spot b e [] = refl
outer_spot b e (r ∷ rs) =
    let here : one_if ((nat_eq 0 b.scope && bytes_eq r.inside b.record_name) || false) ≡ one_if (bytes_eq r.inside b.record_name) =
    ap (λ c. one_if ((c && bytes_eq r.inside b.record_name) || false)) e ∙ ap one_if (or_false (bytes_eq r.inside b.record_name)) in
    omega (arith, here, outer_spot b e rs)
  where
    or_false : (c : Bool) → c || false ≡ c
    or_false true = refl
    or_false false = refl

outer_once : (b : Spot) (bs : List Spot) → nat_eq 0 b.scope ≡ true → Falling b.scope bs → (rs : List RecordPair) → OnceAmong [] rs → reaches (b ∷ bs) rs ≤ 1
outer_once b [] e h rs once = omega (arith, outer_spot b e rs, named_once b.record_name [] rs once)
outer_once b (d ∷ ds) e h rs once = let outermost = eqb-true 0 b.scope e in absurd (omega (arith, outermost, h.0))

reached_once : (n : ℕ) (bs : List Spot) → Falling n bs → (rs : List RecordPair) → OnceAmong [] rs → reaches bs rs ≤ 1
reached_once n [] h rs once = omega (arith, none_reached rs)
reached_once n (b ∷ bs) h rs once = by (nat_eq 0 b.scope) refl (reached_once b.scope bs h.1 rs once)
  where
    by : (c : Bool) → nat_eq 0 b.scope ≡ c → reaches bs rs ≤ 1 → reaches (b ∷ bs) rs ≤ 1
    by false e rest = omega (arith, inner_spot b bs e rs, rest)
    by true e rest = outer_once b bs e h.1 rs once

goes_as : (t : Tree) (o : Outlet) (rs : List RecordPair) → goes t o rs ≡ reaches (reached t o.from) rs
unfolding goes reaches
goes_as t o [] = refl
goes_as t o (r ∷ rs) = omega (arith, goes_as t o rs)

goes_once : (t : Tree) → IsInward t → (o : Outlet) (rs : List RecordPair) → OnceAmong [] rs → goes t o rs ≤ 1
goes_once t inward o rs once =
    omega (arith, goes_as t o rs, reached_once (suc o.from.scope) (reached t o.from) (falls t inward (suc o.from.scope) o.from) rs once)

-- ---- all outlets

filtered : (t : Tree) (r : RecordPair) (os : List Outlet) → length (filter (goes_to t (in_outermost r.inside)) os) ≡ total (λ (o : Outlet). one_if (goes_to t (in_outermost r.inside) o)) os
unfolding total
filtered t r [] = refl
filtered t r (o ∷ os) = by (goes_to t (in_outermost r.inside) o) (filtered t r os)
  where
    by : (b : Bool) → length (filter (goes_to t (in_outermost r.inside)) os) ≡ total (λ (p : Outlet). one_if (goes_to t (in_outermost r.inside) p)) os
        → length (if b then o ∷ filter (goes_to t (in_outermost r.inside)) os else filter (goes_to t (in_outermost r.inside)) os)
        ≡ one_if b + total (λ (p : Outlet). one_if (goes_to t (in_outermost r.inside) p)) os
    by true h = omega (arith, h)
    by false h = omega (arith, h)

-- record by record or outlet by outlet
nothing : (t : Tree) (os : List Outlet) → total (λ (o : Outlet). goes t o []) os ≡ 0
unfolding total goes
nothing t [] = refl
nothing t (o ∷ os) = omega (arith, nothing t os)

exchanged : (t : Tree) (r : RecordPair) (rs : List RecordPair) (os : List Outlet) → total (λ (o : Outlet). goes t o (r ∷ rs)) os
    ≡ total (λ (o : Outlet). one_if (goes_to t (in_outermost r.inside) o)) os + total (λ (o : Outlet). goes t o rs) os
unfolding total goes
exchanged t r rs [] = refl
exchanged t r rs (o ∷ os) = omega (arith, exchanged t r rs os)

offered_by : (t : Tree) (rs : List RecordPair) → length (flat_map (offered_as t) rs) ≡ total (λ (o : Outlet). goes t o rs) (outlets t)
offered_by t [] = omega (arith, nothing t (outlets t))
offered_by t (r ∷ rs) = omega (
  arith,
  length-append (offered_as t r) (flat_map (offered_as t) rs),
  length-map (filter (goes_to t (in_outermost r.inside)) (outlets t)) (offer_of r.inside),
  filtered t r (outlets t),
  exchanged t r rs (outlets t),
  offered_by t rs,
)

each_once : (t : Tree) → IsInward t → (rs : List RecordPair) → OnceAmong [] rs → (os : List Outlet) → total (λ (o : Outlet). goes t o rs) os ≤ length os
unfolding total
each_once t inward rs once [] = omega arith
each_once t inward rs once (o ∷ os) = omega (arith, goes_once t inward o rs once, each_once t inward rs once os)

few_of : (i n s : ℕ) (rs : List (List ℕ)) (xs : List Export) → length (outlets_of i n s rs xs) ≤ length xs
unfolding outlets_of
few_of i n s [] xs = omega arith
few_of i n s (r ∷ rs) [] = omega arith
few_of i n s (r ∷ rs) (x ∷ xs) = omega (arith, few_of i (suc n) s rs xs)

few_outlets : (i : ℕ) (xs : List TreeInstance) → length (outlets_from i xs) ≤ total (λ (x : TreeInstance). length x.shape.exports) xs
unfolding outlets_from total
few_outlets i [] = omega arith
few_outlets i (x ∷ xs) = omega (
  arith,
  length-append (outlets_of i 0 x.scope x.exports x.shape.exports) (outlets_from (suc i) xs),
  few_of i 0 x.scope x.exports x.shape.exports,
  few_outlets (suc i) xs,
)

pub few_offers : (t : Tree) → IsInward t → OnceAmong [] (outermost_exports t.scopes) → length (offers t) ≤ total (λ (x : TreeInstance). length x.shape.exports) t.instances
unfolding offers
few_offers t inward once = omega (
  arith,
  offered_by t (outermost_exports t.scopes),
  each_once t inward (outermost_exports t.scopes) once (outlets t),
  few_outlets 0 t.instances,
)
