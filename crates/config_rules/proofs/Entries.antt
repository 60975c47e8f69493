-- The entries of a scope and record are the visible exporters.
use Rattle.std.proofs.Common.{◌≡◌, ℕ, zero, suc, ◌<◌, ◌≤◌, Bool, true, false, ◌&&◌, ◌||◌, List, [], ◌∷◌, ◌++◌, length, map, filter, bytes_eq, nat_eq, eqb-true, append_assoc, length-append, Option, Some, None, slice_get, refl, sym, ap, ◌∙◌, arith, if◌then◌else◌}
use Rattle.std.specs.List.{list_any}
use Rattle.mesa_types.specs.declared.faces.Export.{Export}
use Rattle.config_rules.specs.declared.tree.Exporter.{Exporter}
use Rattle.config_rules.specs.declared.tree.Outgoing.{Outgoing}
use Rattle.config_rules.specs.declared.tree.Tree.{Tree}
use Rattle.config_rules.specs.declared.tree.TreeInstance.{TreeInstance}
use Rattle.config_rules.specs.declared.tree.TreeScope.{TreeScope}
use Rattle.config_rules.specs.Exporters.{Spot, same_spot, Step, Stays, Goes, Leaves, outside_of, stepped, step_in, step, goes_on, reach, reached, Outlet, outlets_of, outlets_from, outlets, is_given, goes_to, exporters}
use Rattle.config_rules.specs.Outgoing.{outgoing_at, entries_of, spot_of, export_in, export_of, gives_by, gives, entries_for, exporters_in}
use Rattle.config_rules.specs.InOrder.{IsInward}
use Rattle.config_rules.specs.Laws.{EntriesAreExporters}

pub are_both : (a b : Bool) → a && b ≡ true → (a ≡ true) × (b ≡ true)
are_both true true h = (refl, refl)
are_both true false h = absurd cc
are_both false b h = absurd cc

-- ---- what a filter keeps

abbrev pub pick : Bool → Exporter → List Exporter
pick true e = e ∷ []
pick false e = []

pub filtered : {A : Type 0} (f : A → Exporter) (q : A → Bool) (x : A) (xs : List A) → map f (filter q (x ∷ xs)) ≡ pick (q x) (f x) ++ map f (filter q xs)
filtered {A} f q x xs = by (q x)
  where
    by : (b : Bool) → map f (if b then x ∷ filter q xs else filter q xs) ≡ pick b (f x) ++ map f (filter q xs)
    by true = refl
    by false = refl

pub filter_split : {A : Type 0} (f : A → Exporter) (q : A → Bool) (xs ys : List A) → map f (filter q (xs ++ ys)) ≡ map f (filter q xs) ++ map f (filter q ys)
filter_split f q [] ys = refl
filter_split f q (x ∷ xs) ys =
    filtered f q x (xs ++ ys) ∙ ap (λ l. pick (q x) (f x) ++ l) (filter_split f q xs ys)
    ∙ sym (append_assoc (pick (q x) (f x)) (map f (filter q xs)) (map f (filter q ys))) ∙ ap (λ l. l ++ map f (filter q ys)) (sym (filtered f q x xs))

-- ---- scopes fall outward, so that an export reaches each scope at most once

abbrev pub Falling : ℕ → List Spot → Type 0
Falling n [] = Unit {0}
Falling n (b ∷ bs) = (b.scope < n) × Falling b.scope bs

pub lower : (a : Spot) (n : ℕ) (bs : List Spot) → Falling n bs → n ≤ a.scope → list_any (same_spot a) bs ≡ false
lower a n [] h l = refl
lower a n (b ∷ bs) h l = by (nat_eq a.scope b.scope) refl (lower a b.scope bs h.1 (omega (arith, l, h.0)))
  where
    by : (e : Bool) → nat_eq a.scope b.scope ≡ e → list_any (same_spot a) bs ≡ false → (e && bytes_eq a.record_name b.record_name) || list_any (same_spot a) bs ≡ false
    by true s r = absurd (let q = eqb-true a.scope b.scope s in omega (arith, q, l, h.0))
    by false s r = r

around_goes : (around : Option ℕ) (outside : Option (List ℕ)) (b : Spot) → stepped around outside ≡ Goes b → around ≡ Some b.scope
unfolding stepped
around_goes around None b h = absurd (stays h)
  where
    stays : Stays ≡ Goes b → ⊥
    stays e = cc
around_goes None (Some r) b h = absurd (leaves h)
  where
    leaves : Leaves ≡ Goes b → ⊥
    leaves e = cc
around_goes (Some n) (Some r) b h = ap (λ s. Some (scope_in s)) h
  where
    scope_in : Step → ℕ
    scope_in Stays = 0
    scope_in (Goes c) = c.scope
    scope_in Leaves = 0

module _ (t : Tree) (inward : IsInward t) where
  weaker : (n m : ℕ) (bs : List Spot) → n ≤ m → Falling n bs → Falling m bs
  weaker n m [] l h = tt
  weaker n m (b ∷ bs) l h = (omega (arith, l, h.0), h.1)

  falls_on : (n : ℕ) (a : Spot) → ((b : Spot) → Falling (suc b.scope) (reach n t b)) → (s : Step) → ((b : Spot) → s ≡ Goes b → b.scope < a.scope) → Falling a.scope (goes_on s (λ b. reach n t b))
  unfolding goes_on
  falls_on n a again Stays less = tt
  falls_on n a again (Goes b) less = weaker (suc b.scope) a.scope (reach n t b) (let l = less b refl in omega (arith, l)) (again b)
  falls_on n a again Leaves less = tt

  steps_down : (a b : Spot) → step (λ s. s.exports) t a ≡ Goes b → b.scope < a.scope
  unfolding step_in
  steps_down a b h = by (slice_get t.scopes a.scope) refl h
    where
      by : (o : Option TreeScope) → slice_get t.scopes a.scope ≡ o → step_in (λ s. s.exports) a.record_name o ≡ Goes b → b.scope < a.scope
      by None e g = absurd (let s : Stays ≡ Goes b = g in cc)
      by (Some s) e g = inward a.scope b.scope s e (around_goes s.around (outside_of s.exports a.record_name) b g)

  pub falls : (n : ℕ) (a : Spot) → Falling (suc a.scope) (reach n t a)
  unfolding reach
  falls zero a = tt
  falls (suc n) a = (omega arith, falls_on n a (falls n) (step (λ s. s.exports) t a) (λ b h. steps_down a b h))

-- ---- one export

module _ (t : Tree) (a : Spot) (name : List ℕ) where
  abbrev is_for : Outgoing → Bool
  is_for g = same_spot a (spot_of g) && gives t name g.exporter

  abbrev picked : Outlet → List Spot → List Exporter
  picked o bs = exporters_in (filter is_for (map (outgoing_at o) bs))

  two_picks : (x y g : Bool) (e : Exporter) → (x ≡ true → y ≡ false) → pick (x && g) e ++ pick (y && g) e ≡ pick ((x || y) && g) e
  two_picks true true g e h = absurd (let s : true ≡ false = h refl in cc)
  two_picks true false true e h = refl
  two_picks true false false e h = refl
  two_picks false y g e h = refl

  once_at_most : (o : Outlet) (n : ℕ) (bs : List Spot) → Falling n bs → picked o bs ≡ pick (list_any (same_spot a) bs && gives t name o.exporter) o.exporter
  once_at_most o n [] h = refl
  once_at_most o n (b ∷ bs) h =
      filtered (λ (g : Outgoing). g.exporter) is_for (outgoing_at o b) (map (outgoing_at o) bs)
      ∙ ap (λ l. pick (same_spot a b && gives t name o.exporter) o.exporter ++ l) (once_at_most o b.scope bs h.1)
      ∙ two_picks (same_spot a b) (list_any (same_spot a) bs) (gives t name o.exporter) o.exporter none_below
    where
      none_below : same_spot a b ≡ true → list_any (same_spot a) bs ≡ false
      none_below s = lower a b.scope bs h.1 (let q = eqb-true a.scope b.scope (are_both (nat_eq a.scope b.scope) (bytes_eq a.record_name b.record_name) s).0 in omega (arith, q))

-- ---- the number of an export is where it is found

abbrev pub AllFound : Tree → List Outlet → Type 0
AllFound t [] = Unit {0}
AllFound t (o ∷ os) = (export_of t o.exporter ≡ Some o.gives) × AllFound t os

found_append : (t : Tree) (os ps : List Outlet) → AllFound t os → AllFound t ps → AllFound t (os ++ ps)
found_append t [] ps g h = h
found_append t (o ∷ os) ps g h = (g.0, found_append t os ps g.1 h)

seam : {A : Type 0} (before : List A) (x : A) (after : List A) → slice_get (before ++ x ∷ after) (length before) ≡ Some x
seam [] x after = refl
seam (y ∷ before) x after = seam before x after

module _ (t : Tree) where
  found_of : (i n s : ℕ) (x : TreeInstance) (rs : List (List ℕ)) (before xs : List Export) → slice_get t.instances i ≡ Some x → x.shape.exports ≡ before ++ xs → n ≡ length before
      → AllFound t (outlets_of i n s rs xs)
  unfolding outlets_of
  found_of i n s x [] before xs at whole number = tt
  found_of i n s x (r ∷ rs) before [] at whole number = tt
  found_of i n s x (r ∷ rs) before (y ∷ ys) at whole number = (
    ap (λ o. export_in o n) at ∙ ap (λ l. slice_get l n) whole ∙ ap (λ k. slice_get (before ++ y ∷ ys) k) number ∙ seam before y ys,
    found_of i (suc n) s x rs (before ++ y ∷ []) ys at (whole ∙ sym (append_assoc before (y ∷ []) ys)) (omega (arith, number, length-append before (y ∷ []))),
  )

  found_from : (before xs : List TreeInstance) (i : ℕ) → t.instances ≡ before ++ xs → i ≡ length before → AllFound t (outlets_from i xs)
  unfolding outlets_from
  found_from before [] i whole number = tt
  found_from before (x ∷ xs) i whole number =
      found_append t (outlets_of i 0 x.scope x.exports x.shape.exports) (outlets_from (suc i) xs)
      (found_of i 0 x.scope x x.exports [] x.shape.exports (ap (λ l. slice_get l i) whole ∙ ap (λ k. slice_get (before ++ x ∷ xs) k) number ∙ seam before x xs) refl refl)
      (found_from (before ++ x ∷ []) xs (suc i) (whole ∙ sym (append_assoc before (x ∷ []) xs)) (omega (arith, number, length-append before (x ∷ []))))

  pub all_found : AllFound t (outlets t)
  all_found = found_from [] t.instances 0 refl refl

  module _ (inward : IsInward t) (a : Spot) (name : List ℕ) where
    abbrev wanted : Outlet → Bool
    wanted o = goes_to t a o && is_given name o.gives.face o.gives.given

    each : (os : List Outlet) → AllFound t os → exporters_in (entries_for t a name (entries_of t os)) ≡ map (λ (o : Outlet). o.exporter) (filter wanted os)
    each [] h = refl
    each (o ∷ os) h =
        filter_split (λ (g : Outgoing). g.exporter) (is_for t a name) (map (outgoing_at o) (reached t o.from)) (entries_of t os)
        ∙ ap (λ l. l ++ exporters_in (entries_for t a name (entries_of t os)))
        (once_at_most t a name o (suc o.from.scope) (reached t o.from) (falls t inward (suc o.from.scope) o.from)
        ∙ ap (λ x. pick (goes_to t a o && gives_by name x) o.exporter) h.0)
        ∙ ap (λ l. pick (wanted o) o.exporter ++ l) (each os h.1)
        ∙ sym (filtered (λ (p : Outlet). p.exporter) wanted o os)

pub entries_are_exporters : EntriesAreExporters
unfolding exporters
entries_are_exporters t inward a name = each t inward a name (outlets t) (all_found t)
