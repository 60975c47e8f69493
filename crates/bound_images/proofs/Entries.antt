-- What is wanted of the loader: each item that is left has its entry, and each entry is that of such an item.
use Rattle.std.proofs.Common.{◌≡◌, suc, ◌⊎◌, inl, inr, ⊎_elim, Bool, true, false, ◌&&◌, ◌||◌, List, [], ◌∷◌, ◌++◌, filter, bytes_eq, nat_eq, eq-eqb, eqb-true, Some, slice_get, refl, ap, subst, ◌∙◌, if◌then◌else◌}
use Rattle.interface_records.specs.declared.wanted.Wanted.{Wanted as Entry}
use Rattle.config_rules.specs.Bindings.{binding_of}
use Rattle.config_rules.specs.Resolves.{Resolution, Left, Bound, NoExporter, Twice, OtherInterface, OtherStamp, Want, is_bad}
use Rattle.link_tables.specs.Linked.{same_entry, has_entry, entry_number, noted, entry_of, is_left, left_in, wanted_of}
use Rattle.config_rules.proofs.Members.{Mem, mem_split}
use Rattle.bound_images.proofs.Chosen.{both_true, names_same, same_names}
use Rattle.bound_images.proofs.Elements.{mem_map, map_mem, mem_filter, filter_mem}

-- ---- when two entries are of one item

pub record SameEntry (a b : Entry) : Type 0 where
  pub face : a.face ≡ b.face
  pub stamp : a.stamp ≡ b.stamp
  pub item : a.item.name ≡ b.item.name

same_entries : (a b : Entry) → same_entry a b ≡ true → SameEntry a b
same_entries a b h =
    let p = both_true (bytes_eq a.face b.face) (nat_eq a.stamp b.stamp && bytes_eq a.item.name b.item.name) h in
    let q = both_true (nat_eq a.stamp b.stamp) (bytes_eq a.item.name b.item.name) p.1 in
    record { face = names_same a.face b.face p.0; stamp = eqb-true a.stamp b.stamp q.0; item = names_same a.item.name b.item.name q.1 }

and_true : (a b : Bool) → a ≡ true → b ≡ true → a && b ≡ true
and_true true true g h = refl
and_true true false g h = cc
and_true false b g h = cc

own_entry : (e : Entry) → same_entry e e ≡ true
own_entry e = and_true (bytes_eq e.face e.face) (nat_eq e.stamp e.stamp && bytes_eq e.item.name e.item.name) (same_names e.face e.face refl)
    (and_true (nat_eq e.stamp e.stamp) (bytes_eq e.item.name e.item.name) (eq-eqb e.stamp e.stamp refl) (same_names e.item.name e.item.name refl))

-- ---- what is noted

or_cases : (a b : Bool) → a || b ≡ true → (a ≡ true) ⊎ (b ≡ true)
or_cases true b h = inl refl
or_cases false b h = inr h

or_right : (a b : Bool) → b ≡ true → a || b ≡ true
or_right true b h = refl
or_right false b h = h

or_left : (a b : Bool) → a ≡ true → a || b ≡ true
or_left true b h = refl
or_left false b h = cc

has_front : (xs ys : List Entry) (e : Entry) → has_entry xs e ≡ true → has_entry (xs ++ ys) e ≡ true
unfolding has_entry
has_front [] ys e h = cc
has_front (x ∷ xs) ys e h = ⊎_elim
    (λ s. or_left (same_entry x e) (has_entry (xs ++ ys) e) s)
    (λ m. or_right (same_entry x e) (has_entry (xs ++ ys) e) (has_front xs ys e m))
    (or_cases (same_entry x e) (has_entry xs e) h)

has_last : (xs : List Entry) (e : Entry) → has_entry (xs ++ e ∷ []) e ≡ true
unfolding has_entry
has_last [] e = or_left (same_entry e e) false (own_entry e)
has_last (x ∷ xs) e = or_right (same_entry x e) (has_entry (xs ++ e ∷ []) e) (has_last xs e)

either_way : (b : Bool) (xs ys : List Entry) (e : Entry) → has_entry xs e ≡ true → has_entry ys e ≡ true → has_entry (if b then xs else ys) e ≡ true
either_way true xs ys e g h = g
either_way false xs ys e g h = h

noted_keeps : (done es : List Entry) (e : Entry) → has_entry done e ≡ true → has_entry (noted done es) e ≡ true
unfolding noted
noted_keeps done [] e h = h
noted_keeps done (x ∷ es) e h = either_way (has_entry done x) (noted done es) (noted (done ++ x ∷ []) es) e
    (noted_keeps done es e h) (noted_keeps (done ++ x ∷ []) es e (has_front done (x ∷ []) e h))

noted_has : (done es : List Entry) (e : Entry) → Mem e es → has_entry (noted done es) e ≡ true
unfolding noted
noted_has done [] e h = absurd h
noted_has done (x ∷ es) e (inr m) = either_way (has_entry done x) (noted done es) (noted (done ++ x ∷ []) es) e (noted_has done es e m) (noted_has (done ++ x ∷ []) es e m)
noted_has done (x ∷ es) e (inl s) = by (has_entry done x) refl
  where
    by : (b : Bool) → has_entry done x ≡ b → has_entry (if b then noted done es else noted (done ++ x ∷ []) es) e ≡ true
    by true g = noted_keeps done es e (subst (λ (y : Entry). has_entry done y ≡ true) s g)
    by false g = noted_keeps (done ++ x ∷ []) es e (subst (λ (y : Entry). has_entry (done ++ x ∷ []) y ≡ true) s (has_last done x))

noted_from : (done es : List Entry) (e : Entry) → Mem e (noted done es) → Mem e done ⊎ Mem e es
unfolding noted
noted_from done [] e h = inl h
noted_from done (x ∷ es) e h = by (noted_from done es e) (noted_from (done ++ x ∷ []) es e) (has_entry done x) h
  where
    later : Mem e done ⊎ Mem e es → Mem e done ⊎ ((x ≡ e) ⊎ Mem e es)
    later (inl m) = inl m
    later (inr m) = inr (inr m)

    of_last : Mem e done ⊎ ((x ≡ e) ⊎ ⊥) → Mem e done ⊎ ((x ≡ e) ⊎ Mem e es)
    of_last (inl m) = inl m
    of_last (inr (inl s)) = inr (inl s)
    of_last (inr (inr s)) = absurd s

    grown : Mem e (done ++ x ∷ []) ⊎ Mem e es → Mem e done ⊎ ((x ≡ e) ⊎ Mem e es)
    grown (inl m) = of_last (mem_split done (x ∷ []) e m)
    grown (inr m) = inr (inr m)

    by : (Mem e (noted done es) → Mem e done ⊎ Mem e es) → (Mem e (noted (done ++ x ∷ []) es) → Mem e (done ++ x ∷ []) ⊎ Mem e es)
        → (b : Bool) → Mem e (if b then noted done es else noted (done ++ x ∷ []) es) → Mem e done ⊎ ((x ≡ e) ⊎ Mem e es)
    by stays grows true m = later (stays m)
    by stays grows false m = grown (grows m)

-- ---- the entry of an item

pub record EntryAt (xs : List Entry) (e : Entry) : Type 0 where
  pub entry : Entry
  pub there : slice_get xs (entry_number xs e) ≡ Some entry
  pub same : SameEntry entry e

entry_there : (xs : List Entry) (e : Entry) → has_entry xs e ≡ true → EntryAt xs e
unfolding has_entry entry_number
entry_there [] e h = cc
entry_there (x ∷ xs) e h = by (entry_there xs e) (same_entry x e) refl h
  where
    by : (has_entry xs e ≡ true → EntryAt xs e) → (b : Bool) → same_entry x e ≡ b → b || has_entry xs e ≡ true → EntryAt (x ∷ xs) e
    by again true s g = record { entry = x; there = ap (λ b. slice_get (x ∷ xs) (if b then 0 else suc (entry_number xs e))) s; same = same_entries x e s }
    by again false s g =
        let r = again g in
        record { entry = r.entry; there = ap (λ b. slice_get (x ∷ xs) (if b then 0 else suc (entry_number xs e))) s ∙ r.there; same = r.same }

left_is : (a : Resolution) → a ≡ Left → is_left (binding_of a) ≡ true
unfolding is_left binding_of
left_is a e = ap (λ r. is_left (binding_of r)) e

is_left_is : (a : Resolution) → is_bad a ≡ false → is_left (binding_of a) ≡ true → a ≡ Left
unfolding is_left binding_of is_bad
is_left_is Left g h = refl
is_left_is (Bound j n) g h = cc
is_left_is NoExporter g h = cc
is_left_is (Twice j k) g h = cc
is_left_is (OtherInterface j) g h = cc
is_left_is (OtherStamp s) g h = cc

-- an item that is left has its entry
pub left_entry : (ws : List Want) (w : Want) → Mem w ws → w.answer ≡ Left → EntryAt (wanted_of ws) (entry_of w)
unfolding wanted_of
left_entry ws w h e =
    entry_there (noted [] (left_in ws)) (entry_of w)
    (noted_has [] (left_in ws) (entry_of w)
    (mem_map entry_of (filter (λ (v : Want). is_left (binding_of v.answer)) ws) w
    (filter_mem (λ (v : Want). is_left (binding_of v.answer)) ws w h (left_is w.answer e))))

-- and where no item is bad, each entry is that of one that is left
pub record EntryOf (ws : List Want) (e : Entry) : Type 0 where
  pub want : Want
  pub is : Mem want ws
  pub left : want.answer ≡ Left
  pub its : entry_of want ≡ e

pub entries_are : (ws : List Want) → ((w : Want) → Mem w ws → is_bad w.answer ≡ false) → (e : Entry) → Mem e (wanted_of ws) → EntryOf ws e
unfolding wanted_of
entries_are ws good e h = by (noted_from [] (left_in ws) e h)
  where
    by : ⊥ ⊎ Mem e (left_in ws) → EntryOf ws e
    by (inl m) = absurd m
    by (inr m) =
        let r = map_mem entry_of (filter (λ (v : Want). is_left (binding_of v.answer)) ws) e m in
        let f = mem_filter (λ (v : Want). is_left (binding_of v.answer)) ws r.0 r.1 in
        record { want = r.0; is = f.0; left = is_left_is r.0.answer (good r.0 f.0) f.1; its = r.2 }
