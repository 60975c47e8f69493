-- What images still want: each entry is one that an image wants, and one like each of those is there.
use Rattle.std.proofs.Common.{◌≡◌, suc, ◌+◌, ◌≤◌, ◌⊎◌, inl, inr, Bool, true, false, ◌&&◌, ◌||◌, List, [], ◌∷◌, ◌++◌, length, filter, flat_map, bytes_eq, nat_eq, Some, slice_get, refl, ap, subst, ◌∙◌, if◌then◌else◌, arith, eq-eqb, eqb-true, length-append}
use Rattle.std.proofs.lemmas.Bool.{and_from, and_parts}
use Rattle.interface_records.specs.Faces.{SameSignature}
use Rattle.interface_records.specs.declared.wanted.Wanted.{Wanted as Entry}
use Rattle.object_files.specs.declared.image.Image.{Image}
use Rattle.object_rules.specs.ImageForms.{same_signature}
use Rattle.object_rules.proofs.SameTypes.{bytes_same, bytes_self, signature_same, signature_alike}
use Rattle.config_rules.proofs.Members.{Mem, mem_split}
use Rattle.loader_rules.specs.Wanted.{is_built_in, same_entry, has_entry, entry_number, noted, wanted_built_in, still_wanted}
use Rattle.loader_rules.proofs.Lists.{mem_filter, filter_mem}

-- ---- entries that are the same

pub record AreSame (a b : Entry) : Type 0 where
  pub face : a.face ≡ b.face
  pub stamp : a.stamp ≡ b.stamp
  pub name : a.item.name ≡ b.item.name
  pub signature : SameSignature a.item b.item

pub are_same : (a b : Entry) → same_entry a b ≡ true → AreSame a b
are_same a b h =
    let p = and_parts (bytes_eq a.face b.face) (nat_eq a.stamp b.stamp && (bytes_eq a.item.name b.item.name && same_signature a.item b.item)) h in
    let q = and_parts (nat_eq a.stamp b.stamp) (bytes_eq a.item.name b.item.name && same_signature a.item b.item) p.1 in
    let r = and_parts (bytes_eq a.item.name b.item.name) (same_signature a.item b.item) q.1 in
    record { face = bytes_same a.face b.face p.0; stamp = eqb-true a.stamp b.stamp q.0; name = bytes_same a.item.name b.item.name r.0; signature = signature_same a.item b.item r.1 }

pub same_entries : (a b : Entry) → AreSame a b → same_entry a b ≡ true
same_entries a b h =
    and_from (bytes_eq a.face b.face) _ (subst (λ n. bytes_eq a.face n ≡ true) h.face (bytes_self a.face))
    (and_from (nat_eq a.stamp b.stamp) _ (eq-eqb a.stamp b.stamp h.stamp)
    (and_from (bytes_eq a.item.name b.item.name) (same_signature a.item b.item) (subst (λ n. bytes_eq a.item.name n ≡ true) h.name (bytes_self a.item.name))
    (signature_alike a.item b.item h.signature)))

pub joined_same : (a b c : Entry) → AreSame a b → AreSame b c → AreSame a c
joined_same a b c h k = record {
  face = h.face ∙ k.face;
  stamp = h.stamp ∙ k.stamp;
  name = h.name ∙ k.name;
  signature = (h.signature.0 ∙ k.signature.0, h.signature.1 ∙ k.signature.1, h.signature.2 ∙ k.signature.2);
}

pub own_entry : (e : Entry) → same_entry e e ≡ true
own_entry e = same_entries e e (record { face = refl; stamp = refl; name = refl; signature = (refl, refl, refl) })

-- ---- an entry that is there

pub record Stands (es : List Entry) (e : Entry) : Type 0 where
  pub its : Entry
  pub there : slice_get es (entry_number es e) ≡ Some its
  pub same : same_entry its e ≡ true

pub stands : (es : List Entry) (e : Entry) → has_entry es e ≡ true → Stands es e
unfolding has_entry entry_number
stands [] e h = absurd cc
stands (x ∷ es) e h = by (stands es e) (same_entry x e) refl h
  where
    by : (has_entry es e ≡ true → Stands es e) → (b : Bool) → same_entry x e ≡ b → b || has_entry es e ≡ true → Stands (x ∷ es) e
    by again true s g = record { its = x; there = ap (λ b. slice_get (x ∷ es) (if b then 0 else suc (entry_number es e))) s; same = s }
    by again false s g =
        let r = again g in
        record { its = r.its; there = ap (λ b. slice_get (x ∷ es) (if b then 0 else suc (entry_number es e))) s ∙ r.there; same = r.same }

has_front : (es fs : List Entry) (e : Entry) → has_entry es e ≡ true → has_entry (es ++ fs) e ≡ true
unfolding has_entry
has_front [] fs e h = absurd cc
has_front (x ∷ es) fs e h = by (has_front es fs e) (same_entry x e) h
  where
    by : (has_entry es e ≡ true → has_entry (es ++ fs) e ≡ true) → (b : Bool) → b || has_entry es e ≡ true → b || has_entry (es ++ fs) e ≡ true
    by again true g = refl
    by again false g = again g

has_last : (es : List Entry) (e : Entry) → has_entry (es ++ e ∷ []) e ≡ true
unfolding has_entry
has_last [] e = ap (λ b. b || false) (own_entry e)
has_last (x ∷ es) e = by (same_entry x e) (has_last es e)
  where
    by : (b : Bool) → has_entry (es ++ e ∷ []) e ≡ true → b || has_entry (es ++ e ∷ []) e ≡ true
    by true h = refl
    by false h = h

-- ---- what is noted

noted_keeps : (already es : List Entry) (e : Entry) → has_entry already e ≡ true → has_entry (noted already es) e ≡ true
unfolding noted
noted_keeps already [] e h = h
noted_keeps already (x ∷ es) e h = by (has_entry already x) (noted_keeps already es e h) (noted_keeps (already ++ x ∷ []) es e (has_front already (x ∷ []) e h))
  where
    by : (b : Bool) → has_entry (noted already es) e ≡ true → has_entry (noted (already ++ x ∷ []) es) e ≡ true → has_entry (if b then noted already es else noted (already ++ x ∷ []) es) e ≡ true
    by true p q = p
    by false p q = q

noted_has : (already es : List Entry) (e : Entry) → Mem e es → has_entry (noted already es) e ≡ true
unfolding noted
noted_has already [] e m = absurd m
noted_has already (x ∷ es) e (inl s) = by (has_entry already x) refl
  where
    by : (b : Bool) → has_entry already x ≡ b → has_entry (if b then noted already es else noted (already ++ x ∷ []) es) e ≡ true
    by true h = noted_keeps already es e (subst (λ y. has_entry already y ≡ true) s h)
    by false h = noted_keeps (already ++ x ∷ []) es e (subst (λ y. has_entry (already ++ x ∷ []) y ≡ true) s (has_last already x))
noted_has already (x ∷ es) e (inr m) = by (has_entry already x) (noted_has already es e m) (noted_has (already ++ x ∷ []) es e m)
  where
    by : (b : Bool) → has_entry (noted already es) e ≡ true → has_entry (noted (already ++ x ∷ []) es) e ≡ true → has_entry (if b then noted already es else noted (already ++ x ∷ []) es) e ≡ true
    by true p q = p
    by false p q = q

noted_mem : (already es : List Entry) (e : Entry) → Mem e (noted already es) → Mem e already ⊎ Mem e es
unfolding noted
noted_mem already [] e m = inl m
noted_mem already (x ∷ es) e m = by (λ h. noted_mem already es e h) (λ h. noted_mem (already ++ x ∷ []) es e h) (has_entry already x) m
  where
    later : Mem e already ⊎ Mem e es → Mem e already ⊎ ((x ≡ e) ⊎ Mem e es)
    later (inl h) = inl h
    later (inr h) = inr (inr h)

    with_it : Mem e already ⊎ ((x ≡ e) ⊎ ⊥) → Mem e already ⊎ ((x ≡ e) ⊎ Mem e es)
    with_it (inl h) = inl h
    with_it (inr (inl h)) = inr (inl h)
    with_it (inr (inr h)) = absurd h

    put : Mem e (already ++ x ∷ []) ⊎ Mem e es → Mem e already ⊎ ((x ≡ e) ⊎ Mem e es)
    put (inl h) = with_it (mem_split already (x ∷ []) e h)
    put (inr h) = inr (inr h)

    by : (Mem e (noted already es) → Mem e already ⊎ Mem e es) → (Mem e (noted (already ++ x ∷ []) es) → Mem e (already ++ x ∷ []) ⊎ Mem e es)
        → (b : Bool) → Mem e (if b then noted already es else noted (already ++ x ∷ []) es) → Mem e already ⊎ ((x ≡ e) ⊎ Mem e es)
    by old new true h = later (old h)
    by old new false h = put (new h)

noted_length : (already es : List Entry) → length (noted already es) ≤ length already + length es
unfolding noted
noted_length already [] = omega arith
noted_length already (x ∷ es) = by (has_entry already x) (noted_length already es) (noted_length (already ++ x ∷ []) es)
  where
    by : (b : Bool) → length (noted already es) ≤ length already + length es → length (noted (already ++ x ∷ []) es) ≤ length (already ++ x ∷ []) + length es → length (if b then noted already es else noted (already ++ x ∷ []) es) ≤ length already + suc (length es)
    by true h k = omega (arith, h)
    by false h k = omega (arith, k, length-append already (x ∷ []))

filter_length : (p : Entry → Bool) (es : List Entry) → length (filter p es) ≤ length es
filter_length p [] = omega arith
filter_length p (x ∷ es) = by (p x) (filter_length p es)
  where
    by : (b : Bool) → length (filter p es) ≤ length es → length (if b then x ∷ filter p es else filter p es) ≤ suc (length es)
    by true h = omega (arith, h)
    by false h = omega (arith, h)

abbrev all_wanted : List Image → List Entry
all_wanted images = flat_map (λ (i : Image). i.wanted) images

-- an item of the built-in interface that an image wants
pub still_stands : (images : List Image) (e : Entry) → Mem e (all_wanted images) → is_built_in e.face ≡ true → Stands (still_wanted images) e
unfolding still_wanted
still_stands images e m built =
    stands (noted [] (wanted_built_in images)) e
    (noted_has [] (wanted_built_in images) e (filter_mem (λ (x : Entry). is_built_in x.face) (all_wanted images) e m built))

-- what is still wanted, an image wants
pub still_mem : (images : List Image) (e : Entry) → Mem e (still_wanted images) → Mem e (all_wanted images)
unfolding still_wanted
still_mem images e m = by (noted_mem [] (wanted_built_in images) e m)
  where
    by : ⊥ ⊎ Mem e (wanted_built_in images) → Mem e (all_wanted images)
    by (inl h) = absurd h
    by (inr h) = (mem_filter (λ (x : Entry). is_built_in x.face) (all_wanted images) e h).0

pub still_few : (images : List Image) → length (still_wanted images) ≤ length (all_wanted images)
unfolding still_wanted
still_few images =
    let n = noted_length [] (wanted_built_in images) in
    let f = filter_length (λ (x : Entry). is_built_in x.face) (all_wanted images) in
    omega (arith, n, f)
