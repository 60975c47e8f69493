-- Where a wanted item stands, and its key among the keys.
use Rattle.std.proofs.Common.{◌≡◌, ℕ, suc, ◌+◌, Bool, true, false, not, ◌||◌, List, [], ◌∷◌, ◌++◌, map, refl, sym, ap, ◌∙◌, arith, if◌then◌else◌}
use Rattle.std.specs.List.{list_any, position_or_len}
use Rattle.interface_records.specs.declared.wanted.Wanted.{Wanted as Entry}
use Rattle.indexmap.specs.IndexSet.{insert_key}
use Rattle.link_tables.specs.declared.key.EntryKey.{EntryKey}
use Rattle.link_tables.specs.Keys.{same_key, own_key, key_equivalence}
use Rattle.link_tables.specs.Linked.{same_entry, has_entry, entry_number, noted}
use Rattle.link_tables.specs.Wanting.{key_of}

turned : (x e : Entry) → same_entry x e ≡ same_key (key_of e) (key_of x)
turned x e = key_equivalence.symm (key_of x) (key_of e)

pub own_entry : (e : Entry) → same_entry e e ≡ true
own_entry e = own_key (key_of e)

is_there : (es : List Entry) (e : Entry) → has_entry es e ≡ list_any (same_key (key_of e)) (map key_of es)
unfolding has_entry
is_there [] e = refl
is_there (x ∷ es) e = ap (λ b. b || has_entry es e) (turned x e) ∙ ap (λ b. same_key (key_of e) (key_of x) || b) (is_there es e)

place_in : (es : List Entry) (e : Entry) → entry_number es e ≡ position_or_len (same_key (key_of e)) (map key_of es)
unfolding entry_number
place_in [] e = refl
place_in (x ∷ es) e = ap (λ b. if b then 0 else suc (entry_number es e)) (turned x e) ∙ by (same_key (key_of e) (key_of x)) (place_in es e)
  where
    by : (b : Bool) → entry_number es e ≡ position_or_len (same_key (key_of e)) (map key_of es)
        → (if b then 0 else suc (entry_number es e)) ≡ (if not b then 1 + position_or_len (same_key (key_of e)) (map key_of es) else 0)
    by true h = refl
    by false h = omega (arith, h)

-- what the set says of a key that was put
pub was_there : (new b : Bool) → new ≡ not b → new ≡ false → b ≡ true
was_there new true h n = refl
was_there new false h n = absurd cc

pub was_none : (new b : Bool) → new ≡ not b → new ≡ true → b ≡ false
was_none new true h n = absurd cc
was_none new false h n = refl

-- ---- noting one item

pub noted_old : (es : List Entry) (e : Entry) → has_entry es e ≡ true → noted es (e ∷ []) ≡ es
unfolding noted
noted_old es e h = ap (λ b. if b then es else es ++ e ∷ []) h

pub noted_new : (es : List Entry) (e : Entry) → has_entry es e ≡ false → noted es (e ∷ []) ≡ es ++ e ∷ []
unfolding noted
noted_new es e h = ap (λ b. if b then es else es ++ e ∷ []) h

-- an item that is put behind the others has the next number
number_behind : (es : List Entry) (e : Entry) → has_entry es e ≡ false → entry_number (es ++ e ∷ []) e ≡ entry_number es e
unfolding has_entry entry_number
number_behind [] e h = ap (λ b. if b then 0 else 1) (own_entry e)
number_behind (x ∷ es) e h = by (same_entry x e) h (number_behind es e)
  where
    by : (b : Bool) → b || has_entry es e ≡ false → (has_entry es e ≡ false → entry_number (es ++ e ∷ []) e ≡ entry_number es e)
        → (if b then 0 else suc (entry_number (es ++ e ∷ []) e)) ≡ (if b then 0 else suc (entry_number es e))
    by true g again = absurd cc
    by false g again = ap suc (again g)

keys_behind : (es : List Entry) (e : Entry) → map key_of (es ++ e ∷ []) ≡ map key_of es ++ key_of e ∷ []
keys_behind [] e = refl
keys_behind (x ∷ es) e = ap (λ l. key_of x ∷ l) (keys_behind es e)

-- the keys are those of the items; the key is found at this place
module _ (es : List Entry) (ks : List EntryKey) (e : Entry) (k : EntryKey) (place : ℕ) (indexed : ks ≡ map key_of es) (its : k ≡ key_of e) (found : place ≡ position_or_len (same_key k) ks) where
  same_there : (b : Bool) → list_any (same_key k) ks ≡ b → has_entry es e ≡ b
  same_there b h = is_there es e ∙ (λ i. list_any (same_key (sym its i)) (sym indexed i)) ∙ h

  same_place : place ≡ entry_number es e
  same_place = found ∙ (λ i. position_or_len (same_key (its i)) (indexed i)) ∙ sym (place_in es e)

  module _ (there : list_any (same_key k) ks ≡ true) where
    pub old_noted : es ≡ noted es (e ∷ [])
    old_noted = sym (noted_old es e (same_there true there))

    pub old_place : place ≡ entry_number es e
    old_place = same_place

  module _ (none : list_any (same_key k) ks ≡ false) (new : List Entry) (put : new ≡ es ++ e ∷ []) where
    pub new_noted : new ≡ noted es (e ∷ [])
    new_noted = put ∙ sym (noted_new es e (same_there false none))

    pub new_place : place ≡ entry_number new e
    new_place = same_place ∙ sym (number_behind es e (same_there false none)) ∙ ap (λ l. entry_number l e) (sym put)

    pub new_indexed : insert_key same_key ks k ≡ map key_of new
    new_indexed =
        ap (λ b. if b then ks else ks ++ k ∷ []) none ∙ (λ i. indexed i ++ its i ∷ []) ∙ sym (keys_behind es e) ∙ ap (map key_of) (sym put)
