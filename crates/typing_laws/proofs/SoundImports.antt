-- The imports of a module: what is marked as used is used, and each item of an import can be marked.
use Rattle.std.proofs.Common.{◌≡◌, ℕ, zero, suc, ◌+◌, List, [], ◌∷◌, length, map, refl, sym, ap, subst, arith}
use Rattle.std.specs.Prelude.{Bool, true, false, Some, Contains, slice_get, replicate}
use Rattle.mesa_types.specs.declared.faces.Item.{Item}
use Rattle.mesa_types.specs.Links as links
use Rattle.interface_records.specs.PlainTypes.{PlainItem, PlainInterface, item_of}
use Rattle.check_rules.specs.Programs.{unused, marked_from, imported}
use Rattle.check_rules.proofs.SoundTypes.{none_is_no}
use Rattle.typing_laws.proofs.SoundSteps.{mark_at}
use Rattle.typing_laws.proofs.SoundAround.{first_member, later_member}

-- as many marks as items
abbrev pub counts : List PlainInterface → List ℕ
counts fs = map (λ (f : PlainInterface). length f.items) fs

length_of_replicate : (n : ℕ) (b : Bool) → length (replicate n b) ≡ n
length_of_replicate zero b = refl
length_of_replicate (suc n) b = ap suc (length_of_replicate n b)

pub unused_counts : (fs : List PlainInterface) → map length (unused fs) ≡ counts fs
unfolding unused
unused_counts [] = refl
unused_counts (f ∷ fs) = rw (length_of_replicate (length f.items) false, unused_counts fs) refl

same_heads : (a b : ℕ) (xs ys : List ℕ) → (a ∷ xs) ≡ (b ∷ ys) → a ≡ b
same_heads a b xs ys e = cc

same_rests : (a b : ℕ) (xs ys : List ℕ) → (a ∷ xs) ≡ (b ∷ ys) → xs ≡ ys
same_rests a b xs ys e = cc

no_mark : {A : Type 0} → Some false ≡ Some true → A
no_mark e = absurd (apart e)
  where
    apart : Some false ≡ Some true → ⊥
    apart e = cc

marked_there : (is : List PlainItem) (ms : List Bool) (n j : ℕ) → slice_get ms j ≡ Some true → length ms ≡ length is
    → Contains (marked_from n is ms) (n + j)
unfolding marked_from
marked_there is [] n j e d = none_is_no true e
marked_there [] (b ∷ ms) n j e d = absurd (omega (arith, d))
marked_there (i ∷ is) (true ∷ ms) n zero e d = let k : n ≡ n + 0 = omega arith in subst (Contains (n ∷ marked_from (suc n) is ms)) k
    (first_member n (marked_from (suc n) is ms))
marked_there (i ∷ is) (true ∷ ms) n (suc j) e d =
    let k : suc n + j ≡ n + suc j = omega arith in
    later_member n (n + suc j) (marked_from (suc n) is ms) (subst (Contains (marked_from (suc n) is ms)) k
    (marked_there is ms (suc n) j e (omega (arith, d))))
marked_there (i ∷ is) (false ∷ ms) n zero e d = no_mark e
marked_there (i ∷ is) (false ∷ ms) n (suc j) e d =
    let k : suc n + j ≡ n + suc j = omega arith in
    subst (Contains (marked_from (suc n) is ms)) k (marked_there is ms (suc n) j e (omega (arith, d)))

pub used_there : (fs : List PlainInterface) (rows : List (List Bool)) (k n : ℕ) → map length rows ≡ counts fs → mark_at rows k n ≡ Some true
    → links.IsUsed (imported fs rows) k n
unfolding imported links.IsUsed links.UsedIn
used_there fs [] k n e d = none_is_no true d
used_there [] (r ∷ rs) k n e d = let no : suc (length (map length rs)) ≡ 0 = ap length e in absurd (omega (arith, no))
used_there (f ∷ fs) (r ∷ rs) zero n e d =
    let same = same_heads (length r) (length f.items) (map length rs) (counts fs) e in
    let number : 0 + n ≡ n = omega arith in
    subst (Contains (marked_from 0 f.items r)) number (marked_there f.items r 0 n d same)
used_there (f ∷ fs) (r ∷ rs) (suc k) n e d = used_there fs rs k n (same_rests (length r) (length f.items) (map length rs) (counts fs) e) d

-- an item of an import has a mark
marks_there : (is : List PlainItem) (ms : List Bool) (n : ℕ) (i : Item) → length ms ≡ length is → slice_get (map item_of is) n ≡ Some i
    → (b : Bool) × (slice_get ms n ≡ Some b)
marks_there [] ms n i e d = none_is_no i d
marks_there (x ∷ is) [] n i e d = absurd (omega (arith, e))
marks_there (x ∷ is) (b ∷ ms) zero i e d = (b, refl)
marks_there (x ∷ is) (b ∷ ms) (suc n) i e d = marks_there is ms n i (omega (arith, e)) d

pub each_has_mark : (fs : List PlainInterface) (rows given : List (List Bool)) (k n : ℕ) (i : Item) → map length rows ≡ counts fs
    → links.imported (imported fs given) k n ≡ Some i
    → (b : Bool) × (mark_at rows k n ≡ Some b)
unfolding imported links.imported links.item_in
each_has_mark [] rows given k n i e d = none_is_no i d
each_has_mark (f ∷ fs) [] given k n i e d = let no : 0 ≡ suc (length (counts fs)) = ap length e in absurd (omega (arith, no))
each_has_mark (f ∷ fs) (r ∷ rs) given zero n i e d = marks_there f.items r n i (same_heads (length r) (length f.items) (map length rs) (counts fs) e) d
each_has_mark (f ∷ fs) (r ∷ rs) given (suc k) n i e d = each_has_mark fs rs _ k n i
    (same_rests (length r) (length f.items) (map length rs) (counts fs) e) d

-- an item of an interface is that of the import
item_mapped : (is : List PlainItem) (n : ℕ) (i : PlainItem) → slice_get is n ≡ Some i → slice_get (map item_of is) n ≡ Some (item_of i)
item_mapped [] n i e = none_is_no i e
item_mapped (x ∷ is) zero i e = ap (λ (i : PlainItem). Some (item_of i)) (same_item x i e)
  where
    same_item : (a b : PlainItem) → Some a ≡ Some b → a ≡ b
    same_item a b e = cc
item_mapped (x ∷ is) (suc n) i e = item_mapped is n i e

pub item_there : (fs : List PlainInterface) (given : List (List Bool)) (k n : ℕ) (f : PlainInterface) (i : PlainItem) → slice_get fs k ≡ Some f
    → slice_get f.items n ≡ Some i
    → links.imported (imported fs given) k n ≡ Some (item_of i)
unfolding imported links.imported links.item_in
item_there [] given k n f i e d = none_is_no f e
item_there (g ∷ fs) given zero n f i e d = item_mapped g.items n i (subst (λ (h : PlainInterface). slice_get h.items n ≡ Some i)
    (sym (same_face g f e)) d)
  where
    same_face : (a b : PlainInterface) → Some a ≡ Some b → a ≡ b
    same_face a b e = cc
item_there (g ∷ fs) given (suc k) n f i e d = item_there fs _ k n f i e d
