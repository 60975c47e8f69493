-- The turns of loops over modules and instances, and the keys of paths.
use Rattle.std.proofs.Common.{◌≡◌, ℕ, ◌<◌, ◌-◌, Bool, true, false, List, [], ◌∷◌, ◌++◌, length, map, refl, sym, ap, subst, ◌∙◌, arith}
use Rattle.std.specs.Prelude.{All, bytes_eq, nat_eq, ◌&&◌, reverse, slice_get, Some}
use Rattle.std.specs.Cmp.Lexicographic.{nat_list_eq_equiv}
use Rattle.std.proofs.lemmas.List.{map-append, reverse-append, length-reverse, get_or-reverse}
use Rattle.std.proofs.lemmas.List.Elements.{All-push, All-same}
use Rattle.file_forms.specs.Names.{is_among}
use Rattle.image_readers.specs.Paths.{marked, key_of, keys_of}
use Rattle.interface_records.specs.PlainTypes.{same_names}
use Rattle.object_files.specs.declared.image.Instance.{Instance}
use Rattle.object_rules.specs.ImageForms.{has_path}

-- ---- lists with one more

pub mapped_more : {A B : Type 0} (f : A → B) (all after : List A) (a : A) → after ≡ all ++ a ∷ [] → map f after ≡ map f all ++ f a ∷ []
mapped_more f all after a e = ap (map f) e ∙ map-append f all (a ∷ [])

pub all_more : {A : Type 0} (P : A → Type 0) (all after : List A) (a : A) → after ≡ all ++ a ∷ [] → All P all → P a → All P after
all_more P all after a e each here = All-same P after (all ++ a ∷ []) e (All-push P all a each here)

pub all_reversed : {A : Type 0} (P : A → Type 0) (xs after : List A) → after ≡ reverse xs → All P xs → All P after
all_reversed P xs after e each = All-same P after (reverse xs) e turned
  where
    turned : All P (reverse xs)
    turned k d less =
        let few : k < length xs = omega (arith, less, length-reverse xs) in
        subst P (sym (get_or-reverse xs k d few)) (each (length xs - 1 - k) d (omega (arith, few)))

pub last_first : {A : Type 0} (xs : List A) (x : A) → reverse (xs ++ x ∷ []) ≡ x ∷ reverse xs
last_first xs x = reverse-append xs (x ∷ [])

pub at_end : {A : Type 0} (xs ys : List A) (y : A) → slice_get (xs ++ y ∷ ys) (length xs) ≡ Some y
at_end [] ys y = refl
at_end (x ∷ xs) ys y = at_end xs ys y

-- ---- keys of paths: none begins with another

same_marked : (xs ys k l : List ℕ) → bytes_eq (marked xs ++ k) (marked ys ++ l) ≡ (bytes_eq xs ys && bytes_eq k l)
same_marked [] [] k l = refl
same_marked [] (y ∷ ys) k l = refl
same_marked (x ∷ xs) [] k l = refl
same_marked (x ∷ xs) (y ∷ ys) k l = joined (nat_eq x y) (bytes_eq (marked xs ++ k) (marked ys ++ l)) (bytes_eq xs ys) (bytes_eq k l) (same_marked xs ys k l)
  where
    joined : (a b c d : Bool) → b ≡ (c && d) → (a && b) ≡ ((a && c) && d)
    joined true b c d e = e
    joined false b c d e = refl

same_keys : (p q : List (List ℕ)) → bytes_eq (key_of p) (key_of q) ≡ same_names p q
unfolding same_names
same_keys [] [] = refl
same_keys [] ([] ∷ q) = refl
same_keys [] ((y ∷ ys) ∷ q) = refl
same_keys ([] ∷ p) [] = refl
same_keys ((x ∷ xs) ∷ p) [] = refl
same_keys (x ∷ p) (y ∷ q) = same_marked x y (key_of p) (key_of q) ∙ ap (λ b. bytes_eq x y && b) (same_keys p q)

pub path_among : (before : List Instance) (p : List (List ℕ)) → is_among (keys_of before) (key_of p) ≡ has_path before p
unfolding has_path
path_among [] p = refl
path_among (x ∷ before) p = rw (nat_list_eq_equiv.symm (key_of p) (key_of x.path), same_keys x.path p, path_among before p) refl
