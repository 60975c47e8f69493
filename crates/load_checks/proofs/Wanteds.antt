-- What is noted item by item and image by image is what images still want.
use Rattle.std.proofs.Common.{◌≡◌, ◌≤◌, ℕ, suc, drop, Bool, true, false, not, ◌&&◌, ◌||◌, List, [], ◌∷◌, ◌++◌, length, filter, flat_map, nat_eq, refl, sym, ap, ◌∙◌, if◌then◌else◌}
use Rattle.std.proofs.lemmas.List.{drop_all}
use Rattle.std.proofs.Math.Dec.{eqb-suc-suc, eqb-zero-suc}
use Rattle.interface_records.specs.declared.wanted.Wanted.{Wanted as Entry}
use Rattle.object_files.specs.declared.image.Image.{Image}
use Rattle.loader_rules.specs.Wanted.{is_built_in, same_entry, has_entry, entry_number, noted, wanted_built_in, still_wanted}
use Rattle.load_checks.specs.Wanting.{noted_in, all_noted}

abbrev built_in : Entry → Bool
built_in e = is_built_in e.face

-- ---- whether an entry is there, by its number

pub is_new : (es : List Entry) (e : Entry) → nat_eq (entry_number es e) (length es) ≡ not (has_entry es e)
unfolding has_entry entry_number
is_new [] e = refl
is_new (x ∷ es) e = by (same_entry x e) (is_new es e)
  where
    by : (b : Bool) → nat_eq (entry_number es e) (length es) ≡ not (has_entry es e) → nat_eq (if b then 0 else suc (entry_number es e)) (suc (length es)) ≡ not (b || has_entry es e)
    by true h = eqb-zero-suc (length es)
    by false h = eqb-suc-suc (entry_number es e) (length es) ∙ h

-- ---- items, and images

in_image : (already es : List Entry) → noted_in already es ≡ noted already (filter built_in es)
unfolding noted
in_image already [] = refl
in_image already (e ∷ es) = by (in_image already es) (in_image (already ++ e ∷ []) es) (built_in e) (has_entry already e) refl
  where
    by : noted_in already es ≡ noted already (filter built_in es) → noted_in (already ++ e ∷ []) es ≡ noted (already ++ e ∷ []) (filter built_in es) → (b c : Bool) → has_entry already e ≡ c
        → noted_in (if b && not c then already ++ e ∷ [] else already) es ≡ noted already (if b then e ∷ filter built_in es else filter built_in es)
    by old new false c q = old
    by old new true true q = old ∙ ap (λ c. if c then noted already (filter built_in es) else noted (already ++ e ∷ []) (filter built_in es)) (sym q)
    by old new true false q = new ∙ ap (λ c. if c then noted already (filter built_in es) else noted (already ++ e ∷ []) (filter built_in es)) (sym q)

noted_append : (already xs ys : List Entry) → noted already (xs ++ ys) ≡ noted (noted already xs) ys
unfolding noted
noted_append already [] ys = refl
noted_append already (x ∷ xs) ys = by (noted_append already xs ys) (noted_append (already ++ x ∷ []) xs ys) (has_entry already x)
  where
    by : noted already (xs ++ ys) ≡ noted (noted already xs) ys → noted (already ++ x ∷ []) (xs ++ ys) ≡ noted (noted (already ++ x ∷ []) xs) ys → (b : Bool)
        → (if b then noted already (xs ++ ys) else noted (already ++ x ∷ []) (xs ++ ys)) ≡ noted (if b then noted already xs else noted (already ++ x ∷ []) xs) ys
    by old new true = old
    by old new false = new

filter_append : (xs ys : List Entry) → filter built_in (xs ++ ys) ≡ filter built_in xs ++ filter built_in ys
filter_append [] ys = refl
filter_append (x ∷ xs) ys = by (built_in x) (filter_append xs ys)
  where
    by : (b : Bool) → filter built_in (xs ++ ys) ≡ filter built_in xs ++ filter built_in ys
        → (if b then x ∷ filter built_in (xs ++ ys) else filter built_in (xs ++ ys)) ≡ (if b then x ∷ filter built_in xs else filter built_in xs) ++ filter built_in ys
    by true h = ap (λ l. x ∷ l) h
    by false h = h

in_images : (already : List Entry) (is : List Image) → all_noted already is ≡ noted already (wanted_built_in is)
unfolding noted
in_images already [] = refl
in_images already (i ∷ is) =
    in_images (noted_in already i.wanted) is
    ∙ ap (λ l. noted l (wanted_built_in is)) (in_image already i.wanted)
    ∙ sym (noted_append already (filter built_in i.wanted) (wanted_built_in is))
    ∙ ap (noted already) (sym (filter_append i.wanted (flat_map (λ (i : Image). i.wanted) is)))

pub all_are : (is : List Image) → all_noted [] is ≡ still_wanted is
unfolding still_wanted
all_are is = in_images [] is

pub all_left : (es : List Entry) (is : List Image) (at : ℕ) (all : List Entry) → all_noted es (drop at is) ≡ all → length is ≤ at → es ≡ all
all_left es is at all so_far past = sym (ap (all_noted es) (drop_all at is past)) ∙ so_far
