-- What the host has not: the first of wanted items, and the first of images.
use Rattle.std.proofs.Common.{◌≡◌, ℕ, zero, suc, ◌+◌, ◌<◌, ◌≤◌, Bool, true, false, cond, List, [], ◌∷◌, ◌++◌, length, take, drop, map, get_or, Some, slice_get, All, refl, sym, ◌∙◌, ap, subst, arith}
use Rattle.std.proofs.lemmas.List.Elements.{All-nil, All-cons, All-head, All-tail, All-append, All-map, All-more, filter-append, filter_more}
use Rattle.std.proofs.lemmas.Option.{none-some, same_Some, slice_get_read}
use Rattle.interface_records.specs.Hosts.{IsHostItem}
use Rattle.interface_records.specs.declared.wanted.Wanted.{Wanted as Entry}
use Rattle.interface_records.specs.declared.wanted.WantedItem.{WantedItem}
use Rattle.machine_ready.specs.Hosts.{IsFirstUnresolved, named}
use Rattle.object_files.specs.declared.image.Image.{Image}
use Rattle.object_rules.specs.ImageForms.{ImagePart, parts_of_image}
use Rattle.loader_rules.specs.Wanted.{is_built_in}
use Rattle.command_passes.specs.command_rules.specs.Loading.{HostHas, IsFirstToLack, here, there, host_wants, of_host}
use Rattle.command_passes.proofs.Steps.{turn_splits}
use Rattle.command_loads.specs.Lacking.{IsHad, HasFor, IsFirstLack, built_in_of}

abbrev own : Entry → Bool
own e = is_built_in e.face

-- ---- the items of an image

module _ (wanteds : List Entry) (i : ℕ) (e : Entry) (less : i < length wanteds) (is : e ≡ get_or wanteds i e) where
  -- one more that the host has
  pub had_more : IsHad e → All IsHostItem (built_in_of (take i wanteds)) → All IsHostItem (built_in_of (take (i + 1) wanteds))
  had_more had before =
      subst (All IsHostItem) (sym (filter_more own wanteds i e less))
      (All-append IsHostItem (built_in_of (take i wanteds)) (cond (own (get_or wanteds i e)) (get_or wanteds i e ∷ []) []) before
      (by (own (get_or wanteds i e)) refl))
    where
      by : (b : Bool) → own (get_or wanteds i e) ≡ b → All IsHostItem (cond b (get_or wanteds i e ∷ []) [])
      by true its = All-cons IsHostItem (get_or wanteds i e) [] (subst IsHad is had its) (All-nil IsHostItem)
      by false its = All-nil IsHostItem

-- one that it has not is of the built-in interface
not_had : (e : Entry) → (IsHad e → ⊥) → own e ≡ true
not_had e missing = by (own e) refl
  where
    by : (b : Bool) → own e ≡ b → own e ≡ true
    by true its = its
    by false its = absurd (missing (λ is. let f : false ≡ true = sym its ∙ is in absurd cc))

taken : {A : Type 0} (front back : List A) → take (length front) (front ++ back) ≡ front
taken [] [] = refl
taken [] (x ∷ back) = refl
taken (x ∷ front) back = ap (λ l. x ∷ l) (taken front back)

got : {A : Type 0} (front back : List A) (x : A) → slice_get (front ++ x ∷ back) (length front) ≡ Some x
got [] back x = refl
got (y ∷ front) back x = got front back x

first_behind : (front back : List Entry) (e : Entry) (item : WantedItem) → All IsHostItem front → (IsHostItem e → ⊥) → item ≡ named e
    → IsFirstUnresolved (front ++ e ∷ back) item
first_behind front back e item before none is = record {
  number = length front;
  wanted = e;
  is = got front back e;
  none = none;
  before = subst (All IsHostItem) (sym (taken front (e ∷ back))) before;
  is_named = is;
}

built_in_behind : (front back : List Entry) (e : Entry) → own e ≡ true → built_in_of (front ++ e ∷ back) ≡ built_in_of front ++ e ∷ built_in_of back
built_in_behind front back e its =
    filter-append own front (e ∷ back) ∙ ap (λ b. built_in_of front ++ cond b (e ∷ built_in_of back) (built_in_of back)) its

-- the first that it has not
pub first_lacking : (wanteds : List Entry) (i : ℕ) (e : Entry) (item : WantedItem) → i < length wanteds → e ≡ get_or wanteds i e → (IsHad e → ⊥)
    → item ≡ named e → All IsHostItem (built_in_of (take i wanteds)) → IsFirstUnresolved (built_in_of wanteds) item
first_lacking wanteds i e item less is missing its before =
    let back = drop (suc i) wanteds in
    let whole = turn_splits wanteds i e (slice_get_read wanteds (length wanteds) i e refl less is) in
    let same : built_in_of (take i wanteds) ++ e ∷ built_in_of back ≡ built_in_of wanteds =
    sym (built_in_behind (take i wanteds) back e (not_had e missing)) ∙ ap built_in_of whole in
    subst (λ l. IsFirstUnresolved l item) same
    (first_behind (built_in_of (take i wanteds)) (built_in_of back) e item before (λ host. missing (λ _. host)) its)

-- ---- images

-- the host has what one more image wants
pub had_for_more : (images : List Image) (i : ℕ) (image : Image) → i < length images → image ≡ get_or images i image → All IsHostItem (built_in_of image.wanted)
    → All HasFor (take i images) → All HasFor (take (i + 1) images)
had_for_more images i image less is had before = All-more HasFor images i image less before (subst HasFor is had)

pub first_lack_at : (images : List Image) (i : ℕ) (image : Image) (item : WantedItem) → i < length images → image ≡ get_or images i image
    → IsFirstUnresolved (built_in_of image.wanted) item → All HasFor (take i images) → IsFirstLack images (record { number = i; item = item })
first_lack_at images i image item less is lacks before =
    record { image = image; is = slice_get_read images (length images) i image refl less is; before = before; lacks = lacks }

-- ---- the same by the parts of images

-- what the host has not of what the first of them wants that lacks something
pub first_to_lack : (bases : List (List ℕ)) (images : List Image) (n : ℕ) (base : List ℕ) (image : Image) (item : WantedItem)
    → slice_get bases n ≡ Some base → slice_get images n ≡ Some image → All HasFor (take n images) → IsFirstUnresolved (built_in_of image.wanted) item
    → IsFirstToLack bases (map of_host (map parts_of_image images)) base item
first_to_lack [] images n base image item e is before lacks = absurd (none-some base e)
first_to_lack (b ∷ bases) [] n base image item e is before lacks = absurd (none-some image is)
first_to_lack (b ∷ bases) (i ∷ images) zero base image item e is before lacks =
    subst (λ name. IsFirstToLack (b ∷ bases) (map of_host (map parts_of_image (i ∷ images))) name item) (same_Some b base e)
    (here b bases (of_host (parts_of_image i)) (map of_host (map parts_of_image images)) item
    (subst (λ (x : Image). IsFirstUnresolved (built_in_of x.wanted) item) (sym (same_Some i image is)) lacks))
first_to_lack (b ∷ bases) (i ∷ images) (suc n) base image item e is before lacks =
    there b bases (of_host (parts_of_image i)) (map of_host (map parts_of_image images)) base item (All-head HasFor i (take n images) before)
    (first_to_lack bases images n base image item e is (All-tail HasFor i (take n images) before) lacks)

-- several want what they want of the built-in interface
pub several_want : (images : List Image) → 2 ≤ length images → host_wants (map parts_of_image images) ≡ map of_host (map parts_of_image images)
unfolding host_wants
several_want [] several = absurd (omega (arith, several))
several_want (a ∷ []) several = absurd (omega (arith, several))
several_want (a ∷ b ∷ images) several = refl

pub host_has : (images : List Image) → 2 ≤ length images → All HasFor images → HostHas (map parts_of_image images)
host_has images several h =
    let has : List Entry → Type 0 = λ (wanted : List Entry). All IsHostItem wanted in
    subst (All has) (sym (several_want images several))
    (All-map has of_host (map parts_of_image images) (All-map (λ (p : ImagePart). has (of_host p)) parts_of_image images h))

-- one alone wants all that it wants
pub host_has_one : (p : ImagePart) → All IsHostItem p.wanted → HostHas (p ∷ [])
unfolding host_wants
host_has_one p hosts =
    let has : List Entry → Type 0 = λ (wanted : List Entry). All IsHostItem wanted in
    All-cons has p.wanted [] hosts (All-nil has)

pub one_lacks : (base : List ℕ) (p : ImagePart) (item : WantedItem) → IsFirstUnresolved p.wanted item → IsFirstToLack (base ∷ []) (host_wants (p ∷ [])) base item
unfolding host_wants
one_lacks base p item first = here base [] p.wanted [] item first
