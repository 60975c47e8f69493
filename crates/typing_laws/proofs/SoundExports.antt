-- The faces of a module: of each import the items that are used, and of each export what the module gives for its items.
use Rattle.std.proofs.Common.{◌≡◌, ℕ, zero, suc, ◌+◌, List, [], ◌∷◌, length, refl, ap, subst, arith}
use Rattle.std.specs.Prelude.{◌<◌, Bool, true, false, Option, Some, None, Ok, Err, IfOk, All, bytes_eq, map, slice_get, if◌then◌else◌}
use Rattle.std.proofs.lemmas.List.Elements.{All-nil, All-cons}
use Rattle.mesa_types.specs.declared.faces.Face.{Face}
use Rattle.mesa_types.specs.declared.faces.Item.{Item}
use Rattle.mesa_types.specs.declared.faces.ItemKind.{ItemKind}
use Rattle.mesa_types.specs.declared.faces.ItemKind.TheVariants as item
use Rattle.mesa_types.specs.declared.faces.Pair.{Pair}
use Rattle.mesa_types.specs.declared.faces.Export.{Export}
use Rattle.mesa_types.specs.Sound as sound
use Rattle.mesa_types.specs.Types.{types_in}
use Rattle.check_rules.specs.Typed as t
use Rattle.interface_records.specs.PlainTypes.{PlainField, PlainItem, PlainInterface, same, tree_of, field_of, item_of, face_of}
use Rattle.check_rules.specs.Parts.{same_types}
use Rattle.check_rules.specs.Steps.{Checked, and_then, only}
use Rattle.check_rules.specs.declared.fault.Cause.TheVariants.{ExportDiffers}
use Rattle.check_rules.specs.Programs.{Offer, offer_named, same_kind, is_for, pair_for, fits_item, pairs, exported, imported}
use Rattle.check_rules.specs.Laws.{ImportsInOrder, ExportsInOrder}
use Rattle.interface_records.specs.Lists.{Ascend}
use Rattle.interface_records.specs.Spelled.{item_numbers}
use Rattle.check_rules.proofs.SoundTypes.{no_truth, none_is_no, both_left, both_right}
use Rattle.check_rules.proofs.SoundSame.{types_same}
use Rattle.typing_laws.proofs.SoundSteps.{World}
use Rattle.typing_laws.proofs.SoundModules.{world_of, head_in}
use Rattle.typing_laws.proofs.SoundDeclarations.{GivesItem, EachOffer}
use Rattle.typing_laws.proofs.SoundStart.{ItemsGood, InterfaceGood, InterfacesGood}

-- ---- faces
heads_good : (is : List PlainItem) → ItemsGood is → All sound.HeadIn (map item_of is)
unfolding ItemsGood
heads_good [] h = All-nil sound.HeadIn
heads_good (i ∷ is) h = All-cons sound.HeadIn (item_of i) (map item_of is) (head_in i (h.0).head (h.0).error) (heads_good is h.1)

pub face_good : (f : PlainInterface) → InterfaceGood f → sound.FaceIn (face_of f)
unfolding sound.FaceIn
face_good f h = heads_good f.items h.items

-- ---- numbers in order
ascending : (low high : ℕ) (ns : List ℕ) → Ascend low high ns → sound.IsAscending ns
unfolding Ascend sound.IsAscending
ascending low high [] h = tt
ascending low high (n ∷ []) h = tt
ascending low high (n ∷ k ∷ ns) h = (omega (arith, h.2.0), ascending (suc n) high (k ∷ ns) h.2)

all_below : (low high : ℕ) (ns : List ℕ) → Ascend low high ns → All (λ n. n < high) ns
unfolding Ascend
all_below low high [] h = All-nil (λ n. n < high)
all_below low high (n ∷ ns) h = All-cons (λ n. n < high) n ns h.1 (all_below (suc n) high ns h.2)

-- ---- imports
pub imports_in : (fs : List PlainInterface) (rows : List (List Bool)) → InterfacesGood fs → ImportsInOrder (imported fs rows)
    → All sound.ImportIn (imported fs rows)
unfolding imported InterfacesGood ImportsInOrder sound.ImportIn
imports_in [] rows h o = All-nil sound.ImportIn
imports_in (f ∷ fs) rows h o = All-cons sound.ImportIn _ (imported fs _)
    (face_good f h.0, ascending 0 _ _ o.0, all_below 0 _ _ o.0) (imports_in fs _ h.1 o.1)

-- ---- what is given for an item
kinds_same : (j k : ItemKind) → same_kind j k ≡ true → j ≡ k
kinds_same item.Procedure item.Procedure e = refl
kinds_same item.Signal item.Signal e = refl
kinds_same item.Error item.Error e = refl
kinds_same j k e = no_truth e

trees_same : (fs gs : List PlainField) → same_types fs gs ≡ true → types_in (map field_of fs) ≡ types_in (map field_of gs)
unfolding same_types
trees_same [] [] e = refl
trees_same [] (g ∷ gs) e = no_truth e
trees_same (f ∷ fs) [] e = no_truth e
trees_same (f ∷ fs) (g ∷ gs) e =
    let head : tree_of f.kind ≡ tree_of g.kind = ap tree_of (types_same f.kind g.kind (both_left (same f.kind g.kind) (same_types fs gs) e)) in
    let rest = trees_same fs gs (both_right (same f.kind g.kind) (same_types fs gs) e) in
    cc

offered_there : (W : World) (x : List ℕ) (os : List Offer) (o : Offer) → EachOffer W os → offer_named x os ≡ Some o
    → GivesItem W (o.item).kind o.number (item_of o.item)
unfolding offer_named EachOffer
offered_there W x [] o h e = none_is_no o e
offered_there W x (y ∷ os) o h e = by (bytes_eq x y.name.name) e (offered_there W x os o h.1)
  where
    same_offer : (a b : Offer) → Some a ≡ Some b → a ≡ b
    same_offer a b e = cc

    by : (b : Bool) → (if b then Some y else offer_named x os) ≡ Some o → (offer_named x os ≡ Some o → GivesItem W (o.item).kind o.number (item_of o.item))
        → GivesItem W (o.item).kind o.number (item_of o.item)
    by true d more = subst (λ (o : Offer). GivesItem W (o.item).kind o.number (item_of o.item)) (same_offer y o d) h.0
    by false d more = more d

module _ (m : t.Module) where
  given_there : (k : ItemKind) (n : ℕ) (i : Item) → GivesItem (world_of m) k n i → sound.IsGiven m k n i
  unfolding GivesItem sound.IsGiven
  given_there item.Procedure n i h = h
  given_there item.Signal n i h = h
  given_there item.Error n i h = h

  pair_in : (face : Face) (n : ℕ) (i : PlainItem) (o : Offer) → slice_get face.items n ≡ Some (item_of i) → is_for o.item i ≡ true
      → GivesItem (world_of m) (o.item).kind o.number (item_of o.item) → sound.PairIn m face (record { item = n; number = o.number })
  pair_in face n i o at e h =
      let kind : (o.item).kind ≡ i.kind = kinds_same (o.item).kind i.kind (both_left _ _ e) in
      record {
        wanted = item_of i;
        given = item_of o.item;
        is_wanted = at;
        is_given = given_there i.kind o.number (item_of o.item) (subst (λ k. GivesItem (world_of m) k o.number (item_of o.item)) kind h);
        takes = trees_same (o.item).takes i.takes (both_left _ _ (both_right _ _ e));
        gives = trees_same (o.item).gives i.gives (both_right _ _ (both_right _ _ e));
      }

  pairs_in : (os : List Offer) → EachOffer (world_of m) os → (face : Face) (n : ℕ) (is : List PlainItem)
      → ((j : ℕ) (i : PlainItem) → slice_get is j ≡ Some i → slice_get face.items (n + j) ≡ Some (item_of i))
      → IfOk (pairs os n is) (All (sound.PairIn m face))
  unfolding pairs
  pairs_in os h face n [] at = All-nil (sound.PairIn m face)
  pairs_in os h face n (i ∷ is) at = by (offer_named i.name os) refl
      (pairs_in os h face (suc n) is (λ j x e. let number : n + suc j ≡ suc n + j = omega arith in subst (λ k. slice_get face.items k ≡ Some (item_of x)) number
      (at (suc j) x e)))
    where
      here : slice_get face.items n ≡ Some (item_of i)
      here = let number : n + 0 ≡ n = omega arith in subst (λ k. slice_get face.items k ≡ Some (item_of i)) number (at 0 i refl)

      fits : (o : Offer) → offer_named i.name os ≡ Some o → (b : Bool) → is_for o.item i ≡ b → (rest : Checked (List Pair)) → IfOk rest (All (sound.PairIn m face))
          → IfOk (and_then (only b ExportDiffers o.name.place) (λ _. and_then rest (pair_for n i (Some o)))) (All (sound.PairIn m face))
      fits o e true d (Ok ps) k = All-cons (sound.PairIn m face) (record { item = n; number = o.number }) ps
          (pair_in face n i o here d (offered_there (world_of m) i.name os o h e)) k
      fits o e true d (Err f) k = tt
      fits o e false d rest k = tt

      none : (rest : Checked (List Pair)) → IfOk rest (All (sound.PairIn m face)) → IfOk (and_then rest (pair_for n i None)) (All (sound.PairIn m face))
      none (Ok ps) k = k
      none (Err f) k = tt

      by : (o : Option Offer) → offer_named i.name os ≡ o → IfOk (pairs os (suc n) is) (All (sound.PairIn m face))
          → IfOk (and_then (fits_item i o) (λ _. and_then (pairs os (suc n) is) (pair_for n i o))) (All (sound.PairIn m face))
      by None e k = none (pairs os (suc n) is) k
      by (Some o) e k = fits o e (is_for o.item i) refl (pairs os (suc n) is) k

  item_mapped : (is : List PlainItem) (n : ℕ) (i : PlainItem) → slice_get is n ≡ Some i → slice_get (map item_of is) n ≡ Some (item_of i)
  item_mapped [] n i e = none_is_no i e
  item_mapped (x ∷ is) zero i e = ap (λ (i : PlainItem). Some (item_of i)) (same_item x i e)
    where
      same_item : (a b : PlainItem) → Some a ≡ Some b → a ≡ b
      same_item a b e = cc
  item_mapped (x ∷ is) (suc n) i e = item_mapped is n i e

  pub exports_in : (os : List Offer) → EachOffer (world_of m) os → (fs : List PlainInterface) → InterfacesGood fs
      → IfOk (exported os fs) (λ es. ExportsInOrder es → All (sound.ExportIn m) es)
  unfolding exported InterfacesGood ExportsInOrder sound.ExportIn
  exports_in os h [] g = λ o. All-nil (sound.ExportIn m)
  exports_in os h (f ∷ fs) g = by (pairs os 0 f.items) (exported os fs)
      (pairs_in os h (face_of f) 0 f.items (λ j i e. let number : j ≡ 0 + j = omega arith in
      subst (λ k. slice_get (face_of f).items k ≡ Some (item_of i)) number (item_mapped f.items j i e))) (exports_in os h fs g.1)
    where
      by : (ps : Checked (List Pair)) (es : Checked (List Export)) → IfOk ps (All (sound.PairIn m (face_of f)))
          → IfOk es (λ es. ExportsInOrder es → All (sound.ExportIn m) es)
          → IfOk (and_then ps (λ ps. and_then es (λ es. Ok (record { face = face_of f; given = ps } ∷ es)))) (λ es. ExportsInOrder es → All (sound.ExportIn m) es)
      by (Ok ps) (Ok es) h k = λ o. All-cons (sound.ExportIn m) (record { face = face_of f; given = ps }) es
          (face_good f g.0, ascending 0 (length (face_of f).items) (item_numbers ps) o.0, h) (k o.1)
      by (Ok ps) (Err e) h k = tt
      by (Err e) es h k = tt
