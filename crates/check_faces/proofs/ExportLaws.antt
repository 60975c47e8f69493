-- What is exported, one interface and one item after the other.
use Rattle.std.proofs.Common.{◌≡◌, ℕ, suc, ◌+◌, ◌<◌, ◌≤◌, Bool, true, false, List, [], ◌∷◌, ◌++◌, map, drop, length, get_or, slice_get, Option, Some, None, Ok, Err, option_map, refl, sym, ap, ◌∙◌, arith}
use Rattle.std.specs.Prelude.{cond, bytes_eq}
use Rattle.std.proofs.lemmas.List.{append-nil, append_assoc, drop_all, length_push}
use denote.Ref.{Bor}
use Rattle.interface_records.specs.declared.interface.Interface.{Interface}
use Rattle.mesa_types.specs.declared.faces.Export.{Export}
use Rattle.mesa_types.specs.declared.faces.Item.{Item}
use Rattle.mesa_types.specs.declared.faces.Pair.{Pair}
use Rattle.check_scopes.specs.Scopes.{Scope, over, nothing, with_name}
use Rattle.check_scopes.specs.Shows.{means}
use Rattle.check_scopes.specs.declared.names.Names.{Names}
use Rattle.check_rules.specs.Directory.{place_in}
use Rattle.interface_records.specs.PlainTypes.{PlainInterface, PlainItem, plain_interface, plain_item}
use Rattle.check_rules.specs.Programs as program
use Rattle.check_rules.specs.Programs.{exported, fits_item, offer_named, pair_for, pairs}
use Rattle.check_rules.specs.Steps.{Checked, and_then}
use Rattle.check_directory.specs.Interfaces.{found}
use Rattle.check_directory.proofs.PlaceLaws.{at_drop, place_more, place_none}
use Rattle.check_faces.specs.Giving.{export, export_with, given, pair}
use Rattle.check_faces.specs.Offers.{names, offer}
use Rattle.check_faces.specs.declared.exports.Offer.{Offer}

-- ---- the first offer of a name

module _ (scope : Scope ℕ) (n : ℕ) (all : List Offer) (i : ℕ) where
  pub place_at : (x : Offer) → i < length all → x ≡ get_or all i x
      → over scope (place_in n (names (drop i all))) ≡ over (over scope (with_name x.name.name n nothing)) (place_in (n + 1) (names (drop (i + 1) all)))
  place_at x inside here = ap (λ os. over scope (place_in n (names os))) (at_drop all i x inside here) ∙ place_more scope n x.name (names (drop (i + 1) all))

  pub place_out : length all ≤ i → over scope (place_in n (names (drop i all))) ≡ scope
  place_out outside = ap (λ os. over scope (place_in n (names os))) (drop_all i all outside) ∙ place_none scope n

abbrev found_at : List Offer → Option ℕ → Option program.Offer
found_at all None = None
found_at all (Some n) = option_map offer (slice_get all n)

here : (before os : List Offer) (o : Offer) → option_map offer (slice_get (before ++ o ∷ os) (length before)) ≡ Some (offer o)
here [] os o = refl
here (b ∷ before) os o = here before os o

pick : (all : List Offer) (b : Bool) (n : ℕ) (p : Option ℕ) (o : program.Offer) (rest : Option program.Offer) → option_map offer (slice_get all n) ≡ Some o → found_at all p ≡ rest
    → found_at all (cond b (Some n) p) ≡ cond b (Some o) rest
pick all true n p o rest h k = h
pick all false n p o rest h k = k

from : (before os : List Offer) (x : List ℕ) → found_at (before ++ os) (place_in (length before) (names os) x) ≡ offer_named x (map offer os)
unfolding place_in offer_named
from before [] x = refl
from before (o ∷ os) x =
    pick (before ++ o ∷ os) (bytes_eq x o.name.name) (length before) (place_in (length before + 1) (names os) x) (offer o) (offer_named x (map offer os)) (here before os o) (
    ap (λ n. found_at (before ++ o ∷ os) (place_in n (names os) x)) (sym (length_push before o))
    ∙ ap (λ all. found_at all (place_in (length (before ++ o ∷ [])) (names os) x)) (sym (append_assoc before (o ∷ []) os))
    ∙ from (before ++ o ∷ []) os x)

module _ (index : Names ℕ) (os : List Offer) (x : List ℕ) where
  pub first_offer : (p : Option ℕ) → means index ≡ place_in 0 (names os) → means index x ≡ p → found_at os p ≡ offer_named x (map offer os)
  first_offer p h k = ap (found_at os) (sym k ∙ ap (λ (s : Scope ℕ). s x) h) ∙ from [] os x

-- ---- the items of an interface

turn_by : (n : ℕ) (i : PlainItem) (o : Option program.Offer) (f : Checked (Unit {0})) (r : Checked (List Pair)) (before : List Pair)
    → and_then (and_then f (λ _. and_then r (pair_for n i o))) (λ ps. Ok (before ++ ps))
    ≡ and_then (and_then f (λ _. Ok (before ++ pair n o))) (λ b. and_then r (λ ps. Ok (b ++ ps)))
turn_by n i o (Err e) r before = refl
turn_by n i None (Ok u) (Err e) before = refl
turn_by n i (Some o) (Ok u) (Err e) before = refl
turn_by n i None (Ok u) (Ok ps) before = ap Ok (sym (append_assoc before [] ps))
turn_by n i (Some o) (Ok u) (Ok ps) before = ap Ok (sym (append_assoc before (pair n (Some o)) ps))

up : (n : ℕ) → suc n ≡ n + 1
up n = omega arith

abbrev pub go_on : List program.Offer → ℕ → List Item → List Pair → Checked (List Pair)
go_on os n is before = and_then (pairs os n (map plain_item is)) (λ ps. Ok (before ++ ps))

module _ (os : List program.Offer) (n : ℕ) (items : List Item) (k : ℕ) (before : List Pair) where
  pub pairs_at : (i : Item) → k < length items → i ≡ get_or items k i
      → go_on os n (drop k items) before ≡ and_then (given n (plain_item i) (offer_named i.name os) before) (go_on os (n + 1) (drop (k + 1) items))
  unfolding pairs
  pairs_at i inside at =
      ap (λ is. go_on os n is before) (at_drop items k i inside at)
      ∙ turn_by n (plain_item i) (offer_named i.name os) (fits_item (plain_item i) (offer_named i.name os)) (pairs os (suc n) (map plain_item (drop (k + 1) items))) before
      ∙ ap (λ j. and_then (given n (plain_item i) (offer_named i.name os) before) (go_on os j (drop (k + 1) items))) (up n)

  pub pairs_next : (i : Item) (o : Option program.Offer) (after : List Pair) → k < length items → i ≡ get_or items k i → o ≡ offer_named i.name os
      → given n (plain_item i) o before ≡ Ok after → go_on os n (drop k items) before ≡ go_on os (n + 1) (drop (k + 1) items) after
  pairs_next i o after inside at e h =
      pairs_at i inside at
      ∙ ap (λ p. and_then (given n (plain_item i) p before) (go_on os (n + 1) (drop (k + 1) items))) (sym e)
      ∙ ap (λ r. and_then r (go_on os (n + 1) (drop (k + 1) items))) h

  pub pairs_out : length items ≤ k → go_on os n (drop k items) before ≡ Ok before
  unfolding pairs
  pairs_out outside = ap (λ is. go_on os n is before) (drop_all k items outside) ∙ ap Ok (append-nil before)

all_well : {A : Type 0} (r : Checked (List A)) → r ≡ and_then r (λ ps. Ok ([] ++ ps))
all_well (Ok ps) = refl
all_well (Err e) = refl

pub pairs_start : (os : List program.Offer) (n : ℕ) (items : List Item) → pairs os n (map plain_item items) ≡ go_on os n items []
pairs_start os n items = all_well (pairs os n (map plain_item items))

-- ---- interfaces

export_by : (f : PlainInterface) (p : Checked (List Pair)) (r : Checked (List Export)) (before : List Export)
    → and_then (and_then p (λ ps. and_then r (λ es. Ok (export_with f ps ∷ es)))) (λ es. Ok (before ++ es))
    ≡ and_then (and_then p (λ ps. Ok (export_with f ps))) (λ e. and_then r (λ es. Ok ((before ++ e ∷ []) ++ es)))
export_by f (Err e) r before = refl
export_by f (Ok ps) (Err e) before = refl
export_by f (Ok ps) (Ok es) before = ap Ok (sym (append_assoc before (export_with f ps ∷ []) es))

abbrev pub export_on : List program.Offer → List (Bor Interface) → List Export → Checked (List Export)
export_on os those before = and_then (exported os (found those)) (λ es. Ok (before ++ es))

module _ (os : List program.Offer) (those : List (Bor Interface)) (n : ℕ) (before : List Export) where
  pub export_at : (f : Bor Interface) → n < length those → f ≡ get_or those n f
      → export_on os (drop n those) before ≡ and_then (export os (plain_interface f.now)) (λ e. export_on os (drop (n + 1) those) (before ++ e ∷ []))
  unfolding exported
  export_at f inside at =
      ap (λ fs. export_on os fs before) (at_drop those n f inside at)
      ∙ export_by (plain_interface f.now) (pairs os 0 (plain_interface f.now).items) (exported os (found (drop (n + 1) those))) before

  pub export_next : (f : Bor Interface) (e : Export) → n < length those → f ≡ get_or those n f → export os (plain_interface f.now) ≡ Ok e
      → export_on os (drop n those) before ≡ export_on os (drop (n + 1) those) (before ++ e ∷ [])
  export_next f e inside at h = export_at f inside at ∙ ap (λ r. and_then r (λ x. export_on os (drop (n + 1) those) (before ++ x ∷ []))) h

  pub export_out : length those ≤ n → export_on os (drop n those) before ≡ Ok before
  unfolding exported
  export_out outside = ap (λ fs. export_on os fs before) (drop_all n those outside) ∙ ap Ok (append-nil before)

pub export_start : (os : List program.Offer) (those : List (Bor Interface)) → exported os (found those) ≡ export_on os those []
export_start os those = all_well (exported os (found those))
