-- The first fault of an image, as the code finds it.
use Rattle.std.proofs.Common.{◌≡◌, ◌≢◌, ℕ, ◌<◌, ◌≤◌, List, [], ◌∷◌, ◌++◌, length, Option, Some, None, slice_get, sym, ap, subst, ◌∙◌, append_assoc}
use Rattle.interface_records.specs.declared.wanted.Wanted.{Wanted as Entry}
use Rattle.loader_rules.specs.declared.fault.LoadFault.{LoadFault}
use Rattle.loader_rules.specs.declared.fault.LoadFault.TheVariants.{FaceDiffers, Memory}
use Rattle.loader_rules.specs.LoadFaults.{item_of, faces_to, nested, many, odd, bad_items, faults_in, first_of}
use Rattle.loader_rules.specs.Parts.{Part, number}
use Rattle.load_checks.specs.declared.choosing.Choices.{Choices}
use Rattle.load_checks.specs.declared.exporters.Exporter.{Exporter}
use Rattle.load_checks.specs.Choosing.{AreChoices, Stops, choices_shown}
use Rattle.load_checks.specs.Faces.{differs_at, lowered_in}
use Rattle.load_checks.proofs.Differing.{IsLeast, least_is}
use Rattle.load_checks.proofs.Firsts.{first_differs, first_bad, none_bad}

module _ (p : Part) (c : Choices) (h : AreChoices p c) (xs : List (Option Exporter)) (same : xs ≡ c.chosen.items) (least : ℕ)
    (is : least ≡ lowered_in p.image (choices_shown xs) (length xs) p.image.instances p.image.links) where
  abbrev Least : List (Option Exporter) → ℕ → Type 0
  Least ys n = IsLeast (λ k. differs_at (choices_shown ys) k (faces_to p.image k)) (length ys) n

  its_least : Least c.chosen.items least
  its_least = subst (λ (ys : List (Option Exporter)). Least ys least) same (subst (λ n. Least xs n) (sym is) (least_is (choices_shown xs) p.image (length xs)))

  pub differs_is : (n : ℕ) → n ≡ number p → (e : Entry) → least < length c.chosen.items → Some e ≡ slice_get p.image.wanted least → (f : LoadFault) → f ≡ FaceDiffers n (item_of e)
      → first_of (bad_items p) ≡ Some f
  differs_is n its e less at f made =
      first_differs p c.chosen.items (length c.chosen.items) least h.are its_least e less (sym at) ∙ (λ j. Some (FaceDiffers (sym its j) (item_of e))) ∙ ap Some (sym made)

  pub bad_is : (f : LoadFault) → c.fault ≡ Some f → length c.chosen.items ≤ least → f ≢ Memory → first_of (bad_items p) ≡ Some f
  bad_is f made past other =
      let s = subst (λ (o : Option LoadFault). Stops p (length c.chosen.items) o) made h.stops in
      first_bad p c.chosen.items (length c.chosen.items) least h.are its_least s.0 f past s.1 (s.2 other)

  pub none_is : c.fault ≡ None → length c.chosen.items ≤ least → bad_items p ≡ []
  none_is made past =
      none_bad p c.chosen.items (length c.chosen.items) least h.are its_least past (subst (λ (o : Option LoadFault). Stops p (length c.chosen.items) o) made h.stops)

-- ---- of all lists of faults

pub first_front : (xs ys : List LoadFault) (f : LoadFault) → first_of xs ≡ Some f → first_of (xs ++ ys) ≡ Some f
first_front [] ys f h = absurd cc
first_front (x ∷ xs) ys f h = h

module _ (p : Part) where
  abbrev whole : List LoadFault
  whole = nested p ++ (many p ++ odd p)

  in_two : faults_in p ≡ whole ++ bad_items p
  unfolding faults_in
  in_two = sym (append_assoc (nested p) (many p ++ odd p) (bad_items p) ∙ ap (λ l. nested p ++ l) (append_assoc (many p) (odd p) (bad_items p)))

  pub none_in : whole ≡ [] → bad_items p ≡ [] → faults_in p ≡ []
  none_in a b = in_two ∙ (λ j. a j ++ b j)

  pub first_whole : (f : LoadFault) → first_of whole ≡ Some f → first_of (faults_in p) ≡ Some f
  first_whole f h = ap first_of in_two ∙ first_front whole (bad_items p) f h

  pub first_item : (f : LoadFault) → whole ≡ [] → first_of (bad_items p) ≡ Some f → first_of (faults_in p) ≡ Some f
  first_item f a h = ap first_of (in_two ∙ ap (λ l. l ++ bad_items p) a) ∙ h
