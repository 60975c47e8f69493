-- The first fault of an image, by what is chosen for its wanted items and by the least of them with another face.
use Rattle.std.proofs.Common.{◌≡◌, ℕ, zero, suc, ◌+◌, ◌<◌, ◌≤◌, Bool, true, false, List, [], ◌∷◌, ◌++◌, length, map, take, Option, Some, None, slice_get, refl, sym, ap, ◌∙◌, if◌then◌else◌, arith}
use Rattle.std.proofs.lemmas.Option.{none-some, same_Some}
use Rattle.interface_records.specs.declared.wanted.Wanted.{Wanted as Entry}
use Rattle.config_rules.proofs.Members.{map_get}
use Rattle.loader_rules.specs.declared.fault.LoadFault.{LoadFault}
use Rattle.loader_rules.specs.declared.fault.LoadFault.TheVariants.{FaceDiffers}
use Rattle.loader_rules.specs.Exporters.{Offered, exporters, stamped}
use Rattle.loader_rules.specs.LoadFaults.{one_if, item_of, faces_to, differs, item_fault, fault_among, fault_of, faults_from, bad_items, first_of}
use Rattle.loader_rules.specs.Parts.{Part, number}
use Rattle.loader_rules.specs.Wanted.{is_built_in}
use Rattle.loader_rules.proofs.Exporting.{taken_there}
use Rattle.load_checks.specs.declared.exporters.Exporter.{Exporter}
use Rattle.load_checks.specs.Choosing.{Choice, BuiltIn, One, Bad, choice_by, choice_of, choice_shown, choices_shown}
use Rattle.load_checks.specs.Faces.{differs_by, differs_at}
use Rattle.load_checks.proofs.Differing.{IsLeast}

-- ---- the faults of an item, by what is chosen for it

abbrev pub faults_by : Part → (n : ℕ) → Entry → Choice → List LoadFault
faults_by p n e BuiltIn = []
faults_by p n e (One g) = one_if (differs g.face (faces_to p.image n)) (FaceDiffers (number p) (item_of e))
faults_by p n e (Bad f) = f ∷ []

by_exporters : (p : Part) (n : ℕ) (e : Entry) (under all : List Offered) → item_fault p n e under all ≡ faults_by p n e (choice_by p e under all)
unfolding item_fault
by_exporters p n e (o ∷ []) all = refl
by_exporters p n e (o ∷ second ∷ os) all = refl
by_exporters p n e [] (o ∷ os) = refl
by_exporters p n e [] [] = refl

pub by_choice : (p : Part) (n : ℕ) (e : Entry) → fault_of p n e ≡ faults_by p n e (choice_of p e)
unfolding choice_of
by_choice p n e = by (is_built_in e.face)
  where
    by : (b : Bool) → (if b then [] else fault_among p n e (exporters p.before e)) ≡ faults_by p n e (if b then BuiltIn else choice_by p e (stamped e (exporters p.before e)) (exporters p.before e))
    by true = refl
    by false = by_exporters p n e (stamped e (exporters p.before e)) (exporters p.before e)

-- ---- the first of the faults of items

-- no item below this number has one
abbrev pub NoneBelow : Part → (n : ℕ) → List Entry → (m : ℕ) → Type 0
NoneBelow p n es m = (k : ℕ) (e : Entry) → k < m → slice_get es k ≡ Some e → fault_of p (n + k) e ≡ []

none_here : (p : Part) (n : ℕ) (x : Entry) (es : List Entry) (m : ℕ) → NoneBelow p n (x ∷ es) (suc m) → fault_of p n x ≡ []
none_here p n x es m none = ap (λ k. fault_of p k x) {x = n} {y = n + 0} (omega arith) ∙ none zero x (omega arith) refl

none_later : (p : Part) (n : ℕ) (x : Entry) (es : List Entry) (m : ℕ) → NoneBelow p n (x ∷ es) (suc m) → NoneBelow p (suc n) es m
none_later p n x es m none k e less is = ap (λ j. fault_of p j e) {x = suc n + k} {y = n + suc k} (omega arith) ∙ none (suc k) e (omega (arith, less)) is

pub first_at : (p : Part) (n : ℕ) (es : List Entry) (m : ℕ) (e : Entry) (f : LoadFault) → slice_get es m ≡ Some e → NoneBelow p n es m → fault_of p (n + m) e ≡ f ∷ []
    → first_of (faults_from p n es) ≡ Some f
unfolding faults_from
first_at p n [] m e f is none its = absurd (none-some e is)
first_at p n (x ∷ es) zero e f is none its =
    let same : x ≡ e = same_Some x e is in
    let here : fault_of p n x ≡ f ∷ [] = (λ j. fault_of p n (same j)) ∙ (ap (λ k. fault_of p k e) {x = n} {y = n + 0} (omega arith) ∙ its) in
    ap (λ l. first_of (l ++ faults_from p (suc n) es)) here
first_at p n (x ∷ es) (suc m) e f is none its =
    ap (λ l. first_of (l ++ faults_from p (suc n) es)) (none_here p n x es m none)
    ∙ first_at p (suc n) es m e f is (none_later p n x es m none) (ap (λ j. fault_of p j e) {x = suc n + m} {y = n + suc m} (omega arith) ∙ its)

pub none_from : (p : Part) (n : ℕ) (es : List Entry) → NoneBelow p n es (length es) → faults_from p n es ≡ []
unfolding faults_from
none_from p n [] none = refl
none_from p n (x ∷ es) none = (λ j. none_here p n x es (length es) none j ++ none_from p (suc n) es (none_later p n x es (length es) none) j)

-- ---- where these are chosen

never_bad : (xs : List (Option Exporter)) (k : ℕ) (f : LoadFault) → slice_get (choices_shown xs) k ≡ Some (Bad f) → ⊥
never_bad [] k f h = none-some (Bad f) h
never_bad (None ∷ xs) zero f h = not_built_in (same_Some BuiltIn (Bad f) h)
  where
    not_built_in : BuiltIn ≡ Bad f → ⊥
    not_built_in q = cc
never_bad (Some x ∷ xs) zero f h = not_one (same_Some (choice_shown (Some x)) (Bad f) h)
  where
    not_one : choice_shown (Some x) ≡ Bad f → ⊥
    not_one q = cc
never_bad (None ∷ xs) (suc k) f h = never_bad xs k f h
never_bad (Some x ∷ xs) (suc k) f h = never_bad xs k f h

module _ (p : Part) (chosen : List (Option Exporter)) (m least : ℕ) (are : choices_shown chosen ≡ map (choice_of p) (take m p.image.wanted))
    (h : IsLeast (λ k. differs_at (choices_shown chosen) k (faces_to p.image k)) m least) where
  chosen_at : (k : ℕ) (e : Entry) → k < m → slice_get p.image.wanted k ≡ Some e → slice_get (choices_shown chosen) k ≡ Some (choice_of p e)
  chosen_at k e less is = ap (λ l. slice_get l k) are ∙ map_get (choice_of p) (take m p.image.wanted) k e (taken_there p.image.wanted k m e less is)

  none_by : (k : ℕ) (e : Entry) (c : Choice) → slice_get (choices_shown chosen) k ≡ Some c → differs_at (choices_shown chosen) k (faces_to p.image k) ≡ false → faults_by p k e c ≡ []
  none_by k e BuiltIn at same = refl
  none_by k e (One g) at same = ap (λ b. one_if b (FaceDiffers (number p) (item_of e))) (ap (λ c. differs_by c (faces_to p.image k)) (sym at) ∙ same)
  none_by k e (Bad f) at same = absurd (never_bad chosen k f at)

  none_below : least ≤ m → NoneBelow p 0 p.image.wanted least
  none_below within k e less is =
      ap (λ j. fault_of p j e) {x = 0 + k} {y = k} (omega arith)
      ∙ (by_choice p k e ∙ none_by k e (choice_of p e) (chosen_at k e (omega (arith, less, within)) is) (h.below k less))

  differs_there : (n : ℕ) (e : Entry) (c : Choice) → slice_get (choices_shown chosen) n ≡ Some c → differs_at (choices_shown chosen) n (faces_to p.image n) ≡ true
      → faults_by p n e c ≡ FaceDiffers (number p) (item_of e) ∷ []
  differs_there n e BuiltIn at other = absurd (let q : false ≡ true = ap (λ c. differs_by c (faces_to p.image n)) (sym at) ∙ other in cc)
  differs_there n e (One g) at other = ap (λ b. one_if b (FaceDiffers (number p) (item_of e))) (ap (λ c. differs_by c (faces_to p.image n)) (sym at) ∙ other)
  differs_there n e (Bad f) at other = absurd (never_bad chosen n f at)

  -- one below has another face
  pub first_differs : (e : Entry) → least < m → slice_get p.image.wanted least ≡ Some e → first_of (bad_items p) ≡ Some (FaceDiffers (number p) (item_of e))
  first_differs e less is =
      first_at p 0 p.image.wanted least e (FaceDiffers (number p) (item_of e)) is (none_below h.within)
      (ap (λ j. fault_of p j e) {x = 0 + least} {y = least} (omega arith)
      ∙ (by_choice p least e ∙ differs_there least e (choice_of p e) (chosen_at least e less is) (h.at less)))

  -- none below has; the next one has a fault
  pub first_bad : (e : Entry) (f : LoadFault) → m ≤ least → slice_get p.image.wanted m ≡ Some e → choice_of p e ≡ Bad f → first_of (bad_items p) ≡ Some f
  first_bad e f all is bad =
      first_at p 0 p.image.wanted m e f is (λ k e less is. none_below h.within k e (omega (arith, less, all)) is)
      (ap (λ j. fault_of p j e) {x = 0 + m} {y = m} (omega arith) ∙ (by_choice p m e ∙ ap (faults_by p m e) bad))

  -- or these are all
  pub none_bad : m ≤ least → m ≡ length p.image.wanted → bad_items p ≡ []
  none_bad all whole = none_from p 0 p.image.wanted (λ k e less is. none_below h.within k e (omega (arith, less, all, whole)) is)
