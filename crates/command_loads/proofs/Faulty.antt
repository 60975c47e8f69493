-- A load fault names an image that there is.
use Rattle.std.proofs.Common.{◌≡◌, ℕ, suc, ◌+◌, ◌<◌, Bool, true, false, List, [], ◌∷◌, ◌++◌, length, map, filter, All, Some, refl, ap, subst, if◌then◌else◌, arith}
use Rattle.std.specs.List.{list_any}
use Rattle.std.proofs.lemmas.List.{length-append}
use Rattle.std.proofs.lemmas.List.Elements.{All-nil, All-cons, All-append}
use Rattle.std.proofs.lemmas.Option.{slice_get_within, get_or_from_slice_get}
use Rattle.interface_records.specs.declared.wanted.Wanted.{Wanted as Entry}
use Rattle.object_files.specs.declared.image.Image.{Image}
use Rattle.object_files.specs.declared.image.Offer.{Offer}
use Rattle.loader_rules.specs.Exporters.{Offered, exporters, stamped}
use Rattle.loader_rules.specs.Laws.{FirstImageHasTheFault}
use Rattle.loader_rules.specs.LoadFaults.{one_if, is_nested, nested, are_many, many, is_odd, odd, item_of, faces_to, differs, item_fault, fault_among, fault_of, faults_from, bad_items, faults_in, first_of, HasLoadFault}
use Rattle.loader_rules.specs.Parts.{Part, part, number}
use Rattle.loader_rules.specs.Wanted.{is_built_in}
use Rattle.loader_rules.specs.declared.fault.LoadFault.{LoadFault}
use Rattle.loader_rules.specs.declared.fault.LoadFault.TheVariants.{NoExporter, Twice, OtherStamp, FaceDiffers, OddRecord, TooManyInstances, TooNested}
use Rattle.command_passes.specs.command_rules.specs.Loading.{faulty}

-- the fault is of this image
abbrev IsOf : Part → LoadFault → Type 0
IsOf p fault = faulty fault ≡ number p

-- ---- each that is looked for in an image is of it

module _ (p : Part) where
  one_of : (fault : LoadFault) → IsOf p fault → All (IsOf p) (fault ∷ [])
  one_of fault is = All-cons (IsOf p) fault [] is (All-nil (IsOf p))

  if_of : (b : Bool) (fault : LoadFault) → IsOf p fault → All (IsOf p) (one_if b fault)
  if_of true fault is = one_of fault is
  if_of false fault is = All-nil (IsOf p)

  odd_of : (offers : List Offer) → All (IsOf p) (map (λ (o : Offer). OddRecord (number p) o.name) offers)
  odd_of [] = All-nil (IsOf p)
  odd_of (o ∷ offers) =
      All-cons (IsOf p) (OddRecord (number p) o.name) (map (λ (x : Offer). OddRecord (number p) x.name) offers) refl (odd_of offers)

  item_of_it : (n : ℕ) (e : Entry) (under all : List Offered) → All (IsOf p) (item_fault p n e under all)
  unfolding item_fault
  item_of_it n e (o ∷ []) all = if_of (differs o.gives.face (faces_to p.image n)) (FaceDiffers (number p) (item_of e)) refl
  item_of_it n e (o ∷ second ∷ os) all = one_of (Twice (number p) (item_of e) o.path second.path) refl
  item_of_it n e [] (o ∷ os) = one_of (OtherStamp (number p) (item_of e) e.stamp o.gives.face.stamp) refl
  item_of_it n e [] [] = one_of (NoExporter (number p) (item_of e)) refl

  entry_of_it : (n : ℕ) (e : Entry) → All (IsOf p) (fault_of p n e)
  entry_of_it n e = by (is_built_in e.face)
    where
      by : (b : Bool) → All (IsOf p) (if b then [] else fault_among p n e (exporters p.before e))
      by true = All-nil (IsOf p)
      by false = item_of_it n e (stamped e (exporters p.before e)) (exporters p.before e)

  entries_of_it : (n : ℕ) (es : List Entry) → All (IsOf p) (faults_from p n es)
  unfolding faults_from
  entries_of_it n [] = All-nil (IsOf p)
  entries_of_it n (e ∷ es) = All-append (IsOf p) (fault_of p n e) (faults_from p (suc n) es) (entry_of_it n e) (entries_of_it (suc n) es)

  all_of_it : All (IsOf p) (faults_in p)
  unfolding faults_in
  all_of_it =
      All-append (IsOf p) (nested p) (many p ++ (odd p ++ bad_items p)) (if_of (list_any is_nested p.image.instances) (TooNested (number p)) refl)
      (All-append (IsOf p) (many p) (odd p ++ bad_items p) (if_of (are_many (p.before ++ p.image ∷ [])) (TooManyInstances (number p)) refl)
      (All-append (IsOf p) (odd p) (bad_items p) (odd_of (filter (is_odd p.image) p.image.offered)) (entries_of_it 0 p.image.wanted)))

-- ---- the first fault is of an image that there is

first_is : {A : Type 0} (P : A → Type 0) (xs : List A) (x : A) → All P xs → first_of xs ≡ Some x → P x
first_is P xs x h e = subst P (get_or_from_slice_get xs 0 x x e) (h 0 x (slice_get_within xs 0 x e))

pub faulty_there : FirstImageHasTheFault → (images : List Image) (fault : LoadFault) → HasLoadFault images fault → faulty fault < length images
faulty_there law images fault h =
    let f = law images fault h in
    let p = part f.before f.image in
    let k : faulty fault ≡ length f.before = first_is (IsOf p) (faults_in p) fault (all_of_it p) f.first in
    let l : length images ≡ length (f.before ++ f.image ∷ f.behind) = ap length f.are in
    omega (arith, k, l, length-append f.before (f.image ∷ f.behind))
