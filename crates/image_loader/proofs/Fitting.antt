-- What images without a fault have can be numbered, each behind those before it.
use Rattle.std.proofs.Common.{◌≡◌, ℕ, zero, suc, ◌+◌, ◌<◌, ◌≤◌, ◌^◌, All, List, [], ◌∷◌, ◌++◌, length, flat_map, take, get_or, Some, slice_get, sym, ap, subst, length-append, arith}
use Rattle.std.proofs.lemmas.Bool.{ltb-true}
use Rattle.std.proofs.lemmas.Option.{none-some, same_Some, slice_get_within, slice_get-get_or}
use Rattle.interface_records.specs.declared.wanted.Wanted.{Wanted as Entry}
use Rattle.object_files.specs.declared.image.Image.{Image}
use Rattle.object_files.specs.declared.image.Instance.{Instance}
use Rattle.object_files.specs.declared.image.Link.{Link}
use Rattle.object_files.specs.declared.image.Link.TheVariants.{Wanted, To}
use Rattle.object_files.specs.declared.image.Offer.{Offer}
use Rattle.object_rules.specs.ImageForms.{parts_of_image, bound_link, link, offer, image_form}
use Rattle.object_rules.specs.Parts.{ModulePart}
use Rattle.loader_rules.specs.Laws.{HasFile}
use Rattle.loader_rules.specs.LoadFaults.{load_faults}
use Rattle.loader_rules.specs.Parts.{Part, part, parts, modules_before, instances_before}
use Rattle.loader_rules.proofs.Faultless.{are_few}
use Rattle.loader_rules.proofs.Fitting.{instance_fits, tables, module_of, table_fits, offer_fits, started_fits}
use Rattle.loader_rules.proofs.Lists.{get_there, get_mem}
use Rattle.loader_rules.proofs.Parting.{IsPart, plain_about, part_mem}
use Rattle.image_loader.specs.Standing.{instance_of, FitsBehind}
use Rattle.image_loader.proofs.Putting.{part_at, many_parts, there}

-- ---- each element of a list, by its number

each : {A : Type 0} (P : A → Type 0) (xs : List A) → ((k : ℕ) (x : A) → slice_get xs k ≡ Some x → P x) → All P xs
each P xs h k d less = h k (get_or xs k d) (slice_get-get_or xs k d less)

at : {A : Type 0} (P : A → Type 0) (xs : List A) → All P xs → (k : ℕ) (x : A) → slice_get xs k ≡ Some x → P x
at P xs h k x e = subst P (there xs k x x e) (h k x (slice_get_within xs k x e))

around : {A : Type 0} (xs : List A) (k : ℕ) (x : A) → slice_get xs k ≡ Some x → (ys : List A) × (xs ≡ take k xs ++ x ∷ ys)
around [] k x e = absurd (none-some x e)
around (y ∷ xs) zero x e = (xs, λ j. same_Some y x e j ∷ xs)
around (y ∷ xs) (suc k) x e = let r = around xs k x e in (r.0, ap (λ l. y ∷ l) r.1)

-- ---- one image

module _ (images : List Image) (few : length images ≤ 16) (filed : All (HasFile 2) images) (none : load_faults images ≡ []) (p : Part) (I : IsPart images p) where
  its_form : (image_form 2).fits (parts_of_image p.image)
  its_form = let m = get_mem images p.image (part_mem images p I) in (at (HasFile 2) images filed m.0 p.image m.1).1.file.spells.fits.1

  abbrev rest : List Image
  rest = I.behind

  within : {A : Type 0} (h : Image → List A) → length (flat_map h p.before) + length (h p.image) ≤ length (flat_map h images)
  within h =
      let all = ap length (plain_about h images p I) in
      omega (arith, all, length-append (flat_map h p.before) (h p.image ++ flat_map h rest), length-append (h p.image) (flat_map h rest))

  few_modules : modules_before p + length p.image.modules ≤ 65534
  few_modules = let w = within (λ (i : Image). i.modules) in let f = (are_few images none).modules in omega (arith, w, f)

  few_instances : instances_before p + length p.image.instances ≤ 1024
  few_instances = let w = within (λ (i : Image). i.instances) in let f = (are_few images none).instances in omega (arith, w, f)

  below : (j : ℕ) → j < length p.image.instances → instances_before p + j < 2 ^ 32
  below j less = let f = few_instances in omega (arith, less, f)

  link_to : (modules : List ModulePart) (wanted : List Entry) (needed : _) (l : Link) → (link modules wanted p.image.instances needed).fits l → instances_before p + instance_of l < 2 ^ 32
  unfolding link bound_link
  link_to modules wanted needed (Wanted n) h = let f = few_instances in omega (arith, f)
  link_to modules wanted needed (To j n) h = below j (ltb-true j (length p.image.instances) h.1.0.1)

  each_table : (k : ℕ) (table : List Link) → slice_get p.image.links k ≡ Some table → All (λ (l : Link). instances_before p + instance_of l < 2 ^ 32) table
  each_table k table e =
      let many = tables 2 p.image its_form in
      let less : k < length p.image.links = slice_get_within p.image.links k table e in
      let x = get_there p.image.instances k (omega (arith, many, less)) in
      let M = module_of 2 p.image its_form k x.0 x.1 in
      let T = table_fits 2 p.image its_form k x.0 table x.1 e M in
      each (λ (l : Link). instances_before p + instance_of l < 2 ^ 32) table (λ n l is. link_to _ _ _ l (T.each n l is))

  offer_below : (k : ℕ) (o : Offer) → slice_get p.image.offered k ≡ Some o → instances_before p + o.instance < 2 ^ 32
  unfolding offer
  offer_below k o e = below o.instance (ltb-true o.instance (length p.image.instances) (offer_fits 2 p.image its_form k o e).1.0.1)

  pub fits : FitsBehind p
  fits =
      let many = ap length I.are in
      let modules = few_modules in
      let instances = few_instances in
      record {
        number = omega (arith, few, many, length-append p.before (p.image ∷ rest));
        modules = omega (arith, modules);
        instances = omega (arith, instances);
        each_instance = each (λ (x : Instance). modules_before p + x.«module» < 2 ^ 32) p.image.instances (λ k x e.
            let its : x.«module» < length p.image.modules = (instance_fits 2 p.image its_form k x e).its_module in
            omega (arith, modules, its));
        each_link = each (All (λ (l : Link). instances_before p + instance_of l < 2 ^ 32)) p.image.links each_table;
        each_offer = each (λ (o : Offer). instances_before p + o.instance < 2 ^ 32) p.image.offered offer_below;
        each_started = each (λ (j : ℕ). instances_before p + j < 2 ^ 32) p.image.control (λ k j e. below j (started_fits 2 p.image its_form k j e));
      }

-- ---- all of them

pub all_fit : (images : List Image) → length images ≤ 16 → All (HasFile 2) images → load_faults images ≡ [] → All FitsBehind (parts images)
all_fit images few filed none k d less =
    let many = many_parts [] images in
    let i = get_there images k (omega (arith, less, many)) in
    let p = part (take k images) i.0 in
    let r = around images k i.0 i.1 in
    subst FitsBehind (sym (there (parts images) k d p (part_at [] images k i.0 i.1)))
    (fits images few filed none p (record { behind = r.0; are = r.1 }))
