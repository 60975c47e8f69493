-- What is loaded of images that files hold has the form of files.
use Rattle.std.proofs.Common.{◌≡◌, ℕ, zero, suc, ◌+◌, ◌*◌, ◌<◌, ◌≤◌, ◌⊎◌, inl, inr, Bool, true, false, ◌||◌, IsTrue, List, [], ◌∷◌, ◌++◌, length, map, flat_map, take, All, get_or, bytes_eq, Option, Some, None, slice_get, refl, sym, ap, subst, ◌∙◌, if◌then◌else◌, arith, length-append, zero-lt-suc, suc-le-suc, eq-eqb}
use Rattle.std.specs.Prelude.{nat_le}
use Rattle.std.proofs.lemmas.Bool.{lt-ltb, le-leb, ltb-true, and_from, and_parts, not_from_false}
use Rattle.std.proofs.lemmas.Option.{none-some, same_Some, slice_get_within, slice_get-get_or}
use Rattle.mesa_base.specs.declared.limits.TheConstants.{CONFIGURATION_DEPTH}
use Rattle.mesa_types.specs.Links.{items_used}
use Rattle.mesa_types.specs.declared.faces.Face.{Face}
use Rattle.mesa_types.specs.declared.faces.Import.{Import}
use Rattle.mesa_types.specs.declared.faces.Item.{Item}
use Rattle.interface_records.specs.declared.wanted.Wanted.{Wanted as Entry}
use Rattle.file_forms.specs.Forms.{FitEach, between}
use Rattle.file_forms.specs.Names.{name}
use Rattle.face_rules.specs.FaceForms.{face}
use Rattle.object_files.specs.declared.image.Image.{Image}
use Rattle.object_files.specs.declared.image.Instance.{Instance}
use Rattle.object_files.specs.declared.image.Link.{Link}
use Rattle.object_files.specs.declared.image.Link.TheVariants.{Wanted, To}
use Rattle.object_files.specs.declared.image.Offer.{Offer}
use Rattle.object_files.specs.declared.object.Object.{Object}
use Rattle.object_rules.specs.ImageForms.{parts_of_image, entry, path, has_path, instance_form, needed_of as needs, needed_by, needed_by_import, module_at, is_wanted, is_given, wanted_link, bound_link, link, link_table, link_tables, exports_in, offer, image_form}
use Rattle.object_rules.specs.ModuleForms.{gives_item, module_form}
use Rattle.object_rules.specs.Numbers.{number_where, is_below}
use Rattle.object_rules.specs.Parts.{ModulePart, parts_of, IsWhole}
use Rattle.object_rules.proofs.SameTypes.{names_same, names_self}
use Rattle.interface_records.specs.PlainTypes.{same_names}
use Rattle.config_rules.proofs.Members.{Mem, mem_get, map_get, mapped_length, flat_mem}
use Rattle.config_rules.specs.Exporters as config
use Rattle.config_rules.specs.Resolves.{given_for}
use Rattle.loader_rules.specs.Exporters.{Offered, gives_item as gives_it, has_stamp, all_offered, exporters, stamped, module_at as object_at}
use Rattle.loader_rules.specs.Laws.{HasFile, IsInOrder, LoadedImagesAreInOrder}
use Rattle.loader_rules.specs.LoadFaults.{faces_linked, is_link_to, faces_among, faces_in, faces_to}
use Rattle.loader_rules.specs.Loaded.{instance_in, offer_in, started_in, link_to, replaced, link_in, Loaded}
use Rattle.loader_rules.specs.Parts.{Part, number, image_name, modules_of, instances_of, modules_before, instances_before}
use Rattle.loader_rules.specs.Wanted.{is_built_in, entry_number}
use Rattle.loader_rules.proofs.Counting.{IsSmall, small, all_counted}
use Rattle.loader_rules.proofs.Exporting.{given_there, taken_there, names_differ, import_fits, pair_gives, exported}
use Rattle.loader_rules.proofs.Faultless.{HasNone, has_none, is_short, are_few, OneExporter, has_one}
use Rattle.loader_rules.proofs.Fitting.{fit_by, taken, modules_in, needed_of, module_fits, wanted_fits, instance_fits, tables, ModuleOf, module_of, TableFits, table_fits, offer_fits, started_fits}
use Rattle.loader_rules.proofs.Lists.{get_there, get_map, get_mem, get_split, Behind, get_front, get_behind, mem_front, mem_behind, mem_filter, mem_flat}
use Rattle.loader_rules.proofs.Naming.{name_fits}
use Rattle.loader_rules.proofs.Naming as naming
use Rattle.loader_rules.proofs.Parting.{IsPart, before_part, part_mem, plain_there, changed_length, changed_there, Located, located}
use Rattle.loader_rules.proofs.Wanting.{are_same, same_entries, joined_same, Stands, still_stands, still_mem, still_few}

-- ---- paths that are there, or not

has_there : (xs : List Instance) (a : ℕ) (x : Instance) (p : List (List ℕ)) → slice_get xs a ≡ Some x → x.path ≡ p → has_path xs p ≡ true
unfolding has_path
has_there [] a x p e same = absurd (none-some x e)
has_there (y ∷ xs) zero x p e same =
    let here : y.path ≡ p = ap (λ (z : Instance). z.path) (same_Some y x e) ∙ same in
    ap (λ b. b || has_path xs p) (subst (λ q. same_names y.path q ≡ true) here (names_self y.path))
has_there (y ∷ xs) (suc a) x p e same = by (same_names y.path p) (has_there xs a x p e same)
  where
    by : (b : Bool) → has_path xs p ≡ true → b || has_path xs p ≡ true
    by true h = refl
    by false h = h

has_not : (xs : List Instance) (p : List (List ℕ)) → ((a : ℕ) (x : Instance) → slice_get xs a ≡ Some x → x.path ≡ p → ⊥) → has_path xs p ≡ false
unfolding has_path
has_not [] p h = refl
has_not (y ∷ xs) p h = by (has_not xs p (λ a x is. h (suc a) x is)) (same_names y.path p) refl
  where
    by : has_path xs p ≡ false → (b : Bool) → same_names y.path p ≡ b → b || has_path xs p ≡ false
    by rest true e = absurd (h zero y refl (names_same y.path p e))
    by rest false e = rest

taken_is : {A : Type 0} (xs : List A) (k a : ℕ) (x : A) → slice_get (take k xs) a ≡ Some x → (a < k) × (slice_get xs a ≡ Some x)
taken_is [] zero a x e = absurd (none-some x e)
taken_is [] (suc k) a x e = absurd (none-some x e)
taken_is (y ∷ xs) zero a x e = absurd (none-some x e)
taken_is (y ∷ xs) (suc k) zero x e = (zero-lt-suc k, e)
taken_is (y ∷ xs) (suc k) (suc a) x e = let r = taken_is xs k a x e in (suc-le-suc r.0, r.1)

heads : {A : Type 0} {x y : A} {xs ys : List A} → x ∷ xs ≡ y ∷ ys → x ≡ y
heads e = cc

tails : {A : Type 0} {x y : A} {xs ys : List A} → x ∷ xs ≡ y ∷ ys → xs ≡ ys
tails e = cc

longer : (n : ℕ) → n < 32 → IsTrue (between 1 CONFIGURATION_DEPTH (suc n))
longer n h = and_from (nat_le 1 (suc n)) (nat_le (suc n) CONFIGURATION_DEPTH) (le-leb 1 (suc n) (omega arith)) (le-leb (suc n) 32 (omega (arith, h)))

names_shift : (before other ps : List (List ℕ)) → FitEach (λ _. name) before ps → FitEach (λ _. name) other ps
unfolding FitEach
names_shift before other [] h = tt
names_shift before other (x ∷ ps) h = (h.0, names_shift (before ++ x ∷ []) (other ++ x ∷ []) ps h.1)

-- ---- an image is known by its number

same_split : {A : Type 0} (xs ys : List A) (x y : A) (us vs : List A) → length xs ≡ length ys → xs ++ x ∷ us ≡ ys ++ y ∷ vs → (xs ≡ ys) × (x ≡ y)
same_split [] [] x y us vs n e = (refl, heads e)
same_split [] (z ∷ ys) x y us vs n e = absurd (omega (arith, n))
same_split (z ∷ xs) [] x y us vs n e = absurd (omega (arith, n))
same_split (z ∷ xs) (w ∷ ys) x y us vs n e =
    let r = same_split xs ys x y us vs (omega (arith, n)) (tails e) in
    let first : z ≡ w = heads e in
    ((λ j. first j ∷ r.0 j), r.1)

one_part : (images : List Image) (p q : Part) → IsPart images p → IsPart images q → number p ≡ number q → p ≡ q
one_part images p q I J n =
    let r = same_split p.before q.before p.image q.image I.behind J.behind n (sym I.are ∙ J.are) in
    λ j. record { before = r.0 j; image = r.1 j }

same_lengths : (images : List Image) → ((i : Image) → Mem i images → length i.links ≡ length i.instances) → length (flat_map (λ (i : Image). i.links) images) ≡ length (instances_of images)
same_lengths [] h = refl
same_lengths (i ∷ images) h =
    length-append i.links (flat_map (λ (x : Image). x.links) images)
    ∙ ((λ j. h i (inl refl) j + same_lengths images (λ x m. h x (inr m)) j) ∙ sym (length-append i.instances (instances_of images)))

-- ---- what a link needs, and by which import

record NeededAt (imports : List Import) (k : ℕ) (d : Entry) : Type 0 where
  place : ℕ
  its : Import
  is : slice_get imports place ≡ Some its
  number : ℕ
  item_is : slice_get its.face.items number ≡ Some d.item
  face_is : slice_get (flat_map (λ (i : Import). map (λ (used : Item). i.face) (items_used i.face.items i.used)) imports) k ≡ Some its.face

used_at : (is : List Item) (ns : List ℕ) (k : ℕ) (i : Item) → slice_get (items_used is ns) k ≡ Some i → (n : ℕ) × (slice_get is n ≡ Some i)
unfolding items_used
used_at is [] k i e = absurd (none-some i e)
used_at is (n ∷ ns) k i e = by (λ m f. used_at is ns m i f) (slice_get is n) refl k e
  where
    by : ((k : ℕ) → slice_get (items_used is ns) k ≡ Some i → (m : ℕ) × (slice_get is m ≡ Some i)) → (o : Option Item) → slice_get is n ≡ o → (k : ℕ) → slice_get (items_used is (n ∷ ns)) k ≡ Some i → (m : ℕ) × (slice_get is m ≡ Some i)
    by again None h k e = again k (rw h at e)
    by again (Some j) h zero e = let f : Some j ≡ Some i = rw h at e in (n, h ∙ f)
    by again (Some j) h (suc k) e = again k (rw h at e)

abbrev import_faces : Import → List Face
import_faces i = map (λ (used : Item). i.face) (items_used i.face.items i.used)

needed_at : (imports : List Import) (k : ℕ) (d : Entry) → slice_get (flat_map needed_by_import imports) k ≡ Some d → NeededAt imports k d
needed_at [] k d e = absurd (none-some d e)
needed_at (m ∷ ms) k d e = by (λ n f. needed_at ms n d f) (get_split (needed_by_import m) (flat_map needed_by_import ms) k d e)
  where
    by : ((n : ℕ) → slice_get (flat_map needed_by_import ms) n ≡ Some d → NeededAt ms n d)
        → (slice_get (needed_by_import m) k ≡ Some d) ⊎ Behind (needed_by_import m) (flat_map needed_by_import ms) k d → NeededAt (m ∷ ms) k d
    by again (inl first) =
        let r = get_map (needs m.face) (items_used m.face.items m.used) k d first in
        let u = used_at m.face.items m.used k r.0 r.1 in
        record {
          place = zero;
          its = m;
          is = refl;
          number = u.0;
          item_is = u.1 ∙ ap (λ (x : Entry). Some x.item) r.2;
          face_is = get_front (import_faces m) (flat_map import_faces ms) k m.face (map_get (λ (i : Item). m.face) (items_used m.face.items m.used) k r.0 r.1);
        }
    by again (inr later) =
        let N = again later.at later.is in
        let number = later.number in
        let one = mapped_length (needs m.face) (items_used m.face.items m.used) in
        let other = mapped_length (λ (i : Item). m.face) (items_used m.face.items m.used) in
        let place : k ≡ length (import_faces m) + later.at = omega (arith, number, one, other) in
        record {
          place = suc N.place;
          its = N.its;
          is = N.is;
          number = N.number;
          item_is = N.item_is;
          face_is = ap (λ n. slice_get (import_faces m ++ flat_map import_faces ms) n) place ∙ (get_behind (import_faces m) (flat_map import_faces ms) later.at ∙ N.face_is);
        }

among_there : (m : ℕ) (fs : List Face) (ls : List Link) (n : ℕ) (f : Face) → slice_get fs n ≡ Some f → slice_get ls n ≡ Some (Wanted m) → Mem f (faces_among m fs ls)
unfolding faces_among
among_there m [] ls n f e g = absurd (none-some f e)
among_there m (h ∷ fs) [] n f e g = absurd (none-some (Wanted m) g)
among_there m (h ∷ fs) (l ∷ ls) zero f e g = by (is_link_to m l) (subst (λ y. is_link_to m y ≡ true) (sym (same_Some l (Wanted m) g)) (eq-eqb m m refl))
  where
    by : (b : Bool) → b ≡ true → Mem f (if b then h ∷ faces_among m fs ls else faces_among m fs ls)
    by true t = inl (same_Some h f e)
    by false t = absurd cc
among_there m (h ∷ fs) (l ∷ ls) (suc n) f e g = by (is_link_to m l) (among_there m fs ls n f e g)
  where
    by : (b : Bool) → Mem f (faces_among m fs ls) → Mem f (if b then h ∷ faces_among m fs ls else faces_among m fs ls)
    by true t = inr t
    by false t = t

in_tables : (i : Image) (m : ℕ) (xs : List Instance) (lss : List (List Link)) (j : ℕ) (x : Instance) (table : List Link) (n : ℕ) (f : Face)
    → slice_get xs j ≡ Some x → slice_get lss j ≡ Some table → slice_get (faces_linked (object_at i (Some x))) n ≡ Some f → slice_get table n ≡ Some (Wanted m) → Mem f (faces_in i m xs lss)
unfolding faces_in
in_tables i m [] lss j x table n f at is e g = absurd (none-some x at)
in_tables i m (y ∷ xs) [] j x table n f at is e g = absurd (none-some table is)
in_tables i m (y ∷ xs) (t ∷ lss) zero x table n f at is e g =
    mem_front (faces_among m (faces_linked (object_at i (Some y))) t) (faces_in i m xs lss) f
    (among_there m (faces_linked (object_at i (Some y))) t n f
    (subst (λ (z : Instance). slice_get (faces_linked (object_at i (Some z))) n ≡ Some f) (sym (same_Some y x at)) e)
    (subst (λ (ls : List Link). slice_get ls n ≡ Some (Wanted m)) (sym (same_Some t table is)) g))
in_tables i m (y ∷ xs) (t ∷ lss) (suc j) x table n f at is e g =
    mem_behind (faces_among m (faces_linked (object_at i (Some y))) t) (faces_in i m xs lss) f (in_tables i m xs lss j x table n f at is e g)

face_in : (i : Image) (m j : ℕ) (x : Instance) (table : List Link) (n : ℕ) (f : Face) → slice_get i.instances j ≡ Some x → slice_get i.links j ≡ Some table
    → slice_get (faces_linked (object_at i (Some x))) n ≡ Some f → slice_get table n ≡ Some (Wanted m) → Mem f (faces_to i m)
face_in i m j x table n f at is e g = in_tables i m i.instances i.links j x table n f at is e g

-- ---- a lone exporter is one of those who offer

record Alone (before : List Image) (e : Entry) (o : Offered) : Type 0 where
  among : Mem o (all_offered before)
  gives : config.is_given e.item.name o.gives.face o.gives.given ≡ true

alone_there : (before : List Image) (e : Entry) (o : Offered) → stamped e (exporters before e) ≡ o ∷ [] → Alone before e o
unfolding exporters
alone_there before e o is =
    let m : Mem o (stamped e (exporters before e)) = subst (λ l. Mem o l) (sym is) (inl refl) in
    let a = mem_filter (has_stamp e) (exporters before e) o m in
    let b = mem_filter (gives_it e) (all_offered before) o a.0 in
    record { among = b.0; gives = (and_parts (bytes_eq o.record_name e.face) (config.is_given e.item.name o.gives.face o.gives.given) b.1).1 }

-- ---- what is loaded, and of what

record World : Type 0 where
  version : ℕ
  images : List Image
  image : Image
  few : length images ≤ 16
  files : All (HasFile version) images
  loaded : Loaded images image

all_mem : {A : Type 0} (P : A → Type 0) (xs : List A) → All P xs → (x : A) → Mem x xs → P x
all_mem P [] h x m = absurd m
all_mem P (y ∷ ys) h x (inl e) = subst P e (h zero y (omega arith))
all_mem P (y ∷ ys) h x (inr m) = all_mem P ys (λ k d less. h (suc k) d (omega (arith, less))) x m

all_by : {A : Type 0} (P : A → Type 0) (xs : List A) → ((x : A) → Mem x xs → P x) → All P xs
all_by P xs h k d less = h (get_or xs k d) (mem_get xs k (get_or xs k d) (slice_get-get_or xs k d less))

module _ (W : World) where
  file : (p : Part) → IsPart W.images p → HasFile W.version p.image
  file p I = all_mem (HasFile W.version) W.images W.files p.image (part_mem W.images p I)

  fits : (p : Part) → IsPart W.images p → (image_form W.version).fits (parts_of_image p.image)
  fits p I = (file p I).1.file.spells.fits.1

  none : (p : Part) → IsPart W.images p → HasNone p
  none p I = has_none W.images W.loaded.no_fault p I

  number_small : (p : Part) → IsPart W.images p → number p < 16
  number_small p I =
      let many = ap length I.are ∙ length-append p.before (p.image ∷ I.behind) in
      let f = W.few in
      omega (arith, many, f)

  -- ---- lengths

  many_modules : length W.image.modules ≤ 65534
  many_modules = let f = (are_few W.images W.loaded.no_fault).modules in subst (λ n. n ≤ 65534) (sym (ap length W.loaded.joined.modules)) f

  many_instances : length W.image.instances ≡ length (instances_of W.images)
  many_instances = ap length W.loaded.joined.instances ∙ changed_length (λ (i : Image). i.instances) instance_in [] W.images

  few_instances : length W.image.instances ≤ 1024
  few_instances = subst (λ n. n ≤ 1024) (sym many_instances) (are_few W.images W.loaded.no_fault).instances

  all_small : {A : Type 0} (h : Image → List A) → ((i : Image) → IsSmall i → 4 * length (h i) ≤ 536870912) → length (flat_map h W.images) < 4294967296
  all_small h each =
      let all = all_counted h W.images (all_by (λ i. 4 * length (h i) ≤ 536870912) W.images (λ i m. each i (small W.version i (all_mem (HasFile W.version) W.images W.files i m)))) in
      let f = W.few in
      omega (arith, all, f)

  few_wanted : length W.image.wanted < 4294967296
  few_wanted =
      let all = all_small (λ (i : Image). i.wanted) (λ i s. s.wanted) in
      let least = still_few W.images in
      let same = ap length W.loaded.joined.wanted in
      omega (arith, all, least, same)

  few_offered : length W.image.offered < 4294967296
  few_offered =
      let all = all_small (λ (i : Image). i.offered) (λ i s. s.offered) in
      let same = ap length W.loaded.joined.offered ∙ changed_length (λ (i : Image). i.offered) offer_in [] W.images in
      omega (arith, all, same)

  few_started : length W.image.control < 4294967296
  few_started =
      let all = all_small (λ (i : Image). i.control) (λ i s. s.started) in
      let same = ap length W.loaded.joined.control ∙ changed_length (λ (i : Image). i.control) started_in [] W.images in
      omega (arith, all, same)

  -- ---- what stands where

  module_there : (p : Part) → IsPart W.images p → (k : ℕ) (m : Object) → slice_get p.image.modules k ≡ Some m → slice_get W.image.modules (modules_before p + k) ≡ Some m
  module_there p I k m e = ap (λ ms. slice_get ms (modules_before p + k)) W.loaded.joined.modules ∙ plain_there (λ (i : Image). i.modules) W.images p I k m e

  instance_there : (p : Part) → IsPart W.images p → (k : ℕ) (x : Instance) → slice_get p.image.instances k ≡ Some x
      → slice_get W.image.instances (instances_before p + k) ≡ Some (instance_in p x)
  instance_there p I k x e =
      ap (λ xs. slice_get xs (instances_before p + k)) W.loaded.joined.instances ∙ changed_there (λ (i : Image). i.instances) instance_in W.images p I k x e

  -- an instance of an image has its module there
  module_is : (p : Part) → IsPart W.images p → (k : ℕ) (x : Instance) → slice_get p.image.instances k ≡ Some x → (o : Object) → slice_get p.image.modules x.«module» ≡ Some o
      → module_at (modules_in W.image) (slice_get W.image.instances (instances_before p + k)) ≡ Some (parts_of o)
  module_is p I k x e o m =
      ap (module_at (modules_in W.image)) (instance_there p I k x e) ∙ map_get parts_of W.image.modules (modules_before p + x.«module») o (module_there p I x.«module» o m)

  instance_below : (p : Part) → IsPart W.images p → (k : ℕ) → k < length p.image.instances → instances_before p + k < length W.image.instances
  instance_below p I k less =
      let x = get_there p.image.instances k less in
      slice_get_within W.image.instances (instances_before p + k) (instance_in p x.0) (instance_there p I k x.0 x.1)

  -- ---- modules and wanted items

  all_modules : (k : ℕ) (m : ModulePart) → slice_get (modules_in W.image) k ≡ Some m → (module_form W.version).fits m
  all_modules k m e =
      let r = get_map parts_of W.image.modules k m e in
      let among : Mem r.0 (modules_of W.images) = subst (λ ms. Mem r.0 ms) W.loaded.joined.modules (mem_get W.image.modules k r.0 r.1) in
      let i = flat_mem (λ (x : Image). x.modules) W.images r.0 among in
      let at = get_mem i.0.modules r.0 i.2 in
      subst (module_form W.version).fits r.2 (module_fits W.version i.0 (all_mem (HasFile W.version) W.images W.files i.0 i.1).1.file.spells.fits.1 at.0 r.0 at.1)

  all_whole : All IsWhole W.image.modules
  all_whole = all_by IsWhole W.image.modules (λ o m.
      let among : Mem o (modules_of W.images) = subst (λ ms. Mem o ms) W.loaded.joined.modules m in
      let i = flat_mem (λ (x : Image). x.modules) W.images o among in
      all_mem IsWhole i.0.modules (all_mem (HasFile W.version) W.images W.files i.0 i.1).1.whole o i.2)

  all_entries : (k : ℕ) (e : Entry) → slice_get W.image.wanted k ≡ Some e → (entry W.version).fits e
  all_entries k e is =
      let among = still_mem W.images e (subst (λ es. Mem e es) W.loaded.joined.wanted (mem_get W.image.wanted k e is)) in
      let i = flat_mem (λ (x : Image). x.wanted) W.images e among in
      let at = get_mem i.0.wanted e i.2 in
      wanted_fits W.version i.0 (all_mem (HasFile W.version) W.images W.files i.0 i.1).1.file.spells.fits.1 at.0 e at.1

  -- ---- paths

  path_fits : (p : Part) (I : IsPart W.images p) (x : Instance) → Mem x p.image.instances → path.fits x.path → path.fits (image_name p ∷ x.path)
  unfolding path FitEach
  path_fits p I x m h =
      let short = is_short p (none p I) x m in
      ((omega (arith, short), longer (length x.path) short), (refl, (name_fits (number p) (number_small p I), names_shift [] (image_name p ∷ []) x.path h.1.1)))

  -- one image has each path once
  once_in : (p : Part) → IsPart W.images p → (a b : ℕ) (x y : Instance) → slice_get p.image.instances a ≡ Some x → slice_get p.image.instances b ≡ Some y → a < b → x.path ≡ y.path → ⊥
  once_in p I a b x y e f less same =
      let new = (instance_fits W.version p.image (fits p I) b y f).new in
      let there = has_there (take b p.image.instances) a x y.path (taken_there p.image.instances a b x less e) same in
      cc

  -- and two images have none of them both, since the names before them differ
  once : (p q : Part) → IsPart W.images p → IsPart W.images q → (a b : ℕ) (x y : Instance) → slice_get q.image.instances a ≡ Some x → slice_get p.image.instances b ≡ Some y
      → instances_before q + a < instances_before p + b → image_name q ∷ x.path ≡ image_name p ∷ y.path → ⊥
  once p q I J a b x y e f less same =
      let one : number q ≡ number p = naming.names_differ (number q) (number p) (number_small q J) (number_small p I) (heads same) in
      let is : q ≡ p = one_part W.images q p J I one in
      let there : slice_get p.image.instances a ≡ Some x = subst (λ (r : Part). slice_get r.image.instances a ≡ Some x) is e in
      let below : instances_before p + a < instances_before p + b = subst (λ (r : Part). instances_before r + a < instances_before p + b) is less in
      once_in p I a b x y there f (omega (arith, below)) (tails same)

  instance_at : (k : ℕ) (x : Instance) → slice_get W.image.instances k ≡ Some x → Located (λ (i : Image). i.instances) instance_in W.images k x
  instance_at k x e = located (λ (i : Image). i.instances) instance_in W.images k x (ap (λ xs. slice_get xs k) (sym W.loaded.joined.instances) ∙ e)

  new_path : (k : ℕ) (p : Part) (I : IsPart W.images p) (b : ℕ) (y : Instance) → slice_get p.image.instances b ≡ Some y → k ≡ instances_before p + b
      → has_path (take k W.image.instances) (image_name p ∷ y.path) ≡ false
  new_path k p I b y f is =
      has_not (take k W.image.instances) (image_name p ∷ y.path) (λ a z e same.
      let t = taken_is W.image.instances k a z e in
      let less : a < k = t.0 in
      let r = instance_at a z t.1 in
      let number = r.number in
      once p r.its I r.is_part r.at b r.element y r.there f (omega (arith, less, number, is)) (ap (λ (w : Instance). w.path) r.same ∙ same))

  instances_fit : (k : ℕ) (x : Instance) → slice_get W.image.instances k ≡ Some x → (instance_form (modules_in W.image) (take k W.image.instances)).fits x
  unfolding instance_form
  instances_fit k x e =
      let r = instance_at k x e in
      let p = r.its in
      let f = instance_fits W.version p.image (fits p r.is_part) r.at r.element r.there in
      let m = get_there p.image.modules r.element.«module» f.its_module in
      let there = module_there p r.is_part r.element.«module» m.0 m.1 in
      let below : modules_before p + r.element.«module» < length W.image.modules = slice_get_within W.image.modules (modules_before p + r.element.«module») m.0 there in
      let many = many_modules in
      let same : length (modules_in W.image) ≡ length W.image.modules = mapped_length parts_of W.image.modules in
      subst (instance_form (modules_in W.image) (take k W.image.instances)).fits r.same (
        (path_fits p r.is_part r.element (mem_get p.image.instances r.at r.element r.there) f.its_path, not_from_false (has_path (take k W.image.instances) (image_name p ∷ r.element.path)) (new_path k p r.is_part r.at r.element r.there r.number)),
        (omega (arith, below, many), lt-ltb (modules_before p + r.element.«module») (length (modules_in W.image)) (omega (arith, below, same))),
      )

  -- ---- what a link is bound to

  -- a wanted item of the built-in interface
  stays_wanted : (p : Part) → IsPart W.images p → (m : ℕ) (e d : Entry) → slice_get p.image.wanted m ≡ Some e → is_built_in e.face ≡ true → is_wanted (Some d) (Some e) ≡ true
      → (link (modules_in W.image) W.image.wanted W.image.instances (Some d)).fits (Wanted (entry_number W.image.wanted e))
  unfolding link wanted_link
  stays_wanted p I m e d there built alike =
      let among : Mem e (flat_map (λ (i : Image). i.wanted) W.images) = mem_flat (λ (i : Image). i.wanted) W.images p.image e (part_mem W.images p I) (mem_get p.image.wanted m e there) in
      let S = subst (λ es. Stands es e) (sym W.loaded.joined.wanted) (still_stands W.images e among built) in
      let less : entry_number W.image.wanted e < length W.image.wanted = slice_get_within W.image.wanted (entry_number W.image.wanted e) S.its S.there in
      let few = few_wanted in
      let same = same_entries S.its d (joined_same S.its e d (are_same S.its e S.same) (are_same e d alike)) in
      ((omega arith, refl), (omega (arith, less, few), subst (λ o. is_wanted (Some d) o ≡ true) (sym S.there) same))

  -- what the exporter of another gives
  record GivenAt (o : Offered) (item : List ℕ) (d : Entry) : Type 0 where
    below : o.instance < length W.image.instances
    few : given_for item o.gives.face o.gives.given < 4294967296
    alike : is_given (Some d) (module_at (modules_in W.image) (slice_get W.image.instances o.instance)) (given_for item o.gives.face o.gives.given) ≡ true

  given_at : (p : Part) (I : IsPart W.images p) (m : ℕ) (e d : Entry) → slice_get p.image.wanted m ≡ Some e → is_wanted (Some d) (Some e) ≡ true → (X : OneExporter p m e)
      → (mi : Import) → (face W.version).fits mi.face → (u : ℕ) → slice_get mi.face.items u ≡ Some d.item → Mem mi.face (faces_to p.image m) → GivenAt X.its e.item.name d
  given_at p I m e d there alike X mi fit u used links =
      let o = X.its in
      let found = alone_there p.before e o X.alone in
      let E = exported p.before o found.among in
      let q = E.its in
      let J = before_part W.images p q I E.is_part in
      let G = given_there e.item.name o.gives.face o.gives.given found.gives in
      let P = pair_gives W.version E.object (module_fits W.version q.image (fits q J) E.instance.«module» E.object E.of_module) E.number o.gives E.exports G.pair G.is in
      let same : o.gives.face ≡ mi.face = X.agrees mi.face links in
      let there : slice_get mi.face.items G.pair.item ≡ Some G.item = subst (λ (f : Face). slice_get f.items G.pair.item ≡ Some G.item) same G.there in
      let named : G.item.name ≡ d.item.name = G.named ∙ (are_same e d alike).name in
      let place : G.pair.item ≡ u = names_differ W.version mi.face fit G.pair.item u G.item d.item there used named in
      let item : G.item ≡ d.item = same_Some G.item d.item (sym there ∙ (ap (slice_get mi.face.items) place ∙ used)) in
      let its : slice_get o.gives.face.items G.pair.item ≡ Some d.item = G.there ∙ ap Some item in
      let module_there = module_is q J E.at E.instance E.there E.object E.of_module in
      let number : given_for e.item.name o.gives.face o.gives.given ≡ G.pair.number = sym G.number in
      record {
        below = subst (λ n. n < length W.image.instances) (sym E.instance_is) (instance_below q J E.at (slice_get_within q.image.instances E.at E.instance E.there));
        few = subst (λ n. n < 4294967296) G.number P.few;
        alike = subst (λ n. is_given (Some d) (module_at (modules_in W.image) (slice_get W.image.instances n)) (given_for e.item.name o.gives.face o.gives.given) ≡ true) (sym E.instance_is)
            (subst (λ x. is_given (Some d) x (given_for e.item.name o.gives.face o.gives.given) ≡ true) (sym module_there)
            (subst (λ n. gives_item (parts_of E.object).signals (parts_of E.object).procedures (Some d.item) n ≡ true) G.number
            (subst (λ x. gives_item (parts_of E.object).signals (parts_of E.object).procedures x G.pair.number ≡ true) its P.alike)));
      }

  -- ---- a link

  module _ (p : Part) (I : IsPart W.images p) (j : ℕ) (x : Instance) (at : slice_get p.image.instances j ≡ Some x) (M : ModuleOf W.version p.image (fits p I) x)
      (table : List Link) (its_table : slice_get p.image.links j ≡ Some table) where
    abbrev Old : Option Entry → Link → Type 0
    Old d l = (link (modules_in p.image) p.image.wanted p.image.instances d).fits l

    abbrev New : Option Entry → Link → Type 0
    New d l = (link (modules_in W.image) W.image.wanted W.image.instances d).fits l

    to_fits : (d : Option Entry) (i n : ℕ) → Old d (To i n) → New d (To (instances_before p + i) n)
    unfolding link bound_link
    to_fits d i n h =
        let less = ltb-true i (length p.image.instances) h.1.0.1 in
        let y = get_there p.image.instances i less in
        let N = module_of W.version p.image (fits p I) i y.0 y.1 in
        let below = instance_below p I i less in
        let few = few_instances in
        let old : module_at (modules_in p.image) (slice_get p.image.instances i) ≡ Some (parts_of N.its) = ap (module_at (modules_in p.image)) y.1 ∙ N.part in
        let same = old ∙ sym (module_is p I i y.0 y.1 N.its N.there) in
        ((omega arith, refl), ((omega (arith, below, few), lt-ltb (instances_before p + i) (length W.image.instances) below), (h.1.1.0, subst (λ m. is_given d m n ≡ true) same h.1.1.1)))

    exporter_fits : (o : Offered) (item : List ℕ) (d : Entry) (m : ℕ) → GivenAt o item d → New (Some d) (link_to (Wanted m) item (o ∷ []))
    unfolding link bound_link link_to
    exporter_fits o item d m G =
        let below = G.below in
        let few = few_instances in
        ((omega arith, refl), ((omega (arith, below, few), lt-ltb o.instance (length W.image.instances) below), (G.few, G.alike)))

    replaced_fits : (n m : ℕ) (e d : Entry) → slice_get table n ≡ Some (Wanted m) → slice_get (needed_of M.its) n ≡ Some d → slice_get p.image.wanted m ≡ Some e → is_wanted (Some d) (Some e) ≡ true
        → (b : Bool) → is_built_in e.face ≡ b → New (Some d) (if b then Wanted (entry_number W.image.wanted e) else link_to (Wanted m) e.item.name (stamped e (exporters p.before e)))
    replaced_fits n m e d is needed there alike true built = stays_wanted p I m e d there built alike
    replaced_fits n m e d is needed there alike false other =
        let X = has_one p (none p I) m e there other in
        let D = needed_at M.its.shape.imports n d needed in
        let fit = import_fits W.version M.its (module_fits W.version p.image (fits p I) x.«module» M.its M.there) D.place D.its D.is in
        let faces : slice_get (faces_linked (object_at p.image (Some x))) n ≡ Some D.its.face = ap (λ o. slice_get (faces_linked o) n) M.there ∙ D.face_is in
        let links = face_in p.image m j x table n D.its.face at its_table faces is in
        let G = given_at p I m e d there alike X D.its fit D.number D.item_is links in
        subst (λ os. New (Some d) (link_to (Wanted m) e.item.name os)) (sym X.alone) (exporter_fits X.its e.item.name d m G)

    wanted_fits_new : (n m : ℕ) (d e : Option Entry) → slice_get table n ≡ Some (Wanted m) → slice_get (needed_of M.its) n ≡ d → slice_get p.image.wanted m ≡ e → is_wanted d e ≡ true
        → New d (replaced p W.image.wanted (Wanted m) e)
    unfolding replaced
    wanted_fits_new n m None None is needed there alike = absurd cc
    wanted_fits_new n m None (Some e) is needed there alike = absurd cc
    wanted_fits_new n m (Some d) None is needed there alike = absurd cc
    wanted_fits_new n m (Some d) (Some e) is needed there alike = replaced_fits n m e d is needed there alike (is_built_in e.face) refl

    link_fits : (n : ℕ) (l : Link) → slice_get table n ≡ Some l → Old (slice_get (needed_of M.its) n) l → New (slice_get (needed_of M.its) n) (link_in p W.image.wanted l)
    unfolding link_in link wanted_link
    link_fits n (Wanted m) is h = wanted_fits_new n m (slice_get (needed_of M.its) n) (slice_get p.image.wanted m) is refl refl h.1.1
    link_fits n (To i k) is h = to_fits (slice_get (needed_of M.its) n) i k h

    table_fits_new : TableFits W.version p.image (fits p I) x M.its table → (link_table (modules_in W.image) W.image.wanted W.image.instances (needed_of M.its)).fits (map (link_in p W.image.wanted) table)
    unfolding link_table
    table_fits_new T = (
      mapped_length (link_in p W.image.wanted) table ∙ T.many,
      fit_by (λ before. link (modules_in W.image) W.image.wanted W.image.instances (slice_get (needed_of M.its) (length before))) [] (map (link_in p W.image.wanted) table) (λ n l e.
          let q = get_map (link_in p W.image.wanted) table n l e in
          let place : n ≡ length (take n (map (link_in p W.image.wanted) table)) = sym (taken (map (link_in p W.image.wanted) table) n (slice_get_within (map (link_in p W.image.wanted) table) n l e)) in
          subst (λ k. New (slice_get (needed_of M.its) k) l) place (subst (New (slice_get (needed_of M.its) n)) q.2 (link_fits n q.0 q.1 (T.each n q.0 q.1)))),
    )

  -- ---- the tables

  tables_before : (p : Part) → IsPart W.images p → length (flat_map (λ (i : Image). i.links) p.before) ≡ instances_before p
  tables_before p I = same_lengths p.before (λ i m. tables W.version i (all_mem (HasFile W.version) W.images W.files i (subst (λ is. Mem i is) (sym I.are) (mem_front p.before (p.image ∷ I.behind) i m))).1.file.spells.fits.1)

  table_there : (k : ℕ) (table : List Link) → slice_get W.image.links k ≡ Some table
      → (link_table (modules_in W.image) W.image.wanted W.image.instances (needed_by (module_at (modules_in W.image) (slice_get W.image.instances k)))).fits table
  table_there k table e =
      let r = located (λ (i : Image). i.links) (λ p. map (link_in p W.image.wanted)) W.images k table (ap (λ ts. slice_get ts k) (sym W.loaded.joined.links) ∙ e) in
      let p = r.its in
      let I = r.is_part in
      let many = tables W.version p.image (fits p I) in
      let less : r.at < length p.image.links = slice_get_within p.image.links r.at r.element r.there in
      let x = get_there p.image.instances r.at (omega (arith, many, less)) in
      let M = module_of W.version p.image (fits p I) r.at x.0 x.1 in
      let T = table_fits W.version p.image (fits p I) r.at x.0 r.element x.1 r.there M in
      let place : k ≡ instances_before p + r.at = r.number ∙ ap (λ n. n + r.at) (tables_before p I) in
      let needed : needed_by (module_at (modules_in W.image) (slice_get W.image.instances k)) ≡ needed_of M.its =
      ap (λ n. needed_by (module_at (modules_in W.image) (slice_get W.image.instances n))) place ∙ ap needed_by {x = module_at (modules_in W.image) (slice_get W.image.instances (instances_before p + r.at))} {y = Some (parts_of M.its)} (module_is p I r.at x.0 x.1 M.its M.there) in
      subst (λ ns. (link_table (modules_in W.image) W.image.wanted W.image.instances ns).fits table) (sym needed)
      (subst (link_table (modules_in W.image) W.image.wanted W.image.instances (needed_of M.its)).fits r.same (table_fits_new p I r.at x.0 x.1 M r.element r.there T))

  many_tables : length W.image.links ≡ length W.image.instances
  many_tables =
      ap length W.loaded.joined.links
      ∙ (changed_length (λ (i : Image). i.links) (λ p. map (link_in p W.image.wanted)) [] W.images
      ∙ (same_lengths W.images (λ i m. tables W.version i (all_mem (HasFile W.version) W.images W.files i m).1.file.spells.fits.1) ∙ sym many_instances))

  -- ---- what is offered and started

  offers_fit : (k : ℕ) (o : Offer) → slice_get W.image.offered k ≡ Some o → (offer (modules_in W.image) W.image.instances).fits o
  unfolding offer
  offers_fit k o e =
      let r = located (λ (i : Image). i.offered) offer_in W.images k o (ap (λ os. slice_get os k) (sym W.loaded.joined.offered) ∙ e) in
      let p = r.its in
      let I = r.is_part in
      let f = offer_fits W.version p.image (fits p I) r.at r.element r.there in
      let less = ltb-true r.element.instance (length p.image.instances) f.1.0.1 in
      let x = get_there p.image.instances r.element.instance less in
      let M = module_of W.version p.image (fits p I) r.element.instance x.0 x.1 in
      let below = instance_below p I r.element.instance less in
      let few = few_instances in
      let old : module_at (modules_in p.image) (slice_get p.image.instances r.element.instance) ≡ Some (parts_of M.its) = ap (module_at (modules_in p.image)) x.1 ∙ M.part in
      let same = old ∙ sym (module_is p I r.element.instance x.0 x.1 M.its M.there) in
      subst (offer (modules_in W.image) W.image.instances).fits r.same
      (f.0, ((omega (arith, below, few), lt-ltb (instances_before p + r.element.instance) (length W.image.instances) below), (f.1.1.0, subst (λ m. is_below (length (exports_in m)) r.element.export ≡ true) same f.1.1.1)))

  all_started : (k j : ℕ) → slice_get W.image.control k ≡ Some j → (number_where 4 (is_below (length W.image.instances))).fits j
  all_started k j e =
      let r = located (λ (i : Image). i.control) started_in W.images k j (ap (λ js. slice_get js k) (sym W.loaded.joined.control) ∙ e) in
      let less = started_fits W.version r.its.image (fits r.its r.is_part) r.at r.element r.there in
      let below = instance_below r.its r.is_part r.element less in
      let few = few_instances in
      subst (number_where 4 (is_below (length W.image.instances))).fits r.same (omega (arith, below, few), lt-ltb (started_in r.its r.element) (length W.image.instances) below)

  -- ---- the whole

  whole : IsInOrder W.version W.image
  unfolding image_form link_tables
  whole =
      let modules = mapped_length parts_of W.image.modules in
      let some_modules = many_modules in
      let some_instances = few_instances in
      let many = few_wanted in
      let offered = few_offered in
      let started = few_started in
      record {
        fits = (
          ((omega (arith, modules, some_modules), le-leb (length (modules_in W.image)) 65534 (omega (arith, modules, some_modules))), (refl, fit_by (λ _. module_form W.version) [] (modules_in W.image) all_modules)),
          (
            ((omega (arith, many), le-leb 0 (length W.image.wanted) (omega arith)), (refl, fit_by (λ _. entry W.version) [] W.image.wanted all_entries)),
            (
              ((omega (arith, some_instances), le-leb (length W.image.instances) 1024 some_instances), (refl, fit_by (instance_form (modules_in W.image)) [] W.image.instances instances_fit)),
              (
                (
                  many_tables,
                  fit_by (λ before. link_table (modules_in W.image) W.image.wanted W.image.instances (needed_by (module_at (modules_in W.image) (slice_get W.image.instances (length before))))) [] W.image.links (λ k t e.
                      subst (λ n. (link_table (modules_in W.image) W.image.wanted W.image.instances (needed_by (module_at (modules_in W.image) (slice_get W.image.instances n)))).fits t)
                      (sym (taken W.image.links k (slice_get_within W.image.links k t e))) (table_there k t e)),
                ),
                (
                  ((omega (arith, offered), le-leb 0 (length W.image.offered) (omega arith)), (refl, fit_by (λ _. offer (modules_in W.image) W.image.instances) [] W.image.offered offers_fit)),
                  ((omega (arith, started), le-leb 0 (length W.image.control) (omega arith)), (refl, fit_by (λ _. number_where 4 (is_below (length W.image.instances))) [] W.image.control all_started)),
                ),
              ),
            ),
          ),
        );
        whole = all_whole;
      }

pub loaded_images_are_in_order : LoadedImagesAreInOrder
loaded_images_are_in_order version images image few files loaded =
    whole (record { version = version; images = images; image = image; few = few; files = files; loaded = loaded })
