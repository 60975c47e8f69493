-- Images that differ in depths alone have the same faults, and are loaded as images that differ in depths alone. What is still wanted, one
-- of the images wants.
use Rattle.std.proofs.Common.{◌≡◌, ℕ, zero, suc, ◌+◌, Bool, true, false, not, ◌||◌, List, [], ◌∷◌, ◌++◌, length, map, filter, flat_map, All, Contains, codes, decimal, Option, Some, None, slice_get, refl, sym, ap, subst, ◌∙◌, if◌then◌else◌}
use Rattle.std.specs.Prelude.{nat_lt}
use Rattle.std.specs.List.{list_any}
use Rattle.std.proofs.lemmas.List.Elements.{All-nil, All-cons, All-head, All-tail, All-append, All-weaker, All-contains_itself, filter-append}
use Rattle.mesa_base.specs.declared.limits.TheConstants.{INSTANCES}
use Rattle.mesa_types.specs.Links.{items_used}
use Rattle.mesa_types.specs.declared.faces.Export.{Export}
use Rattle.mesa_types.specs.declared.faces.Import.{Import}
use Rattle.mesa_types.specs.declared.faces.Item.{Item}
use Rattle.mesa_types.specs.declared.faces.Shape.{Shape}
use Rattle.interface_records.specs.declared.wanted.Wanted.{Wanted as Entry}
use Rattle.object_files.specs.declared.image.Image.{Image}
use Rattle.object_files.specs.declared.image.Instance.{Instance}
use Rattle.object_files.specs.declared.image.Link.{Link}
use Rattle.object_files.specs.declared.image.Link.TheVariants.{Wanted, To}
use Rattle.object_files.specs.declared.image.Offer.{Offer}
use Rattle.object_files.specs.declared.object.Object.{Object}
use Rattle.object_rules.specs.declared.limits.TheConstants.{IMAGE_MODULES}
use Rattle.object_rules.specs.Exact.{AreSameObjects, IsSameImage}
use Rattle.loader_rules.specs.declared.fault.LoadFault.TheVariants.{NoExporter, Twice, OtherStamp, FaceDiffers, OddRecord, TooManyInstances, TooNested}
use Rattle.loader_rules.specs.Exporters.{module_at, export_at, export_of, path_at, Offered, offered_as, offered_by, all_offered, gives_item, exporters, stamped}
use Rattle.loader_rules.specs.Laws.{AreSameImages, LoadsAreAlike, wanted_of_host, IsWantedByOne, WantedByOne}
use Rattle.loader_rules.specs.LoadFaults.{one_if, is_nested, nested, are_many, many, is_named, odd, faces_linked, faces_among, faces_in, faces_to, item_of, differs, item_fault, fault_among, fault_of, faults_from, bad_items, faults_in, load_faults}
use Rattle.loader_rules.specs.Loaded.{instance_in, offer_in, started_in, link_to, replaced, link_in, Loaded}
use Rattle.loader_rules.specs.Parts.{Part, part, parts_behind, parts, number, image_name, modules_of, instances_of, modules_before, instances_before}
use Rattle.loader_rules.specs.Wanted.{is_built_in, has_entry, entry_number, noted, wanted_built_in, still_wanted}

-- ---- objects whose shapes are equal

abbrev AreLike : Option Object → Option Object → Type 0
AreLike None None = Unit {0}
AreLike (Some a) (Some b) = a.shape ≡ b.shape
AreLike _ _ = ⊥

objects_like : (xs ys : List Object) → AreSameObjects xs ys → (n : ℕ) → AreLike (slice_get xs n) (slice_get ys n)
unfolding AreSameObjects
objects_like [] [] h n = tt
objects_like [] (y ∷ ys) h n = absurd h
objects_like (x ∷ xs) [] h n = absurd h
objects_like (x ∷ xs) (y ∷ ys) h zero = h.0.shape
objects_like (x ∷ xs) (y ∷ ys) h (suc n) = objects_like xs ys h.1 n

objects_many : (xs ys : List Object) → AreSameObjects xs ys → length xs ≡ length ys
unfolding AreSameObjects
objects_many [] [] h = refl
objects_many [] (y ∷ ys) h = absurd h
objects_many (x ∷ xs) [] h = absurd h
objects_many (x ∷ xs) (y ∷ ys) h = ap suc (objects_many xs ys h.1)

objects_joined : (us vs xs ys : List Object) → AreSameObjects us vs → AreSameObjects xs ys → AreSameObjects (us ++ xs) (vs ++ ys)
unfolding AreSameObjects
objects_joined [] [] xs ys h k = k
objects_joined [] (v ∷ vs) xs ys h k = absurd h
objects_joined (u ∷ us) [] xs ys h k = absurd h
objects_joined (u ∷ us) (v ∷ vs) xs ys h k = (h.0, objects_joined us vs xs ys h.1 k)

export_like : (a b : Option Object) → AreLike a b → (n : ℕ) → export_at a n ≡ export_at b n
export_like None None h n = refl
export_like None (Some b) h n = absurd h
export_like (Some a) None h n = absurd h
export_like (Some a) (Some b) h n = ap (λ (s : Shape). slice_get s.exports n) h

faces_like : (a b : Option Object) → AreLike a b → faces_linked a ≡ faces_linked b
faces_like None None h = refl
faces_like None (Some b) h = absurd h
faces_like (Some a) None h = absurd h
faces_like (Some a) (Some b) h =
    ap (λ (s : Shape). flat_map (λ (i : Import). map (λ (used : Item). i.face) (items_used i.face.items i.used)) s.imports) h

-- ---- two images that differ in depths alone

module _ (a b : Image) (h : IsSameImage a b) where
  module_like : (x : Option Instance) → AreLike (module_at a x) (module_at b x)
  module_like None = tt
  module_like (Some x) = objects_like a.modules b.modules h.modules x.«module»

  same_export : (o : Offer) → export_of a o ≡ export_of b o
  same_export o =
      let x = slice_get a.instances o.instance in
      export_like (module_at a x) (module_at b x) (module_like x) o.export
      ∙ ap (λ (xs : List Instance). export_at (module_at b (slice_get xs o.instance)) o.export) h.instances

  same_faces_in : (n : ℕ) (xs : List Instance) (tables : List (List Link)) → faces_in a n xs tables ≡ faces_in b n xs tables
  unfolding faces_in
  same_faces_in n [] tables = refl
  same_faces_in n (x ∷ xs) [] = refl
  same_faces_in n (x ∷ xs) (table ∷ tables) =
      let faces = faces_like (module_at a (Some x)) (module_at b (Some x)) (module_like (Some x)) in
      λ j. faces_among n (faces j) table ++ same_faces_in n xs tables j

  same_faces_to : (n : ℕ) → faces_to a n ≡ faces_to b n
  same_faces_to n = same_faces_in n a.instances a.links ∙ λ j. faces_in b n (h.instances j) (h.links j)

-- ---- lists of them

images_many : (xs ys : List Image) → AreSameImages xs ys → length xs ≡ length ys
unfolding AreSameImages
images_many [] [] h = refl
images_many [] (y ∷ ys) h = absurd h
images_many (x ∷ xs) [] h = absurd h
images_many (x ∷ xs) (y ∷ ys) h = ap suc (images_many xs ys h.1)

images_joined : (us vs xs ys : List Image) → AreSameImages us vs → AreSameImages xs ys → AreSameImages (us ++ xs) (vs ++ ys)
unfolding AreSameImages
images_joined [] [] xs ys h k = k
images_joined [] (v ∷ vs) xs ys h k = absurd h
images_joined (u ∷ us) [] xs ys h k = absurd h
images_joined (u ∷ us) (v ∷ vs) xs ys h k = (h.0, images_joined us vs xs ys h.1 k)

one_image : (a b : Image) → IsSameImage a b → AreSameImages (a ∷ []) (b ∷ [])
unfolding AreSameImages
one_image a b h = (h, tt)

same_modules : (xs ys : List Image) → AreSameImages xs ys → AreSameObjects (modules_of xs) (modules_of ys)
unfolding AreSameImages AreSameObjects
same_modules [] [] h = tt
same_modules [] (y ∷ ys) h = absurd h
same_modules (x ∷ xs) [] h = absurd h
same_modules (x ∷ xs) (y ∷ ys) h = objects_joined x.modules y.modules (modules_of xs) (modules_of ys) h.0.modules (same_modules xs ys h.1)

same_lists : {A : Type 0} (f : Image → List A) → ((a b : Image) → IsSameImage a b → f a ≡ f b) → (xs ys : List Image) → AreSameImages xs ys → flat_map f xs ≡ flat_map f ys
unfolding AreSameImages
same_lists f same [] [] h = refl
same_lists f same [] (y ∷ ys) h = absurd h
same_lists f same (x ∷ xs) [] h = absurd h
same_lists f same (x ∷ xs) (y ∷ ys) h = λ j. same x y h.0 j ++ same_lists f same xs ys h.1 j

same_instances : (xs ys : List Image) → AreSameImages xs ys → instances_of xs ≡ instances_of ys
same_instances xs ys h = same_lists (λ (i : Image). i.instances) (λ a b k. k.instances) xs ys h

same_wanted : (xs ys : List Image) → AreSameImages xs ys → still_wanted xs ≡ still_wanted ys
unfolding still_wanted
same_wanted xs ys h =
    ap (λ (es : List Entry). noted [] (filter (λ (e : Entry). is_built_in e.face) es)) (same_lists (λ (i : Image). i.wanted) (λ a b k. k.wanted) xs ys h)

same_many : (xs ys : List Image) → AreSameImages xs ys → are_many xs ≡ are_many ys
same_many xs ys h =
    let modules = objects_many (modules_of xs) (modules_of ys) (same_modules xs ys h) in
    λ j. nat_lt INSTANCES (length (same_instances xs ys h j)) || nat_lt IMAGE_MODULES (modules j)

-- ---- each with those before it

record IsSamePart (p q : Part) : Type 0 where
  before : AreSameImages p.before q.before
  image : IsSameImage p.image q.image

module _ {A : Type 0} (f : Part → List A) (same : (p q : Part) → IsSamePart p q → f p ≡ f q) where
  same_behind : (before others xs ys : List Image) → AreSameImages before others → AreSameImages xs ys
      → flat_map f (parts_behind before xs) ≡ flat_map f (parts_behind others ys)
  unfolding AreSameImages parts_behind
  same_behind before others [] [] h k = refl
  same_behind before others [] (y ∷ ys) h k = absurd k
  same_behind before others (x ∷ xs) [] h k = absurd k
  same_behind before others (x ∷ xs) (y ∷ ys) h k =
      let this : IsSamePart (part before x) (part others y) = record { before = h; image = k.0 } in
      let longer = images_joined before others (x ∷ []) (y ∷ []) h (one_image x y k.0) in
      λ j. same (part before x) (part others y) this j ++ same_behind (before ++ x ∷ []) (others ++ y ∷ []) xs ys longer k.1 j

  same_parts : (xs ys : List Image) → AreSameImages xs ys → flat_map f (parts xs) ≡ flat_map f (parts ys)
  unfolding AreSameImages
  same_parts xs ys h = same_behind [] [] xs ys tt h

module _ (p q : Part) (h : IsSamePart p q) where
  same_number : number p ≡ number q
  same_number = images_many p.before q.before h.before

  same_name : image_name p ≡ image_name q
  same_name = ap (λ n. codes "I" ++ decimal (n + 1)) same_number

  same_instances_before : instances_before p ≡ instances_before q
  same_instances_before = ap length (same_instances p.before q.before h.before)

  same_modules_before : modules_before p ≡ modules_before q
  same_modules_before = objects_many (modules_of p.before) (modules_of q.before) (same_modules p.before q.before h.before)

-- ---- who offers what

module _ (p q : Part) (h : IsSamePart p q) where
  same_offered_as : (o : Offer) (x : Option Export) → offered_as p o x ≡ offered_as q o x
  same_offered_as o None = refl
  same_offered_as o (Some x) = λ j. record {
    record_name = o.name;
    instance = same_instances_before p q h j + o.instance;
    path = same_name p q h j ∷ path_at (slice_get (h.image.instances j) o.instance);
    gives = x;
  } ∷ []

  same_offered : (o : Offer) → offered_as p o (export_of p.image o) ≡ offered_as q o (export_of q.image o)
  same_offered o = same_offered_as o (export_of p.image o) ∙ ap (offered_as q o) (same_export p.image q.image h.image o)

  same_offered_by : offered_by p ≡ offered_by q
  same_offered_by = λ j. flat_map (λ (o : Offer). same_offered o j) (h.image.offered j)

same_exporters : (xs ys : List Image) → AreSameImages xs ys → (e : Entry) → exporters xs e ≡ exporters ys e
unfolding all_offered exporters
same_exporters xs ys h e = ap (filter (gives_item e)) (same_parts offered_by same_offered_by xs ys h)

-- ---- the faults

module _ (p q : Part) (h : IsSamePart p q) where
  same_nested : nested p ≡ nested q
  same_nested = λ j. one_if (list_any is_nested (h.image.instances j)) (TooNested (same_number p q h j))

  same_too_many : many p ≡ many q
  same_too_many =
      let all = images_joined p.before q.before (p.image ∷ []) (q.image ∷ []) h.before (one_image p.image q.image h.image) in
      let many_are = same_many (p.before ++ p.image ∷ []) (q.before ++ q.image ∷ []) all in
      λ j. one_if (many_are j) (TooManyInstances (same_number p q h j))

  same_odd : odd p ≡ odd q
  same_odd = λ j.
      map (λ (o : Offer). OddRecord (same_number p q h j) o.name)
      (filter (λ (o : Offer). is_built_in o.name || not (is_named o.name (same_export p.image q.image h.image o j))) (h.image.offered j))

  same_item_fault : (n : ℕ) (e : Entry) (under all : List Offered) → item_fault p n e under all ≡ item_fault q n e under all
  unfolding item_fault
  same_item_fault n e (o ∷ []) all = λ j. one_if (differs o.gives.face (same_faces_to p.image q.image h.image n j)) (FaceDiffers (same_number p q h j) (item_of e))
  same_item_fault n e (o ∷ second ∷ os) all = λ j. Twice (same_number p q h j) (item_of e) o.path second.path ∷ []
  same_item_fault n e [] (o ∷ os) = λ j. OtherStamp (same_number p q h j) (item_of e) e.stamp o.gives.face.stamp ∷ []
  same_item_fault n e [] [] = λ j. NoExporter (same_number p q h j) (item_of e) ∷ []

  same_fault_of : (n : ℕ) (e : Entry) → fault_of p n e ≡ fault_of q n e
  same_fault_of n e =
      let all = exporters p.before e in
      let among = same_item_fault n e (stamped e all) all ∙ ap (fault_among q n e) (same_exporters p.before q.before h.before e) in
      λ j. if is_built_in e.face then [] else among j

  same_faults_from : (n : ℕ) (es : List Entry) → faults_from p n es ≡ faults_from q n es
  unfolding faults_from
  same_faults_from n [] = refl
  same_faults_from n (e ∷ es) = λ j. same_fault_of n e j ++ same_faults_from (suc n) es j

  same_bad_items : bad_items p ≡ bad_items q
  same_bad_items = same_faults_from 0 p.image.wanted ∙ ap (faults_from q 0) h.image.wanted

  same_faults_in : faults_in p ≡ faults_in q
  unfolding faults_in
  same_faults_in = λ j. same_nested j ++ (same_too_many j ++ (same_odd j ++ same_bad_items j))

same_faults : (xs ys : List Image) → AreSameImages xs ys → load_faults xs ≡ load_faults ys
unfolding load_faults
same_faults xs ys h = same_parts faults_in same_faults_in xs ys h

-- ---- the loaded image

module _ (p q : Part) (h : IsSamePart p q) where
  same_replaced : (wanted : List Entry) (was : Link) (o : Option Entry) → replaced p wanted was o ≡ replaced q wanted was o
  unfolding replaced
  same_replaced wanted was None = refl
  same_replaced wanted was (Some e) = λ j.
      if is_built_in e.face then Wanted (entry_number wanted e) else link_to was e.item.name (stamped e (same_exporters p.before q.before h.before e j))

  same_link : (wanted : List Entry) (l : Link) → link_in p wanted l ≡ link_in q wanted l
  unfolding link_in
  same_link wanted (Wanted n) =
      same_replaced wanted (Wanted n) (slice_get p.image.wanted n)
      ∙ ap (λ (es : List Entry). replaced q wanted (Wanted n) (slice_get es n)) h.image.wanted
  same_link wanted (To i n) = λ j. To (same_instances_before p q h j + i) n

  same_links : (wanted : List Entry) → map (map (link_in p wanted)) p.image.links ≡ map (map (link_in q wanted)) q.image.links
  same_links wanted = λ j. map (map (λ (l : Link). same_link wanted l j)) (h.image.links j)

  same_instances_in : map (instance_in p) p.image.instances ≡ map (instance_in q) q.image.instances
  same_instances_in = λ j.
      map (λ (x : Instance). record { path = same_name p q h j ∷ x.path; «module» = same_modules_before p q h j + x.«module» }) (h.image.instances j)

  same_offers_in : map (offer_in p) p.image.offered ≡ map (offer_in q) q.image.offered
  same_offers_in = λ j.
      map (λ (o : Offer). record { name = o.name; instance = same_instances_before p q h j + o.instance; export = o.export }) (h.image.offered j)

  same_started_in : map (started_in p) p.image.control ≡ map (started_in q) q.image.control
  same_started_in = λ j. map (λ (i : ℕ). same_instances_before p q h j + i) (h.image.control j)

module _ (xs ys : List Image) (h : AreSameImages xs ys) (a b : Image) (A : Loaded xs a) (B : Loaded ys b) where
  wanted_alike : a.wanted ≡ b.wanted
  wanted_alike = A.joined.wanted ∙ (same_wanted xs ys h ∙ sym B.joined.wanted)

  modules_alike : AreSameObjects a.modules b.modules
  modules_alike =
      subst (λ os. AreSameObjects os b.modules) (sym A.joined.modules)
      (subst (λ os. AreSameObjects (modules_of xs) os) (sym B.joined.modules) (same_modules xs ys h))

  links_alike : a.links ≡ b.links
  links_alike =
      A.joined.links
      ∙ (ap (λ (es : List Entry). flat_map (λ (p : Part). map (map (link_in p es)) p.image.links) (parts xs)) wanted_alike
      ∙ (same_parts (λ (p : Part). map (map (link_in p b.wanted)) p.image.links) (λ p q k. same_links p q k b.wanted) xs ys h ∙ sym B.joined.links))

  loaded_alike : IsSameImage a b
  loaded_alike = record {
    modules = modules_alike;
    wanted = wanted_alike;
    instances = A.joined.instances ∙ (same_parts (λ (p : Part). map (instance_in p) p.image.instances) same_instances_in xs ys h ∙ sym B.joined.instances);
    links = links_alike;
    offered = A.joined.offered ∙ (same_parts (λ (p : Part). map (offer_in p) p.image.offered) same_offers_in xs ys h ∙ sym B.joined.offered);
    control = A.joined.control ∙ (same_parts (λ (p : Part). map (started_in p) p.image.control) same_started_in xs ys h ∙ sym B.joined.control);
  }

pub loads_are_alike : LoadsAreAlike
loads_are_alike xs ys h = record { faults = same_faults xs ys h; images = loaded_alike xs ys h }

-- ---- what is still wanted

-- what holds of each item of the built-in interface that an image wants
abbrev pub AllOfHost : (Entry → Type 0) → List Image → Type 0
AllOfHost Q images = All (λ (i : Image). All Q (wanted_of_host i)) images

module _ (Q : Entry → Type 0) where
  noted_all : (already es : List Entry) → All Q already → All Q es → All Q (noted already es)
  unfolding noted
  noted_all already [] h k = h
  noted_all already (e ∷ es) h k =
      by (has_entry already e) (noted_all already es h (All-tail Q e es k))
      (noted_all (already ++ e ∷ []) es (All-append Q already (e ∷ []) h (All-cons Q e [] (All-head Q e es k) (All-nil Q))) (All-tail Q e es k))
    where
      by : (b : Bool) → All Q (noted already es) → All Q (noted (already ++ e ∷ []) es) → All Q (if b then noted already es else noted (already ++ e ∷ []) es)
      by true old new = old
      by false old new = new

  host_all : (images : List Image) → AllOfHost Q images → All Q (wanted_built_in images)
  host_all [] h = All-nil Q
  host_all (i ∷ is) h =
      let host : Entry → Bool = λ e. is_built_in e.face in
      let of_one : Image → Type 0 = λ (x : Image). All Q (wanted_of_host x) in
      subst (All Q) (sym (filter-append host i.wanted (flat_map (λ (x : Image). x.wanted) is)))
      (All-append Q (wanted_of_host i) (wanted_built_in is) (All-head of_one i is h) (host_all is (All-tail of_one i is h)))

  -- so it holds of each item that the loaded image wants
  pub wanted_all : (images : List Image) (image : Image) → Loaded images image → AllOfHost Q images → All Q image.wanted
  unfolding still_wanted
  wanted_all images image L h = subst (All Q) (sym L.joined.wanted) (noted_all [] (wanted_built_in images) (All-nil Q) (host_all images h))

each_by_one : (images : List Image) → AllOfHost (IsWantedByOne images) images
each_by_one images = All-weaker (λ i. Contains images i) _ by images (All-contains_itself images)
  where
    by : (i : Image) → Contains images i → All (IsWantedByOne images) (wanted_of_host i)
    by i c =
        All-weaker (λ e. Contains (wanted_of_host i) e) (IsWantedByOne images) (λ e d. record { image = i; is_one = c; wants = d })
        (wanted_of_host i) (All-contains_itself (wanted_of_host i))

pub wanted_by_one : WantedByOne
wanted_by_one images image L = wanted_all (IsWantedByOne images) images image L (each_by_one images)
