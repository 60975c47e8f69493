-- Images come to one loaded image or to one fault, and the fault is the first of an image.
use Rattle.std.proofs.Common.{◌≡◌, ◌⊎◌, inl, inr, List, [], ◌∷◌, ◌++◌, map, flat_map, Some, refl, sym, ap, subst, ◌∙◌, append-nil, append_assoc}
use Rattle.std.proofs.lemmas.Option.{none-some, same_Some}
use Rattle.object_files.specs.declared.image.Image.{Image}
use Rattle.loader_rules.specs.declared.fault.LoadFault.{LoadFault}
use Rattle.loader_rules.specs.Laws.{LoadsComeOnce, HasFirst, FirstImageHasTheFault}
use Rattle.loader_rules.specs.LoadFaults.{faults_in, load_faults, first_of, HasLoadFault}
use Rattle.loader_rules.specs.Loaded.{instance_in, offer_in, started_in, link_in, IsJoined, Loaded}
use Rattle.loader_rules.specs.Parts.{Part, part, parts_behind, parts, modules_of}
use Rattle.loader_rules.specs.Wanted.{still_wanted}
use Rattle.loader_rules.proofs.Parting.{flat_parts}

abbrev pub the_image : List Image → Image
the_image images = record {
  modules = modules_of images;
  wanted = still_wanted images;
  instances = flat_map (λ (p : Part). map (instance_in p) p.image.instances) (parts images);
  links = flat_map (λ (p : Part). map (map (link_in p (still_wanted images))) p.image.links) (parts images);
  offered = flat_map (λ (p : Part). map (offer_in p) p.image.offered) (parts images);
  control = flat_map (λ (p : Part). map (started_in p) p.image.control) (parts images);
}

pub the_image_is_joined : (images : List Image) → IsJoined images (the_image images)
the_image_is_joined images = record { modules = refl; wanted = refl; instances = refl; links = refl; offered = refl; control = refl }

pub one_joined : (images : List Image) (a : Image) → IsJoined images a → a ≡ the_image images
one_joined images a h =
    let links = h.links ∙ ap (λ w. flat_map (λ (p : Part). map (map (link_in p w)) p.image.links) (parts images)) h.wanted in
    λ j. record { modules = h.modules j; wanted = h.wanted j; instances = h.instances j; links = links j; offered = h.offered j; control = h.control j }

some_or_none : {A : Type 0} (xs : List A) → (xs ≡ []) ⊎ ((x : A) × (first_of xs ≡ Some x))
some_or_none [] = inl refl
some_or_none (x ∷ xs) = inr (x, refl)

one_or_the_other : (images : List Image) → ((image : Image) × Loaded images image) ⊎ ((fault : LoadFault) × HasLoadFault images fault)
one_or_the_other images = by (some_or_none (load_faults images))
  where
    by : (load_faults images ≡ []) ⊎ ((fault : LoadFault) × HasLoadFault images fault) → ((image : Image) × Loaded images image) ⊎ ((fault : LoadFault) × HasLoadFault images fault)
    by (inl e) = inl (the_image images, record { no_fault = e; joined = the_image_is_joined images })
    by (inr h) = inr h

pub loads_come_once : LoadsComeOnce
loads_come_once = record {
  one_or_the_other = one_or_the_other;
  one_image = λ images a b h k. one_joined images a h.joined ∙ sym (one_joined images b k.joined);
  one_fault = λ images a b h k. same_Some a b (sym h ∙ k);
  not_both = λ images image fault h k. none-some fault (sym (ap first_of h.no_fault) ∙ k);
}

-- ---- the first image with a fault

more_before : (before : List Image) (i : Image) → load_faults before ≡ [] → faults_in (part before i) ≡ [] → load_faults (before ++ i ∷ []) ≡ []
unfolding load_faults parts_behind
more_before before i none here =
    flat_parts faults_in before (i ∷ [])
    ∙ (ap (λ l. l ++ (faults_in (part before i) ++ [])) none ∙ append-nil (faults_in (part before i)) ∙ here)

first_behind : (before images : List Image) (fault : LoadFault) → load_faults before ≡ [] → first_of (flat_map faults_in (parts_behind before images)) ≡ Some fault → HasFirst (before ++ images) fault
unfolding parts_behind
first_behind before [] fault none e = absurd (none-some fault e)
first_behind before (i ∷ is) fault none e = by (λ n f. first_behind (before ++ i ∷ []) is fault n f) (faults_in (part before i)) refl e
  where
    by : (load_faults (before ++ i ∷ []) ≡ [] → first_of (flat_map faults_in (parts_behind (before ++ i ∷ []) is)) ≡ Some fault → HasFirst ((before ++ i ∷ []) ++ is) fault)
        → (faults : List LoadFault) → faults_in (part before i) ≡ faults → first_of (faults ++ flat_map faults_in (parts_behind (before ++ i ∷ []) is)) ≡ Some fault → HasFirst (before ++ i ∷ is) fault
    by again [] here f = subst (λ l. HasFirst l fault) (append_assoc before (i ∷ []) is) (again (more_before before i none here) f)
    by again (x ∷ xs) here f = record { before = before; image = i; behind = is; are = refl; none_before = none; first = ap first_of here ∙ f }

pub first_image_has_the_fault : FirstImageHasTheFault
unfolding load_faults parts_behind
first_image_has_the_fault images fault h = first_behind [] images fault refl h
