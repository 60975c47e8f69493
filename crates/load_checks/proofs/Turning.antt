-- One image more.
use Rattle.std.proofs.Common.{◌≡◌, ℕ, ◌+◌, ◌<◌, List, [], ◌∷◌, ◌++◌, length, map, flat_map, take, drop, get_or, Some, refl, sym, ap, subst, ◌∙◌, append-nil, length-append, arith}
use Rattle.std.proofs.lemmas.Grind.{flat_map-append}
use Rattle.std.proofs.lemmas.List.{take_more, take-append-drop, map-append, drop_more}
use Rattle.object_files.specs.declared.image.Image.{Image}
use Rattle.object_files.specs.declared.image.Link.{Link}
use Rattle.loader_rules.specs.declared.fault.LoadFault.{LoadFault}
use Rattle.loader_rules.specs.Exporters.{all_offered}
use Rattle.loader_rules.specs.LoadFaults.{faults_in, load_faults, first_of}
use Rattle.loader_rules.specs.Parts.{Part, parts, parts_behind}
use Rattle.loader_rules.proofs.Parting.{IsPart, flat_about, parts_append}
use Rattle.load_checks.specs.declared.turn.Seen.{Seen}
use Rattle.load_checks.specs.Givers.{first_two, givers}
use Rattle.load_checks.specs.Index.{Entries, found_under}
use Rattle.load_checks.specs.Turns.{HoldsGivers, IsSeen, after}
use Rattle.load_checks.proofs.Faulted.{first_front}

-- ---- no image

none_offered : all_offered [] ≡ []
unfolding all_offered parts_behind
none_offered = refl

pub holds_none : (entries : Entries) → entries ≡ [] → HoldsGivers [] entries
holds_none entries is k = ap (found_under k) is ∙ sym (ap (λ l. first_two (givers k l)) none_offered)

pub no_faults : load_faults [] ≡ []
unfolding load_faults parts_behind
no_faults = refl

pub no_parts : parts [] ≡ []
unfolding parts_behind
no_parts = refl

-- ---- how many elements there are

pub longer : {A : Type 0} (h : Image → List A) (p : Part) (n m : ℕ) → n ≡ length (flat_map h p.before) → m ≡ length (h p.image) → n + m ≡ length (flat_map h (after p))
longer h p n m is its =
    let whole : length (flat_map h (after p)) ≡ length (flat_map h p.before) + length (h p.image) =
    ap length (flat_map-append h p.before (p.image ∷ []) ∙ ap (λ l. flat_map h p.before ++ l) (append-nil (h p.image))) ∙ length-append (flat_map h p.before) (h p.image) in
    omega (arith, is, its, whole)

pub one_longer : (p : Part) (n : ℕ) → n ≡ length p.before → n + 1 ≡ length (after p)
one_longer p n is = let whole = length-append p.before (p.image ∷ []) in omega (arith, is, whole)

-- ---- parts

parts_after : (p : Part) → parts (after p) ≡ parts p.before ++ p ∷ []
unfolding parts_behind
parts_after p = parts_append [] p.before (p.image ∷ [])

none_more : (p : Part) → load_faults p.before ≡ [] → faults_in p ≡ [] → load_faults (after p) ≡ []
unfolding load_faults
none_more p a b =
    ap (flat_map faults_in) (parts_after p) ∙ flat_map-append faults_in (parts p.before) (p ∷ []) ∙ (λ j. a j ++ (b j ++ []))

links_more : (f : Part → List Link) (p : Part) (links new : List (List Link)) → links ≡ map f (parts p.before) → new ≡ links ++ f p ∷ [] → new ≡ map f (parts (after p))
links_more f p links new is made = made ∙ (ap (λ l. l ++ f p ∷ []) is ∙ sym (ap (map f) (parts_after p) ∙ map-append f (parts p.before) (p ∷ [])))

-- ---- of so many images

module _ (images : List Image) (at : ℕ) (p : Part) (d : Image) (are : p.before ≡ take at images) (less : at < length images) (is : p.image ≡ get_or images at d) where
  after_is : after p ≡ take (at + 1) images
  after_is = (λ j. are j ++ is j ∷ []) ∙ sym (take_more images at d less)

  pub none_then : load_faults (take at images) ≡ [] → faults_in p ≡ [] → load_faults (take (at + 1) images) ≡ []
  none_then a b = ap load_faults (sym after_is) ∙ none_more p (ap load_faults are ∙ a) b

  pub seen_then : (s : Seen) → IsSeen (after p) s → IsSeen (take (at + 1) images) s
  seen_then s h = subst (λ (l : List Image). IsSeen l s) after_is h

  pub links_then : (f : Part → List Link) (links new : List (List Link)) → links ≡ map f (parts (take at images)) → new ≡ links ++ f p ∷ [] → new ≡ map f (parts (take (at + 1) images))
  links_then f links new h made = links_more f p links new (h ∙ ap (λ l. map f (parts l)) (sym are)) made ∙ ap (λ l. map f (parts l)) after_is

  abbrev it_is : IsPart images p
  it_is = record {
    behind = drop (at + 1) images;
    are = sym (take-append-drop at images) ∙ (λ j. sym are j ++ (drop_more images at d less ∙ ap (λ y. y ∷ drop (at + 1) images) (sym is)) j);
  }

  pub first_then : (f : LoadFault) → load_faults (take at images) ≡ [] → first_of (faults_in p) ≡ Some f → first_of (load_faults images) ≡ Some f
  unfolding load_faults
  first_then f none first =
      ap first_of (flat_about faults_in images p it_is ∙ ap (λ l. l ++ (faults_in p ++ flat_map faults_in (parts_behind (after p) (drop (at + 1) images)))) (ap (λ l. flat_map faults_in (parts l)) are ∙ none))
      ∙ first_front (faults_in p) (flat_map faults_in (parts_behind (after p) (drop (at + 1) images))) f first
