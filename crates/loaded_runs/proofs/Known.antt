-- What is known of images that are loaded, each by the tree from which it is built.
use Rattle.std.proofs.Common.{◌≡◌, ◌+◌, false, List, [], ◌∷◌, ◌++◌, length, map, filter, flat_map, refl, sym, ap, ◌∙◌, length-append}
use Rattle.std.proofs.lemmas.List.{map-append}
use Rattle.object_files.specs.declared.image.Image.{Image}
use Rattle.object_files.specs.declared.image.Offer.{Offer}
use Rattle.config_rules.specs.declared.tree.Tree.{Tree}
use Rattle.config_rules.proofs.Members.{Mem, mapped_length}
use Rattle.bound_images.specs.link_tables.specs.Linked.{image_of, instance_of, links_of}
use Rattle.bound_images.specs.Built.{Built}
use Rattle.bound_images.specs.Programs.{program_of}
use Rattle.bound_images.proofs.Modules.{World}
use Rattle.loader_rules.specs.LoadFaults.{is_odd}
use Rattle.loader_rules.specs.Loaded.{Loaded}
use Rattle.loader_rules.specs.Parts as loader
use Rattle.loader_rules.specs.Parts.{Part, part, parts_behind, number}
use Rattle.loader_rules.specs.declared.fault.LoadFault.TheVariants.{OddRecord}
use Rattle.loader_rules.proofs.Faultless.{HasNone, has_none}
use Rattle.loader_rules.proofs.Parting.{IsPart}
use Rattle.loaded_runs.specs.Outermost.{HasOutermost, PassesByName}
use Rattle.loaded_runs.specs.Sources.{NoneLater}
use Rattle.loaded_runs.specs.Together.{Source, Place, place, places_behind, instances_of, modules_of, together}
use Rattle.loader_rules.proofs.Lists.{get_mem}
use Rattle.loaded_runs.proofs.Lists.{filter_empty}
use Rattle.loaded_runs.proofs.Outlets.{IsTree}
use Rattle.loaded_runs.proofs.Places.{IsPlace, place_mem}
use Rattle.source_meaning.specs.Program.{Program}

-- the image that is linked from its tree
abbrev pub linked_of : Source → Image
linked_of s = image_of s.tree s.objects

abbrev pub linked_images : List Source → List Image
linked_images sources = map linked_of sources

pub record Loading : Type 0 where
  pub sources : List Source
  pub image : Image
  pub built : (s : Source) → Mem s sources → Built s.tree s.modules s.objects (linked_of s)
  pub outermost : (s : Source) → Mem s sources → HasOutermost s.tree
  pub passes : (s : Source) → Mem s sources → PassesByName s.tree
  pub none_later : NoneLater (linked_images sources)
  pub loaded : Loaded (linked_images sources) image

abbrev pub joined : Loading → Tree
joined L = together L.sources

abbrev pub program : Loading → Program
program L = program_of (joined L) (modules_of L.sources)

-- ---- the parts of the images are the places of the trees

abbrev pub part_of : Place → Part
part_of p = part (linked_images p.before) (linked_of p.source)

pub parts_are : (before sources : List Source) → parts_behind (linked_images before) (linked_images sources) ≡ map part_of (places_behind before sources)
unfolding parts_behind places_behind
parts_are before [] = refl
parts_are before (s ∷ ss) =
    ap (λ ps. part_of (place before s) ∷ ps)
    (ap (λ is. parts_behind is (linked_images ss)) (sym (map-append linked_of before (s ∷ []))) ∙ parts_are (before ++ s ∷ []) ss)

pub is_part : (sources : List Source) (p : Place) → IsPlace sources p → IsPart (linked_images sources) (part_of p)
is_part sources p I = record { behind = linked_images I.behind; are = ap linked_images I.are ∙ map-append linked_of p.before (p.source ∷ I.behind) }

-- what stands before an image, by the tree
pub instances_alike : (ss : List Source) → length (loader.instances_of (linked_images ss)) ≡ length (instances_of ss)
unfolding image_of
instances_alike [] = refl
instances_alike (s ∷ ss) =
    let first = mapped_length (instance_of s.tree.instances) s.tree.instances in
    let rest = instances_alike ss in
    length-append (map (instance_of s.tree.instances) s.tree.instances) (loader.instances_of (linked_images ss))
    ∙ ((λ j. first j + rest j) ∙ sym (length-append s.tree.instances (instances_of ss)))

pub links_alike : (ss : List Source) → length (flat_map (λ (i : Image). i.links) (linked_images ss)) ≡ length (instances_of ss)
unfolding image_of
links_alike [] = refl
links_alike (s ∷ ss) =
    let first = mapped_length (links_of s.tree) s.tree.instances in
    let rest = links_alike ss in
    length-append (map (links_of s.tree) s.tree.instances) (flat_map (λ (i : Image). i.links) (linked_images ss))
    ∙ ((λ j. first j + rest j) ∙ sym (length-append s.tree.instances (instances_of ss)))

-- ---- of each tree

module _ (L : Loading) where
  pub tree_is : (s : Source) → Mem s L.sources → IsTree s.tree
  tree_is s m = record {
    inward = (L.built s m).tree.inward;
    inner = (L.outermost s m).inner;
    scoped = λ x k. let r = get_mem s.tree.instances x k in (L.outermost s m).scoped r.0 x r.1;
  }

  abbrev pub world_at : (s : Source) → Mem s L.sources → World
  world_at s m = record { tree = s.tree; modules = s.modules; objects = s.objects; built = L.built s m }

  abbrev pub world : (p : Place) → IsPlace L.sources p → World
  world p I = world_at p.source (place_mem L.sources p I)

  pub none_at : (p : Place) → IsPlace L.sources p → HasNone (part_of p)
  none_at p I = has_none (linked_images L.sources) L.loaded.no_fault (part_of p) (is_part L.sources p I)

  pub none_odd : (p : Place) → IsPlace L.sources p → (x : Offer) → Mem x (linked_of p.source).offered → is_odd (linked_of p.source) x ≡ false
  none_odd p I = filter_empty (is_odd (linked_of p.source)) (linked_of p.source).offered (unmapped (filter (is_odd (linked_of p.source)) (linked_of p.source).offered) (none_at p I).none_odd)
    where
      unmapped : (xs : List Offer) → map (λ (o : Offer). OddRecord (number (part_of p)) o.name) xs ≡ [] → xs ≡ []
      unmapped [] e = refl
      unmapped (x ∷ xs) e = absurd cc
