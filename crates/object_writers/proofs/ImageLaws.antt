-- The bytes of an image are what its form spells, and the parts of one that fits can be written.
use Rattle.std.proofs.Common.{◌≡◌, ℕ, ◌<◌, ◌^◌, List, [], ◌++◌, length, map, refl, ap, subst, ◌∙◌, append_assoc}
use Rattle.std.specs.Prelude.{All, nat_le, slice_get, Option}
use Rattle.std.proofs.lemmas.List.{length-map}
use Rattle.mesa_base.specs.declared.limits.TheConstants.{INSTANCES}
use Rattle.interface_records.specs.declared.wanted.Wanted.{Wanted as Entry}
use Rattle.file_forms.specs.Forms.{list, at_least}
use Rattle.file_forms.specs.Names.{name}
use Rattle.object_files.specs.declared.image.Image.{Image}
use Rattle.object_files.specs.declared.image.Instance.{Instance}
use Rattle.object_files.specs.declared.image.Link.{Link}
use Rattle.object_files.specs.declared.image.Link.TheVariants.{Wanted, To}
use Rattle.object_files.specs.declared.image.Offer.{Offer}
use Rattle.object_files.specs.declared.object.Object.{Object}
use Rattle.object_rules.specs.declared.limits.TheConstants.{IMAGE_MODULES}
use Rattle.object_rules.specs.ImageForms.{parts_of_image, entry, path, instance_form, needed_by, module_at, wanted_link, bound_link, link, link_table, link_tables, offer, image_form}
use Rattle.object_rules.specs.ModuleForms.{module_form}
use Rattle.object_rules.specs.Numbers.{number_where, is_below}
use Rattle.object_rules.specs.Parts.{ModulePart, parts_of}
use Rattle.object_rules.proofs.AllFit.{all_fit}
use Rattle.object_writers.specs.ObjectBytes.{module_bytes, ModuleFits, entry_bytes, EntryFits, instance_bytes, InstanceFits, link_bytes, table_bytes, offer_bytes, OfferFits, image_bytes, ImageFits}
use Rattle.object_writers.specs.Spelling.{spell_all, spell_list, u8_bytes, u32_bytes}
use Rattle.object_writers.proofs.Lists.{each_spelled, list_spelled, list_view_spelled, all_viewed, all_then}
use Rattle.object_writers.proofs.ModuleLaws.{module_spelled, module_fits}

entry_spelled : (e : Entry) → (entry 2).spell e ≡ entry_bytes e
unfolding entry
entry_spelled e = refl

entry_fits : (e : Entry) → (entry 2).fits e → EntryFits e
unfolding entry
entry_fits e fits = record { named = fits.0; item_fits = fits.1.1 }

-- ---- instances

path_spelled : (p : List (List ℕ)) → path.spell p ≡ u8_bytes (length p) ++ spell_all name.spell p
unfolding path
path_spelled p = ap (λ (t : List ℕ). u8_bytes (length p) ++ t) (each_spelled (λ _. name) name.spell (λ _ x. refl) [] p)

path_short : (p : List (List ℕ)) → path.fits p → length p < 2 ^ 8
unfolding path
path_short p fits = fits.0.0

path_names : (p : List (List ℕ)) → path.fits p → All name.fits p
unfolding path
path_names p fits = all_fit name.fits (λ _. name) (λ _ x h. h) [] p fits.1.1

instance_spelled : (modules : List ModulePart) (before : List Instance) (x : Instance) → (instance_form modules before).spell x ≡ instance_bytes x
unfolding instance_form
instance_spelled modules before x =
    ap (λ (t : List ℕ). t ++ u32_bytes x.«module») (path_spelled x.path) ∙ append_assoc (u8_bytes (length x.path)) (spell_all name.spell x.path) (u32_bytes x.«module»)

instance_fits : (modules : List ModulePart) (before : List Instance) (x : Instance) → (instance_form modules before).fits x → InstanceFits x
unfolding instance_form
instance_fits modules before x fits = record { short = path_short x.path fits.0.0; each = path_names x.path fits.0.0 }

-- ---- links

module _ (modules : List ModulePart) (wanted : List Entry) (instances : List Instance) where
  link_spelled : (needed : Option Entry) (x : Link) → (link modules wanted instances needed).spell x ≡ link_bytes x
  unfolding link wanted_link bound_link
  link_spelled needed (Wanted n) = refl
  link_spelled needed (To j n) = refl

  table_spelled : (needed : List Entry) (all : List Link) → (link_table modules wanted instances needed).spell all ≡ table_bytes all
  unfolding link_table
  table_spelled needed all = each_spelled (λ before. link modules wanted instances (slice_get needed (length before))) link_bytes (λ before x. link_spelled (slice_get needed (length before)) x) [] all

  tables_spelled : (all : List (List Link)) → (link_tables modules wanted instances).spell all ≡ spell_all table_bytes all
  unfolding link_tables
  tables_spelled all =
      each_spelled (λ before. link_table modules wanted instances (needed_by (module_at modules (slice_get instances (length before))))) table_bytes
      (λ before table. table_spelled (needed_by (module_at modules (slice_get instances (length before)))) table) [] all

-- ---- offers

offer_spelled : (modules : List ModulePart) (instances : List Instance) (x : Offer) → (offer modules instances).spell x ≡ offer_bytes x
unfolding offer
offer_spelled modules instances x = refl

offer_fits : (modules : List ModulePart) (instances : List Instance) (x : Offer) → (offer modules instances).fits x → OfferFits x
unfolding offer
offer_fits modules instances x fits = fits.0

-- ---- images

same_parts : (a b c d e f g h i j k l : List ℕ) → a ≡ b → c ≡ d → e ≡ f → g ≡ h → i ≡ j → k ≡ l → a ++ (c ++ (e ++ (g ++ (i ++ k)))) ≡ b ++ (d ++ (f ++ (h ++ (j ++ l))))
same_parts a b c d e f g h i j k l p q r s t u = rw (p, q, r, s, t, u) refl

PartFits : ModulePart → Type 0
PartFits m = (module_form 2).fits m

modules_fit : (all : List Object) → (list (λ n. nat_le n IMAGE_MODULES) (λ _. module_form 2)).fits (map parts_of all) → All ModuleFits all
unfolding PartFits
modules_fit all fits =
    all_then (λ (o : Object). PartFits (parts_of o)) ModuleFits all module_fits
    (all_viewed PartFits parts_of all (all_fit PartFits (λ _. module_form 2) (λ _ m h. h) [] (map parts_of all) fits.1.1))

module _ (i : Image) where
  abbrev parts : List ModulePart
  parts = map parts_of i.modules

  modules_spelled : (list (λ n. nat_le n IMAGE_MODULES) (λ _. module_form 2)).spell parts ≡ spell_list module_bytes i.modules
  modules_spelled = list_view_spelled parts_of (λ _. module_form 2) module_bytes (λ _ o. module_spelled o) (λ n. nat_le n IMAGE_MODULES) i.modules

  wanted_spelled : (list (at_least 0) (λ _. entry 2)).spell i.wanted ≡ spell_list entry_bytes i.wanted
  wanted_spelled = list_spelled (at_least 0) (λ _. entry 2) entry_bytes (λ _ e. entry_spelled e) i.wanted

  instances_spelled : (list (λ n. nat_le n INSTANCES) (instance_form parts)).spell i.instances ≡ spell_list instance_bytes i.instances
  instances_spelled = list_spelled (λ n. nat_le n INSTANCES) (instance_form parts) instance_bytes (instance_spelled parts) i.instances

  offered_spelled : (list (at_least 0) (λ _. offer parts i.instances)).spell i.offered ≡ spell_list offer_bytes i.offered
  offered_spelled = list_spelled (at_least 0) (λ _. offer parts i.instances) offer_bytes (λ _ x. offer_spelled parts i.instances x) i.offered

  control_spelled : (list (at_least 0) (λ _. number_where 4 (is_below (length i.instances)))).spell i.control ≡ spell_list u32_bytes i.control
  control_spelled = list_spelled (at_least 0) (λ _. number_where 4 (is_below (length i.instances))) u32_bytes (λ _ n. refl) i.control

  pub image_spelled : (image_form 2).spell (parts_of_image i) ≡ image_bytes i
  unfolding image_form
  image_spelled =
      same_parts _ _ _ _ _ _ _ _ _ _ _ _ modules_spelled wanted_spelled instances_spelled (tables_spelled parts i.wanted i.instances i.links) offered_spelled control_spelled

  pub image_fits : (image_form 2).fits (parts_of_image i) → ImageFits i
  unfolding image_form
  image_fits fits = record {
    few_modules = subst (λ n. n < 2 ^ 32) (length-map i.modules parts_of) fits.0.0.0;
    modules = modules_fit i.modules fits.0;
    few_wanted = fits.1.0.0.0;
    wanted = all_fit EntryFits (λ _. entry 2) (λ _ e. entry_fits e) [] i.wanted fits.1.0.1.1;
    few_instances = fits.1.1.0.0.0;
    instances = all_fit InstanceFits (instance_form parts) (instance_fits parts) [] i.instances fits.1.1.0.1.1;
    few_offered = fits.1.1.1.1.0.0.0;
    offered = all_fit OfferFits (λ _. offer parts i.instances) (λ _ x. offer_fits parts i.instances x) [] i.offered fits.1.1.1.1.0.1.1;
    few_control = fits.1.1.1.1.1.0.0;
  }
