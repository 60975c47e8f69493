-- How many bytes an image takes.
use Rattle.std.proofs.Common.{◌≡◌, ℕ, ◌+◌, List, [], length, map, refl, arith}
use Rattle.std.specs.Prelude.{nat_le, Option, slice_get}
use Rattle.mesa_base.specs.declared.limits.TheConstants.{INSTANCES}
use Rattle.interface_records.specs.declared.wanted.Wanted.{Wanted as Entry}
use Rattle.file_forms.specs.Forms.{number, list, at_least, spell_each}
use Rattle.file_forms.specs.Names.{name}
use Rattle.file_forms.proofs.Numbers.{length-number}
use Rattle.face_rules.specs.FaceForms.{item}
use Rattle.object_files.specs.declared.image.Image.{Image}
use Rattle.object_files.specs.declared.image.Instance.{Instance}
use Rattle.object_files.specs.declared.image.Link.{Link}
use Rattle.object_files.specs.declared.image.Link.TheVariants.{Wanted, To}
use Rattle.object_files.specs.declared.image.Offer.{Offer}
use Rattle.object_rules.specs.declared.limits.TheConstants.{IMAGE_MODULES}
use Rattle.object_rules.specs.ImageForms.{parts_of_image, entry, path, instance_form, needed_by, module_at, wanted_link, bound_link, link, link_table, link_tables, offer, image_form}
use Rattle.object_rules.specs.ModuleForms.{module_form}
use Rattle.object_rules.specs.Numbers.{number_where, is_below}
use Rattle.object_rules.specs.Parts.{ModulePart, parts_of}
use Rattle.file_sizes.specs.Laws.{ImagesAreSized}
use Rattle.file_sizes.specs.Sizes.{total, item_size, module_size, entry_size, name_size, instance_size, link_size, table_size, offer_size, image_size}
use Rattle.file_sizes.proofs.Faces.{name_sized}
use Rattle.file_sizes.proofs.Lists.{each_sized, list_sized, list_view_sized, total_of, two, three, six}
use Rattle.file_sizes.proofs.Objects.{module_sized}

entry_sized : (e : Entry) → length ((entry 2).spell e) ≡ entry_size e
unfolding entry item_size
entry_sized e =
    let whole : length ((entry 2).spell e) ≡ length (name.spell e.face) + (length ((number 6).spell e.stamp) + length ((item 2).spell e.item)) =
    three (name.spell e.face) ((number 6).spell e.stamp) ((item 2).spell e.item) in
    omega (arith, whole, name_sized e.face, length-number 6 e.stamp)

path_sized : (p : List (List ℕ)) → length (path.spell p) ≡ 1 + total name_size p
unfolding path
path_sized p = omega (
  arith,
  two ((number 1).spell (length p)) (spell_each (λ _. name) [] p),
  length-number 1 (length p),
  each_sized (λ _. name) name_size (λ _ x. name_sized x) [] p,
)

instance_sized : (modules : List ModulePart) (before : List Instance) (x : Instance) → length ((instance_form modules before).spell x) ≡ instance_size x
unfolding instance_form
instance_sized modules before x =
    omega (arith, two (path.spell x.path) ((number 4).spell x.«module»), path_sized x.path, length-number 4 x.«module»)

module _ (modules : List ModulePart) (wanted : List Entry) (instances : List Instance) where
  link_sized : (needed : Option Entry) (x : Link) → length ((link modules wanted instances needed).spell x) ≡ link_size x
  unfolding link wanted_link bound_link
  link_sized needed (Wanted n) = refl
  link_sized needed (To j n) = refl

  table_sized : (needed : List Entry) (all : List Link) → length ((link_table modules wanted instances needed).spell all) ≡ table_size all
  unfolding link_table
  table_sized needed all =
      each_sized (λ before. link modules wanted instances (slice_get needed (length before))) link_size (λ before x. link_sized (slice_get needed (length before)) x) [] all

  tables_sized : (all : List (List Link)) → length ((link_tables modules wanted instances).spell all) ≡ total table_size all
  unfolding link_tables
  tables_sized all =
      each_sized (λ before. link_table modules wanted instances (needed_by (module_at modules (slice_get instances (length before))))) table_size
      (λ before table. table_sized (needed_by (module_at modules (slice_get instances (length before)))) table) [] all

offer_sized : (modules : List ModulePart) (instances : List Instance) (x : Offer) → length ((offer modules instances).spell x) ≡ offer_size x
unfolding offer
offer_sized modules instances x =
    let whole : length ((offer modules instances).spell x) ≡ length (name.spell x.name) + (length ((number 4).spell x.instance) + length ((number 4).spell x.export)) =
    three (name.spell x.name) ((number 4).spell x.instance) ((number 4).spell x.export) in
    omega (arith, whole, name_sized x.name, length-number 4 x.instance, length-number 4 x.export)

module _ (i : Image) where
  abbrev parts : List ModulePart
  parts = map parts_of i.modules

  abbrev modules_spelled : List ℕ
  modules_spelled = (list (λ n. nat_le n IMAGE_MODULES) (λ _. module_form 2)).spell parts

  abbrev wanted_spelled : List ℕ
  wanted_spelled = (list (at_least 0) (λ _. entry 2)).spell i.wanted

  abbrev instances_spelled : List ℕ
  instances_spelled = (list (λ n. nat_le n INSTANCES) (instance_form parts)).spell i.instances

  abbrev links_spelled : List ℕ
  links_spelled = (link_tables parts i.wanted i.instances).spell i.links

  abbrev offered_spelled : List ℕ
  offered_spelled = (list (at_least 0) (λ _. offer parts i.instances)).spell i.offered

  abbrev control_spelled : List ℕ
  control_spelled = (list (at_least 0) (λ _. number_where 4 (is_below (length i.instances)))).spell i.control

  control_sized : length control_spelled ≡ 4 + total (λ n. 4) i.control
  control_sized = list_sized (λ _. number_where 4 (is_below (length i.instances))) (λ n. 4) (λ _ n. length-number 4 n) (at_least 0) i.control

  image_sized : length ((image_form 2).spell (parts_of_image i)) + 4 ≡ image_size i
  unfolding image_form image_size
  image_sized =
      let whole : length ((image_form 2).spell (parts_of_image i)) ≡ length modules_spelled + (length wanted_spelled + (length instances_spelled + (length links_spelled
      + (length offered_spelled + length control_spelled)))) =
      six modules_spelled wanted_spelled instances_spelled links_spelled offered_spelled control_spelled in
      omega (
        arith,
        whole,
        list_view_sized parts_of (λ _. module_form 2) module_size (λ _ o. module_sized o) (λ n. nat_le n IMAGE_MODULES) i.modules,
        list_sized (λ _. entry 2) entry_size (λ _ e. entry_sized e) (at_least 0) i.wanted,
        list_sized (instance_form parts) instance_size (instance_sized parts) (λ n. nat_le n INSTANCES) i.instances,
        tables_sized parts i.wanted i.instances i.links,
        list_sized (λ _. offer parts i.instances) offer_size (λ _ x. offer_sized parts i.instances x) (at_least 0) i.offered,
        control_sized,
        total_of 4 i.control,
      )

pub images_are_sized : ImagesAreSized
images_are_sized i = omega (arith, two ((number 1).spell 2) ((image_form 2).spell (parts_of_image i)), length-number 1 2, image_sized i)
