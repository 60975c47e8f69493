-- The form of images fits a linked image.
use Rattle.std.proofs.Common.{◌≡◌, ◌<◌, List, [], length, All, refl, arith}
use Rattle.std.proofs.lemmas.Bool.{le-leb, lt-ltb}
use Rattle.std.proofs.lemmas.List.{length-map}
use Rattle.mesa_base.specs.declared.limits.TheConstants.{INSTANCES}
use Rattle.config_rules.proofs.Members.{Mem, mem_get}
use Rattle.object_files.specs.declared.object.Object.{Object}
use Rattle.spelled_trees.specs.link_tables.specs.Linked.{kept, instance_of, offers, image_of}
use Rattle.bound_images.proofs.Elements.{all_by, all_mem}
use Rattle.bound_images.proofs.Kept.{kept_mem}
use Rattle.object_rules.specs.declared.limits.TheConstants.{IMAGE_MODULES}
use Rattle.object_rules.specs.ImageForms.{entry, offer, parts_of_image, image_form}
use Rattle.object_rules.specs.ModuleForms.{module_form}
use Rattle.object_rules.specs.Numbers.{number_where, is_below}
use Rattle.object_rules.specs.Parts.{parts_of}
use Rattle.object_rules.proofs.AllFit.{all_mapped}
use Rattle.linked_files.specs.Laws.{LinkedImagesFit}
use Rattle.linked_files.proofs.Entries.{entry_fits}
use Rattle.linked_files.proofs.Known.{World}
use Rattle.linked_files.proofs.Links.{each_of, modules, instances, wanted, few_instances, tables_fit}
use Rattle.linked_files.proofs.Offers.{few_modules, instances_fit, offer_has_form}

-- what is so of each member is so of all
all_of : {A : Type 0} (P : A → Type 0) (xs : List A) → ((x : A) → Mem x xs → P x) → All P xs
all_of P xs h = all_by P xs (λ k x e. h x (mem_get xs k x e))

kept_fit : (W : World) → All (λ (o : Object). (module_form 2).fits (parts_of o)) (kept W.tree.instances 0 W.objects)
kept_fit W =
    all_of (λ (o : Object). (module_form 2).fits (parts_of o)) (kept W.tree.instances 0 W.objects) (λ o m.
    all_mem (λ (x : Object). (module_form 2).fits (parts_of x)) W.objects W.can.fit o (kept_mem W.tree.instances 0 W.objects o m))

image_fits : (W : World) → (image_form 2).fits (parts_of_image (image_of W.tree W.objects))
unfolding image_form image_of
image_fits W =
    let few = few_modules W in
    let some = few_instances W in
    let many : length (instances W) ≡ length W.tree.instances = length-map W.tree.instances (instance_of W.tree.instances) in
    let M = (module_form 2).fits in (
      (
        (omega (arith, few), le-leb (length (modules W)) IMAGE_MODULES (omega (arith, few))),
        (refl, each_of (module_form 2) M (λ m f. f) [] (modules W) (all_mapped M parts_of (kept W.tree.instances 0 W.objects) (kept_fit W))),
      ),
      (
        (
          (W.can.spelled.wanted, le-leb 0 (length (wanted W)) (omega arith)),
          (refl, each_of (entry 2) (entry 2).fits (λ e f. f) [] (wanted W) (all_of (entry 2).fits (wanted W) (entry_fits W))),
        ),
        (
          (
            (omega (arith, some, many), le-leb (length (instances W)) INSTANCES (omega (arith, some, many))),
            (refl, instances_fit W),
          ),
          (
            tables_fit W,
            (
              (
                (W.can.spelled.offered, le-leb 0 (length (offers W.tree)) (omega arith)),
                (
                  refl,
                  each_of (offer (modules W) (instances W)) (offer (modules W) (instances W)).fits (λ o f. f) [] (offers W.tree)
                      (all_of (offer (modules W) (instances W)).fits (offers W.tree) (offer_has_form W)),
                ),
              ),
              (
                (W.can.spelled.started, le-leb 0 (length W.tree.control) (omega arith)),
                (
                  refl,
                  each_of (number_where 4 (is_below (length (instances W)))) (λ j. j < length W.tree.instances)
                      (λ j less. (omega (arith, less, some), lt-ltb j (length (instances W)) (omega (arith, less, many)))) [] W.tree.control W.can.tree.control,
                ),
              ),
            ),
          ),
        ),
      ),
    )

pub linked_images_fit : LinkedImagesFit
linked_images_fit t objects can = image_fits (record { tree = t; objects = objects; can = can })
