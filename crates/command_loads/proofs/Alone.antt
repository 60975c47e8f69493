-- One image alone.
use Rattle.std.proofs.Common.{◌≡◌, ℕ, ⊎_elim, List, [], ◌∷◌, All, sym, ap, subst}
use Rattle.interface_records.specs.Hosts.{IsHostItem}
use Rattle.machine_ready.specs.Hosts.{IsFault}
use Rattle.machine_ready.specs.Order.{ImageInOrder}
use Rattle.machine_ready.specs.declared.fault.ReadyFault.{ReadyFault}
use Rattle.machine_ready.specs.declared.fault.ReadyFault.TheVariants as ready
use Rattle.object_files.specs.declared.image.Image.{Image}
use Rattle.object_rules.specs.ImageForms.{parts_of_image}
use Rattle.object_rules.specs.Parts.{IsWhole}
use Rattle.read_files.specs.Laws.{ImagesOfFilesAreInOrder}
use Rattle.command_passes.specs.command_rules.specs.Case.{Case}
use Rattle.command_passes.specs.command_rules.specs.Forms.{image_file}
use Rattle.command_passes.specs.command_rules.specs.Loading.{Joins, IsRunOf}
use Rattle.command_passes.specs.Filed.{IsFiledImage}
use Rattle.command_loads.specs.Loaded.{IsReadied, IsNotReadied, unresolved, no_memory}
use Rattle.command_loads.specs.Stops.{IsOrMemory, ready_case}
use Rattle.command_loads.proofs.Wanting.{host_has_one, one_lacks}

pub filed_in_order : ImagesOfFilesAreInOrder → (image : Image) → IsFiledImage image → ImageInOrder image
filed_in_order law image h = law h.version image h.bytes h.is_file

module _ (base : List ℕ) (image : Image) where
  pub readied_alone : (machine : Image) → IsFiledImage image → machine ≡ image → All IsHostItem image.wanted
      → IsReadied (base ∷ []) (parts_of_image image ∷ []) machine
  readied_alone machine filed same hosts = record {
    joins = Joins.alone (parts_of_image image);
    its = IsRunOf.alone (parts_of_image image) machine
        (record { its = ap parts_of_image same; whole = subst (λ i. All IsWhole i.modules) (sym same) filed.is_file.whole });
    hosts = host_has_one (parts_of_image image) hosts;
  }

  fault_alone : (fault : ReadyFault) → IsFault image.wanted fault → IsNotReadied (base ∷ []) (parts_of_image image ∷ []) (ready_case (image_file base) fault)
  fault_alone (ready.Unresolved item) h = unresolved base item (Joins.alone (parts_of_image image)) (one_lacks base (parts_of_image image) item h)
  fault_alone ready.Memory h = no_memory

  pub not_readied_alone : (fault : ReadyFault) (case : Case) → IsFault image.wanted fault → IsOrMemory (ready_case (image_file base) fault) case
      → IsNotReadied (base ∷ []) (parts_of_image image ∷ []) case
  not_readied_alone fault case h is =
      ⊎_elim (λ e. subst (IsNotReadied (base ∷ []) (parts_of_image image ∷ [])) (sym e) (fault_alone fault h))
      (λ e. subst (IsNotReadied (base ∷ []) (parts_of_image image ∷ [])) (sym e) no_memory) is
