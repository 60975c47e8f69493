-- Bytes that are no interface's file.
use Rattle.std.proofs.Common.{◌≡◌, ◌≢◌, ℕ, List, ap, ◌∙◌}
use Rattle.mesa_base.specs.declared.file_fault.FileFault.{FileFault}
use Rattle.mesa_base.specs.declared.file_fault.FileFault.TheVariants as forms
use Rattle.face_rules.specs.InterfaceForms.{IsNoInterfaceFile}
use Rattle.listed_files.specs.Listings.{LacksInterface}
use Rattle.object_rules.specs.ObjectFiles.{file_fault}
use Rattle.object_rules.specs.declared.object_fault.ObjectFault.{ObjectFault}
use Rattle.object_rules.specs.declared.object_fault.ObjectFault.TheVariants as files

pub lacks_interface : (bytes : List ℕ) (fault : FileFault) (told : ObjectFault) → (fault ≢ forms.Memory → IsNoInterfaceFile bytes fault)
    → told ≡ file_fault fault → told ≢ files.Memory → LacksInterface bytes told
lacks_interface bytes fault told is same other =
    record { cause = fault; first = is (λ no. other (same ∙ ap file_fault no)); is = same }
