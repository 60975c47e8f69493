-- The bytes of an image file that were read up to a byte past the limit.
use Rattle.std.proofs.Common.{◌≡◌, ℕ, List, codes, take, subst}
use Rattle.object_rules.specs.ImageFiles.{IsLinkedFile, IsImageFile, IsNoImageFile, no_file, bad_code}
use Rattle.object_rules.specs.ImageForms.{image_form}
use Rattle.object_rules.specs.declared.object_fault.ObjectFault.{ObjectFault}
use Rattle.command_rules.specs.Objects.{HoldsImage, is_image, is_none}
use Rattle.command_rules.proofs.Passing.{Moves}
use Rattle.command_passes.proofs.FileBytes.{all_read, fault_whole}
use Rattle.command_passes.proofs.Files.{NeverAbsent}

pub none_whole : (part whole : List ℕ) (why : ObjectFault) → part ≡ take 536870913 whole → IsNoImageFile part why → IsNoImageFile whole why
none_whole part whole _ e (no_file fault h) = no_file fault (fault_whole (codes "MIM") image_form part whole fault e h)
none_whole part whole _ e (bad_code version i number bad file h) =
    bad_code version i number bad (subst (λ bytes. IsLinkedFile version i bytes) (all_read part whole e file.few) file) h

pub holds_moves : (file : List ℕ) → Moves 536870912 (HoldsImage file)
holds_moves file part whole _ e (is_image version i h) =
    is_image version i (subst (λ bytes. IsImageFile version i bytes) (all_read part whole e h.file.few) h)
holds_moves file part whole _ e (is_none why h) = is_none why (none_whole part whole why e h)

pub holds_absent : (file bytes : List ℕ) → NeverAbsent (HoldsImage file bytes)
holds_absent file bytes other x = elim x [ ]
