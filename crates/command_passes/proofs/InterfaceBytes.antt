-- The bytes of an interface file that were read up to a byte past the limit.
use Rattle.std.proofs.Common.{ℕ, List, codes, subst}
use Rattle.face_rules.specs.InterfaceForms.{interface, IsInterfaceFile}
use Rattle.command_rules.specs.Modules.{Decodes, is_file, is_none}
use Rattle.command_rules.proofs.Passing.{Moves}
use Rattle.command_passes.proofs.FileBytes.{all_read, fault_whole}
use Rattle.command_passes.proofs.Files.{NeverAbsent}

pub decodes_moves : (file : List ℕ) → Moves 536870912 (Decodes file)
decodes_moves file part whole _ e (is_file version i h) =
    is_file version i (subst (λ bytes. IsInterfaceFile version i bytes) (all_read part whole e h.few) h)
decodes_moves file part whole _ e (is_none why h) = is_none why (fault_whole (codes "MIF") interface part whole why e h)

pub decodes_absent : (file bytes : List ℕ) → NeverAbsent (Decodes file bytes)
decodes_absent file bytes other x = elim x [ ]
