-- The parts of procedures by number.
use Rattle.std.proofs.Common.{◌≡◌, ℕ, zero, suc, List, [], ◌∷◌, map, refl}
use Rattle.std.specs.Prelude.{option_map, slice_get}
use Rattle.code_forms.specs.declared.module_code.CodeProcedure.{CodeProcedure}
use Rattle.object_rules.specs.Parts.{procedure_part}

pub part_at : (ps : List CodeProcedure) (n : ℕ) → slice_get (map procedure_part ps) n ≡ option_map procedure_part (slice_get ps n)
part_at [] n = refl
part_at (p ∷ ps) zero = refl
part_at (p ∷ ps) (suc n) = part_at ps n
