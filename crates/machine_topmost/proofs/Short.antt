-- A string literal of a module has at most 32,767 bytes.
use Rattle.std.proofs.Common.{◌≡◌, ℕ, ◌≤◌, List, length, Some, subst}
use Rattle.std.specs.Prelude.{slice_get}
use Rattle.std.proofs.Math.Logic.{∥∥₁_elim}
use Rattle.std.proofs.Math.Bridge.{le_prop}
use Rattle.std.proofs.lemmas.Option.{slice_get_within, get_or_from_slice_get}
use Rattle.code_forms.specs.declared.module_code.ModuleCode.{ModuleCode}

pub literal_is_short : (code : ModuleCode) (k : ℕ) (text : List ℕ) → slice_get code.strings k ≡ Some text → length text ≤ 32767
literal_is_short code k text there = ∥∥₁_elim code.ranges le_prop (λ r.
    subst (λ (t : List ℕ). length t ≤ 32767) (get_or_from_slice_get code.strings k text text there) (r.each_string k text (slice_get_within code.strings k text there)))
