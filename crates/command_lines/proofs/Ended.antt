-- A line that is not there.
use Rattle.std.proofs.Common.{ℕ, List, [], Option, Some, None, inl, sym, ap, append-nil}
use Rattle.line_pieces.specs.Outputs.{stream, Receives}

pub nothing_told : (holds : Option (List ℕ)) (faults : ℕ) → Receives [] (stream holds faults) (stream holds faults)
nothing_told None faults = inl tt
nothing_told (Some bytes) faults = inl (ap Some (sym (append-nil bytes)))
