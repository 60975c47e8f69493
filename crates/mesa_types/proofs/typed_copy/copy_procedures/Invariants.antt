use Rattle.std.proofs.Common.{◌≡◌, take}
use Rattle.mesa_types.proofs.typed_copy.copy_procedures.Given as goal

abbrev pub invariant-loop-procedure : goal.invariant-loop-procedure
invariant-loop-procedure l = l.copy ≡ take l.procedure-index l.procedures
