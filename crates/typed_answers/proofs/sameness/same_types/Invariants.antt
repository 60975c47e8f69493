use Rattle.std.proofs.Common.{◌≡◌, take, length}
use Rattle.mesa_types.specs.Types.{types_in}
use Rattle.typed_answers.proofs.sameness.same_types.Given as goal

abbrev pub invariant-loop-i : goal.invariant-loop-i
invariant-loop-i l = (length l.a ≡ length l.b) × (types_in (take l.i l.a) ≡ types_in (take l.i l.b))
