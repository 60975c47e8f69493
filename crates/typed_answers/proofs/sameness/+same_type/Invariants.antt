use Rattle.std.proofs.Common.{◌≡◌, take, length}
use Rattle.typed_answers.proofs.sameness.+same_type.Given as goal

abbrev pub invariant-same_fields-loop-i : goal.invariant-same_fields-loop-i
invariant-same_fields-loop-i l = (length l.a ≡ length l.b) × (take l.i l.a ≡ take l.i l.b)
