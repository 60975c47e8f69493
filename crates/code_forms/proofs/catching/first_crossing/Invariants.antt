use Rattle.std.proofs.Common.{◌-◌, ◌<◌, ◌≤◌, length}
use Rattle.code_forms.specs.Nesting.{NestUpTo, Crosses}
use Rattle.code_forms.proofs.catching.first_crossing.Given as goal

abbrev pub invariant-loop-back : goal.invariant-loop-back
invariant-loop-back l = (l.limit ≤ length l.phrases) × NestUpTo l.phrases (length l.phrases - l.back) l.limit × (l.limit < length l.phrases → Crosses l.phrases l.limit)
