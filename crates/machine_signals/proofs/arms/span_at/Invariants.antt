use Rattle.std.proofs.Common.{◌≡◌, drop}
use Rattle.std.specs.Prelude.{slice_get}
use Rattle.machine_ready.specs.Openings.{arms_in}
use Rattle.machine_signals.proofs.arms.span_at.Given as goal

abbrev pub invariant-loop-phrase : goal.invariant-loop-phrase
invariant-loop-phrase l = slice_get (arms_in (drop l.phrase-index l.phrases)) l.left ≡ slice_get (arms_in l.phrases) l.number
