use Rattle.std.proofs.Common.{take}
use Rattle.std.specs.List.{AllZip}
use Rattle.machine_ready.specs.Openings.{IsOpening, arms_in}
use Rattle.machine_ready.proofs.openings.openings_of.Given as goal

abbrev pub invariant-loop-phrase : goal.invariant-loop-phrase
invariant-loop-phrase l = AllZip (IsOpening l.code) (arms_in (take l.phrase-index l.phrases)) l.openings
