use Rattle.std.proofs.Common.{◌≡◌, ◌-◌}
use Rattle.signaller.specs.Search.{around, beyond, first_of}
use Rattle.signaller.proofs.outward.outward_of.Given as goal

abbrev pub invariant-loop-back : goal.invariant-loop-back
invariant-loop-back l = first_of (around l.outward l.table (l.phrase - l.back) l.about) ≡ first_of (beyond l.outward l.table l.phrase)
