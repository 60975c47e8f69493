-- Those so far have no fault.
use Rattle.std.proofs.Common.{◌≡◌, [], take}
use Rattle.loader_rules.specs.LoadFaults.{load_faults}
use Rattle.load_checks.specs.Turns.{IsSeen}
use Rattle.load_checks.proofs.several.check_all.Given as goal

abbrev pub invariant-loop-at : goal.invariant-loop-at
invariant-loop-at l = record {
  none : load_faults (take l.at l.images) ≡ [];
  seen : IsSeen (take l.at l.images) l.seen;
}
