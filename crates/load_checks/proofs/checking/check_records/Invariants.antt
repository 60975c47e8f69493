-- None so far is odd.
use Rattle.std.proofs.Common.{◌≡◌, drop, filter}
use Rattle.loader_rules.specs.LoadFaults.{is_odd}
use Rattle.load_checks.proofs.checking.check_records.Given as goal

abbrev pub invariant-loop-offer : goal.invariant-loop-offer
invariant-loop-offer l = filter (is_odd l.turn.image.now) (drop l.offer-index l.offer-items) ≡ filter (is_odd l.turn.image.now) l.offer-items
