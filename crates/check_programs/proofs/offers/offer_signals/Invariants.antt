use Rattle.std.proofs.Common.{◌≡◌, map}
use Rattle.check_heads.specs.check_faces.specs.Offers.{offer}
use Rattle.check_programs.proofs.SignalLoops.{to_offer}
use Rattle.check_programs.proofs.offers.offer_signals.Given as goal

abbrev pub invariant-loop-i : goal.invariant-loop-i
invariant-loop-i l = to_offer (map offer l.fn.offers.items) l.names l.items 0 l.first ≡ to_offer (map offer l.offers.items) l.names l.items l.i l.number
