use Rattle.std.proofs.Common.{◌≡◌, drop}
use Rattle.check_scopes.specs.Scopes.{over}
use Rattle.check_scopes.specs.Shows.{means}
use Rattle.check_rules.specs.Directory.{place_in}
use Rattle.check_faces.specs.Offers.{names}
use Rattle.check_faces.proofs.exports.offer_places.Given as goal

abbrev pub invariant-loop-offer : goal.invariant-loop-offer
invariant-loop-offer l = place_in 0 (names l.offers) ≡ over (means l.index) (place_in l.place (names (drop l.offer-index l.offers)))
