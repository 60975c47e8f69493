use Rattle.std.proofs.Common.{rules}
use Rattle.check_scopes.specs.Shows.{means}
use Rattle.check_faces.proofs.ExportLaws as laws
use Rattle.check_faces.proofs.exports.offer_places.Goals as goal

pub loop-offer-preserved : goal.loop-offer-preserved
loop-offer-preserved c = rw c.loop-offer.invariant (rw (laws.place_at (means c.loop-offer.index) c.loop-offer.place c.args.offers.now c.loop-offer.offer-index c.offer-item.result (search rules) (search rules)) (search rules))

pub returns : goal.returns
returns c = rw c.loop-offer.invariant (rw (laws.place_out (means c.loop-offer.index) c.loop-offer.place c.args.offers.now c.loop-offer.offer-index (search rules)) (search rules))
