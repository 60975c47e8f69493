use Rattle.std.proofs.Common.{◌≡◌, ◌++◌, flat_map, take}
use Rattle.listing_rules.specs.Images.{offer_line}
use Rattle.listing_writers.proofs.images.put_offers.Given as goal

abbrev pub invariant-offers : goal.invariant-offers
invariant-offers l = l.out ≡ l.fn.out ++ flat_map (offer_line l.instances) (take l.offer-index l.offers)
