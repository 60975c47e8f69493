use Rattle.std.proofs.Common.{◌≡◌, ◌++◌, map, take}
use Rattle.image_loader.specs.Standing.{offer_by}
use Rattle.image_loader.proofs.shifting.put_offers.Given as goal

abbrev pub invariant-loop-offer : goal.invariant-loop-offer
invariant-loop-offer l = l.all ≡ l.initial.all ++ map (offer_by l.standing) (take l.offer-index l.offers)
