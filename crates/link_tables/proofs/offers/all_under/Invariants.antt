use Rattle.std.proofs.Common.{◌≡◌, take}
use Rattle.link_tables.specs.Gathered.{under, offers_by}
use Rattle.link_tables.proofs.offers.all_under.Given as goal

abbrev pub invariant-loop-pair : goal.invariant-loop-pair
invariant-loop-pair l = l.offers ≡ offers_by (under l.index) (take l.pair-index l.pairs)
