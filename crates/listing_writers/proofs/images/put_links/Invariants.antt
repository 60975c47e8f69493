use Rattle.std.proofs.Common.{◌≡◌, ◌++◌, flat_map, take}
use Rattle.listing_rules.specs.Images.{link_line}
use Rattle.listing_writers.proofs.images.put_links.Given as goal

abbrev pub invariant-links : goal.invariant-links
invariant-links l = l.out ≡ l.fn.out ++ flat_map (link_line l.instances) (take l.link-index l.links)
