use Rattle.std.proofs.Common.{◌≡◌, ◌++◌, flat_map, take}
use Rattle.listing_rules.specs.Images.{control_line}
use Rattle.listing_writers.proofs.images.put_starts.Given as goal

abbrev pub invariant-control : goal.invariant-control
invariant-control l = l.out ≡ l.fn.out ++ flat_map (control_line l.instances) (take l.number-index l.control)
