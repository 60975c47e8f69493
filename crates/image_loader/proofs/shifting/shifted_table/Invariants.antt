use Rattle.std.proofs.Common.{◌≡◌, map, take}
use Rattle.image_loader.specs.Standing.{link_by}
use Rattle.image_loader.proofs.shifting.shifted_table.Given as goal

abbrev pub invariant-loop-link : goal.invariant-loop-link
invariant-loop-link l = l.made ≡ map (link_by l.standing l.given) (take l.link-index l.table)
