use Rattle.std.proofs.Common.{◌≡◌, ◌++◌, map, take}
use Rattle.image_loader.specs.Standing.{link_by}
use Rattle.image_loader.proofs.shifting.put_tables.Given as goal

abbrev pub invariant-loop-table : goal.invariant-loop-table
invariant-loop-table l = l.all ≡ l.initial.all ++ map (map (link_by l.standing l.given)) (take l.table-index l.tables)
