use Rattle.std.proofs.Common.{◌≡◌, ◌++◌, map, take}
use Rattle.mesa_types.specs.Links.{items_used}
use Rattle.object_rules.specs.Parts.{link_code}
use Rattle.object_readers.proofs.link_rows.put_used.Given as goal

abbrev pub invariant-loop-number : goal.invariant-loop-number
invariant-loop-number l = l.links ≡ l.initial.links ++ map link_code (items_used l.import.face.items (take l.number-index l.used))
