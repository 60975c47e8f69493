use Rattle.std.proofs.Common.{◌≡◌, ◌++◌, map, take}
use Rattle.mesa_types.specs.Links.{items_used}
use Rattle.code_rules.specs.Modules.{link_code}
use Rattle.frame_code.proofs.links.put_used.Given as goal

abbrev pub invariant-loop-number : goal.invariant-loop-number
invariant-loop-number l = l.links ≡ l.initial.links ++ map link_code (items_used l.items (take l.number-index l.number-items))
