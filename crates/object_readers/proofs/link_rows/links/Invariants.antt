use Rattle.std.proofs.Common.{◌≡◌, map, take}
use Rattle.mesa_types.specs.Links.{links_of}
use Rattle.object_rules.specs.Parts.{link_code}
use Rattle.object_readers.proofs.link_rows.links.Given as goal

abbrev pub invariant-loop-import : goal.invariant-loop-import
invariant-loop-import l = l.links ≡ map link_code (links_of (take l.import-index l.imports))
