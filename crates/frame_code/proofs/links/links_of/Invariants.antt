use Rattle.std.proofs.Common.{◌≡◌, map, take}
use Rattle.mesa_types.specs.Links.{links_of}
use Rattle.code_rules.specs.Modules.{link_code}
use Rattle.frame_code.proofs.links.links_of.Given as goal

abbrev pub invariant-loop-import : goal.invariant-loop-import
invariant-loop-import l = l.links ≡ map link_code (links_of (take l.import-index l.imports))
