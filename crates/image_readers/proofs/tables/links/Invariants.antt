use Rattle.std.proofs.Common.{map, drop}
use Rattle.std.specs.Prelude.{flat_map}
use Rattle.image_readers.specs.Tables.{IsLinkedOn}
use Rattle.object_readers.specs.Rows.{module_part}
use Rattle.object_rules.specs.ImageForms.{needed_by_import}
use Rattle.image_readers.proofs.tables.links.Given as goal

abbrev pub invariant-imports : goal.invariant-imports
invariant-imports l =
    IsLinkedOn (map module_part l.head.modules) l.head.wanted l.instances (flat_map needed_by_import l.imports) l.all (flat_map needed_by_import (drop l.import-index l.imports)) l.input.rest.now l.fn.input.rest.now
