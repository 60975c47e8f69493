use Rattle.std.proofs.Common.{ℕ, List, ◌++◌, map, drop}
use Rattle.image_readers.specs.Tables.{IsLinkedOn}
use Rattle.interface_records.specs.declared.wanted.Wanted.{Wanted as Entry}
use Rattle.mesa_types.specs.Links.{items_used}
use Rattle.object_readers.specs.Rows.{module_part}
use Rattle.object_rules.specs.ImageForms.{needed_of, needed_by_import}
use Rattle.image_readers.proofs.tables.put_links.Given as goal

abbrev pub invariant-numbers : goal.invariant-numbers
invariant-numbers l =
    (needed more : List Entry) (start : List ℕ)
    → IsLinkedOn (map module_part l.head.modules) l.head.wanted l.instances needed l.fn.all (needed_by_import l.import ++ more) l.fn.input.rest.now start
    → IsLinkedOn (map module_part l.head.modules) l.head.wanted l.instances needed l.all (map (needed_of l.import.face) (items_used l.import.face.items (drop l.number-index l.used)) ++ more) l.input.rest.now start
