use Rattle.std.proofs.Common.{◌+◌, List, map, drop, sym, subst}
use Rattle.std.specs.Prelude.{flat_map}
use Rattle.image_readers.proofs.Linking.{starts, next_import, imports_done, ended}
use Rattle.image_readers.specs.Tables.{IsLinkedOn}
use Rattle.interface_records.specs.declared.wanted.Wanted.{Wanted as Entry}
use Rattle.object_files.specs.declared.image.Link.{Link}
use Rattle.object_readers.specs.Rows.{module_part}
use Rattle.object_rules.specs.ImageForms.{needed_by_import, link_table}
use Rattle.image_readers.proofs.tables.links.Goals as goal

pub imports-init : goal.imports-init
imports-init c =
    subst (λ (ls : List Link). IsLinkedOn (map module_part c.args.head.now.modules) c.args.head.now.wanted c.args.instances.now (flat_map needed_by_import c.args.imports.now) ls (flat_map needed_by_import c.args.imports.now) c.args.input.now.rest.now c.args.input.now.rest.now)
    (sym c.new-all.ensures) (starts (map module_part c.args.head.now.modules) c.args.head.now.wanted c.args.instances.now (flat_map needed_by_import c.args.imports.now) c.args.input.now.rest.now)

pub imports-preserved : goal.imports-preserved
imports-preserved c =
    c.in-Ok.ensures (flat_map needed_by_import c.args.imports.now) (flat_map needed_by_import (drop (c.imports.import-index + 1) c.args.imports.now)) c.args.input.now.rest.now
    (next_import (map module_part c.args.head.now.modules) c.args.head.now.wanted c.args.instances.now (flat_map needed_by_import c.args.imports.now) c.args.imports.now c.imports.import-index c.import-item.result c.imports.all c.imports.input.rest.now
    c.args.input.now.rest.now c.imports-test.true (sym c.import-item.is) c.imports.invariant)

pub returns-in-Err : goal.returns-in-Err
unfolding link_table
returns-in-Err c = λ other.
    c.in-Err.ensures (flat_map needed_by_import c.args.imports.now) (flat_map needed_by_import (drop (c.imports.import-index + 1) c.args.imports.now)) c.args.input.now.rest.now
    (next_import (map module_part c.args.head.now.modules) c.args.head.now.wanted c.args.instances.now (flat_map needed_by_import c.args.imports.now) c.args.imports.now c.imports.import-index c.import-item.result c.imports.all c.imports.input.rest.now
    c.args.input.now.rest.now c.imports-test.true (sym c.import-item.is) c.imports.invariant) other

pub returns : goal.returns
unfolding link_table
returns c =
    ended (map module_part c.args.head.now.modules) c.args.head.now.wanted c.args.instances.now (flat_map needed_by_import c.args.imports.now) c.imports.all c.imports.input.rest.now c.args.input.now.rest.now
    (subst (λ (es : List Entry). IsLinkedOn (map module_part c.args.head.now.modules) c.args.head.now.wanted c.args.instances.now (flat_map needed_by_import c.args.imports.now) c.imports.all es c.imports.input.rest.now c.args.input.now.rest.now)
    (imports_done c.args.imports.now c.imports.import-index c.imports-test.false) c.imports.invariant)
