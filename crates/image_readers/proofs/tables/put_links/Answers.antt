use Rattle.std.proofs.Common.{◌+◌, ℕ, List, ◌++◌, map, drop, sym, subst}
use Rattle.std.specs.Option.{option_copied}
use Rattle.image_readers.proofs.Linking.{next_used, used_done}
use Rattle.image_readers.specs.Tables.{IsLinkedOn}
use Rattle.interface_records.specs.declared.wanted.Wanted.{Wanted as Entry}
use Rattle.mesa_types.specs.Links.{items_used}
use Rattle.object_readers.specs.Rows.{module_part}
use Rattle.object_rules.specs.ImageForms.{needed_of}
use Rattle.image_readers.proofs.tables.put_links.Goals as goal

pub numbers-init : goal.numbers-init
numbers-init c = λ needed more start on.
    subst (λ (u : List ℕ). IsLinkedOn (map module_part c.args.head.now.modules) c.args.head.now.wanted c.args.instances.now needed c.args.all.now
    (map (needed_of c.args.import.now.face) (items_used c.args.import.now.face.items u) ++ more) c.args.input.now.rest.now start) (sym c.as_slice-used.ensures) on

pub numbers-preserved : goal.numbers-preserved
numbers-preserved c = λ needed more start on.
    c.in-Ok.ensures needed (map (needed_of c.args.import.now.face) (items_used c.args.import.now.face.items (drop (c.numbers.number-index + 1) c.as_slice-used.result.now)) ++ more) start
    (next_used (map module_part c.args.head.now.modules) c.args.head.now.wanted c.args.instances.now needed c.args.import.now.face c.as_slice-used.result.now c.numbers.number-index 0 (option_copied c.get-item.result) c.numbers.all more
    c.numbers.input.rest.now start c.numbers-test.true c.get-item.ensures (c.numbers.invariant needed more start on))

pub returns-in-Err : goal.returns-in-Err
returns-in-Err c = λ needed more start on other.
    c.in-Err.ensures needed (map (needed_of c.args.import.now.face) (items_used c.args.import.now.face.items (drop (c.numbers.number-index + 1) c.as_slice-used.result.now)) ++ more) start
    (next_used (map module_part c.args.head.now.modules) c.args.head.now.wanted c.args.instances.now needed c.args.import.now.face c.as_slice-used.result.now c.numbers.number-index 0 (option_copied c.get-item.result) c.numbers.all more
    c.numbers.input.rest.now start c.numbers-test.true c.get-item.ensures (c.numbers.invariant needed more start on)) other

pub returns : goal.returns
returns c = λ needed more start on.
    subst (λ (es : List Entry). IsLinkedOn (map module_part c.args.head.now.modules) c.args.head.now.wanted c.args.instances.now needed c.numbers.all es c.numbers.input.rest.now start)
    (used_done c.args.import.now.face c.as_slice-used.result.now c.numbers.number-index more c.numbers-test.false) (c.numbers.invariant needed more start on)
