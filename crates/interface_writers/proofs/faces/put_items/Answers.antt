use Rattle.std.proofs.Common.{◌≡◌, None}
use Rattle.face_rules.specs.FaceForms.{item}
use Rattle.interface_writers.specs.Elements.{each_item}
use Rattle.interface_writers.proofs.Loops.{none_yet, full_already}
use Rattle.interface_writers.proofs.ElementLaws.{item_fits, item_alike, element_written}
use Rattle.interface_writers.proofs.faces.put_items.Goals as goal

pub items-init : goal.items-init
items-init c = none_yet each_item c.args.out.now c.args.items.now

pub returns-then-is_full : goal.returns-then-is_full
returns-then-is_full c =
    let full : c.items.out ≡ None = c.is_full.ensures.0 c.if-is_full.true in
    full_already each_item c.args.out.now c.items.out c.args.items.now c.items.item-index c.items.invariant full

pub put_item-requires : goal.put_item-requires
put_item-requires c = item_fits c.args.items.now c.items.item-index c.item-item.result c.requires c.items-test.true c.item-item.is

pub items-preserved : goal.items-preserved
items-preserved c = element_written each_item (item 2) item_alike c.args.out.now c.items.out c.put_item.new.out c.args.items.now c.items.item-index c.item-item.result c.items-test.true c.item-item.is c.items.invariant c.in_ok-put_item.ensures
