use Rattle.std.proofs.Common.{List, flat_map}
use Rattle.interface_records.specs.declared.interface.Constant.{Constant}
use Rattle.interface_records.specs.declared.interface.NamedType.{NamedType}
use Rattle.mesa_types.specs.declared.faces.Item.{Item}
use Rattle.listing_rules.specs.Interfaces.{head_line, item_line, constant_line, type_line}
use Rattle.listing_writers.proofs.Chains.{then_four, of_value, of_last}
use Rattle.listing_writers.proofs.interfaces.put_interface.Goals as goal

pub returns : goal.returns
returns c =
    let i = c.args.interface.now in
    then_four c.put_each-3.result c.args.out.now c.put_head.new.out c.put_each.new.out c.put_each-2.new.out c.put_each-3.new.out
    (head_line i.face.name i.face.stamp) (flat_map item_line i.face.items) (flat_map constant_line i.constants) (flat_map type_line i.types)
    c.in_ok-put_head.ensures
    (of_value (λ (xs : List Item). flat_map item_line xs) c.put_head.new.out c.put_each.new.out c.as_slice.result.now i.face.items c.as_slice.ensures c.in_ok-put_each.ensures)
    (of_value (λ (xs : List Constant). flat_map constant_line xs) c.put_each.new.out c.put_each-2.new.out c.as_slice-2.result.now i.constants c.as_slice-2.ensures c.in_ok-put_each-2.ensures)
    (of_last c.put_each-3.result (λ (xs : List NamedType). flat_map type_line xs) c.put_each-2.new.out c.put_each-3.new.out c.as_slice-3.result.now i.types c.as_slice-3.ensures c.put_each-3.ensures)
