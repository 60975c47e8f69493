use Rattle.std.specs.List.{filter_map}
use Rattle.include_checker.specs.Named.{number_of_item}
use Rattle.include_checker.proofs.Rows.{row_begins, row_more, row_ends}
use Rattle.include_checker.proofs.naming.row_of.Goals as goal

pub loop-item-init : goal.loop-item-init
loop-item-init c = row_begins c.new-row.result (filter_map (number_of_item c.args.bases.now) c.args.directory.now) c.new-row.ensures

pub loop-item-preserved : goal.loop-item-preserved
loop-item-preserved c =
    let f = number_of_item c.args.bases.now in
    row_more f c.loop-item.row c.add.new.row c.args.directory.now c.loop-item.item-index c.item-item.result c.item-item.result c.number_of_item.result (filter_map f c.args.directory.now)
    c.loop-item-test.true c.item-item.is c.number_of_item.ensures c.in_ok-add.ensures c.loop-item.invariant

pub returns : goal.returns
returns c =
    let f = number_of_item c.args.bases.now in
    row_ends f c.loop-item.row c.args.directory.now c.loop-item.item-index (filter_map f c.args.directory.now) c.loop-item-test.false c.loop-item.invariant
