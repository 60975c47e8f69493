use Rattle.std.proofs.Common.{sym}
use Rattle.frame_code.proofs.Linked.{one_more, none_yet, used_whole, within, head_at}
use Rattle.frame_code.proofs.links.put_used.Goals as goal

pub loop-number-init : goal.loop-number-init
loop-number-init c = none_yet c.as_slice-items.result.now c.args.links.now

pub loop-number-preserved : goal.loop-number-preserved
loop-number-preserved c =
    one_more c.as_slice-items.result.now c.as_slice-number-items.result.now c.loop-number.number-index 0 c.index-items-number.result
    c.args.links.now c.loop-number.links c.put_link.new.links c.loop-number-test.true
    (within c.args.import.now c.as_slice-items.result.now c.as_slice-number-items.result.now c.as_slice-items.ensures c.as_slice-number-items.ensures c.requires
    c.loop-number.number-index c.loop-number-test.true)
    (sym c.index-items-number.is) c.in_ok-put_link.ensures c.loop-number.invariant

pub returns : goal.returns
returns c =
    used_whole c.args.import.now c.as_slice-items.result.now c.as_slice-number-items.result.now c.as_slice-items.ensures c.as_slice-number-items.ensures
    c.loop-number.number-index c.args.links.now c.loop-number.links c.loop-number-test.false c.loop-number.invariant

pub bounds-items-number : goal.bounds-items-number
bounds-items-number c =
    within c.args.import.now c.as_slice-items.result.now c.as_slice-number-items.result.now c.as_slice-items.ensures c.as_slice-number-items.ensures c.requires
    c.loop-number.number-index c.loop-number-test.true

pub put_link-requires : goal.put_link-requires
put_link-requires c =
    head_at c.args.import.now c.as_slice-items.result.now _ c.index-items-number.result c.as_slice-items.ensures c.requires
    (within c.args.import.now c.as_slice-items.result.now c.as_slice-number-items.result.now c.as_slice-items.ensures c.as_slice-number-items.ensures c.requires
    c.loop-number.number-index c.loop-number-test.true)
    c.index-items-number.is
