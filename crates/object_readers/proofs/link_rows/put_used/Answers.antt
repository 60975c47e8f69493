use Rattle.std.specs.Option.{option_copied}
use Rattle.object_readers.proofs.Linked.{none_yet, one_more}
use Rattle.object_readers.proofs.link_rows.put_used.Goals as goal

pub loop-number-init : goal.loop-number-init
loop-number-init c = none_yet c.args.import.now.face.items c.args.links.now

pub loop-number-preserved : goal.loop-number-preserved
loop-number-preserved c =
    one_more c.args.import.now.face.items c.as_slice-used.result.now c.loop-number.number-index 0 (option_copied c.get.result) c.args.links.now c.loop-number.links c.put_link.new.links
    c.loop-number-test.true c.get.ensures c.in_ok-put_link.ensures c.loop-number.invariant
