use Rattle.std.proofs.Common.{All, subst}
use Rattle.std.proofs.lemmas.List.{take_all}
use Rattle.command_loads.specs.Lacking.{HasFor}
use Rattle.command_loads.proofs.Wanting.{had_for_more}
use Rattle.command_loads.proofs.lacking.lack_of.Goals as goal

pub loop-number-preserved : goal.loop-number-preserved
loop-number-preserved c =
    had_for_more c.args.images.now c.loop-number.number c.index-images-number.result c.loop-number-test.true c.index-images-number.is
    (rw c.as_slice.ensures at (rw c.in_default.is at c.in_ok-item.ensures)) c.loop-number.invariant

pub returns : goal.returns
returns c = subst (All HasFor) (take_all c.loop-number.number c.args.images.now c.loop-number-test.false) c.loop-number.invariant
