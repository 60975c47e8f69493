use Rattle.std.proofs.lemmas.List.Elements.{All-nil}
use Rattle.std.proofs.lemmas.Result.{err_from_is_err_and}
use Rattle.command_passes.specs.Filed.{IsFiledImage}
use Rattle.command_passes.specs.Stops.{stop_case}
use Rattle.command_passes.proofs.Passed.{memory_ends}
use Rattle.command_loads.proofs.Reading.{all_read, filed_more, next_unread, none_read, one_more_read}
use Rattle.command_loads.proofs.images.images_of.Goals as goal

pub loop-base-init : goal.loop-base-init
loop-base-init g c = (rw c.new-images.ensures.items (none_read _), rw c.new-images.ensures.items (All-nil IsFiledImage))

pub loop-base-preserved : goal.loop-base-preserved
loop-base-preserved g c = (
  one_more_read c.args.bases.now c.loop-base.base-index c.base-item.result c.loop-base-test.true c.base-item.is _ _ _ c.loop-base.images.items
      c.in_ok-images.images.items c.in-Ok.image c.in_ok-images.ensures c.loop-base.invariant.0 (rw c.as_slice.ensures at c.in-Ok.ensures.passes),
  filed_more c.loop-base.images.items c.in_ok-images.images.items c.in-Ok.image c.in_ok-images.ensures c.loop-base.invariant.1 c.in-Ok.ensures.filed,
)

pub returns-in-Err-clause-passes : goal.returns-in-Err-clause-passes
returns-in-Err-clause-passes g c =
    next_unread c.args.bases.now c.loop-base.base-index c.base-item.result c.loop-base-test.true c.base-item.is _ _ _ _ (stop_case c.in-Err.why)
    c.loop-base.invariant.0 (rw c.as_slice.ensures at c.in-Err.ensures.passes)

pub returns-in_err-images-clause-passes : goal.returns-in_err-images-clause-passes
returns-in_err-images-clause-passes g c =
    let p = err_from_is_err_and c.from_residual.result c.from_residual.ensures.1 in
    rw p.1 (memory_ends _ _ _ p.0 p.2)

pub returns-clause-passes : goal.returns-clause-passes
returns-clause-passes g c = all_read c.args.bases.now c.loop-base.base-index _ _ _ c.loop-base-test.false c.loop-base.invariant.0
