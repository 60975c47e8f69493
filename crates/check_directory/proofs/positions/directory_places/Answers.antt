use Rattle.std.proofs.Common.{rules}
use Rattle.check_directory.proofs.PlaceLaws.{directory_at, directory_out}
use Rattle.check_directory.proofs.positions.directory_places.Goals as goal

pub loop-item-preserved : goal.loop-item-preserved
loop-item-preserved c = rw c.loop-item.invariant (rw (directory_at _ c.loop-item.place c.args.directory.now c.loop-item.item-index c.item-item.result (search rules) (search rules)) (search rules))

pub returns : goal.returns
returns c = rw c.loop-item.invariant (rw (directory_out _ c.loop-item.place c.args.directory.now c.loop-item.item-index (search rules)) (search rules))
