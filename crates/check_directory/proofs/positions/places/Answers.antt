use Rattle.std.proofs.Common.{rules}
use Rattle.check_directory.proofs.PlaceLaws.{place_at, place_out}
use Rattle.check_directory.proofs.positions.places.Goals as goal

pub loop-name-preserved : goal.loop-name-preserved
loop-name-preserved c = rw c.loop-name.invariant (rw (place_at _ c.loop-name.place c.args.names.now c.loop-name.name-index c.name-item.result (search rules) (search rules)) (search rules))

pub returns : goal.returns
returns c = rw c.loop-name.invariant (rw (place_out _ c.loop-name.place c.args.names.now c.loop-name.name-index (search rules)) (search rules))
