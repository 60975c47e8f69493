use Rattle.std.proofs.Common.{rules}
use Rattle.check_scopes.specs.Shows.{means}
use Rattle.check_selectors.proofs.KeyLaws.{places_at, places_end}
use Rattle.check_selectors.proofs.keys.all_places.Goals as goal

pub returns-in-None : goal.returns-in-None
returns-in-None g c = rw c.loop-one.invariant (rw (places_at (means c.args.numbers.now) (means c.loop-one.taken) c.loop-one.places c.args.keyed.now c.loop-one.one-index c.one-item.result (search rules) (search rules)) (search rules))

pub loop-one-preserved : goal.loop-one-preserved
loop-one-preserved g c = rw c.loop-one.invariant (rw (places_at (means c.args.numbers.now) (means c.loop-one.taken) c.loop-one.places c.args.keyed.now c.loop-one.one-index c.one-item.result (search rules) (search rules)) (search rules))

pub returns : goal.returns
returns g c = rw c.loop-one.invariant (rw (places_end (means c.args.numbers.now) (means c.loop-one.taken) c.loop-one.places c.args.keyed.now c.loop-one.one-index (search rules)) (search rules))
