use Rattle.std.proofs.Common.{rules}
use Rattle.check_state.specs.Views.{meaning, names}
use Rattle.check_faces.proofs.AheadLaws as laws
use Rattle.check_faces.proofs.declared_names.also.Goals as goal

pub loop-name-preserved : goal.loop-name-preserved
unfolding names
loop-name-preserved c = rw c.loop-name.invariant (rw (laws.all_at (meaning c.args.meaning.now) (names c.loop-name.scope) c.args.names.now c.loop-name.name-index c.name-item.result (search rules) (search rules)) (search rules))

pub returns : goal.returns
returns c = rw c.loop-name.invariant (rw (laws.all_out (meaning c.args.meaning.now) (names c.loop-name.scope) c.args.names.now c.loop-name.name-index (search rules)) (search rules))
