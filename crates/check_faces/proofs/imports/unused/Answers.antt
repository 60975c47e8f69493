use Rattle.std.proofs.Common.{rules}
use Rattle.check_faces.proofs.ImportLaws as laws
use Rattle.check_faces.proofs.imports.unused.Goals as goal

pub loop-interface-preserved : goal.loop-interface-preserved
loop-interface-preserved c = rw c.loop-interface.invariant (rw (laws.unused_at c.loop-interface.marks c.args.those.now c.loop-interface.interface-index c.interface-item.result (search rules) (search rules)) (search rules))

pub returns : goal.returns
returns c = rw c.loop-interface.invariant (rw (laws.unused_out c.loop-interface.marks c.args.those.now c.loop-interface.interface-index (search rules)) (search rules))
