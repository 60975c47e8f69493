use Rattle.std.proofs.Common.{rules}
use Rattle.check_faces.proofs.ImportLaws as laws
use Rattle.check_faces.proofs.imports.imported.Goals as goal

pub loop-interface-preserved : goal.loop-interface-preserved
loop-interface-preserved c = rw c.loop-interface.invariant.1 (rw (laws.import_at c.loop-interface.imports c.args.those.now c.args.used.now c.loop-interface.interface-index c.interface-item.result (search rules) (search rules)) (search rules))

pub returns : goal.returns
returns c = rw c.loop-interface.invariant.1 (rw (laws.import_out c.loop-interface.imports c.args.those.now c.args.used.now c.loop-interface.interface-index (search rules)) (search rules))
