use Rattle.std.proofs.Common.{arith}
use Rattle.code_writer.proofs.Own.{shallow_next}
use Rattle.code_writer.proofs.cursor.put_all.Goals as goal

pub put-requires-clause-shallow : goal.put-requires-clause-shallow
put-requires-clause-shallow c =
    shallow_next c.args.code.now c.loop-instruction.instruction-index _ _ _ (omega arith) c.loop-instruction.invariant.shallow
