use Rattle.std.proofs.Common.{arith}
use Rattle.module_readers.proofs.Numbered.{longs_last}
use Rattle.module_readers.proofs.making.of_longs.Goals as goal

pub returns-in_default : goal.returns-in_default
returns-in_default c = longs_last c.args.number (omega arith)
