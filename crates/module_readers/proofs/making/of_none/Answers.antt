use Rattle.std.proofs.Common.{arith}
use Rattle.module_readers.proofs.Numbered.{plain_last}
use Rattle.module_readers.proofs.making.of_none.Goals as goal

pub returns-in_default : goal.returns-in_default
returns-in_default c =
    plain_last c.args.number (omega arith) c.requires.sizes (omega arith) (omega arith) (omega arith) (omega arith) (omega arith) (omega arith) (omega arith) (omega arith) (omega arith) (omega arith) (omega arith) (omega arith) (omega arith) (omega arith) (omega arith)
