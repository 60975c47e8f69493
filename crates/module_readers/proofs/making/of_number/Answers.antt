use Rattle.std.proofs.Common.{arith}
use Rattle.module_readers.proofs.Numbered.{four_last}
use Rattle.module_readers.proofs.making.of_number.Goals as goal

pub returns-in_default : goal.returns-in_default
returns-in_default c =
    four_last c.args.number c.args.operand c.requires.there c.requires.sizes (omega arith) (omega arith) (omega arith) (omega arith) (omega arith) (omega arith) (omega arith)
