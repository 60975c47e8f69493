use Rattle.std.proofs.Common.{rules}
use Rattle.check_simple_statements.proofs.HoldingLaws.{inside_holds}
use Rattle.check_simple_statements.proofs.holding.test_holds.Goals as goal

pub returns-in-Inside : goal.returns-in-Inside
returns-in-Inside c rest = rw c.in-Inside.is (rw inside_holds (search rules))
