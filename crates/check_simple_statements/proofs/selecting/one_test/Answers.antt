use Rattle.std.proofs.Common.{rules}
use Rattle.check_simple_statements.proofs.TestLaws.{inside_first}
use Rattle.check_simple_statements.proofs.selecting.one_test.Goals as goal

pub returns-in_err-ends-in-Inside : goal.returns-in_err-ends-in-Inside
returns-in_err-ends-in-Inside g c = rw c.in-Inside.is (rw inside_first (search rules))

pub returns-in_ok-ends-in-Inside : goal.returns-in_ok-ends-in-Inside
returns-in_ok-ends-in-Inside g c = rw c.in-Inside.is (rw inside_first (search rules))
