use Rattle.std.proofs.Common.{refl, rules}
use Rattle.check_statement_lists.proofs.ListLaws.{first_finished, other_finished}
use Rattle.check_statement_lists.proofs.endings.with_finished.Goals as goal

pub returns-in-None-clause-left : goal.returns-in-None-clause-left
returns-in-None-clause-left c = first_finished c.args.done _ c.args.body refl (search rules) refl

pub returns-in-Some-clause-left : goal.returns-in-Some-clause-left
returns-in-Some-clause-left c = other_finished c.args.done _ c.args.body c.in-Some.first refl (search rules) refl
