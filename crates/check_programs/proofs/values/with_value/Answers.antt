use Rattle.std.proofs.Common.{sym}
use Rattle.check_programs.specs.Views as view
use Rattle.check_programs.proofs.ValueLaws.{nothing_more}
use Rattle.check_programs.proofs.values.with_value.Goals as goal

pub returns-in-Nothing : goal.returns-in-Nothing
returns-in-Nothing c = rw c.in-Nothing.is (sym (nothing_more (view.values c.args.done)))
