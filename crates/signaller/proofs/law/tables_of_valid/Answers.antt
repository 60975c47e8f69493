use Rattle.signaller.proofs.Lying.{tables_of_valid}
use Rattle.signaller.proofs.law.tables_of_valid.Goals as goal

pub returns : goal.returns
returns c = tables_of_valid
