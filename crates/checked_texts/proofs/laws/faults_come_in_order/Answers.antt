use Rattle.checked_texts.proofs.Ones.{in_order}
use Rattle.checked_texts.proofs.laws.faults_come_in_order.Goals as goal

pub returns : goal.returns
returns c = in_order
