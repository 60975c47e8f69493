use Rattle.signaller.proofs.Numbering.{numbers_arms}
use Rattle.signaller.proofs.law.numbers_arms.Goals as goal

pub returns : goal.returns
returns c = numbers_arms
