use Rattle.code_blocks.proofs.laws.phrases_stand.Goals as goal
use Rattle.code_blocks.proofs.PhraseRules.{phrases_stand}

pub returns : goal.returns
returns c = phrases_stand
