use Rattle.code_blocks.proofs.laws.modules_are_translated.Goals as goal
use Rattle.code_blocks.proofs.Translated.{modules_are_translated}

pub returns : goal.returns
returns c = modules_are_translated
