use Rattle.code_forms.proofs.Depths.{settled_once}
use Rattle.code_forms.proofs.law.one_depth.Goals as goal

pub returns : goal.returns
returns c = settled_once
