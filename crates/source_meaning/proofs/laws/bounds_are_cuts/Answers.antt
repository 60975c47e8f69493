use Rattle.source_meaning.proofs.Bounds as lemma
use Rattle.source_meaning.proofs.laws.bounds_are_cuts.Goals as goal

pub returns : goal.returns
returns c = lemma.bounds_are_cuts
