use Rattle.source_meaning.proofs.Input as lemma
use Rattle.source_meaning.proofs.laws.faults_are_cuts.Goals as goal

pub returns : goal.returns
returns c = lemma.faults_are_cuts
