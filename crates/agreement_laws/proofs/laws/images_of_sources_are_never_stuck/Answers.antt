use Rattle.agreement_laws.proofs.laws.images_of_sources_are_never_stuck.Goals as goal
use Rattle.agreement_laws.proofs.Agreement.{never_stuck}

pub returns : goal.returns
returns c = never_stuck
