use Rattle.agreement_laws.proofs.laws.images_run_as_their_source.Goals as goal
use Rattle.agreement_laws.proofs.Agreement.{images_run}

pub returns : goal.returns
returns c = images_run
