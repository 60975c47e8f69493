use Rattle.agreement_laws.proofs.laws.sources_mean_what_their_images_do.Goals as goal
use Rattle.agreement_laws.proofs.Agreement.{sources_mean}

pub returns : goal.returns
returns c = sources_mean
