use Rattle.linked_objects.proofs.Versions.{versions_fit_the_second}
use Rattle.linked_objects.proofs.laws.versions_fit_the_second.Goals as goal

pub returns : goal.returns
returns c = versions_fit_the_second
