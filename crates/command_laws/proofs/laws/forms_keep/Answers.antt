use Rattle.command_laws.proofs.Keeping.{forms_keep}
use Rattle.command_laws.proofs.laws.forms_keep.Goals as goal

pub returns : goal.returns
returns c = forms_keep
