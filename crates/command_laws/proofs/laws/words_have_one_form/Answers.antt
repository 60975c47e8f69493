use Rattle.command_laws.proofs.OneForm.{one_form}
use Rattle.command_laws.proofs.laws.words_have_one_form.Goals as goal

pub returns : goal.returns
returns c = one_form
