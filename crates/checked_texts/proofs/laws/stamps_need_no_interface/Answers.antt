use Rattle.checked_texts.proofs.Stamps.{no_interface}
use Rattle.checked_texts.proofs.laws.stamps_need_no_interface.Goals as goal

pub returns : goal.returns
returns c = no_interface
