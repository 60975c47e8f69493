use Rattle.command_sources.proofs.Kept.{can_be_kept}
use Rattle.command_sources.proofs.laws.modules_of_files_can_be_kept.Goals as goal

pub returns : goal.returns
returns c = can_be_kept c.interfaces_fit.ensures c.built_in_fits.ensures c.read_modules_can_be_kept.ensures
