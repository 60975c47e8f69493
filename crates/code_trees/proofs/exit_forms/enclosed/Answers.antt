use Rattle.code_trees.proofs.ExitLaws.{before_fits}
use Rattle.code_trees.proofs.exit_forms.enclosed.Goals as goal

pub passed-requires-clause-fits : goal.passed-requires-clause-fits
passed-requires-clause-fits c = before_fits _ _ _ c.requires.fits
