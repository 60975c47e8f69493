use Rattle.code_trees.proofs.ExitLaws.{before_fits}
use Rattle.code_trees.proofs.loop_forms.looped.Goals as goal

pub concluded-requires : goal.concluded-requires
concluded-requires c = before_fits _ _ _ c.requires.fits
