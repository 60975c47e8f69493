use Rattle.std.proofs.Common.{All, sym, subst}
use Rattle.loader_rules.specs.Parts.{parts}
use Rattle.image_loader.specs.Standing.{FitsBehind}
use Rattle.image_loader.proofs.Fitting.{all_fit}
use Rattle.image_loader.proofs.loading.joined.Goals as goal

pub all_put-requires-clause-fit : goal.all_put-requires-clause-fit
all_put-requires-clause-fit c =
    subst (λ is. All FitsBehind (parts is)) (sym c.as_slice.ensures.value) (all_fit c.args.images.items c.requires.few c.requires.filed c.requires.resolved.no_fault)
