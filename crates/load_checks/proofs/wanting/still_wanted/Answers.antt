use Rattle.std.proofs.Common.{◌∙◌}
use Rattle.load_checks.specs.Wanting.{entries_shown}
use Rattle.load_checks.proofs.Wanteds.{all_are, all_left}
use Rattle.load_checks.proofs.wanting.still_wanted.Goals as goal

pub returns-clause-wanted : goal.returns-clause-wanted
returns-clause-wanted c =
    all_left (entries_shown c.loop-image.wanting.entries.items) c.args.images.now c.loop-image.image-index _ c.loop-image.invariant.done c.loop-image-test.false ∙ all_are c.args.images.now
