use Rattle.std.proofs.Common.{[], ◌∷◌, ◌-◌, ap, ◌∙◌}
use Rattle.mesa_types.specs.Longs.{more_of, two_words}
use Rattle.machine_topmost.specs.Flat.{with_part}
use Rattle.machine_topmost.proofs.Parts.{two_set}
use Rattle.machine_topmost.proofs.long_operate.leave_long.Goals as goal

pub returns-clause-region : goal.returns-clause-region
unfolding two_words
returns-clause-region c =
    let region = c.args.region.now in
    let at = c.args.r.now.sp - c.args.takes in
    two_set region at c.more_of.result c.less_of.result c.requires.room
    ∙ ap (λ w. with_part region at (w ∷ c.less_of.result ∷ [])) c.more_of.ensures
    ∙ ap (λ w. with_part region at (more_of c.args.number ∷ w ∷ [])) c.less_of.ensures
