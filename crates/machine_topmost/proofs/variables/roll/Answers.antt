use Rattle.std.proofs.Common.{◌≡◌, ◌+◌, ◌-◌, ◌++◌, ap, ◌∙◌, arith}
use Rattle.machine_topmost.specs.Flat.{part, with_part}
use Rattle.machine_topmost.proofs.Copied.{rolled}
use Rattle.machine_topmost.proofs.variables.roll.Goals as goal

pub returns-clause-region : goal.returns-clause-region
returns-clause-region c =
    let sp = c.args.r.now.sp in
    let region = c.args.region.now in
    let at = sp - (c.from-under.result + c.from.result) in
    let there = c.requires.there in
    let n = c.from-under.ensures in
    let k = c.from.ensures in
    let place : at ≡ sp - (c.args.count + c.args.over) = omega arith in
    rolled region c.rotate_left.new.self at c.from-under.result c.args.over (sp - at) sp (omega arith) (omega arith) c.requires.room c.rotate_left.ensures.after
    ∙ ap (λ m. with_part region at (part region (sp - c.args.over) c.args.over ++ part region at m)) n
    ∙ ap (λ m. with_part region m (part region (sp - c.args.over) c.args.over ++ part region m c.args.count)) place
