use Rattle.std.proofs.Common.{◌<◌, length, refl, arith}
use Rattle.signal_survey.proofs.Nexts.{read_at, no_next, one_next}
use Rattle.signal_survey.proofs.graph.next_by.Goals as goal

pub returns-then-catches : goal.returns-then-catches
returns-then-catches c =
    let count = (c.requires.surveyed).count in
    let below = c.requires.there in
    let within : c.args.number < length c.args.surveyed.now.passings = omega (arith, count, below) in
    no_next c.stops_by_ending.ensures c.args.image.now c.args.signal c.args.place c.args.number c.args.code.now c.args.procedure.now c.args.surveyed.now c.index-as_slice-number.result
    c.index-as_slice-number-2.result c.catches.result c.requires.is_code c.requires.surveyed c.requires.position
    (read_at c.args.procedure.now.phrases c.as_slice.result.now c.args.number c.index-as_slice-number.result c.as_slice.ensures below c.index-as_slice-number.is)
    (read_at c.args.surveyed.now.passings c.as_slice-2.result.now c.args.number c.index-as_slice-number-2.result c.as_slice-2.ensures within c.index-as_slice-number-2.is)
    c.catches.ensures c.if-catches.true

pub returns : goal.returns
returns c =
    let count = (c.requires.surveyed).count in
    let below = c.requires.there in
    let within : c.args.number < length c.args.surveyed.now.passings = omega (arith, count, below) in
    one_next c.stops_by_ending.ensures c.args.image.now c.args.signal c.args.place c.args.number c.args.code.now c.args.procedure.now c.args.surveyed.now c.index-as_slice-number.result
    c.index-as_slice-number-2.result c.catches.result c.requires.is_code c.requires.surveyed c.requires.position
    (read_at c.args.procedure.now.phrases c.as_slice.result.now c.args.number c.index-as_slice-number.result c.as_slice.ensures below c.index-as_slice-number.is)
    (read_at c.args.surveyed.now.passings c.as_slice-2.result.now c.args.number c.index-as_slice-number-2.result c.as_slice-2.ensures within c.index-as_slice-number-2.is)
    c.catches.ensures c.if-catches.false _ refl
