use Rattle.std.proofs.Common.{arith}
use Rattle.load_checks.specs.Turns.{part_of}
use Rattle.load_checks.proofs.Faulted.{differs_is, bad_is, none_is}
use Rattle.load_checks.proofs.checking.chosen_items.Goals as goal

pub returns-then-least-len-clause-err : goal.returns-then-least-len-clause-err
returns-then-least-len-clause-err c = λ other.
    let d = c.differing.ensures other in
    differs_is (part_of c.args.turn.now) c.in_ok-choices.choices c.in_ok-choices.ensures c.as_slice.result.now c.as_slice.ensures.value c.in_ok-least.least c.in_ok-least.ensures c.args.seen.now.images
    c.requires.images_are d.0 (omega (arith, c.if-least-len.true, c.len.ensures)) d.1 c.differing.result d.2

pub returns-in-Some-clause-err : goal.returns-in-Some-clause-err
returns-in-Some-clause-err c = λ other.
    bad_is (part_of c.args.turn.now) c.in_ok-choices.choices c.in_ok-choices.ensures c.as_slice.result.now c.as_slice.ensures.value c.in_ok-least.least c.in_ok-least.ensures c.in-Some.fault c.in-Some.is
    (omega (arith, c.if-least-len.false, c.len.ensures)) other

pub returns-clause-none : goal.returns-clause-none
returns-clause-none c =
    none_is (part_of c.args.turn.now) c.in_ok-choices.choices c.in_ok-choices.ensures c.as_slice.result.now c.as_slice.ensures.value c.in_ok-least.least c.in_ok-least.ensures c.in-None.is
    (omega (arith, c.if-least-len.false, c.len.ensures))
