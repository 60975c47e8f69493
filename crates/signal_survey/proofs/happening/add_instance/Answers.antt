use Rattle.std.proofs.Common.{refl, arith}
use Rattle.signal_survey.proofs.Happened.{below_none, below_more, below_all}
use Rattle.signal_survey.proofs.happening.add_instance.Goals as goal

pub loop-procedure-init : goal.loop-procedure-init
loop-procedure-init c = below_none c.args.image.now c.args.instance c.args.list.now c.args.list.now refl

pub add_procedure-requires : goal.add_procedure-requires
add_procedure-requires c = record {
  surveyed = c.requires.surveyed;
  code = c.requires.code;
  there = let l = c.loop-procedure-test.true in let e = c.len-procedure-end.ensures in omega (arith, l, e);
}

pub loop-procedure-preserved : goal.loop-procedure-preserved
loop-procedure-preserved c =
    below_more c.args.image.now c.args.instance c.loop-procedure.procedure c.args.list.now c.loop-procedure.list c.add_procedure.new.list c.loop-procedure.invariant
    c.in_ok-add_procedure.ensures

pub returns : goal.returns
returns c =
    below_all c.args.image.now c.args.instance c.loop-procedure.procedure c.args.code.now c.args.list.now c.loop-procedure.list c.requires.code
    (let l = c.loop-procedure-test.false in let e = c.len-procedure-end.ensures in omega (arith, l, e)) c.loop-procedure.invariant
