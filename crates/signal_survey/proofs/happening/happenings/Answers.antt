use Rattle.std.proofs.Common.{[], arith}
use Rattle.signal_survey.proofs.Happened.{before_none, before_more, before_all}
use Rattle.signal_survey.proofs.happening.happenings.Goals as goal

pub loop-instance-init : goal.loop-instance-init
loop-instance-init c = before_none c.args.image.now [] c.new-list.result c.new-list.ensures

pub add_instance-requires : goal.add_instance-requires
add_instance-requires c = record { surveyed = c.requires.surveyed; code = c.valid_code-code.ensures.is }

pub loop-instance-preserved : goal.loop-instance-preserved
loop-instance-preserved c =
    before_more c.args.image.now c.loop-instance.instance c.valid_code-code.result.now [] c.loop-instance.list c.add_instance.new.list c.valid_code-code.ensures.is c.loop-instance.invariant
    c.in_ok-add_instance.ensures

pub returns : goal.returns
returns c =
    before_all c.args.image.now c.loop-instance.instance [] c.loop-instance.list (let l = c.loop-instance-test.false in let e = c.len-instance-end.ensures in omega (arith, l, e))
    c.loop-instance.invariant
