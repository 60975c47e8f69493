use Rattle.machine_ready.proofs.Each.{zip_begun, zip_next, zip_done}
use Rattle.machine_ready.specs.Openings.{IsOpening}
use Rattle.machine_ready.proofs.openings.add_openings.Goals as goal

pub loop-arm-init : goal.loop-arm-init
loop-arm-init c before h = zip_begun (IsOpening c.args.code.now) before c.args.arms.now c.args.openings.now h

pub loop-arm-preserved : goal.loop-arm-preserved
loop-arm-preserved c before h =
    zip_next (IsOpening c.args.code.now) before c.args.arms.now c.loop-arm.openings c.push.new.self c.loop-arm.arm-index c.arm-item.result c.opening_of.result
    c.loop-arm-test.true c.arm-item.is c.in_ok-push.ensures.ok (c.loop-arm.invariant before h) c.opening_of.ensures

pub returns : goal.returns
returns c before h =
    zip_done (IsOpening c.args.code.now) before c.args.arms.now c.loop-arm.openings c.loop-arm.arm-index c.loop-arm-test.false (c.loop-arm.invariant before h)
