use Rattle.std.proofs.Common.{arith}
use Rattle.machine_signals.proofs.Roomy.{room_lower}
use Rattle.machine_signals.proofs.Leaves.{leaving_asked, leaving_within}
use Rattle.machine_signals.proofs.UnwindLoop.{unwind_holds, arrived_holds}
use Rattle.machine_signals.proofs.leaving.leave_on.Goals as goal

pub unwind-requires-clause-rows : goal.unwind-requires-clause-rows
unwind-requires-clause-rows c = leaving_asked c.args.image.now c.args.stack.now.layout c.args.stack.now.region.items c.args.stack.now.rows.items c.requires.leaves.start c.requires.leaves.store c.args.target c.args.first c.args.top c.requires.leaves.leaving

pub unwind-requires-clause-long : goal.unwind-requires-clause-long
unwind-requires-clause-long c = leaving_within c.args.image.now c.args.stack.now.layout c.args.stack.now.region.items c.args.stack.now.rows.items c.requires.leaves.start c.requires.leaves.store c.args.target c.args.first c.args.top c.requires.leaves.leaving

pub returns-in-Some-clause-arms : goal.returns-in-Some-clause-arms
returns-in-Some-clause-arms c =
    unwind_holds c.args.image.now c.args.stack.now.rows.items c.args.top c.args.target c.in-Some.landed c.in-Some.ensures.landing c.requires.aims c.requires.arms
    c.enter_arm.new.stack.rows.items c.enter_arm.result c.enter_arm.ensures.adds

pub enter_arm-requires-clause-room : goal.enter_arm-requires-clause-room
enter_arm-requires-clause-room c = room_lower c.args.stack.now c.args.top c.in-Some.landed.place c.in-Some.ensures.landing.low c.requires.room

pub arrive-requires-clause-room : goal.arrive-requires-clause-room
arrive-requires-clause-room c = room_lower c.args.stack.now c.args.top c.args.target.place (let l = c.requires.aims.low in omega (arith, l)) c.requires.room

pub returns-in-None-clause-arms : goal.returns-in-None-clause-arms
returns-in-None-clause-arms c =
    arrived_holds c.args.image.now c.args.stack.now.rows.items c.args.top c.args.target.place (let l = c.requires.aims.low in omega (arith, l)) c.requires.arms
    c.arrive.new.stack.rows.items c.arrive.ensures.rows c.arrive.result c.arrive.ensures.low
