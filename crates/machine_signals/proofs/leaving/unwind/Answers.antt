use Rattle.std.proofs.Common.{◌≢◌, arith}
use Rattle.machine_signals.proofs.Leaves.{leaving_arrives}
use Rattle.machine_signals.proofs.UnwindLoop.{IsPassed, unwinding, unwinds, passed_over, of_target, asked_next, drops_so}
use Rattle.machine_signals.proofs.leaving.unwind.Goals.{then-owner_of-target+in-Beyond, else-owner_of-target}
use Rattle.machine_signals.proofs.leaving.unwind.Goals as goal

pub returns-in-Arm-clause-landing : goal.returns-in-Arm-clause-landing
returns-in-Arm-clause-landing c =
    let i = c.leaving.invariant in
    unwinding c.args.image.now c.args.stack.now.rows.items c.leaving.place c.row_of-row.result c.row_of-row.ensures c.args.target c.leaving.search (c.requires.rows c.leaving.place i.lower)
    c.leaving-test.true c.owner_of.result c.owner_of.ensures c.ask_unwind.result c.ask_unwind.ensures c.if-owner_of-target.true
    c.in-Arm.arm c.in-Arm.beyond c.in-Arm.is c.args.top i.lower i.above

pub returns-in-Arm-clause-unwinds : goal.returns-in-Arm-clause-unwinds
returns-in-Arm-clause-unwinds c region s m w =
    let i = c.leaving.invariant in
    unwinds c.args.image.now c.args.stack.now.rows.items c.leaving.place c.row_of-row.result c.row_of-row.ensures c.args.target c.leaving.search (c.requires.rows c.leaving.place i.lower)
    c.leaving-test.true c.owner_of.result c.owner_of.ensures c.ask_unwind.result c.ask_unwind.ensures c.if-owner_of-target.true
    c.in-Arm.arm c.in-Arm.beyond c.in-Arm.is c.args.stack.now.layout region s m (i.leaves region s m w)

pub leaving-preserved : goal.leaving-preserved
leaving-preserved c =
    let i = c.leaving.invariant in
    let asked = c.requires.rows c.leaving.place i.lower in
    let low = i.lower in let above = i.above in
    let other : c.leaving.place ≢ c.args.target.place = c.leaving-test.true in
    let way : IsPassed c.args.stack.now.rows.items c.leaving.place c.args.target c.leaving.search asked.read.procedure = elim c.if-owner_of-target.branch [
      | then-owner_of-target+in-Beyond w ↦ passed_over c.args.image.now c.args.stack.now.rows.items c.leaving.place c.row_of-row.result c.row_of-row.ensures c.args.target c.leaving.search asked
          c.leaving-test.true c.owner_of.result c.owner_of.ensures w.ask_unwind.result w.ask_unwind.ensures w.if-owner_of-target.true w.in-Beyond.is
      | else-owner_of-target w ↦ of_target c.args.image.now c.args.stack.now.rows.items c.leaving.place c.row_of-row.result c.row_of-row.ensures c.args.target c.leaving.search asked
          c.leaving-test.true c.owner_of.result c.owner_of.ensures w.if-owner_of-target.false
    ] in
    record {
      lower = omega (arith, low);
      above = omega (arith, above, other);
      asks = asked_next c.args.image.now c.args.stack.now.rows.items c.leaving.place c.row_of-row.result c.row_of-row.ensures c.args.target c.leaving.search asked
          c.leaving-test.true way c.row_of-under.result c.row_of-under.ensures c.left_to_ask-search.result c.left_to_ask-search.ensures.asks;
      leaves = λ region s m w.
          drops_so c.args.image.now c.args.stack.now.rows.items c.leaving.place c.row_of-row.result c.row_of-row.ensures c.args.target c.leaving.search asked
          c.leaving-test.true way c.row_of-under.result c.row_of-under.ensures c.left_to_ask-search.result c.left_to_ask-search.ensures.left (omega (arith, above, other))
          c.args.stack.now.layout region s m (i.leaves region s m w);
    }

pub returns-clause-unwinds : goal.returns-clause-unwinds
returns-clause-unwinds c region s m w =
    leaving_arrives c.args.image.now c.args.stack.now.layout region c.args.stack.now.rows.items s m c.args.target c.leaving.search c.leaving.place (c.leaving.invariant.leaves region s m w) c.leaving-test.false
