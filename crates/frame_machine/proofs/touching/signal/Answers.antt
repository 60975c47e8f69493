use Rattle.std.proofs.Common.{suc, subst}
use Rattle.code_forms.specs.declared.instruction.Instruction.TheVariants.{Raise, RaiseLink, RaiseHost, ArmEnd, Resume, Leave, LeaveReturn}
use Rattle.machine_calls.specs.Linking.{StandsAt}
use Rattle.machine_signals.proofs.ArmEnds.{end_rejects, end_can}
use Rattle.machine_signals.proofs.JumpCalls.{leave_jumps, leave_can, return_jumps, return_can}
use Rattle.machine_ready.proofs.Preparing.{ready_is_prepared}
use Rattle.frame_machine.proofs.Instructions.{at_read}
use Rattle.frame_machine.proofs.Pauses.{touches_shown}
use Rattle.frame_machine.proofs.Readying.{ready_then, tables_of}
use Rattle.frame_machine.proofs.Touches.{not_there}
use Rattle.frame_machine.proofs.touching.signal.Goals as goal

pub raise_own-requires-clause-tables : goal.raise_own-requires-clause-tables
raise_own-requires-clause-tables c = tables_of c.args.image.now c.args.parts.now c.requires.ready

pub raise_own-requires-clause-at : goal.raise_own-requires-clause-at
raise_own-requires-clause-at c =
    at_read c.args.image.now c.args.parts.now.stack.rows.items c.args.r (Raise c.in-Raise.signal) (subst (λ i. StandsAt c.args.image.now c.args.parts.now.stack.rows.items c.args.r i) c.in-Raise.is c.requires.at) c.top_code-code.result.now c.top_code-code.ensures

pub returns-in-Raise-clause-ready : goal.returns-in-Raise-clause-ready
returns-in-Raise-clause-ready c = ready_then c.args.image.now c.args.parts.now c.requires.ready c.raise_own.new.stack c.raise_own.result c.raise_own.ensures.room

pub returns-in-Raise-clause-leads : goal.returns-in-Raise-clause-leads
returns-in-Raise-clause-leads c s m turns free q =
    c.raise_own.ensures.leads s m turns (touches_shown c.args.image.now c.args.parts.now.stack.layout c.args.parts.now.stack.region.items c.args.parts.now.stack.rows.items c.args.r s m q)

pub raise_linked-requires-clause-tables : goal.raise_linked-requires-clause-tables
raise_linked-requires-clause-tables c = tables_of c.args.image.now c.args.parts.now c.requires.ready

pub raise_linked-requires-clause-at : goal.raise_linked-requires-clause-at
raise_linked-requires-clause-at c =
    at_read c.args.image.now c.args.parts.now.stack.rows.items c.args.r (RaiseLink c.in-RaiseLink.link) (subst (λ i. StandsAt c.args.image.now c.args.parts.now.stack.rows.items c.args.r i) c.in-RaiseLink.is c.requires.at) c.top_code-code.result.now c.top_code-code.ensures

pub returns-in-RaiseLink-clause-ready : goal.returns-in-RaiseLink-clause-ready
returns-in-RaiseLink-clause-ready c = ready_then c.args.image.now c.args.parts.now c.requires.ready c.raise_linked.new.stack c.raise_linked.result c.raise_linked.ensures.room

pub returns-in-RaiseLink-clause-leads : goal.returns-in-RaiseLink-clause-leads
returns-in-RaiseLink-clause-leads c s m turns free q =
    c.raise_linked.ensures.leads s m turns (touches_shown c.args.image.now c.args.parts.now.stack.layout c.args.parts.now.stack.region.items c.args.parts.now.stack.rows.items c.args.r s m q)

pub raise_host-requires-clause-tables : goal.raise_host-requires-clause-tables
raise_host-requires-clause-tables c = tables_of c.args.image.now c.args.parts.now c.requires.ready

pub raise_host-requires-clause-at : goal.raise_host-requires-clause-at
raise_host-requires-clause-at c =
    at_read c.args.image.now c.args.parts.now.stack.rows.items c.args.r (RaiseHost c.in-RaiseHost.fault) (subst (λ i. StandsAt c.args.image.now c.args.parts.now.stack.rows.items c.args.r i) c.in-RaiseHost.is c.requires.at) c.top_code-code.result.now c.top_code-code.ensures

pub returns-in-RaiseHost-clause-ready : goal.returns-in-RaiseHost-clause-ready
returns-in-RaiseHost-clause-ready c = ready_then c.args.image.now c.args.parts.now c.requires.ready c.raise_host.new.stack c.raise_host.result c.raise_host.ensures.room

pub returns-in-RaiseHost-clause-leads : goal.returns-in-RaiseHost-clause-leads
returns-in-RaiseHost-clause-leads c s m turns free q =
    c.raise_host.ensures.leads s m turns (touches_shown c.args.image.now c.args.parts.now.stack.layout c.args.parts.now.stack.region.items c.args.parts.now.stack.rows.items c.args.r s m q)

pub resume-requires-clause-tables : goal.resume-requires-clause-tables
resume-requires-clause-tables c = tables_of c.args.image.now c.args.parts.now c.requires.ready

pub resume-requires-clause-at : goal.resume-requires-clause-at
resume-requires-clause-at c =
    at_read c.args.image.now c.args.parts.now.stack.rows.items c.args.r (Resume c.in-Resume.words) (subst (λ i. StandsAt c.args.image.now c.args.parts.now.stack.rows.items c.args.r i) c.in-Resume.is c.requires.at) c.top_code-code.result.now c.top_code-code.ensures

pub returns-in-Resume-clause-ready : goal.returns-in-Resume-clause-ready
returns-in-Resume-clause-ready c = ready_then c.args.image.now c.args.parts.now c.requires.ready c.resume.new.stack c.resume.result c.resume.ensures.room

pub returns-in-Resume-clause-leads : goal.returns-in-Resume-clause-leads
returns-in-Resume-clause-leads c s m turns free q =
    c.resume.ensures.leads s m free turns (touches_shown c.args.image.now c.args.parts.now.stack.layout c.args.parts.now.stack.region.items c.args.parts.now.stack.rows.items c.args.r s m q)

pub reject-requires-clause-tables : goal.reject-requires-clause-tables
reject-requires-clause-tables c = tables_of c.args.image.now c.args.parts.now c.requires.ready

pub reject-requires-clause-rejects : goal.reject-requires-clause-rejects
reject-requires-clause-rejects c =
    end_can c.args.image.now c.args.parts.now.stack.layout (ready_is_prepared c.args.image.now c.args.parts.now c.requires.ready) c.args.parts.now.stack.region.items c.args.parts.now.stack.rows.items c.args.r c.top_code-code.result.now c.top_code-code.ensures (at_read c.args.image.now c.args.parts.now.stack.rows.items c.args.r ArmEnd (subst (λ i. StandsAt c.args.image.now c.args.parts.now.stack.rows.items c.args.r i) c.in-ArmEnd.is c.requires.at) c.top_code-code.result.now c.top_code-code.ensures) c.requires.stands

pub returns-in-ArmEnd-clause-ready : goal.returns-in-ArmEnd-clause-ready
returns-in-ArmEnd-clause-ready c = ready_then c.args.image.now c.args.parts.now c.requires.ready c.reject.new.stack c.reject.result c.reject.ensures.room

pub returns-in-ArmEnd-clause-leads : goal.returns-in-ArmEnd-clause-leads
returns-in-ArmEnd-clause-leads c s m turns free q =
    c.reject.ensures.leads s (record m { begun = suc m.begun }) free turns
    (end_rejects c.args.image.now c.args.parts.now.stack.layout (ready_is_prepared c.args.image.now c.args.parts.now c.requires.ready) c.args.parts.now.stack.region.items c.args.parts.now.stack.rows.items c.args.r c.top_code-code.result.now c.top_code-code.ensures (at_read c.args.image.now c.args.parts.now.stack.rows.items c.args.r ArmEnd (subst (λ i. StandsAt c.args.image.now c.args.parts.now.stack.rows.items c.args.r i) c.in-ArmEnd.is c.requires.at) c.top_code-code.result.now c.top_code-code.ensures) s m (touches_shown c.args.image.now c.args.parts.now.stack.layout c.args.parts.now.stack.region.items c.args.parts.now.stack.rows.items c.args.r s m q))

pub leave-requires-clause-tables : goal.leave-requires-clause-tables
leave-requires-clause-tables c = tables_of c.args.image.now c.args.parts.now c.requires.ready

pub leave-requires-clause-jumps : goal.leave-requires-clause-jumps
leave-requires-clause-jumps c =
    leave_can c.args.image.now c.args.parts.now.stack.layout (ready_is_prepared c.args.image.now c.args.parts.now c.requires.ready) c.args.parts.now.stack.region.items c.args.parts.now.stack.rows.items c.args.r c.top_code-code.result.now c.top_code-code.ensures c.in-Leave.arms c.in-Leave.target (at_read c.args.image.now c.args.parts.now.stack.rows.items c.args.r (Leave c.in-Leave.arms c.in-Leave.target) (subst (λ i. StandsAt c.args.image.now c.args.parts.now.stack.rows.items c.args.r i) c.in-Leave.is c.requires.at) c.top_code-code.result.now c.top_code-code.ensures) c.requires.stands

pub returns-in-Leave-clause-ready : goal.returns-in-Leave-clause-ready
returns-in-Leave-clause-ready c = ready_then c.args.image.now c.args.parts.now c.requires.ready c.leave.new.stack c.leave.result c.leave.ensures.room

pub returns-in-Leave-clause-leads : goal.returns-in-Leave-clause-leads
returns-in-Leave-clause-leads c s m turns free q =
    c.leave.ensures.leads s (record m { begun = suc m.begun }) free turns
    (leave_jumps c.args.image.now c.args.parts.now.stack.layout (ready_is_prepared c.args.image.now c.args.parts.now c.requires.ready) c.args.parts.now.stack.region.items c.args.parts.now.stack.rows.items c.args.r c.top_code-code.result.now c.top_code-code.ensures c.in-Leave.arms c.in-Leave.target (at_read c.args.image.now c.args.parts.now.stack.rows.items c.args.r (Leave c.in-Leave.arms c.in-Leave.target) (subst (λ i. StandsAt c.args.image.now c.args.parts.now.stack.rows.items c.args.r i) c.in-Leave.is c.requires.at) c.top_code-code.result.now c.top_code-code.ensures) s m (touches_shown c.args.image.now c.args.parts.now.stack.layout c.args.parts.now.stack.region.items c.args.parts.now.stack.rows.items c.args.r s m q))

pub leave-requires-in-LeaveReturn-clause-tables : goal.leave-requires-in-LeaveReturn-clause-tables
leave-requires-in-LeaveReturn-clause-tables c = tables_of c.args.image.now c.args.parts.now c.requires.ready

pub leave-requires-in-LeaveReturn-clause-jumps : goal.leave-requires-in-LeaveReturn-clause-jumps
leave-requires-in-LeaveReturn-clause-jumps c =
    return_can c.args.image.now c.args.parts.now.stack.layout (ready_is_prepared c.args.image.now c.args.parts.now c.requires.ready) c.args.parts.now.stack.region.items c.args.parts.now.stack.rows.items c.args.r c.top_code-code.result.now c.top_code-code.ensures c.in-LeaveReturn.arms (at_read c.args.image.now c.args.parts.now.stack.rows.items c.args.r (LeaveReturn c.in-LeaveReturn.arms) (subst (λ i. StandsAt c.args.image.now c.args.parts.now.stack.rows.items c.args.r i) c.in-LeaveReturn.is c.requires.at) c.top_code-code.result.now c.top_code-code.ensures) c.requires.stands

pub returns-in-LeaveReturn-clause-ready : goal.returns-in-LeaveReturn-clause-ready
returns-in-LeaveReturn-clause-ready c = ready_then c.args.image.now c.args.parts.now c.requires.ready c.leave-in-LeaveReturn.new.stack c.leave-in-LeaveReturn.result c.leave-in-LeaveReturn.ensures.room

pub returns-in-LeaveReturn-clause-leads : goal.returns-in-LeaveReturn-clause-leads
returns-in-LeaveReturn-clause-leads c s m turns free q =
    c.leave-in-LeaveReturn.ensures.leads s (record m { begun = suc m.begun }) free turns
    (return_jumps c.args.image.now c.args.parts.now.stack.layout (ready_is_prepared c.args.image.now c.args.parts.now c.requires.ready) c.args.parts.now.stack.region.items c.args.parts.now.stack.rows.items c.args.r c.top_code-code.result.now c.top_code-code.ensures c.in-LeaveReturn.arms (at_read c.args.image.now c.args.parts.now.stack.rows.items c.args.r (LeaveReturn c.in-LeaveReturn.arms) (subst (λ i. StandsAt c.args.image.now c.args.parts.now.stack.rows.items c.args.r i) c.in-LeaveReturn.is c.requires.at) c.top_code-code.result.now c.top_code-code.ensures) s m (touches_shown c.args.image.now c.args.parts.now.stack.layout c.args.parts.now.stack.region.items c.args.parts.now.stack.rows.items c.args.r s m q))

pub unreachable-requires : goal.unreachable-requires
unreachable-requires c =
    not_there c.args.image.now c.args.parts.now.stack.layout (ready_is_prepared c.args.image.now c.args.parts.now c.requires.ready) c.args.parts.now.stack.region.items c.args.parts.now.stack.rows.items c.args.r
    c.args.instruction c.requires.at c.requires.pauses.start c.requires.pauses.store c.requires.pauses.pauses c.requires.pauses.unstuck c.requires.no_call (record {
      own = c.in_default.not-Raise;
      linked = c.in_default.not-RaiseLink;
      predeclared = c.in_default.not-RaiseHost;
      end = c.in_default.not-ArmEnd;
      resume = c.in_default.not-Resume;
      leave = c.in_default.not-Leave;
      leave_return = c.in_default.not-LeaveReturn;
    })
