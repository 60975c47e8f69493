use Rattle.std.proofs.Common.{suc, List, Bool, length, refl, ap, sym, subst, arith}
use Rattle.std.specs.Vec.{with_items}
use Rattle.code_forms.specs.declared.instruction.Instruction.TheVariants.{Call, Return}
use Rattle.machine_activations.specs.declared.row.Row.{Row}
use Rattle.machine_activations.specs.Calling.{LeadsTo}
use Rattle.machine_calls.specs.declared.linking.LinkSequel.{LinkSequel}
use Rattle.machine_calls.specs.Linking.{IsAmpleForLink, LinkedTo, StandsAt}
use Rattle.machine_calls.specs.Started.{ShowsStarted}
use Rattle.machine_signals.specs.Raising.{HoldsOn}
use Rattle.machine_ready.proofs.Preparing.{ready_is_prepared}
use Rattle.frame_machine.specs.Happening.{HoldsOnLink}
use Rattle.frame_machine.proofs.Instructions.{at_read, stands_there}
use Rattle.frame_machine.proofs.Pauses.{touches_shown}
use Rattle.frame_machine.proofs.Pausing.{same_length, words_then}
use Rattle.frame_machine.proofs.Readying.{ready_then, ready_linked, same_items}
use Rattle.frame_machine.proofs.Touches.{can_stand, top_there, arms_added, arms_linked, arms_below, linked_by, no_call}
use Rattle.frame_machine.proofs.touching.touch.Goals as goal

pub call-called-requires-clause-stands : goal.call-called-requires-clause-stands
call-called-requires-clause-stands c =
    stands_there c.args.image.now c.args.parts.now.stack.layout (ready_is_prepared c.args.image.now c.args.parts.now c.requires.ready) c.args.parts.now.stack.region.items c.args.parts.now.stack.rows.items c.args.r.now c.top_code-code.result.now c.top_code-code.ensures (can_stand c.args.image.now c.args.parts.now c.args.r.now c.requires.pauses)

pub call-called-requires-clause-at : goal.call-called-requires-clause-at
call-called-requires-clause-at c = at_read c.args.image.now c.args.parts.now.stack.rows.items c.args.r.now (Call c.in-Call.procedure) (subst (λ i. StandsAt c.args.image.now c.args.parts.now.stack.rows.items c.args.r.now i) c.in-Call.is c.requires.at) c.top_code-code.result.now c.top_code-code.ensures

pub returns-in-Call-clause-ready : goal.returns-in-Call-clause-ready
returns-in-Call-clause-ready c = ready_then c.args.image.now c.args.parts.now c.requires.ready c.call-called.new.stack c.call-called.result c.call-called.ensures.room

pub returns-in-Call-clause-arms : goal.returns-in-Call-clause-arms
returns-in-Call-clause-arms c =
    subst (λ (l : LinkSequel). HoldsOnLink c.args.image.now c.call-called.new.stack.rows.items c.args.r.now l) (sym c.settle.ensures)
    (arms_added c.args.image.now c.args.parts.now.stack.layout c.args.parts.now.stack.rows.items c.args.r.now c.call-called.new.stack.rows.items c.call-called.result
    (top_there c.args.image.now c.args.parts.now.stack.layout (ready_is_prepared c.args.image.now c.args.parts.now c.requires.ready) c.args.parts.now.stack.region.items c.args.parts.now.stack.rows.items c.args.r.now (can_stand c.args.image.now c.args.parts.now c.args.r.now c.requires.pauses) c.requires.ample) c.call-called.ensures.adds c.requires.arms)

pub returns-in-Call-clause-leads : goal.returns-in-Call-clause-leads
returns-in-Call-clause-leads c s m turns marks free q =
    subst (λ (l : LinkSequel). LinkedTo c.args.image.now c.call-called.new.stack.layout c.call-called.new.stack.region.items c.call-called.new.stack.rows.items c.args.r.now c.args.parts.now.started.items s
    (record m { turns = c.call-called.new.turns; begun = suc m.begun }) l) (sym c.settle.ensures)
    (linked_by c.args.image.now c.call-called.new.stack.layout c.call-called.new.stack.region.items c.call-called.new.stack.rows.items c.args.r.now c.args.parts.now.started.items c.args.parts.now.started.items s
    (record m { turns = c.call-called.new.turns; begun = suc m.begun }) c.call-called.result refl marks
    (c.call-called.ensures.leads c.args.image.now (ready_is_prepared c.args.image.now c.args.parts.now c.requires.ready) c.top_code-code.ensures s m turns (touches_shown c.args.image.now c.args.parts.now.stack.layout c.args.parts.now.stack.region.items c.args.parts.now.stack.rows.items c.args.r.now s m q)))

pub returns-in-Call-clause-ample : goal.returns-in-Call-clause-ample
returns-in-Call-clause-ample c =
    subst (λ (l : LinkSequel). IsAmpleForLink c.call-called.new.stack.layout c.call-called.new.stack.region.items c.call-called.new.stack.rows.items c.args.r.now l) (sym c.settle.ensures) c.call-called.ensures.room.ample

pub call_link-linked-requires-clause-prepared : goal.call_link-linked-requires-clause-prepared
call_link-linked-requires-clause-prepared c = ready_is_prepared c.args.image.now c.args.parts.now c.requires.ready

pub call_link-linked-requires-clause-stands : goal.call_link-linked-requires-clause-stands
call_link-linked-requires-clause-stands c = can_stand c.args.image.now c.args.parts.now c.args.r.now c.requires.pauses

pub call_link-linked-requires-clause-at : goal.call_link-linked-requires-clause-at
call_link-linked-requires-clause-at c = subst (λ i. StandsAt c.args.image.now c.args.parts.now.stack.rows.items c.args.r.now i) c.in-CallLink.is c.requires.at

pub returns-in-CallLink-clause-ready : goal.returns-in-CallLink-clause-ready
returns-in-CallLink-clause-ready c =
    ready_linked c.args.image.now c.args.parts.now c.requires.ready (with_items c.args.parts.now.started c.call_link-linked.new.started) (same_length c.args.parts.now.started c.call_link-linked.new.started)
    c.call_link-linked.new.stack c.args.r.now c.call_link-linked.result c.call_link-linked.ensures.room

pub returns-in-CallLink-clause-arms : goal.returns-in-CallLink-clause-arms
returns-in-CallLink-clause-arms c =
    subst (λ (l : LinkSequel). HoldsOnLink c.args.image.now c.call_link-linked.new.stack.rows.items c.args.r.now l) (sym c.settle_link.ensures)
    (arms_linked c.args.image.now c.args.parts.now.stack.layout c.args.parts.now.stack.rows.items c.args.r.now c.call_link-linked.new.stack.rows.items c.call_link-linked.result
    (top_there c.args.image.now c.args.parts.now.stack.layout (ready_is_prepared c.args.image.now c.args.parts.now c.requires.ready) c.args.parts.now.stack.region.items c.args.parts.now.stack.rows.items c.args.r.now (can_stand c.args.image.now c.args.parts.now c.args.r.now c.requires.pauses) c.requires.ample) c.call_link-linked.ensures.adds c.requires.arms)

pub returns-in-CallLink-clause-leads : goal.returns-in-CallLink-clause-leads
returns-in-CallLink-clause-leads c s m turns marks free q =
    let all = words_then c.args.parts.now.started c.call_link-linked.new.started (let a = c.call_link-linked.auto.started in let v = ap (λ (l : List Bool). length l) c.as_mut_slice-started.ensures.value in omega (arith, a, v)) in
    subst (λ (l : LinkSequel). LinkedTo c.args.image.now c.call_link-linked.new.stack.layout c.call_link-linked.new.stack.region.items c.call_link-linked.new.stack.rows.items c.args.r.now (with_items c.args.parts.now.started c.call_link-linked.new.started).items s
    (record m { turns = c.call_link-linked.new.turns; begun = suc m.begun }) l) (sym c.settle_link.ensures)
    (subst (λ (x : List Bool). LinkedTo c.args.image.now c.call_link-linked.new.stack.layout c.call_link-linked.new.stack.region.items c.call_link-linked.new.stack.rows.items c.args.r.now x s (record m { turns = c.call_link-linked.new.turns; begun = suc m.begun }) c.call_link-linked.result) (sym all)
    (c.call_link-linked.ensures.leads s m turns (subst (λ (x : List Bool). ShowsStarted x m.started) (sym c.as_mut_slice-started.ensures.value) marks) (touches_shown c.args.image.now c.args.parts.now.stack.layout c.args.parts.now.stack.region.items c.args.parts.now.stack.rows.items c.args.r.now s m q)))

pub returns-in-CallLink-clause-ample : goal.returns-in-CallLink-clause-ample
returns-in-CallLink-clause-ample c =
    subst (λ (l : LinkSequel). IsAmpleForLink c.call_link-linked.new.stack.layout c.call_link-linked.new.stack.region.items c.call_link-linked.new.stack.rows.items c.args.r.now l) (sym c.settle_link.ensures) c.call_link-linked.ensures.room.ample

pub give_back-returned-requires-clause-stands : goal.give_back-returned-requires-clause-stands
give_back-returned-requires-clause-stands c =
    stands_there c.args.image.now c.args.parts.now.stack.layout (ready_is_prepared c.args.image.now c.args.parts.now c.requires.ready) c.args.parts.now.stack.region.items c.args.parts.now.stack.rows.items c.args.r.now c.top_code-code-in-Return.result.now c.top_code-code-in-Return.ensures (can_stand c.args.image.now c.args.parts.now c.args.r.now c.requires.pauses)

pub give_back-returned-requires-clause-at : goal.give_back-returned-requires-clause-at
give_back-returned-requires-clause-at c = at_read c.args.image.now c.args.parts.now.stack.rows.items c.args.r.now Return (subst (λ i. StandsAt c.args.image.now c.args.parts.now.stack.rows.items c.args.r.now i) c.in-Return.is c.requires.at) c.top_code-code-in-Return.result.now c.top_code-code-in-Return.ensures

pub returns-in-Return-clause-ready : goal.returns-in-Return-clause-ready
returns-in-Return-clause-ready c = ready_then c.args.image.now c.args.parts.now c.requires.ready c.give_back-returned.new.stack c.give_back-returned.result c.give_back-returned.ensures.room

pub returns-in-Return-clause-arms : goal.returns-in-Return-clause-arms
returns-in-Return-clause-arms c =
    subst (λ (l : LinkSequel). HoldsOnLink c.args.image.now c.give_back-returned.new.stack.rows.items c.args.r.now l) (sym c.settle-in-Return.ensures)
    (subst (λ (t : List Row). HoldsOn c.args.image.now t c.give_back-returned.result) (sym (same_items c.give_back-returned.new.stack.rows c.args.parts.now.stack.rows c.give_back-returned.ensures.rows))
    (arms_below c.args.image.now c.args.parts.now.stack.rows.items c.args.r.now c.give_back-returned.result c.give_back-returned.ensures.below c.requires.arms))

pub returns-in-Return-clause-leads : goal.returns-in-Return-clause-leads
returns-in-Return-clause-leads c s m turns marks free q =
    subst (λ (l : LinkSequel). LinkedTo c.args.image.now c.give_back-returned.new.stack.layout c.give_back-returned.new.stack.region.items c.give_back-returned.new.stack.rows.items c.args.r.now c.args.parts.now.started.items s
    (record m { turns = c.args.turns.now; begun = suc m.begun }) l) (sym c.settle-in-Return.ensures)
    (linked_by c.args.image.now c.give_back-returned.new.stack.layout c.give_back-returned.new.stack.region.items c.give_back-returned.new.stack.rows.items c.args.r.now c.args.parts.now.started.items c.args.parts.now.started.items s
    (record m { turns = c.args.turns.now; begun = suc m.begun }) c.give_back-returned.result refl marks
    (subst (λ t. LeadsTo c.args.image.now c.give_back-returned.new.stack.layout c.give_back-returned.new.stack.region.items c.give_back-returned.new.stack.rows.items s (record m { turns = t; begun = suc m.begun }) c.give_back-returned.result) turns
    (c.give_back-returned.ensures.leads c.args.image.now (ready_is_prepared c.args.image.now c.args.parts.now c.requires.ready) c.top_code-code-in-Return.ensures s m free (touches_shown c.args.image.now c.args.parts.now.stack.layout c.args.parts.now.stack.region.items c.args.parts.now.stack.rows.items c.args.r.now s m q))))

pub returns-in-Return-clause-ample : goal.returns-in-Return-clause-ample
returns-in-Return-clause-ample c =
    subst (λ (l : LinkSequel). IsAmpleForLink c.give_back-returned.new.stack.layout c.give_back-returned.new.stack.region.items c.give_back-returned.new.stack.rows.items c.args.r.now l) (sym c.settle-in-Return.ensures) c.give_back-returned.ensures.room.ample

pub signal-sequel-requires-clause-stands : goal.signal-sequel-requires-clause-stands
signal-sequel-requires-clause-stands c = can_stand c.args.image.now c.args.parts.now c.args.r.now c.requires.pauses

pub signal-sequel-requires-clause-no_call : goal.signal-sequel-requires-clause-no_call
signal-sequel-requires-clause-no_call c = no_call c.args.instruction c.in_default.not-Call c.in_default.not-CallLink c.in_default.not-Return

pub returns-in_default-clause-leads : goal.returns-in_default-clause-leads
returns-in_default-clause-leads c s m turns marks free q =
    subst (λ (l : LinkSequel). LinkedTo c.args.image.now c.signal-sequel.new.parts.stack.layout c.signal-sequel.new.parts.stack.region.items c.signal-sequel.new.parts.stack.rows.items c.args.r.now c.signal-sequel.new.parts.started.items s
    (record m { turns = c.signal-sequel.new.turns; begun = suc m.begun }) l) (sym c.settle-in_default.ensures)
    (linked_by c.args.image.now c.signal-sequel.new.parts.stack.layout c.signal-sequel.new.parts.stack.region.items c.signal-sequel.new.parts.stack.rows.items c.args.r.now c.args.parts.now.started.items c.signal-sequel.new.parts.started.items s
    (record m { turns = c.signal-sequel.new.turns; begun = suc m.begun }) c.signal-sequel.result c.signal-sequel.ensures.marks marks
    (c.signal-sequel.ensures.leads s m turns free q))

pub returns-in_default-clause-ample : goal.returns-in_default-clause-ample
returns-in_default-clause-ample c =
    subst (λ (l : LinkSequel). IsAmpleForLink c.signal-sequel.new.parts.stack.layout c.signal-sequel.new.parts.stack.region.items c.signal-sequel.new.parts.stack.rows.items c.args.r.now l) (sym c.settle-in_default.ensures)
    (c.signal-sequel.ensures.ample)

pub returns-in_default-clause-arms : goal.returns-in_default-clause-arms
returns-in_default-clause-arms c =
    subst (λ (l : LinkSequel). HoldsOnLink c.args.image.now c.signal-sequel.new.parts.stack.rows.items c.args.r.now l) (sym c.settle-in_default.ensures)
    (c.signal-sequel.ensures.arms)
