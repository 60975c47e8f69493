use Rattle.std.proofs.Common.{◌-◌, refl, ap, sym, subst, ◌∙◌, arith}
use Rattle.machine_rules.specs.declared.end.End.TheVariants.{Spent, FrameLimit}
use Rattle.machine_rules.specs.State.{Ended}
use Rattle.machine_rules.specs.Steps.{Ends}
use Rattle.machine_activations.specs.Calling.{LeadsTo}
use Rattle.machine_signals.specs.Arms.{taken}
use Rattle.machine_signals.proofs.ArmCalls.{procedure_there, opening_within, params_there, arm_goes, place_small}
use Rattle.machine_signals.proofs.ArmLeads.{arm_spent, arm_full}
use Rattle.machine_signals.proofs.entering.enter_arm.Goals as goal

pub returns-then-turns-eq0-clause-leads : goal.returns-then-turns-eq0-clause-leads
unfolding LeadsTo
returns-then-turns-eq0-clause-leads c s m turns w =
    subst (λ t. Ends c.args.image.now s (Ended Spent) (record m { turns = t })) turns
    (arm_spent c.args.image.now c.args.stack.now.layout c.requires.tables.prepared c.args.stack.now.region.items c.args.stack.now.rows.items c.args.top c.args.run.place c.args.run.arm c.args.run.reason c.args.run.from c.args.run.count s m w
    (turns ∙ c.if-turns-eq0.true))

pub overflow_add-top : goal.overflow_add-top
overflow_add-top c =
    let small = place_small c.args.image.now c.args.stack.now.layout c.args.stack.now.region.items c.args.stack.now.rows.items c.args.top c.args.run.place c.args.run.arm c.args.run.reason c.args.run.from c.args.run.count c.requires.room.ample
    c.requires.enters.start c.requires.enters.store c.requires.enters.awaits in omega (arith, small)

pub returns-then-top-ge-ACTIVATIONS-clause-leads : goal.returns-then-top-ge-ACTIVATIONS-clause-leads
unfolding LeadsTo
returns-then-top-ge-ACTIVATIONS-clause-leads c s m turns w =
    subst (λ t. Ends c.args.image.now s (Ended FrameLimit) (record m { turns = t - 1 })) turns
    (arm_full c.args.image.now c.args.stack.now.layout c.requires.tables.prepared c.args.stack.now.region.items c.args.stack.now.rows.items c.args.top c.args.run.place c.args.run.arm c.args.run.reason c.args.run.from c.args.run.count s m w
    (λ none. c.if-turns-eq0.false (sym turns ∙ none)) c.if-top-ge-ACTIVATIONS.true)

pub plan_of-plan-requires-clause-there : goal.plan_of-plan-requires-clause-there
plan_of-plan-requires-clause-there c =
    procedure_there c.args.image.now c.args.stack.now.layout c.requires.tables.prepared c.args.stack.now.region.items c.args.stack.now.rows.items c.args.top c.args.run.place c.args.run.arm c.args.run.reason c.args.run.from c.args.run.count c.requires.room.ample
    c.requires.enters.start c.requires.enters.store c.requires.enters.awaits c.row_of-holder.result c.row_of-holder.ensures

pub bounds-as_slice-run : goal.bounds-as_slice-run
bounds-as_slice-run c =
    opening_within c.args.image.now c.args.stack.now.layout c.requires.tables.prepared c.args.stack.now.region.items c.args.stack.now.rows.items c.args.top c.args.run.place c.args.run.arm c.args.run.reason c.args.run.from c.args.run.count c.requires.room.ample
    c.requires.enters.start c.requires.enters.store c.requires.enters.awaits c.row_of-holder.result c.row_of-holder.ensures
    c.plan_of-plan.result.now c.plan_of-plan.ensures c.as_slice.result.now c.as_slice.ensures

pub put_params-requires-clause-params : goal.put_params-requires-clause-params
put_params-requires-clause-params c =
    params_there c.args.image.now c.args.stack.now.layout c.requires.tables.prepared c.args.stack.now.region.items c.args.stack.now.rows.items c.args.top c.args.run.place c.args.run.arm c.args.run.reason c.args.run.from c.args.run.count c.requires.room.ample
    c.requires.enters.start c.requires.enters.store c.requires.enters.awaits c.row_of-holder.result c.row_of-holder.ensures
    c.plan_of-plan.result.now c.plan_of-plan.ensures c.as_slice.result.now c.as_slice.ensures _
    c.owner_of-owner.result c.from-slot.result c.taken-words.result c.owner_of-owner.ensures c.from-slot.ensures (c.taken-words.ensures ∙ ap (λ n. taken c.args.run.count n) c.from.ensures)
    c.make_room.new.region.items c.make_room.ensures.words

pub opened-requires-clause-owner : goal.opened-requires-clause-owner
opened-requires-clause-owner c =
    let fits = params_there c.args.image.now c.args.stack.now.layout c.requires.tables.prepared c.args.stack.now.region.items c.args.stack.now.rows.items c.args.top c.args.run.place c.args.run.arm c.args.run.reason c.args.run.from c.args.run.count c.requires.room.ample
    c.requires.enters.start c.requires.enters.store c.requires.enters.awaits c.row_of-holder.result c.row_of-holder.ensures
    c.plan_of-plan.result.now c.plan_of-plan.ensures c.as_slice.result.now c.as_slice.ensures _
    c.owner_of-owner.result c.from-slot.result c.taken-words.result c.owner_of-owner.ensures c.from-slot.ensures (c.taken-words.ensures ∙ ap (λ n. taken c.args.run.count n) c.from.ensures)
    c.make_room.new.region.items c.make_room.ensures.words in
    let long = c.put_params.ensures.long in omega (arith, fits, long)

pub returns-clause-leads : goal.returns-clause-leads
unfolding LeadsTo
returns-clause-leads c s m turns w =
    arm_goes c.args.image.now c.args.stack.now.layout c.requires.tables.prepared c.args.stack.now.region.items c.args.stack.now.rows.items c.args.top c.args.run.place c.args.run.arm c.args.run.reason c.args.run.from c.args.run.count c.requires.room.ample
    s m w c.row_of-holder.result c.row_of-holder.ensures
    c.plan_of-plan.result.now c.plan_of-plan.ensures c.as_slice.result.now c.as_slice.ensures _
    c.owner_of-owner.result c.from-slot.result c.taken-words.result c.owner_of-owner.ensures c.from-slot.ensures (c.taken-words.ensures ∙ ap (λ n. taken c.args.run.count n) c.from.ensures)
    _ refl
    c.make_room.new.region.items c.put_params.new.region.items c.make_room.ensures.words
    _ c.opened.result c.put_params.ensures.region refl c.opened.ensures
    c.args.turns.now turns c.if-turns-eq0.false c.if-top-ge-ACTIVATIONS.false
