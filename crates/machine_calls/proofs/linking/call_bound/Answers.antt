use Rattle.std.proofs.Common.{sym, subst, ◌∙◌, ◌<◌}
use Rattle.machine_calls.proofs.LinkGoes.{bound_there, host_some, host_linked, target_some, instance_there, target_enters, body_enters, call_linked, start_linked}
use Rattle.machine_calls.proofs.linking.call_bound.Goals as goal

pub bound_to-requires : goal.bound_to-requires
bound_to-requires c = bound_there c.args.image.now c.args.stack.now.layout c.requires.prepared c.args.stack.now.region.items c.args.stack.now.rows.items c.args.r c.args.number c.requires.calls c.row_of-caller.result c.row_of-caller.ensures

pub host_of-requires : goal.host_of-requires
host_of-requires c = host_some c.args.image.now c.args.stack.now.layout c.requires.prepared c.args.stack.now.region.items c.args.stack.now.rows.items c.args.r c.args.number c.requires.calls c.row_of-caller.result c.row_of-caller.ensures c.bound_to.result c.bound_to.ensures c.in-Wanted.wanted c.in-Wanted.is

pub is_started-requires : goal.is_started-requires
is_started-requires c =
    record { there = subst (λ n. c.in-To.instance < n) (sym c.requires.marks) (instance_there c.args.image.now c.args.stack.now.layout c.requires.prepared c.args.stack.now.region.items c.args.stack.now.rows.items c.args.r c.args.number c.requires.calls c.row_of-caller.result c.row_of-caller.ensures c.bound_to.result c.bound_to.ensures c.in-To.instance c.in-To.number c.in-To.is) }

pub procedure_of-called-requires : goal.procedure_of-called-requires
procedure_of-called-requires c = target_some c.args.image.now c.args.stack.now.layout c.requires.prepared c.args.stack.now.region.items c.args.stack.now.rows.items c.args.r c.args.number c.requires.calls c.row_of-caller.result c.row_of-caller.ensures c.bound_to.result c.bound_to.ensures c.in-To.instance c.in-To.number c.in-To.is

pub add_frame-requires-clause-enters : goal.add_frame-requires-clause-enters
add_frame-requires-clause-enters c = record {
  image = c.args.image.now;
  prepared = c.requires.prepared;
  enters = target_enters c.args.image.now c.args.stack.now.layout c.requires.prepared c.args.stack.now.region.items c.args.stack.now.rows.items c.args.r c.args.number c.requires.calls c.row_of-caller.result c.row_of-caller.ensures c.bound_to.result c.bound_to.ensures c.in-To.instance c.in-To.number c.in-To.is c.procedure_of-called.result.now c.procedure_of-called.ensures;
}

pub returns-then-is_started-clause-leads : goal.returns-then-is_started-clause-leads
returns-then-is_started-clause-leads c e s m turns shown reaches =
    call_linked c.args.image.now c.args.stack.now.layout c.requires.prepared c.args.stack.now.region.items c.args.stack.now.rows.items c.args.r c.args.number e c.row_of-caller.result c.row_of-caller.ensures c.bound_to.result c.bound_to.ensures c.in-To.instance c.in-To.number c.in-To.is c.args.started.now
    (subst (λ n. c.in-To.instance < n) (sym c.requires.marks) (instance_there c.args.image.now c.args.stack.now.layout c.requires.prepared c.args.stack.now.region.items c.args.stack.now.rows.items c.args.r c.args.number c.requires.calls c.row_of-caller.result c.row_of-caller.ensures c.bound_to.result c.bound_to.ensures c.in-To.instance c.in-To.number c.in-To.is))
    (sym c.is_started.ensures ∙ c.if-is_started.true) c.procedure_of-called.result.now c.procedure_of-called.ensures
    c.add_frame.new.stack.layout c.add_frame.new.stack.region.items c.add_frame.new.stack.rows.items c.add_frame.result (λ e s m reaches. c.add_frame.ensures.leads c.args.image.now c.requires.prepared e s m reaches)
    s m c.args.turns.now turns shown reaches

pub bounds-started-instance : goal.bounds-started-instance
bounds-started-instance c = subst (λ n. c.in-To.instance < n) (sym c.requires.marks) (instance_there c.args.image.now c.args.stack.now.layout c.requires.prepared c.args.stack.now.region.items c.args.stack.now.rows.items c.args.r c.args.number c.requires.calls c.row_of-caller.result c.row_of-caller.ensures c.bound_to.result c.bound_to.ensures c.in-To.instance c.in-To.number c.in-To.is)

pub start_first-requires-clause-enters : goal.start_first-requires-clause-enters
start_first-requires-clause-enters c = body_enters c.args.image.now c.args.stack.now.layout c.requires.prepared c.args.stack.now.region.items c.args.stack.now.rows.items c.args.r c.args.number c.requires.calls c.row_of-caller.result c.row_of-caller.ensures c.bound_to.result c.bound_to.ensures c.in-To.instance c.in-To.number c.in-To.is

pub returns-in-Wanted-clause-leads : goal.returns-in-Wanted-clause-leads
returns-in-Wanted-clause-leads c e s m turns shown reaches =
    host_linked c.args.image.now c.args.stack.now.layout c.requires.prepared c.args.stack.now.region.items c.args.stack.now.rows.items c.args.r c.args.number e c.row_of-caller.result c.row_of-caller.ensures c.bound_to.result c.bound_to.ensures c.in-Wanted.wanted c.in-Wanted.is c.host_of.result c.host_of.ensures c.args.started.now s m c.args.turns.now turns shown reaches

pub returns-else-is_started-clause-leads : goal.returns-else-is_started-clause-leads
returns-else-is_started-clause-leads c e s m turns shown reaches =
    start_linked c.args.image.now c.args.stack.now.layout c.requires.prepared c.args.stack.now.region.items c.args.stack.now.rows.items c.args.r c.args.number e c.row_of-caller.result c.row_of-caller.ensures c.bound_to.result c.bound_to.ensures c.in-To.instance c.in-To.number c.in-To.is c.args.started.now
    (subst (λ n. c.in-To.instance < n) (sym c.requires.marks) (instance_there c.args.image.now c.args.stack.now.layout c.requires.prepared c.args.stack.now.region.items c.args.stack.now.rows.items c.args.r c.args.number c.requires.calls c.row_of-caller.result c.row_of-caller.ensures c.bound_to.result c.bound_to.ensures c.in-To.instance c.in-To.number c.in-To.is))
    (sym c.is_started.ensures ∙ c.if-is_started.false)
    c.start_first.new.stack.layout c.start_first.new.stack.region.items c.start_first.new.stack.rows.items c.start_first.result c.args.turns.now c.start_first.new.turns c.start_first.ensures.leads
    s m turns shown reaches
