use Rattle.std.proofs.Common.{suc, Some, ap, sym, subst, ◌∙◌, arith}
use Rattle.machine_rules.specs.declared.end.End.TheVariants.{Spent}
use Rattle.machine_rules.specs.State.{Ended}
use Rattle.machine_rules.specs.Steps.{Ends}
use Rattle.machine_activations.specs.declared.row.Row.{Row}
use Rattle.machine_activations.specs.Calling.{LeadsTo}
use Rattle.machine_activations.proofs.CallLeads.{call_spent, call_leads, fits, fits_there, enters_there}
use Rattle.machine_activations.proofs.Placing.{index_is, index_within, row_instance}
use Rattle.machine_activations.proofs.Standing.{low}
use Rattle.machine_activations.proofs.calling.call.Goals as goal

pub returns-then-turns-eq0-clause-leads : goal.returns-then-turns-eq0-clause-leads
unfolding LeadsTo
returns-then-turns-eq0-clause-leads c image prepared is s m turns shown =
    subst (λ t. Ends image s (Ended Spent) (record m { begun = suc m.begun; turns = t })) turns
    (call_spent image c.args.stack.now.layout prepared c.args.stack.now.region.items c.args.stack.now.rows.items c.args.r shown.procedure shown.top shown.rest shown.shows c.args.code.now is c.args.number c.requires.at
    s m shown.reaches (turns ∙ c.if-turns-eq0.true))

pub bounds-as_slice-number : goal.bounds-as_slice-number
bounds-as_slice-number c =
    let f = fits_there c.args.stack.now.layout c.args.code.now c.args.stack.now.region.items c.args.stack.now.rows.items c.args.r c.args.number c.requires.stands c.requires.at in
    index_within c.as_slice.result.now c.args.code.now.procedures c.args.number f.0 c.as_slice.ensures f.1

pub row_of-instance-requires : goal.row_of-instance-requires
row_of-instance-requires c =
    let h = (c.requires.stands).shown in
    let l = low (c.requires.stands).image c.args.stack.now.layout (c.requires.stands).prepared c.args.stack.now.region.items c.args.stack.now.rows.items c.args.r h.procedure h.top h.rest h.shows c.requires.room.ample in
    let long = c.requires.room.ample.long in record { there = omega (arith, l, long) }

pub add_frame-requires-clause-enters : goal.add_frame-requires-clause-enters
add_frame-requires-clause-enters c =
    let f = fits_there c.args.stack.now.layout c.args.code.now c.args.stack.now.region.items c.args.stack.now.rows.items c.args.r c.args.number c.requires.stands c.requires.at in
    let same = index_is c.as_slice.result.now c.args.code.now.procedures c.args.number f.0 c.index-as_slice-number.result c.as_slice.ensures f.1 c.index-as_slice-number.is in
    enters_there c.args.stack.now.layout c.args.code.now c.args.stack.now.region.items c.args.stack.now.rows.items c.args.r c.args.number c.requires.stands c.requires.at
    c.index-as_slice-number.result c.row_of-instance.result.instance (f.1 ∙ ap Some (sym same)) (ap (λ (row : Row). row.instance) c.row_of-instance.ensures)

pub returns-clause-leads : goal.returns-clause-leads
returns-clause-leads c image prepared is s m turns shown =
    let f = fits image c.args.stack.now.layout prepared c.args.stack.now.region.items c.args.stack.now.rows.items c.args.r shown.procedure shown.top shown.rest shown.shows c.args.code.now is c.args.number c.requires.at in
    call_leads image c.args.stack.now.layout prepared c.args.stack.now.region.items c.args.stack.now.rows.items c.args.r shown.procedure shown.top shown.rest shown.shows c.args.code.now is c.args.number c.requires.at
    s m shown.reaches c.index-as_slice-number.result c.row_of-instance.result.instance c.args.turns.now c.add_frame.new.stack.layout c.add_frame.new.stack.region.items c.add_frame.new.stack.rows.items c.add_frame.result
    (index_is c.as_slice.result.now c.args.code.now.procedures c.args.number f.called c.index-as_slice-number.result c.as_slice.ensures f.there c.index-as_slice-number.is)
    (ap (λ (row : Row). row.instance) c.row_of-instance.ensures
    ∙ row_instance image c.args.stack.now.layout prepared c.args.stack.now.region.items c.args.stack.now.rows.items c.args.r shown.procedure shown.top shown.rest shown.shows c.args.code.now is)
    turns c.if-turns-eq0.false (λ e s n reaches. c.add_frame.ensures.leads image prepared e s n reaches)
