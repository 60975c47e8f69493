use Rattle.machine_calls.proofs.LinkLeads.{procedure_waiting, entry_waiting, calls_waiting, reaches_waiting}
use Rattle.machine_calls.proofs.linking.call_again.Goals as goal

pub procedure_of-procedure-requires : goal.procedure_of-procedure-requires
procedure_of-procedure-requires c = procedure_waiting c.args.image.now c.args.stack.now.layout c.requires.prepared c.args.stack.now.region.items c.args.stack.now.rows.items c.args.r c.requires.waits.start c.requires.waits.store c.requires.waits.unstuck c.requires.waits.then c.row_of-row.result c.row_of-row.ensures

pub link_called-number-requires : goal.link_called-number-requires
link_called-number-requires c = entry_waiting c.args.image.now c.args.stack.now.layout c.requires.prepared c.args.stack.now.region.items c.args.stack.now.rows.items c.args.r c.requires.waits.start c.requires.waits.store c.requires.waits.unstuck c.requires.waits.then c.row_of-row.result c.row_of-row.ensures c.procedure_of-procedure.result.now c.procedure_of-procedure.ensures

pub call_bound-requires-clause-calls : goal.call_bound-requires-clause-calls
call_bound-requires-clause-calls c = calls_waiting c.args.image.now c.args.stack.now.layout c.requires.prepared c.args.stack.now.region.items c.args.stack.now.rows.items c.args.r c.requires.waits.start c.requires.waits.store c.requires.waits.unstuck c.requires.waits.then c.row_of-row.result c.row_of-row.ensures c.procedure_of-procedure.result.now c.procedure_of-procedure.ensures c.link_called-number.result c.link_called-number.ensures

pub returns-clause-leads : goal.returns-clause-leads
returns-clause-leads c s m turns marks unstuck then =
    c.call_bound.ensures.leads (calls_waiting c.args.image.now c.args.stack.now.layout c.requires.prepared c.args.stack.now.region.items c.args.stack.now.rows.items c.args.r s m unstuck then c.row_of-row.result c.row_of-row.ensures c.procedure_of-procedure.result.now c.procedure_of-procedure.ensures c.link_called-number.result c.link_called-number.ensures) s m turns marks (reaches_waiting c.args.image.now c.args.stack.now.layout c.requires.prepared c.args.stack.now.region.items c.args.stack.now.rows.items c.args.r s m unstuck then c.row_of-row.result c.row_of-row.ensures c.procedure_of-procedure.result.now c.procedure_of-procedure.ensures c.link_called-number.result c.link_called-number.ensures)
