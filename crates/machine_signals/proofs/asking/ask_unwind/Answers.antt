use Rattle.machine_signals.proofs.Asks.{table_there, unwind_is}
use Rattle.machine_signals.proofs.asking.ask_unwind.Goals as goal

pub unwind_next-requires-clause-table : goal.unwind_next-requires-clause-table
unwind_next-requires-clause-table c =
    table_there c.args.image.now c.args.layout c.requires.prepared c.args.row c.requires.read c.procedure_at-procedure.result.now c.procedure_at-procedure.ensures

pub returns : goal.returns
returns c =
    unwind_is c.args.image.now c.args.layout c.requires.prepared c.args.row c.requires.read c.procedure_at-procedure.result.now c.procedure_at-procedure.ensures
    c.args.search c.unwind_next.result c.unwind_next.ensures
