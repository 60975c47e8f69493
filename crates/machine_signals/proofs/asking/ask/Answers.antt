use Rattle.std.proofs.Common.{rules}
use Rattle.machine_rules.specs.LookUps.{links_of}
use Rattle.machine_signals.proofs.Asks.{none_left, table_there, links_within, answer_is}
use Rattle.machine_signals.proofs.asking.ask.Goals as goal

pub bounds-as_slice-row : goal.bounds-as_slice-row
bounds-as_slice-row c =
    links_within c.args.image.now c.args.layout c.requires.tables.prepared c.args.row c.requires.read c.procedure_at-procedure.result.now c.procedure_at-procedure.ensures
    c.args.tables.now.links c.requires.tables.links c.as_slice.result.now c.as_slice.ensures

pub next_arm-requires-clause-table : goal.next_arm-requires-clause-table
next_arm-requires-clause-table c =
    table_there c.args.image.now c.args.layout c.requires.tables.prepared c.args.row c.requires.read c.procedure_at-procedure.result.now c.procedure_at-procedure.ensures

pub returns : goal.returns
returns c =
    answer_is c.args.image.now c.args.layout c.requires.tables.prepared c.args.row c.requires.read c.procedure_at-procedure.result.now c.procedure_at-procedure.ensures
    c.args.tables.now.links c.requires.tables.links c.as_slice.result.now c.as_slice.ensures c.index-as_slice-row.result c.index-as_slice-row.is c.args.search c.args.signal c.next_arm.result c.next_arm.ensures

pub returns-then-is_none : goal.returns-then-is_none
returns-then-is_none c = λ p is. none_left p.phrases c.args.search (links_of c.args.image.now c.args.row.instance) c.args.signal (search rules)
