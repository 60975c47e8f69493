use Rattle.std.proofs.Common.{true}
use Rattle.code_forms.proofs.Ordered.{blank}
use Rattle.machine_signals.proofs.Asks.{phrases_fill, table_there, offset_inside, innermost_within, innermost_there, begins_so, asks_so}
use Rattle.machine_signals.proofs.asking.around.Goals as goal

pub bounds-as_slice-row-2 : goal.bounds-as_slice-row-2
bounds-as_slice-row-2 c =
    innermost_within c.args.image.now c.args.layout c.requires.tables.prepared c.args.row c.requires.read c.procedure_at-procedure.result.now c.procedure_at-procedure.ensures
    c.as_slice.result.now c.as_slice.ensures blank c.plan_of-plan.result.now c.plan_of-plan.ensures c.as_slice-2.result.now c.as_slice-2.ensures

pub search_about-requires-clause-phrases : goal.search_about-requires-clause-phrases
search_about-requires-clause-phrases c =
    phrases_fill c.args.image.now c.args.layout c.requires.tables.prepared c.args.row c.requires.read c.procedure_at-procedure.result.now c.procedure_at-procedure.ensures

pub search_about-requires-clause-innermost : goal.search_about-requires-clause-innermost
search_about-requires-clause-innermost c =
    innermost_there c.args.image.now c.args.layout c.requires.tables.prepared c.args.row c.requires.read c.procedure_at-procedure.result.now c.procedure_at-procedure.ensures
    c.as_slice.result.now c.as_slice.ensures blank c.plan_of-plan.result.now c.plan_of-plan.ensures c.as_slice-2.result.now c.as_slice-2.ensures _

pub search_about-requires-clause-few : goal.search_about-requires-clause-few
search_about-requires-clause-few c =
    (table_there c.args.image.now c.args.layout c.requires.tables.prepared c.args.row c.requires.read c.procedure_at-procedure.result.now c.procedure_at-procedure.ensures).few

pub search_about-requires-clause-inside : goal.search_about-requires-clause-inside
search_about-requires-clause-inside c =
    offset_inside c.args.image.now c.args.layout c.requires.tables.prepared c.args.row c.requires.read c.procedure_at-procedure.result.now c.procedure_at-procedure.ensures
    c.as_slice.result.now c.as_slice.ensures blank

pub returns-clause-begins : goal.returns-clause-begins
returns-clause-begins c =
    begins_so c.args.image.now c.args.layout c.requires.tables.prepared c.args.row c.requires.read c.procedure_at-procedure.result.now c.procedure_at-procedure.ensures
    c.as_slice.result.now c.as_slice.ensures blank true c.search_about.result c.search_about.ensures

pub returns-clause-asks : goal.returns-clause-asks
returns-clause-asks c =
    asks_so c.args.image.now c.args.layout c.requires.tables.prepared c.args.row c.requires.read c.procedure_at-procedure.result.now c.procedure_at-procedure.ensures
    c.as_slice.result.now c.as_slice.ensures blank true c.search_about.result c.search_about.ensures
