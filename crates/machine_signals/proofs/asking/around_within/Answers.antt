use Rattle.std.proofs.Common.{false, refl, arith}
use Rattle.code_forms.proofs.Ordered.{blank}
use Rattle.machine_signals.proofs.Asks.{begins_so, asks_so, innermost_within, innermost_there, innermost_begins}
use Rattle.machine_signals.proofs.asking.around_within.Goals as goal

pub offset_bounds-as_slice-row : goal.offset_bounds-as_slice-row
offset_bounds-as_slice-row c =
    let within = innermost_within c.args.image.now c.args.layout c.requires.tables.prepared c.args.row c.requires.read c.requires.read.procedure c.requires.read.is
    c.requires.read.procedure.code refl blank c.plan_of-plan.result.now c.plan_of-plan.ensures c.as_slice.result.now c.as_slice.ensures in
    let small = c.as_slice.type_inv.1 in omega (arith, within, small)

pub bounds-as_slice-row : goal.bounds-as_slice-row
bounds-as_slice-row c =
    innermost_within c.args.image.now c.args.layout c.requires.tables.prepared c.args.row c.requires.read c.requires.read.procedure c.requires.read.is
    c.requires.read.procedure.code refl blank c.plan_of-plan.result.now c.plan_of-plan.ensures c.as_slice.result.now c.as_slice.ensures

pub returns-clause-begins : goal.returns-clause-begins
returns-clause-begins c =
    let there = innermost_there c.args.image.now c.args.layout c.requires.tables.prepared c.args.row c.requires.read c.requires.read.procedure c.requires.read.is
    c.requires.read.procedure.code refl blank c.plan_of-plan.result.now c.plan_of-plan.ensures c.as_slice.result.now c.as_slice.ensures _ in
    begins_so c.args.image.now c.args.layout c.requires.tables.prepared c.args.row c.requires.read c.requires.read.procedure c.requires.read.is
    c.requires.read.procedure.code refl blank false _
    (innermost_begins c.args.image.now c.args.layout c.requires.tables.prepared c.args.row c.requires.read c.requires.read.procedure c.requires.read.is
    c.requires.read.procedure.code refl blank _ there)

pub returns-clause-asks : goal.returns-clause-asks
returns-clause-asks c =
    let there = innermost_there c.args.image.now c.args.layout c.requires.tables.prepared c.args.row c.requires.read c.requires.read.procedure c.requires.read.is
    c.requires.read.procedure.code refl blank c.plan_of-plan.result.now c.plan_of-plan.ensures c.as_slice.result.now c.as_slice.ensures _ in
    asks_so c.args.image.now c.args.layout c.requires.tables.prepared c.args.row c.requires.read c.requires.read.procedure c.requires.read.is
    c.requires.read.procedure.code refl blank false _
    (innermost_begins c.args.image.now c.args.layout c.requires.tables.prepared c.args.row c.requires.read c.requires.read.procedure c.requires.read.is
    c.requires.read.procedure.code refl blank _ there)
