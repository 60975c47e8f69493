use Rattle.std.proofs.Common.{◌+◌, ◌*◌, None, ap, arith}
use Rattle.machine_activations.specs.Calling.{LeadsTo}
use Rattle.machine_signals.proofs.ArriveCalls.{some_there, source_so, room_so, returns_so, pending_room_so, pending_so}
use Rattle.machine_signals.proofs.Arrived.{arrive_asked, place_within, return_empty}
use Rattle.machine_signals.proofs.arriving.return_from.Goals as goal

pub returns-then-place-eq0-clause-leads : goal.returns-then-place-eq0-clause-leads
unfolding LeadsTo
returns-then-place-eq0-clause-leads c s m unstuck w = return_empty c.args.image.now c.args.stack.now.layout c.requires.prepared c.args.stack.now.region.items c.args.stack.now.rows.items c.args.place c.requires.room.ample s m unstuck w c.if-place-eq0.true

pub row_of-row-requires : goal.row_of-row-requires
row_of-row-requires c = record { there = place_within c.args.image.now c.args.stack.now.layout c.requires.prepared c.args.stack.now.region.items c.args.stack.now.rows.items c.args.place c.requires.room.ample None c.requires.arrives.start c.requires.arrives.store c.requires.arrives.arrives }

pub procedure_at-procedure-requires : goal.procedure_at-procedure-requires
procedure_at-procedure-requires c = some_there c.args.image.now c.args.stack.now.layout c.requires.prepared c.args.stack.now.rows.items c.args.place (arrive_asked c.args.image.now c.args.stack.now.layout c.requires.prepared c.args.stack.now.region.items c.args.stack.now.rows.items c.args.place c.requires.room.ample None c.requires.arrives.start c.requires.arrives.store c.requires.arrives.arrives) c.row_of-row.result c.row_of-row.ensures

pub overflow_add-from : goal.overflow_add-from
overflow_add-from c =
    let source = source_so c.args.image.now c.args.stack.now.layout c.requires.prepared c.args.stack.now.region.items c.args.stack.now.rows.items c.args.place c.requires.room.ample c.requires.arrives.start c.requires.arrives.store c.requires.arrives.unstuck c.requires.arrives.arrives c.row_of-row.result c.row_of-row.ensures c.procedure_at-procedure.result.now c.procedure_at-procedure.ensures in let args = c.from.ensures in omega (arith, source, args)

pub row_of-below-requires : goal.row_of-below-requires
row_of-below-requires c = let l = place_within c.args.image.now c.args.stack.now.layout c.requires.prepared c.args.stack.now.region.items c.args.stack.now.rows.items c.args.place c.requires.room.ample None c.requires.arrives.start c.requires.arrives.store c.requires.arrives.arrives in record { there = omega (arith, l) }

pub give-requires-clause-source : goal.give-requires-clause-source
give-requires-clause-source c =
    let source = source_so c.args.image.now c.args.stack.now.layout c.requires.prepared c.args.stack.now.region.items c.args.stack.now.rows.items c.args.place c.requires.room.ample c.requires.arrives.start c.requires.arrives.store c.requires.arrives.unstuck c.requires.arrives.arrives c.row_of-row.result c.row_of-row.ensures c.procedure_at-procedure.result.now c.procedure_at-procedure.ensures in let args = c.from.ensures in omega (arith, source, args)

pub give-requires-clause-room : goal.give-requires-clause-room
give-requires-clause-room c =
    (pending_room_so c.args.image.now c.args.stack.now.layout c.requires.prepared c.args.stack.now.region.items c.args.stack.now.rows.items c.args.place c.requires.room.ample c.requires.arrives.start c.requires.arrives.store c.requires.arrives.unstuck c.requires.arrives.arrives c.row_of-row.result c.row_of-row.ensures c.procedure_at-procedure.result.now c.procedure_at-procedure.ensures c.if-place-eq0.false c.row_of-below.result c.row_of-below.ensures c.if-row-eq0.true).room

pub give-requires-clause-owner : goal.give-requires-clause-owner
give-requires-clause-owner c =
    (pending_room_so c.args.image.now c.args.stack.now.layout c.requires.prepared c.args.stack.now.region.items c.args.stack.now.rows.items c.args.place c.requires.room.ample c.requires.arrives.start c.requires.arrives.store c.requires.arrives.unstuck c.requires.arrives.arrives c.row_of-row.result c.row_of-row.ensures c.procedure_at-procedure.result.now c.procedure_at-procedure.ensures c.if-place-eq0.false c.row_of-below.result c.row_of-below.ensures c.if-row-eq0.true).owner_fits

pub returns-then-row-eq0-clause-leads : goal.returns-then-row-eq0-clause-leads
unfolding LeadsTo
returns-then-row-eq0-clause-leads c s m unstuck w =
    pending_so c.args.image.now c.args.stack.now.layout c.requires.prepared c.args.stack.now.region.items c.args.stack.now.rows.items c.args.place c.requires.room.ample s m unstuck w c.row_of-row.result c.row_of-row.ensures c.procedure_at-procedure.result.now c.procedure_at-procedure.ensures c.if-place-eq0.false c.row_of-below.result c.row_of-below.ensures c.if-row-eq0.true
    (c.args.place * c.args.stack.now.layout.part + c.from.result) c.give.new.region.items c.give.result c.give.ensures.words c.give.ensures.registers

pub overflow_add-below : goal.overflow_add-below
overflow_add-below c =
    let entry = (room_so c.args.image.now c.args.stack.now.layout c.requires.prepared c.args.stack.now.region.items c.args.stack.now.rows.items c.args.place c.requires.room.ample c.requires.arrives.start c.requires.arrives.store c.requires.arrives.unstuck c.requires.arrives.arrives c.row_of-row.result c.row_of-row.ensures c.procedure_at-procedure.result.now c.procedure_at-procedure.ensures c.if-place-eq0.false c.row_of-below.result c.row_of-below.ensures c.if-row-eq0.false).entry in omega (arith, entry)

pub give-requires-2-clause-source : goal.give-requires-2-clause-source
give-requires-2-clause-source c =
    let source = source_so c.args.image.now c.args.stack.now.layout c.requires.prepared c.args.stack.now.region.items c.args.stack.now.rows.items c.args.place c.requires.room.ample c.requires.arrives.start c.requires.arrives.store c.requires.arrives.unstuck c.requires.arrives.arrives c.row_of-row.result c.row_of-row.ensures c.procedure_at-procedure.result.now c.procedure_at-procedure.ensures in let args = c.from.ensures in let results = c.from-results.ensures in omega (arith, source, args, results)

pub give-requires-2-clause-room : goal.give-requires-2-clause-room
give-requires-2-clause-room c =
    let room = (room_so c.args.image.now c.args.stack.now.layout c.requires.prepared c.args.stack.now.region.items c.args.stack.now.rows.items c.args.place c.requires.room.ample c.requires.arrives.start c.requires.arrives.store c.requires.arrives.unstuck c.requires.arrives.arrives c.row_of-row.result c.row_of-row.ensures c.procedure_at-procedure.result.now c.procedure_at-procedure.ensures c.if-place-eq0.false c.row_of-below.result c.row_of-below.ensures c.if-row-eq0.false).room in let results = c.from-results.ensures in omega (arith, room, results)

pub give-requires-2-clause-owner : goal.give-requires-2-clause-owner
give-requires-2-clause-owner c =
    (room_so c.args.image.now c.args.stack.now.layout c.requires.prepared c.args.stack.now.region.items c.args.stack.now.rows.items c.args.place c.requires.room.ample c.requires.arrives.start c.requires.arrives.store c.requires.arrives.unstuck c.requires.arrives.arrives c.row_of-row.result c.row_of-row.ensures c.procedure_at-procedure.result.now c.procedure_at-procedure.ensures c.if-place-eq0.false c.row_of-below.result c.row_of-below.ensures c.if-row-eq0.false).owner_fits

pub returns-clause-leads : goal.returns-clause-leads
unfolding LeadsTo
returns-clause-leads c s m unstuck w =
    returns_so c.args.image.now c.args.stack.now.layout c.requires.prepared c.args.stack.now.region.items c.args.stack.now.rows.items c.args.place c.requires.room.ample s m unstuck w c.row_of-row.result c.row_of-row.ensures c.procedure_at-procedure.result.now c.procedure_at-procedure.ensures c.if-place-eq0.false c.row_of-below.result c.row_of-below.ensures c.if-row-eq0.false
    _ c.from-results.result (ap (λ k. c.args.place * c.args.stack.now.layout.part + k) c.from.ensures) c.from-results.ensures c.give-2.new.region.items c.give-2.result c.give-2.ensures.words c.give-2.ensures.registers
