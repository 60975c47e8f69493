use Rattle.std.proofs.Common.{◌*◌, ◌≤◌, length, Some}
use Rattle.machine_activations.specs.Calling.{LeadsTo}
use Rattle.machine_signals.proofs.ArriveCalls.{some_there, code_there, entries_in_order, owner_so, goes_so}
use Rattle.machine_signals.proofs.Arrived.{arrive_asked, place_within, owner_fits, room_there}
use Rattle.machine_signals.proofs.arriving.go_to.Goals as goal

pub row_of-row-requires : goal.row_of-row-requires
row_of-row-requires c = record { there = place_within c.args.image.now c.args.stack.now.layout c.requires.prepared c.args.stack.now.region.items c.args.stack.now.rows.items c.args.place c.requires.room.ample (Some c.args.offset) c.requires.arrives.start c.requires.arrives.store c.requires.arrives.arrives }

pub procedure_at-procedure-requires : goal.procedure_at-procedure-requires
procedure_at-procedure-requires c = some_there c.args.image.now c.args.stack.now.layout c.requires.prepared c.args.stack.now.rows.items c.args.place (arrive_asked c.args.image.now c.args.stack.now.layout c.requires.prepared c.args.stack.now.region.items c.args.stack.now.rows.items c.args.place c.requires.room.ample (Some c.args.offset) c.requires.arrives.start c.requires.arrives.store c.requires.arrives.arrives) c.row_of-row.result c.row_of-row.ensures

pub entry_at-entry-requires : goal.entry_at-entry-requires
entry_at-entry-requires c =
    entries_in_order c.args.image.now c.args.stack.now.layout c.requires.prepared c.args.stack.now.rows.items c.args.place (arrive_asked c.args.image.now c.args.stack.now.layout c.requires.prepared c.args.stack.now.region.items c.args.stack.now.rows.items c.args.place c.requires.room.ample (Some c.args.offset) c.requires.arrives.start c.requires.arrives.store c.requires.arrives.arrives) c.row_of-row.result c.row_of-row.ensures
    c.procedure_at-procedure.result.now c.procedure_at-procedure.ensures c.as_slice.result.now c.as_slice.ensures

pub empty_at-requires-clause-room : goal.empty_at-requires-clause-room
empty_at-requires-clause-room c = room_there c.args.image.now c.args.stack.now.layout c.requires.prepared c.args.stack.now.region.items c.args.stack.now.rows.items c.args.place c.requires.room.ample (Some c.args.offset) c.requires.arrives.start c.requires.arrives.store c.requires.arrives.arrives

pub empty_at-requires-clause-owner : goal.empty_at-requires-clause-owner
empty_at-requires-clause-owner c =
    owner_so c.args.image.now c.args.stack.now.layout c.requires.prepared c.args.stack.now.rows.items c.args.place (arrive_asked c.args.image.now c.args.stack.now.layout c.requires.prepared c.args.stack.now.region.items c.args.stack.now.rows.items c.args.place c.requires.room.ample (Some c.args.offset) c.requires.arrives.start c.requires.arrives.store c.requires.arrives.arrives) c.row_of-row.result c.row_of-row.ensures
    (λ o. o * c.args.stack.now.layout.part ≤ length c.args.stack.now.region.items) (owner_fits c.args.image.now c.args.stack.now.layout c.requires.prepared c.args.stack.now.region.items c.args.stack.now.rows.items c.args.place c.requires.room.ample (Some c.args.offset) c.requires.arrives.start c.requires.arrives.store c.requires.arrives.arrives)

pub returns-clause-leads : goal.returns-clause-leads
unfolding LeadsTo
returns-clause-leads c s m w =
    goes_so c.args.image.now c.args.stack.now.layout c.requires.prepared c.args.stack.now.region.items c.args.stack.now.rows.items c.args.place c.requires.room.ample c.args.offset s m w c.row_of-row.result c.row_of-row.ensures
    c.procedure_at-procedure.result.now c.procedure_at-procedure.ensures
    (c.requires.goal c.procedure_at-procedure.result.now (code_there c.args.image.now c.args.stack.now.layout c.requires.prepared c.args.stack.now.rows.items c.args.place (arrive_asked c.args.image.now c.args.stack.now.layout c.requires.prepared c.args.stack.now.region.items c.args.stack.now.rows.items c.args.place c.requires.room.ample (Some c.args.offset) c.requires.arrives.start c.requires.arrives.store c.requires.arrives.arrives) c.row_of-row.result c.row_of-row.ensures c.procedure_at-procedure.result.now c.procedure_at-procedure.ensures))
    c.as_slice.result.now c.as_slice.ensures c.entry_at-entry.result c.entry_at-entry.ensures c.empty_at.result c.empty_at.ensures
