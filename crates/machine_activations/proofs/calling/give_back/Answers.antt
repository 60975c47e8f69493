use Rattle.std.proofs.Common.{◌≢◌, ◌+◌, ◌-◌, ◌*◌, ◌≤◌, length, ap, sym, subst, ◌∙◌, arith}
use Rattle.std.specs.Prelude.{slice_get}
use Rattle.code_forms.specs.declared.module_code.CodeProcedure.{CodeProcedure}
use Rattle.machine_activations.specs.declared.row.Row.{Row}
use Rattle.machine_activations.specs.Calling.{LeadsTo}
use Rattle.machine_activations.specs.Frames.{row_at, owner_place}
use Rattle.machine_activations.proofs.BackLeads.{there, runs_back, top_low, leads_empty, leads_back, leads_pending}
use Rattle.machine_activations.proofs.Placing.{index_is, index_within}
use Rattle.machine_activations.proofs.calling.give_back.Goals as goal

pub returns-then-r-eq0-clause-leads : goal.returns-then-r-eq0-clause-leads
unfolding LeadsTo
returns-then-r-eq0-clause-leads c image prepared is s m unstuck shown = leads_empty image c.args.stack.now.layout prepared c.args.stack.now.region.items c.args.stack.now.rows.items c.args.r c.requires.room.ample c.args.code.now is c.requires.at s unstuck m shown c.if-r-eq0.true

pub row_of-row-requires : goal.row_of-row-requires
row_of-row-requires c =
    let low = top_low (c.requires.stands).image c.args.stack.now.layout (c.requires.stands).prepared c.args.stack.now.region.items c.args.stack.now.rows.items c.args.r c.requires.room.ample c.args.code.now (c.requires.stands).is c.requires.at (c.requires.stands).start (c.requires.stands).unstuck (c.requires.stands).store (c.requires.stands).shown in
    let long = c.requires.room.ample.long in record { there = omega (arith, low, long) }

pub bounds-as_slice-row : goal.bounds-as_slice-row
bounds-as_slice-row c =
    let is = there (c.requires.stands).image c.args.stack.now.layout (c.requires.stands).prepared c.args.stack.now.region.items c.args.stack.now.rows.items c.args.r c.requires.room.ample c.args.code.now (c.requires.stands).is c.requires.at (c.requires.stands).start (c.requires.stands).unstuck (c.requires.stands).store (c.requires.stands).shown in
    let number = ap (λ (row : Row). row.procedure) c.row_of-row.ensures in
    let less = index_within c.as_slice.result.now c.args.code.now.procedures (row_at c.args.stack.now.rows.items c.args.r.top).procedure ((c.requires.stands).shown).procedure c.as_slice.ensures is in
    omega (arith, number, less)

pub row_of-below-requires : goal.row_of-below-requires
row_of-below-requires c =
    let low = top_low (c.requires.stands).image c.args.stack.now.layout (c.requires.stands).prepared c.args.stack.now.region.items c.args.stack.now.rows.items c.args.r c.requires.room.ample c.args.code.now (c.requires.stands).is c.requires.at (c.requires.stands).start (c.requires.stands).unstuck (c.requires.stands).store (c.requires.stands).shown in
    let long = c.requires.room.ample.long in record { there = omega (arith, low, long) }

pub overflow_add-from : goal.overflow_add-from
overflow_add-from c =
    let runs = runs_back (c.requires.stands).image c.args.stack.now.layout (c.requires.stands).prepared c.args.stack.now.region.items c.args.stack.now.rows.items c.args.r c.requires.room.ample c.args.code.now (c.requires.stands).is c.requires.at (c.requires.stands).start (c.requires.stands).unstuck (c.requires.stands).store (c.requires.stands).shown c.if-r-eq0.false in
    let args = c.from.ensures ∙ ap (λ (p : CodeProcedure). p.args) (index_is c.as_slice.result.now c.args.code.now.procedures c.row_of-row.result.procedure ((c.requires.stands).shown).procedure c.index-as_slice-row.result c.as_slice.ensures (ap (λ (row : Row). slice_get c.args.code.now.procedures row.procedure) c.row_of-row.ensures ∙ there (c.requires.stands).image c.args.stack.now.layout (c.requires.stands).prepared c.args.stack.now.region.items c.args.stack.now.rows.items c.args.r c.requires.room.ample c.args.code.now (c.requires.stands).is c.requires.at (c.requires.stands).start (c.requires.stands).unstuck (c.requires.stands).store (c.requires.stands).shown) c.index-as_slice-row.is) in
    let source = runs.source in omega (arith, args, source)

pub give-requires-clause-source : goal.give-requires-clause-source
give-requires-clause-source c =
    let runs = runs_back (c.requires.stands).image c.args.stack.now.layout (c.requires.stands).prepared c.args.stack.now.region.items c.args.stack.now.rows.items c.args.r c.requires.room.ample c.args.code.now (c.requires.stands).is c.requires.at (c.requires.stands).start (c.requires.stands).unstuck (c.requires.stands).store (c.requires.stands).shown c.if-r-eq0.false in
    let args = c.from.ensures ∙ ap (λ (p : CodeProcedure). p.args) (index_is c.as_slice.result.now c.args.code.now.procedures c.row_of-row.result.procedure ((c.requires.stands).shown).procedure c.index-as_slice-row.result c.as_slice.ensures (ap (λ (row : Row). slice_get c.args.code.now.procedures row.procedure) c.row_of-row.ensures ∙ there (c.requires.stands).image c.args.stack.now.layout (c.requires.stands).prepared c.args.stack.now.region.items c.args.stack.now.rows.items c.args.r c.requires.room.ample c.args.code.now (c.requires.stands).is c.requires.at (c.requires.stands).start (c.requires.stands).unstuck (c.requires.stands).store (c.requires.stands).shown) c.index-as_slice-row.is) in
    let source = runs.source in omega (arith, args, source)

pub give-requires-clause-room : goal.give-requires-clause-room
give-requires-clause-room c =
    let runs = runs_back (c.requires.stands).image c.args.stack.now.layout (c.requires.stands).prepared c.args.stack.now.region.items c.args.stack.now.rows.items c.args.r c.requires.room.ample c.args.code.now (c.requires.stands).is c.requires.at (c.requires.stands).start (c.requires.stands).unstuck (c.requires.stands).store (c.requires.stands).shown c.if-r-eq0.false in
    let room = (runs.started (sym (ap (λ (row : Row). row.procedure) c.row_of-row.ensures) ∙ c.if-row-eq0.true)).room in
    let below = ap (λ (row : Row). row.count) c.row_of-below.ensures in omega (arith, room, below)

pub give-requires-clause-owner : goal.give-requires-clause-owner
give-requires-clause-owner c =
    let runs = runs_back (c.requires.stands).image c.args.stack.now.layout (c.requires.stands).prepared c.args.stack.now.region.items c.args.stack.now.rows.items c.args.r c.requires.room.ample c.args.code.now (c.requires.stands).is c.requires.at (c.requires.stands).start (c.requires.stands).unstuck (c.requires.stands).store (c.requires.stands).shown c.if-r-eq0.false in
    subst (λ (row : Row). owner_place row.kind (c.args.r.top - 1) * c.args.stack.now.layout.part ≤ length c.args.stack.now.region.items) (sym c.row_of-below.ensures)
    (runs.started (sym (ap (λ (row : Row). row.procedure) c.row_of-row.ensures) ∙ c.if-row-eq0.true)).owner_fits

pub returns-then-row-eq0-clause-leads : goal.returns-then-row-eq0-clause-leads
unfolding LeadsTo
returns-then-row-eq0-clause-leads c image prepared is s m unstuck shown =
    leads_pending image c.args.stack.now.layout prepared c.args.stack.now.region.items c.args.stack.now.rows.items c.args.r c.requires.room.ample c.args.code.now is c.requires.at s unstuck m shown
    c.row_of-row.result c.row_of-below.result c.row_of-row.ensures c.row_of-below.ensures c.if-r-eq0.false c.give.new.region.items c.give.result (c.args.r.slots + c.from.result) c.if-row-eq0.true c.give.ensures.words c.give.ensures.registers

pub overflow_add-below : goal.overflow_add-below
overflow_add-below c =
    let runs = runs_back (c.requires.stands).image c.args.stack.now.layout (c.requires.stands).prepared c.args.stack.now.region.items c.args.stack.now.rows.items c.args.r c.requires.room.ample c.args.code.now (c.requires.stands).is c.requires.at (c.requires.stands).start (c.requires.stands).unstuck (c.requires.stands).store (c.requires.stands).shown c.if-r-eq0.false in
    let number = ap (λ (row : Row). row.procedure) c.row_of-row.ensures in
    let some : c.row_of-row.result.procedure ≢ 0 = c.if-row-eq0.false in
    let entry = (runs.called (omega (arith, number, some))).entry in
    let below = ap (λ (row : Row). row.entry) c.row_of-below.ensures in omega (arith, entry, below)

pub give-requires-2-clause-source : goal.give-requires-2-clause-source
give-requires-2-clause-source c =
    let runs = runs_back (c.requires.stands).image c.args.stack.now.layout (c.requires.stands).prepared c.args.stack.now.region.items c.args.stack.now.rows.items c.args.r c.requires.room.ample c.args.code.now (c.requires.stands).is c.requires.at (c.requires.stands).start (c.requires.stands).unstuck (c.requires.stands).store (c.requires.stands).shown c.if-r-eq0.false in
    let same = index_is c.as_slice.result.now c.args.code.now.procedures c.row_of-row.result.procedure ((c.requires.stands).shown).procedure c.index-as_slice-row.result c.as_slice.ensures (ap (λ (row : Row). slice_get c.args.code.now.procedures row.procedure) c.row_of-row.ensures ∙ there (c.requires.stands).image c.args.stack.now.layout (c.requires.stands).prepared c.args.stack.now.region.items c.args.stack.now.rows.items c.args.r c.requires.room.ample c.args.code.now (c.requires.stands).is c.requires.at (c.requires.stands).start (c.requires.stands).unstuck (c.requires.stands).store (c.requires.stands).shown) c.index-as_slice-row.is in
    let args = c.from.ensures ∙ ap (λ (p : CodeProcedure). p.args) same in
    let results = c.from-results.ensures ∙ ap (λ (p : CodeProcedure). p.results) same in
    let source = runs.source in omega (arith, args, results, source)

pub give-requires-2-clause-room : goal.give-requires-2-clause-room
give-requires-2-clause-room c =
    let runs = runs_back (c.requires.stands).image c.args.stack.now.layout (c.requires.stands).prepared c.args.stack.now.region.items c.args.stack.now.rows.items c.args.r c.requires.room.ample c.args.code.now (c.requires.stands).is c.requires.at (c.requires.stands).start (c.requires.stands).unstuck (c.requires.stands).store (c.requires.stands).shown c.if-r-eq0.false in
    let number = ap (λ (row : Row). row.procedure) c.row_of-row.ensures in
    let some : c.row_of-row.result.procedure ≢ 0 = c.if-row-eq0.false in
    let results = c.from-results.ensures ∙ ap (λ (p : CodeProcedure). p.results) (index_is c.as_slice.result.now c.args.code.now.procedures c.row_of-row.result.procedure ((c.requires.stands).shown).procedure c.index-as_slice-row.result c.as_slice.ensures (ap (λ (row : Row). slice_get c.args.code.now.procedures row.procedure) c.row_of-row.ensures ∙ there (c.requires.stands).image c.args.stack.now.layout (c.requires.stands).prepared c.args.stack.now.region.items c.args.stack.now.rows.items c.args.r c.requires.room.ample c.args.code.now (c.requires.stands).is c.requires.at (c.requires.stands).start (c.requires.stands).unstuck (c.requires.stands).store (c.requires.stands).shown) c.index-as_slice-row.is) in
    let room = (runs.called (omega (arith, number, some))).room in
    let below = ap (λ (row : Row). row.count) c.row_of-below.ensures in omega (arith, room, below, results)

pub give-requires-2-clause-owner : goal.give-requires-2-clause-owner
give-requires-2-clause-owner c =
    let runs = runs_back (c.requires.stands).image c.args.stack.now.layout (c.requires.stands).prepared c.args.stack.now.region.items c.args.stack.now.rows.items c.args.r c.requires.room.ample c.args.code.now (c.requires.stands).is c.requires.at (c.requires.stands).start (c.requires.stands).unstuck (c.requires.stands).store (c.requires.stands).shown c.if-r-eq0.false in
    let number = ap (λ (row : Row). row.procedure) c.row_of-row.ensures in
    let some : c.row_of-row.result.procedure ≢ 0 = c.if-row-eq0.false in
    subst (λ (row : Row). owner_place row.kind (c.args.r.top - 1) * c.args.stack.now.layout.part ≤ length c.args.stack.now.region.items) (sym c.row_of-below.ensures) (runs.called (omega (arith, number, some))).owner_fits

pub returns-clause-leads : goal.returns-clause-leads
unfolding LeadsTo
returns-clause-leads c image prepared is s m unstuck shown =
    let same = index_is c.as_slice.result.now c.args.code.now.procedures c.row_of-row.result.procedure shown.procedure c.index-as_slice-row.result c.as_slice.ensures (ap (λ (row : Row). slice_get c.args.code.now.procedures row.procedure) c.row_of-row.ensures ∙ there image c.args.stack.now.layout prepared c.args.stack.now.region.items c.args.stack.now.rows.items c.args.r c.requires.room.ample c.args.code.now is c.requires.at s unstuck m shown) c.index-as_slice-row.is in
    leads_back image c.args.stack.now.layout prepared c.args.stack.now.region.items c.args.stack.now.rows.items c.args.r c.requires.room.ample c.args.code.now is c.requires.at s unstuck m shown
    c.row_of-row.result c.row_of-below.result c.row_of-row.ensures c.row_of-below.ensures c.if-r-eq0.false c.give-2.new.region.items c.give-2.result c.from.result c.from-results.result
    (c.from.ensures ∙ ap (λ (p : CodeProcedure). p.args) same) (c.from-results.ensures ∙ ap (λ (p : CodeProcedure). p.results) same) c.if-row-eq0.false c.give-2.ensures.words c.give-2.ensures.registers
