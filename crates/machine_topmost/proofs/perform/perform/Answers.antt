use Rattle.std.proofs.Common.{slice_index, sym, subst, rules}
use Rattle.code_forms.specs.declared.instruction.Instruction.{Instruction}
use Rattle.machine_rules.specs.LookUps.{text_of}
use Rattle.machine_topmost.specs.Flat.{Flows, flat, operates, operates_long}
use Rattle.machine_topmost.proofs.perform.perform.Goals as goal

pub returns-in-LoadLX : goal.returns-in-LoadLX
returns-in-LoadLX c =
    let target = slice_index c.args.targets.now c.args.r.now.entry in
    subst (λ (i : Instruction). Flows (flat (text_of c.args.routine.now.image.now) c.args.routine.now.number i target (record { region = c.args.region.now; globals = c.args.globals.now; registers = c.args.r.now; turns = c.args.turns.now })) c.load_indexed.result
    (record { region = c.args.region.now; globals = c.args.globals.now; registers = c.args.r.now; turns = c.args.turns.now })
    (record { region = c.load_indexed.new.region; globals = c.args.globals.now; registers = c.load_indexed.new.r; turns = c.args.turns.now }))
    (sym c.in-LoadLX.is) (c.load_indexed.ensures (text_of c.args.routine.now.image.now) c.args.routine.now.number target c.args.globals.now c.args.turns.now)

pub returns-in-StoreLX : goal.returns-in-StoreLX
returns-in-StoreLX c =
    let target = slice_index c.args.targets.now c.args.r.now.entry in
    subst (λ (i : Instruction). Flows (flat (text_of c.args.routine.now.image.now) c.args.routine.now.number i target (record { region = c.args.region.now; globals = c.args.globals.now; registers = c.args.r.now; turns = c.args.turns.now })) c.store_indexed.result
    (record { region = c.args.region.now; globals = c.args.globals.now; registers = c.args.r.now; turns = c.args.turns.now })
    (record { region = c.store_indexed.new.region; globals = c.args.globals.now; registers = c.store_indexed.new.r; turns = c.args.turns.now }))
    (sym c.in-StoreLX.is) (c.store_indexed.ensures (text_of c.args.routine.now.image.now) c.args.routine.now.number target c.args.globals.now c.args.turns.now)

pub returns-in-LoadGX : goal.returns-in-LoadGX
returns-in-LoadGX c =
    let target = slice_index c.args.targets.now c.args.r.now.entry in
    subst (λ (i : Instruction). Flows (flat (text_of c.args.routine.now.image.now) c.args.routine.now.number i target (record { region = c.args.region.now; globals = c.args.globals.now; registers = c.args.r.now; turns = c.args.turns.now })) c.load_global_indexed.result
    (record { region = c.args.region.now; globals = c.args.globals.now; registers = c.args.r.now; turns = c.args.turns.now })
    (record { region = c.load_global_indexed.new.region; globals = c.args.globals.now; registers = c.load_global_indexed.new.r; turns = c.args.turns.now }))
    (sym c.in-LoadGX.is) (c.load_global_indexed.ensures (text_of c.args.routine.now.image.now) c.args.routine.now.number target c.args.turns.now)

pub returns-in-StoreGX : goal.returns-in-StoreGX
returns-in-StoreGX c =
    let target = slice_index c.args.targets.now c.args.r.now.entry in
    subst (λ (i : Instruction). Flows (flat (text_of c.args.routine.now.image.now) c.args.routine.now.number i target (record { region = c.args.region.now; globals = c.args.globals.now; registers = c.args.r.now; turns = c.args.turns.now })) c.store_global_indexed.result
    (record { region = c.args.region.now; globals = c.args.globals.now; registers = c.args.r.now; turns = c.args.turns.now })
    (record { region = c.args.region.now; globals = c.store_global_indexed.new.globals; registers = c.store_global_indexed.new.r; turns = c.args.turns.now }))
    (sym c.in-StoreGX.is) (c.store_global_indexed.ensures (text_of c.args.routine.now.image.now) c.args.routine.now.number target c.args.turns.now)

pub returns-in_default : goal.returns-in_default
unfolding flat operates operates_long Flows
returns-in_default c = search rules
