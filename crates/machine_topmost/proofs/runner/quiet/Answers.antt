use Rattle.std.proofs.Common.{◌-◌, ◌<◌, length, ap, arith, refl, sym, subst, ◌∙◌}
use Rattle.code_forms.proofs.Ordered.{blank}
use Rattle.machine_rules.specs.LookUps.{text_of}
use Rattle.machine_topmost.specs.Flat.{Flat}
use Rattle.machine_topmost.specs.Running.{Standing}
use Rattle.machine_topmost.proofs.Pausing.{fetched_at, fits_here, stands_then, nearer_then, turns_fall, same_top, same_slots, flows_none, flows_some, none_yet, one_more, pauses_at, paused_there}
use Rattle.machine_topmost.proofs.runner.quiet.Goals as goal

pub running-init : goal.running-init
running-init g c = record {
  turns_fall = omega arith;
  same_top = refl;
  same_slots = refl;
  counted = omega arith;
  runs = none_yet _ _ _ _ _ _ (omega arith);
  standing = c.requires.standing;
  same_code = c.as_slice-entries.ensures;
}

pub perform-requires-clause-fits : goal.perform-requires-clause-fits
perform-requires-clause-fits g c =
    let i = c.running.invariant in
    let within : c.running.r.entry < length c.as_slice-entries.result.now = omega (arith, ap length i.same_code, i.standing.within) in
    let fetched = fetched_at c.as_slice-entries.result.now c.args.routine.now.procedure.now.code c.running.r.entry blank i.same_code within in
    fits_here c.args.routine.now.code.now c.args.routine.now.procedure.now c.args.routine.now.targets.now c.requires.valid c.requires.depths c.requires.part c.requires.leads c.args.routine.now.floor (text_of c.args.routine.now.image.now) c.args.routine.now.number
    (record { region = c.running.region; globals = c.running.globals; registers = c.running.r; turns = c.running.turns }) _ i.standing fetched

pub returns-in-Some-clause-pauses : goal.returns-in-Some-clause-pauses
returns-in-Some-clause-pauses g c =
    let i = c.running.invariant in
    let within : c.running.r.entry < length c.as_slice-entries.result.now = omega (arith, ap length i.same_code, i.standing.within) in
    let fetched = fetched_at c.as_slice-entries.result.now c.args.routine.now.procedure.now.code c.running.r.entry blank i.same_code within in
    let f = flows_some _ _ _ (record { region = c.running.region; globals = c.running.globals; registers = c.running.r; turns = c.running.turns }) (record { region = c.perform.new.region; globals = c.perform.new.globals; registers = c.perform.new.r; turns = c.perform.new.turns }) c.in-Some.is c.perform.ensures in
    pauses_at (text_of c.args.routine.now.image.now) c.args.routine.now.number c.args.routine.now.procedure.now.code c.args.routine.now.targets.now _ (record { region = c.running.region; globals = c.running.globals; registers = c.running.r; turns = c.running.turns })
    (record { region = c.perform.new.region; globals = c.perform.new.globals; registers = c.perform.new.r; turns = c.perform.new.turns }) (c.running.steps - c.args.steps.now) _ _ c.in-Some.why i.runs fetched f.0 f.1 (let t = c.tick.ensures in let k = i.counted in omega arith)

pub returns-in-Some-clause-at : goal.returns-in-Some-clause-at
returns-in-Some-clause-at g c x there =
    let i = c.running.invariant in
    let within : c.running.r.entry < length c.as_slice-entries.result.now = omega (arith, ap length i.same_code, i.standing.within) in
    let fetched = fetched_at c.as_slice-entries.result.now c.args.routine.now.procedure.now.code c.running.r.entry blank i.same_code within in
    let f = flows_some _ _ _ (record { region = c.running.region; globals = c.running.globals; registers = c.running.r; turns = c.running.turns }) (record { region = c.perform.new.region; globals = c.perform.new.globals; registers = c.perform.new.r; turns = c.perform.new.turns }) c.in-Some.is c.perform.ensures in
    paused_there c.args.routine.now.procedure.now.code (record { region = c.running.region; globals = c.running.globals; registers = c.running.r; turns = c.running.turns })
    (record { region = c.perform.new.region; globals = c.perform.new.globals; registers = c.perform.new.r; turns = c.perform.new.turns }) _ x fetched f.1 there

pub returns-in-Some-clause-turns_fall : goal.returns-in-Some-clause-turns_fall
returns-in-Some-clause-turns_fall g c =
    let i = c.running.invariant in
    let within : c.running.r.entry < length c.as_slice-entries.result.now = omega (arith, ap length i.same_code, i.standing.within) in
    let fetched = fetched_at c.as_slice-entries.result.now c.args.routine.now.procedure.now.code c.running.r.entry blank i.same_code within in
    let f = flows_some _ _ _ (record { region = c.running.region; globals = c.running.globals; registers = c.running.r; turns = c.running.turns }) (record { region = c.perform.new.region; globals = c.perform.new.globals; registers = c.perform.new.r; turns = c.perform.new.turns }) c.in-Some.is c.perform.ensures in
    let same = ap (λ (s : Flat). s.turns) f.1 in let falls = i.turns_fall in omega (arith, same, falls)

pub returns-in-Some-clause-stays : goal.returns-in-Some-clause-stays
returns-in-Some-clause-stays g c =
    let i = c.running.invariant in
    let within : c.running.r.entry < length c.as_slice-entries.result.now = omega (arith, ap length i.same_code, i.standing.within) in
    let fetched = fetched_at c.as_slice-entries.result.now c.args.routine.now.procedure.now.code c.running.r.entry blank i.same_code within in
    let f = flows_some _ _ _ (record { region = c.running.region; globals = c.running.globals; registers = c.running.r; turns = c.running.turns }) (record { region = c.perform.new.region; globals = c.perform.new.globals; registers = c.perform.new.r; turns = c.perform.new.turns }) c.in-Some.is c.perform.ensures in
    (ap (λ (s : Flat). s.registers.top) f.1 ∙ i.same_top, ap (λ (s : Flat). s.registers.slots) f.1 ∙ i.same_slots)

pub returns-in-Some-clause-standing : goal.returns-in-Some-clause-standing
returns-in-Some-clause-standing g c =
    let i = c.running.invariant in
    let within : c.running.r.entry < length c.as_slice-entries.result.now = omega (arith, ap length i.same_code, i.standing.within) in
    let fetched = fetched_at c.as_slice-entries.result.now c.args.routine.now.procedure.now.code c.running.r.entry blank i.same_code within in
    let f = flows_some _ _ _ (record { region = c.running.region; globals = c.running.globals; registers = c.running.r; turns = c.running.turns }) (record { region = c.perform.new.region; globals = c.perform.new.globals; registers = c.perform.new.r; turns = c.perform.new.turns }) c.in-Some.is c.perform.ensures in
    subst (λ (s : Flat). Standing c.args.routine.now.code.now c.args.routine.now.procedure.now (length s.region) (length s.globals) c.args.routine.now.floor s.registers) (sym f.1) i.standing

pub running-smaller : goal.running-smaller
running-smaller g c =
    let i = c.running.invariant in
    let within : c.running.r.entry < length c.as_slice-entries.result.now = omega (arith, ap length i.same_code, i.standing.within) in
    let fetched = fetched_at c.as_slice-entries.result.now c.args.routine.now.procedure.now.code c.running.r.entry blank i.same_code within in
    let goes = flows_none _ _ (record { region = c.running.region; globals = c.running.globals; registers = c.running.r; turns = c.running.turns }) (record { region = c.perform.new.region; globals = c.perform.new.globals; registers = c.perform.new.r; turns = c.perform.new.turns }) c.in_default.is c.perform.ensures in
    rw (ap length i.same_code)
    (nearer_then c.args.routine.now.code.now c.args.routine.now.procedure.now c.args.routine.now.targets.now c.requires.valid c.requires.depths c.requires.part c.requires.leads c.args.routine.now.floor (text_of c.args.routine.now.image.now) c.args.routine.now.number
    (record { region = c.running.region; globals = c.running.globals; registers = c.running.r; turns = c.running.turns }) _ i.standing fetched (record { region = c.perform.new.region; globals = c.perform.new.globals; registers = c.perform.new.r; turns = c.perform.new.turns }) goes)

pub running-preserved : goal.running-preserved
running-preserved g c =
    let i = c.running.invariant in
    let within : c.running.r.entry < length c.as_slice-entries.result.now = omega (arith, ap length i.same_code, i.standing.within) in
    let fetched = fetched_at c.as_slice-entries.result.now c.args.routine.now.procedure.now.code c.running.r.entry blank i.same_code within in
    let goes = flows_none _ _ (record { region = c.running.region; globals = c.running.globals; registers = c.running.r; turns = c.running.turns }) (record { region = c.perform.new.region; globals = c.perform.new.globals; registers = c.perform.new.r; turns = c.perform.new.turns }) c.in_default.is c.perform.ensures in
    record {
      turns_fall = let a = i.turns_fall in let b = turns_fall c.args.routine.now.code.now c.args.routine.now.procedure.now c.args.routine.now.targets.now c.requires.valid c.requires.depths c.requires.part c.requires.leads c.args.routine.now.floor (text_of c.args.routine.now.image.now) c.args.routine.now.number
          (record { region = c.running.region; globals = c.running.globals; registers = c.running.r; turns = c.running.turns }) _ i.standing fetched (record { region = c.perform.new.region; globals = c.perform.new.globals; registers = c.perform.new.r; turns = c.perform.new.turns }) goes in omega (arith, a, b);
      same_top = same_top c.args.routine.now.code.now c.args.routine.now.procedure.now c.args.routine.now.targets.now c.requires.valid c.requires.depths c.requires.part c.requires.leads c.args.routine.now.floor (text_of c.args.routine.now.image.now) c.args.routine.now.number
          (record { region = c.running.region; globals = c.running.globals; registers = c.running.r; turns = c.running.turns }) _ i.standing fetched (record { region = c.perform.new.region; globals = c.perform.new.globals; registers = c.perform.new.r; turns = c.perform.new.turns }) goes ∙ i.same_top;
      same_slots = same_slots c.args.routine.now.code.now c.args.routine.now.procedure.now c.args.routine.now.targets.now c.requires.valid c.requires.depths c.requires.part c.requires.leads c.args.routine.now.floor (text_of c.args.routine.now.image.now) c.args.routine.now.number
          (record { region = c.running.region; globals = c.running.globals; registers = c.running.r; turns = c.running.turns }) _ i.standing fetched (record { region = c.perform.new.region; globals = c.perform.new.globals; registers = c.perform.new.r; turns = c.perform.new.turns }) goes ∙ i.same_slots;
      counted = let t = c.tick.ensures in let k = i.counted in omega arith;
      runs = one_more (text_of c.args.routine.now.image.now) c.args.routine.now.number c.args.routine.now.procedure.now.code c.args.routine.now.targets.now _ (record { region = c.running.region; globals = c.running.globals; registers = c.running.r; turns = c.running.turns })
          (record { region = c.perform.new.region; globals = c.perform.new.globals; registers = c.perform.new.r; turns = c.perform.new.turns }) (c.running.steps - c.args.steps.now) _ _ i.runs fetched goes (let t = c.tick.ensures in let k = i.counted in omega arith);
      standing = stands_then c.args.routine.now.code.now c.args.routine.now.procedure.now c.args.routine.now.targets.now c.requires.valid c.requires.depths c.requires.part c.requires.leads c.args.routine.now.floor (text_of c.args.routine.now.image.now) c.args.routine.now.number
          (record { region = c.running.region; globals = c.running.globals; registers = c.running.r; turns = c.running.turns }) _ i.standing fetched (record { region = c.perform.new.region; globals = c.perform.new.globals; registers = c.perform.new.r; turns = c.perform.new.turns }) goes;
      same_code = i.same_code;
    }
