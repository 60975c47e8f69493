use Rattle.std.proofs.Common.{◌≡◌, ◌+◌, ◌-◌, ◌*◌, ◌≤◌, length}
use Rattle.machine_rules.specs.LookUps.{text_of}
use Rattle.machine_topmost.specs.Running.{FlatRuns, Standing}
use Rattle.machine_topmost.proofs.runner.quiet.Given as goal

abbrev pub invariant-running : goal.invariant-running
invariant-running g l = record {
  turns_fall : l.turns ≤ l.fn.bound;
  same_top : l.r.top ≡ l.fn.registers.top;
  same_slots : l.r.slots ≡ l.fn.registers.slots;
  counted : l.fn.steps ≤ l.steps;
  runs : FlatRuns (text_of l.routine.image.now) l.routine.number l.routine.procedure.now.code l.routine.targets.now
      (record { region = l.fn.region; globals = l.fn.globals; registers = l.fn.registers; turns = l.fn.bound }) (l.steps - l.fn.steps)
      (record { region = l.region; globals = l.globals; registers = l.r; turns = l.turns });
  standing : Standing l.routine.code.now l.routine.procedure.now (length l.region) (length l.globals) l.routine.floor l.r;
  same_code : l.entries ≡ l.routine.procedure.now.code;
}

abbrev pub decreases-running : goal.decreases-running
decreases-running g l = l.turns * (length l.entries + 1) + (length l.entries - l.r.entry)
