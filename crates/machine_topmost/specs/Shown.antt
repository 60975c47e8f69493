-- What the region shows of the topmost activation, in the words of the machine's definition (rule of this project).
use Rattle.std.specs.Prelude.{ℕ, ◌-◌, reverse, Bool, true, false}
use Rattle.mesa_types.specs.Operators.{OutOfBounds, DividedByZero}
use Rattle.code_forms.specs.declared.instruction.Instruction.{Instruction}
use Rattle.code_forms.specs.declared.instruction.Instruction.TheVariants.{Jump, JumpIf, JumpIfNot, JumpBack}
use Rattle.machine_rules.specs.Working.{Work, Worked, Works, Faults, Touches as TouchesMore}
use Rattle.machine_topmost.specs.declared.registers.Why.{Why}
use Rattle.machine_topmost.specs.declared.registers.Why.TheVariants.{Touches, Spent, BoundsFault, ZeroDivisor}
use Rattle.machine_topmost.specs.Flat.{Flat, Flowed, Went, Paused, part}

-- its operands begin at the floor, and its frame has so many words
abbrev pub work_shown : (frame floor : ℕ) → Flat → Work
work_shown frame floor s = record {
  operands = reverse (part s.region floor (s.registers.sp - floor));
  variables = part s.region s.registers.slots frame;
  globals = s.globals;
}

abbrev pub pause_shown : Why → Worked
pause_shown Touches = TouchesMore
pause_shown Spent = TouchesMore
pause_shown BoundsFault = Faults OutOfBounds
pause_shown ZeroDivisor = Faults DividedByZero

-- what came of an instruction
abbrev pub worked_shown : (frame floor : ℕ) → Flowed → Worked
worked_shown frame floor (Went s) = Works (work_shown frame floor s)
worked_shown frame floor (Paused why) = pause_shown why

-- an instruction that may go on elsewhere than behind itself, in its own activation
abbrev pub jumps_within : Instruction → Bool
jumps_within (Jump target) = true
jumps_within (JumpIf target) = true
jumps_within (JumpIfNot target) = true
jumps_within (JumpBack target) = true
jumps_within _ = false
