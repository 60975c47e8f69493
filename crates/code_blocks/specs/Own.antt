-- Own code by itself: its bytes, and the words on the operand stack behind it, where it calls and raises nothing (rule of this project).
use Rattle.std.specs.Prelude.{ℕ, ◌+◌, List, [], ◌∷◌}
use Rattle.code_forms.specs.declared.instruction.Instruction.{Instruction}
use Rattle.code_forms.specs.declared.instruction.Instruction.TheVariants.{Jump, JumpIf, JumpIfNot, JumpBack, Leave, LeaveReturn}
use Rattle.code_forms.specs.Instructions.{Effect, Fixed, OfProcedure, OfSignal, OfLink, effect_of, bytes_of}
use Rattle.code_forms.specs.Depths.{depth_after}
use Rattle.code_forms.specs.Routine.{Routine}

-- no procedure, signal or link: what an instruction does by itself
abbrev pub alone : Routine
alone = record { globals = 0; strings = 0; signals = []; links = []; procedures = []; frame = 0; room = 0; code = []; phrases = [] }

abbrev pub bytes_in : List Instruction → ℕ
bytes_in [] = 0
bytes_in (i ∷ is) = bytes_of i + bytes_in is

-- the words on the operand stack behind some instructions
abbrev pub left_of : List Instruction → ℕ → ℕ
left_of [] depth = depth
left_of (i ∷ is) depth = left_of is (depth_after alone i depth)

-- an instruction that takes and puts the same words in every module: each but a call and a raise
abbrev pub IsFixed : Effect → Type 0
IsFixed (Fixed takes puts) = Unit {0}
IsFixed (OfProcedure n) = ⊥
IsFixed (OfSignal n) = ⊥
IsFixed (OfLink n) = ⊥

-- and that jumps nowhere
abbrev pub IsOwn : Instruction → Type 0
IsOwn (Jump target) = ⊥
IsOwn (JumpIf target) = ⊥
IsOwn (JumpIfNot target) = ⊥
IsOwn (JumpBack target) = ⊥
IsOwn (Leave arms target) = ⊥
IsOwn (LeaveReturn arms) = ⊥
IsOwn i = IsFixed (effect_of i)

abbrev pub AreOwn : List Instruction → Type 0
AreOwn [] = Unit {0}
AreOwn (i ∷ is) = IsOwn i × AreOwn is
