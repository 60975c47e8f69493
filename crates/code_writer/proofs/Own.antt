-- Own code at a depth.
use Rattle.std.proofs.Common.{ℕ, ◌<◌, ◌≤◌, List, [], ◌∷◌, length, drop, length-drop, arith}
use Rattle.code_forms.specs.declared.instruction.Instruction.{Instruction}
use Rattle.code_blocks.specs.Modules.{deepest}
use Rattle.code_blocks.specs.Writing.{entries}

shallow_first : (is : List Instruction) (a d m : ℕ) → 0 < length is → deepest (entries is a d) ≤ m → d ≤ m
shallow_first [] a d m lt h = absurd (omega (arith, lt))
shallow_first (i ∷ is) a d m lt h = omega (arith, h)

pub shallow_next : (is : List Instruction) (k a d m : ℕ) → k < length is → deepest (entries (drop k is) a d) ≤ m → d ≤ m
shallow_next is k a d m lt h = shallow_first (drop k is) a d m (omega (arith, lt, length-drop k is)) h
