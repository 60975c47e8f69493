-- What is read at an offset of a procedure's code, and what stands around a construct there (rule of this project). The code that
-- stands for a construct is a run of instructions from one offset to another. At each of them stand the words that the operand
-- stack has before it, and the catch phrases that are enabled there.
use Rattle.std.specs.Prelude.{◌≡◌, ℕ, zero, suc, ◌+◌, List, [], ◌∷◌, length, Bool, true, false, ◌&&◌, Option, Some, None, nat_eq, nat_le, nat_lt, slice_get, if◌then◌else◌}
use Rattle.mesa_types.specs.declared.faces.Import.{Import}
use Rattle.mesa_types.specs.Typed.{Kinds, Expr, Exprs}
use Rattle.mesa_types.specs.Shapes.{words_in_all}
use Rattle.mesa_types.specs.Counts.{hidden_expr, hidden_exprs, words_of, words_given}
use Rattle.code_forms.specs.declared.instruction.Instruction.{Instruction}
use Rattle.code_forms.specs.declared.instruction.Instruction.TheVariants.{Jump, Return, Leave, LeaveReturn}
use Rattle.code_forms.specs.declared.module_code.CodeEntry.{CodeEntry}
use Rattle.code_forms.specs.declared.module_code.Phrase.{Phrase}
use Rattle.code_forms.specs.Instructions.{bytes_of}
use Rattle.code_forms.specs.Routine.{Routine}
use Rattle.code_forms.specs.Depths.{depth_after}
use Rattle.code_rules.specs.Points.{Points, in_body, in_arm}

-- a procedure with its code: what its module imports, the module's globals, its own variables, what its code may name with its
-- phrases, and its instructions
pub record Coded : Type 0 where
  pub imports : List Import
  pub globals : Kinds
  pub locals : Kinds
  pub routine : Routine
  pub entries : List CodeEntry

-- where a jump comes to: an offset of the code, or back to the caller
pub data Destination : Type 0 where
  Offset : ℕ → Destination
  Caller : Destination

-- what stands around a construct: the points that are visible; the phrases that are enabled at its instructions, the innermost
-- first; the words on the operand stack before it; and the slot of the first of its hidden words
pub record Place : Type 0 where
  pub points : Points Destination
  pub around : List ℕ
  pub depth : ℕ
  pub slot : ℕ

-- the instruction at an offset

abbrev pub entry_at : List CodeEntry → ℕ → Option CodeEntry
entry_at [] offset = None
entry_at (e ∷ es) offset = if nat_eq e.at offset then Some e else entry_at es offset

-- the phrases that are enabled at an offset, of the first so many, the innermost first: an outer one stands before an inner one

abbrev pub covers : Option Phrase → ℕ → Bool
covers None offset = false
covers (Some p) offset = nat_le p.from offset && nat_lt offset p.to

abbrev pub and_if : Bool → ℕ → List ℕ → List ℕ
and_if true n ns = n ∷ ns
and_if false n ns = ns

abbrev pub phrases_before : List Phrase → ℕ → ℕ → List ℕ
phrases_before phrases zero offset = []
phrases_before phrases (suc n) offset = and_if (covers (slice_get phrases n) offset) n (phrases_before phrases n offset)

abbrev pub phrases_around : List Phrase → ℕ → List ℕ
phrases_around phrases offset = phrases_before phrases (length phrases) offset

-- what is read at an offset
pub record Read : Type 0 where
  pub instruction : Instruction
  pub depth : ℕ
  pub around : List ℕ

abbrev pub read_of : Option CodeEntry → List ℕ → Option Read
read_of None around = None
read_of (Some e) around = Some (record { instruction = e.instruction; depth = e.depth; around = around })

abbrev pub read : Coded → ℕ → Option Read
read P offset = read_of (entry_at P.entries offset) (phrases_around P.routine.phrases offset)

-- behind an instruction, by the words that it takes and puts
abbrev pub behind : Coded → Instruction → Place → Place
behind P i w = record w { depth = depth_after P.routine i w.depth }

-- these instructions stand from one offset to another, each with the words before it and the phrases around
pub data Own (P : Coded) : Place → List Instruction → ℕ → ℕ → Type 0 where
  no_more : {w : Place} {a : ℕ} → Own P w [] a a
  one_more : {w : Place} {i : Instruction} {is : List Instruction} {a b : ℕ}
      → read P a ≡ Some (record { instruction = i; depth = w.depth; around = w.around }) → Own P (behind P i w) is (a + bytes_of i) b
      → Own P w (i ∷ is) a b

-- with so many words more on the operand stack; where so many hidden words more are in use
abbrev pub deeper : ℕ → Place → Place
deeper n w = record w { depth = w.depth + n }

abbrev pub beyond : ℕ → Place → Place
beyond n w = record w { slot = w.slot + n }

-- behind an expression its words are on the operand stack, and its hidden words are in use
abbrev pub past : Expr → Place → Place
past e w = deeper (words_of e) (beyond (hidden_expr e) w)

abbrev pub past_all : Exprs → Place → Place
past_all es w = deeper (words_given es) (beyond (hidden_exprs es) w)

-- in an arm's region, which begins with no words and in no phrase
abbrev pub in_region : Place → Place
in_region w = record { points = in_arm w.points; around = []; depth = 0; slot = w.slot }

-- the first scratch word: 16 of them lie behind the variables; and the first hidden word, behind those
abbrev pub scratch : Coded → ℕ
scratch P = words_in_all P.locals

abbrev pub at_body : Coded → Place
at_body P = record { points = in_body Caller; around = []; depth = 0; slot = scratch P + 16 }

-- out of so many arms to a destination
abbrev pub jump_to : ℕ → Destination → Instruction
jump_to zero (Offset target) = Jump target
jump_to zero Caller = Return
jump_to (suc k) (Offset target) = Leave (suc k) target
jump_to (suc k) Caller = LeaveReturn (suc k)
