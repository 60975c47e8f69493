-- The run of the topmost activation over one region of words, which has the variables of its frame and its operands (rule of this
-- project). The operand pushed last stands last.
use Rattle.std.specs.Prelude.{◌≡◌, ℕ, ◌+◌, ◌-◌, ◌*◌, List, ◌++◌, length, take, drop, replicate, Bool, Option, Some, None, nat_eq, nat_lt, nat_le, slice_index, slice_set, if◌then◌else◌}
use Rattle.mesa_types.specs.declared.typed_parts.Base.TheVariants.{Signed, Unsigned}
use Rattle.mesa_types.specs.declared.typed_parts.Range.TheVariants.{From}
use Rattle.mesa_base.specs.declared.relation.Relation.TheVariants.{Less}
use Rattle.mesa_types.specs.Operators.{OutOfBounds, DividedByZero, Tried, Fine, Faulty, wrap, opposite, quotient, remainder, related, truth, fits, by_divisor, byte_at}
use Rattle.mesa_types.specs.Longs.{two_words, less_of, long_of, wrap_long, shifted_long, opposite_long, quotient_long, remainder_long, related_long, extended, is_in_common, is_word_of}
use Rattle.code_forms.specs.declared.instruction.Instruction.{Instruction}
use Rattle.code_forms.specs.declared.instruction.Instruction.TheVariants.{Lit, Str, LoadL, StoreL, LoadG, StoreG, LoadLX, StoreLX, LoadGX, StoreGX, Index, Add, Sub, Mul, Neg, DivI, ModI, DivC, ModC, Eq, LessI, LessC, Not, CheckI, CheckC, Jump, JumpIf, JumpIfNot, JumpBack, StrLen, StrAt, Pop, Roll, ZeroL, ZeroG, AddD, SubD, MulD, NegD, DivDI, ModDI, DivDC, ModDC, EqD, LessDI, LessDC, WidenI, WidenC, NarrowI, NarrowC, CheckD}
use Rattle.machine_topmost.specs.declared.registers.Registers.{Registers}
use Rattle.machine_topmost.specs.declared.registers.Why.{Why}
use Rattle.machine_topmost.specs.declared.registers.Why.TheVariants.{Touches, Spent, BoundsFault, ZeroDivisor}

-- so many words of a region from a place on
abbrev pub part : List ℕ → ℕ → ℕ → List ℕ
part region at count = take count (drop at region)

-- a region with these words from a place on
abbrev pub with_part : List ℕ → ℕ → List ℕ → List ℕ
with_part region at new = take at region ++ new ++ drop (at + length new) region

-- the region, the globals of the instance, the registers and the turns left
pub record Flat : Type 0 where
  pub region : List ℕ
  pub globals : List ℕ
  pub registers : Registers
  pub turns : ℕ

pub data Flowed : Type 0 where
  Went : Flat → Flowed
  -- and all is as it was
  Paused : Why → Flowed

abbrev pub stepped_to : (sp entry : ℕ) → Registers → Registers
stepped_to sp entry r = record { top = r.top; slots = r.slots; sp = sp; entry = entry }

-- goes on behind the instruction; the operands end there
abbrev pub behind : ℕ → Registers → Registers
behind sp r = stepped_to sp (r.entry + 1) r

abbrev pub leaves : List ℕ → ℕ → Flat → Flowed
leaves region sp s = Went (record { region = region; globals = s.globals; registers = behind sp s.registers; turns = s.turns })

abbrev pub leaves_globals : List ℕ → ℕ → Flat → Flowed
leaves_globals globals sp s = Went (record { region = s.region; globals = globals; registers = behind sp s.registers; turns = s.turns })

-- the operand of this number, the topmost one being 1
abbrev pub operand : ℕ → Flat → ℕ
operand k s = slice_index s.region (s.registers.sp - k)

-- the place of the operand of this number
abbrev pub place : ℕ → Flat → ℕ
place k s = s.registers.sp - k

-- the word stands in the place of so many operands
abbrev pub over : ℕ → ℕ → Flat → Flowed
over takes word s = leaves (slice_set s.region (place takes s) word) (place takes s + 1) s

abbrev pub in_bounds : Bool → Flowed → Flowed
in_bounds b goes = if b then goes else Paused BoundsFault

unfoldable pub over_tried : ℕ → Tried → Flat → Flowed
over_tried takes (Fine word) s = over takes word s
over_tried takes (Faulty OutOfBounds) s = Paused BoundsFault
over_tried takes (Faulty DividedByZero) s = Paused ZeroDivisor

-- the LONG number whose less significant word is the operand of this number, and whose other word lies under it
abbrev pub long_operand : ℕ → Flat → ℕ
long_operand k s = long_of (operand (k + 1) s) (operand k s)

-- the two words of the number stand in the place of so many operands
abbrev pub over_long : ℕ → ℕ → Flat → Flowed
over_long takes n s = leaves (with_part s.region (place takes s) (two_words n)) (place takes s + 2) s

unfoldable pub over_long_tried : ℕ → Tried → Flat → Flowed
over_long_tried takes (Fine n) s = over_long takes n s
over_long_tried takes (Faulty OutOfBounds) s = Paused BoundsFault
over_long_tried takes (Faulty DividedByZero) s = Paused ZeroDivisor

-- an instruction over LONG numbers
unfoldable pub operates_long : Instruction → Flat → Flowed
operates_long AddD s = over_long 4 (wrap_long (long_operand 3 s + long_operand 1 s)) s
operates_long SubD s = over_long 4 (wrap_long (long_operand 3 s + (4294967296 - long_operand 1 s))) s
operates_long MulD s = over_long 4 (wrap_long (long_operand 3 s * long_operand 1 s)) s
operates_long NegD s = over_long 2 (opposite_long (long_operand 1 s)) s
operates_long DivDI s = over_long_tried 4 (by_divisor (long_operand 1 s) (quotient_long Signed (long_operand 3 s) (long_operand 1 s))) s
operates_long ModDI s = over_long_tried 4 (by_divisor (long_operand 1 s) (remainder_long Signed (long_operand 3 s) (long_operand 1 s))) s
operates_long DivDC s = over_long_tried 4 (by_divisor (long_operand 1 s) (quotient_long Unsigned (long_operand 3 s) (long_operand 1 s))) s
operates_long ModDC s = over_long_tried 4 (by_divisor (long_operand 1 s) (remainder_long Unsigned (long_operand 3 s) (long_operand 1 s))) s
operates_long EqD s = over 4 (truth (nat_eq (long_operand 3 s) (long_operand 1 s))) s
operates_long LessDI s = over 4 (truth (related_long Less Signed (long_operand 3 s) (long_operand 1 s))) s
operates_long LessDC s = over 4 (truth (related_long Less Unsigned (long_operand 3 s) (long_operand 1 s))) s
operates_long WidenI s = over_long 1 (extended Signed (operand 1 s)) s
operates_long WidenC s = over_long 1 (extended Unsigned (operand 1 s)) s
operates_long NarrowI s = in_bounds (is_word_of Signed (shifted_long Signed (long_operand 1 s))) (over 2 (less_of (long_operand 1 s)) s)
operates_long NarrowC s = in_bounds (is_word_of Unsigned (shifted_long Signed (long_operand 1 s))) (over 2 (less_of (long_operand 1 s)) s)
operates_long CheckD s = in_bounds (is_in_common (long_operand 1 s)) (leaves s.region s.registers.sp s)
operates_long _ s = Paused Touches

-- the instruction at an entry, which operates on operands; with the bytes for which the two words of a string stand
unfoldable pub operates : (texts : ℕ → ℕ → List ℕ) → Instruction → Flat → Flowed
operates texts (Index c z) s = in_bounds (nat_lt (operand 1 s) c) (over 2 (wrap (operand 2 s + operand 1 s * z)) s)
operates texts Add s = over 2 (wrap (operand 2 s + operand 1 s)) s
operates texts Sub s = over 2 (wrap (operand 2 s + (65536 - operand 1 s))) s
operates texts Mul s = over 2 (wrap (operand 2 s * operand 1 s)) s
operates texts Neg s = over 1 (opposite (operand 1 s)) s
operates texts DivI s = over_tried 2 (by_divisor (operand 1 s) (quotient Signed (operand 2 s) (operand 1 s))) s
operates texts ModI s = over_tried 2 (by_divisor (operand 1 s) (remainder Signed (operand 2 s) (operand 1 s))) s
operates texts DivC s = over_tried 2 (by_divisor (operand 1 s) (quotient Unsigned (operand 2 s) (operand 1 s))) s
operates texts ModC s = over_tried 2 (by_divisor (operand 1 s) (remainder Unsigned (operand 2 s) (operand 1 s))) s
operates texts Eq s = over 2 (truth (nat_eq (operand 2 s) (operand 1 s))) s
operates texts LessI s = over 2 (truth (related Less Signed (operand 2 s) (operand 1 s))) s
operates texts LessC s = over 2 (truth (related Less Unsigned (operand 2 s) (operand 1 s))) s
operates texts Not s = over 1 (truth (nat_eq (operand 1 s) 0)) s
operates texts (CheckI a b) s = in_bounds (fits (From Signed a b) (operand 1 s)) (leaves s.region s.registers.sp s)
operates texts (CheckC a b) s = in_bounds (fits (From Unsigned a b) (operand 1 s)) (leaves s.region s.registers.sp s)
operates texts StrLen s = over 2 (length (texts (operand 2 s) (operand 1 s))) s
operates texts StrAt s = over_tried 3 (byte_at (texts (operand 3 s) (operand 2 s)) (operand 1 s)) s
operates texts i s = operates_long i s

-- goes on at the entry of a number
abbrev pub jumps : ℕ → ℕ → Flat → Flowed
jumps sp target s = Went (record { region = s.region; globals = s.globals; registers = stepped_to sp target s.registers; turns = s.turns })

abbrev pub jumps_back : ℕ → Flat → Flowed
jumps_back target s =
    if nat_eq s.turns 0 then Paused Spent
    else Went (record { region = s.region; globals = s.globals; registers = stepped_to s.registers.sp target s.registers; turns = s.turns - 1 })

-- the instruction at an entry, in a module of this number; `target` is the number of the entry to which it jumps
unfoldable pub flat : (texts : ℕ → ℕ → List ℕ) → (number : ℕ) → Instruction → (target : ℕ) → Flat → Flowed
flat texts number (Lit w) target s = leaves (slice_set s.region s.registers.sp w) (s.registers.sp + 1) s
flat texts number (Str k) target s =
    leaves (slice_set (slice_set s.region s.registers.sp (number + 1)) (s.registers.sp + 1) k) (s.registers.sp + 2) s
flat texts number (LoadL x n) target s =
    leaves (with_part s.region s.registers.sp (part s.region (s.registers.slots + x) n)) (s.registers.sp + n) s
flat texts number (StoreL x n) target s = leaves (with_part s.region (s.registers.slots + x) (part s.region (place n s) n)) (place n s) s
flat texts number (LoadG x n) target s = leaves (with_part s.region s.registers.sp (part s.globals x n)) (s.registers.sp + n) s
flat texts number (StoreG x n) target s = leaves_globals (with_part s.globals x (part s.region (place n s) n)) (place n s) s
flat texts number (LoadLX x e n) target s = in_bounds (nat_le (operand 1 s + n) e)
    (leaves (with_part s.region (place 1 s) (part s.region (s.registers.slots + x + operand 1 s) n)) (place 1 s + n) s)
flat texts number (StoreLX x e n) target s = in_bounds (nat_le (operand (n + 1) s + n) e)
    (leaves (with_part s.region (s.registers.slots + x + operand (n + 1) s) (part s.region (place n s) n)) (place (n + 1) s) s)
flat texts number (LoadGX x e n) target s = in_bounds (nat_le (operand 1 s + n) e)
    (leaves (with_part s.region (place 1 s) (part s.globals (x + operand 1 s) n)) (place 1 s + n) s)
flat texts number (StoreGX x e n) target s = in_bounds (nat_le (operand (n + 1) s + n) e)
    (leaves_globals (with_part s.globals (x + operand (n + 1) s) (part s.region (place n s) n)) (place (n + 1) s) s)
flat texts number (Pop n) target s = leaves s.region (place n s) s
flat texts number (Roll n k) target s =
    leaves (with_part s.region (place (n + k) s) (part s.region (place k s) k ++ part s.region (place (n + k) s) n)) s.registers.sp s
flat texts number (ZeroL x n) target s = leaves (with_part s.region (s.registers.slots + x) (replicate n 0)) s.registers.sp s
flat texts number (ZeroG x n) target s = leaves_globals (with_part s.globals x (replicate n 0)) s.registers.sp s
flat texts number (Jump offset) target s = jumps s.registers.sp target s
flat texts number (JumpIf offset) target s = jumps (place 1 s) (if nat_eq (operand 1 s) 0 then s.registers.entry + 1 else target) s
flat texts number (JumpIfNot offset) target s = jumps (place 1 s) (if nat_eq (operand 1 s) 0 then target else s.registers.entry + 1) s
flat texts number (JumpBack offset) target s = jumps_back target s
flat texts number i target s = operates texts i s

-- what an answer says of an instruction
unfoldable pub Flows : Flowed → Option Why → Flat → Flat → Type 0
Flows flowed None s t = flowed ≡ Went t
Flows flowed (Some why) s t = (flowed ≡ Paused why) × (t ≡ s)

-- the same, where the instruction touches the region alone: whatever stands beside it
abbrev pub FlowsInRegion : (Flat → Flowed) → Option Why → (old new : List ℕ) → Registers → Registers → Type 0
FlowsInRegion flow answer old new r q = (globals : List ℕ) (turns : ℕ) →
    Flows (flow (record { region = old; globals = globals; registers = r; turns = turns })) answer
    (record { region = old; globals = globals; registers = r; turns = turns })
    (record { region = new; globals = globals; registers = q; turns = turns })
