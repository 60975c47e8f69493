-- The instructions that work on one activation alone, one row each: what it makes of the operands, of the variables of the frame and of
-- the globals of the instance (rule of this project).
use Rattle.std.specs.Prelude.{ℕ, suc, ◌+◌, ◌-◌, ◌*◌, List, ◌∷◌, length, nat_eq, nat_lt, nat_le, Bool, if◌then◌else◌}
use Rattle.object_files.specs.mesa_types.specs.declared.typed_parts.Base.TheVariants.{Signed, Unsigned}
use Rattle.object_files.specs.mesa_types.specs.declared.typed_parts.Range.TheVariants.{From}
use Rattle.code_forms.specs.mesa_base.specs.declared.relation.Relation.TheVariants.{Less}
use Rattle.object_files.specs.mesa_types.specs.Operators.{WordFault, OutOfBounds, Tried, Fine, Faulty, wrap, opposite, quotient, remainder, related, truth, fits, by_divisor, byte_at}
use Rattle.object_files.specs.mesa_types.specs.Longs.{more_of, less_of, wrap_long, opposite_long, quotient_long, remainder_long, related_long, extended, is_in_common, is_word_of, shifted_long}
use Rattle.code_forms.specs.declared.instruction.Instruction.{Instruction}
use Rattle.code_forms.specs.declared.instruction.Instruction.TheVariants.{Lit, Str, LoadL, StoreL, LoadG, StoreG, LoadLX, StoreLX, LoadGX, StoreGX, Index, Add, Sub, Mul, Neg, DivI, ModI, DivC, ModC, Eq, LessI, LessC, Not, CheckI, CheckC, StrLen, StrAt, Pop, Roll, ZeroL, ZeroG, AddD, SubD, MulD, NegD, DivDI, ModDI, DivDC, ModDC, EqD, LessDI, LessDC, WidenI, WidenC, NarrowI, NarrowC, CheckD}
use Rattle.machine_rules.specs.Words.{zeros, words_at, put_words, push, popped, under, on_top, on_two, on_long, on_two_longs}

pub record Work : Type 0 where
  pub operands : List ℕ
  pub variables : List ℕ
  pub globals : List ℕ

pub data Worked : Type 0 where
  Works : Work → Worked
  -- a signal is raised, and all is as it was
  Faults : WordFault → Worked
  -- the instruction touches more
  Touches : Worked

-- these are the operands; besides, the words from a slot on are these
unfoldable pub leaves : List ℕ → Work → Worked
leaves operands w = Works (record w { operands = operands })

unfoldable pub stores_local : ℕ → List ℕ → List ℕ → Work → Worked
stores_local slot words operands w = Works (record w { operands = operands; variables = put_words w.variables slot words })

unfoldable pub stores_global : ℕ → List ℕ → List ℕ → Work → Worked
stores_global slot words operands w = Works (record w { operands = operands; globals = put_words w.globals slot words })

unfoldable pub in_bounds : Bool → Worked → Worked
in_bounds b goes = if b then goes else Faults OutOfBounds

-- the word is pushed, or the fault raised in its place
unfoldable pub leaves_tried : Tried → List ℕ → Work → Worked
leaves_tried (Fine x) operands w = leaves (x ∷ operands) w
leaves_tried (Faulty fault) operands w = Faults fault

-- the two words of a LONG number are pushed, the more significant one first
unfoldable pub leaves_long : ℕ → List ℕ → Work → Worked
leaves_long n operands w = leaves (less_of n ∷ more_of n ∷ operands) w

unfoldable pub leaves_long_tried : Tried → List ℕ → Work → Worked
leaves_long_tried (Fine n) operands w = leaves_long n operands w
leaves_long_tried (Faulty fault) operands w = Faults fault

-- in a module of this number, with the bytes for which the two words of a string stand
unfoldable pub works : (texts : ℕ → ℕ → List ℕ) → (number : ℕ) → Instruction → Work → Worked
works texts number (Lit word) w = leaves (word ∷ w.operands) w
works texts number (Str literal) w = leaves (literal ∷ suc number ∷ w.operands) w
works texts number (LoadL s n) w = leaves (push (words_at w.variables s n) w.operands) w
works texts number (StoreL s n) w = stores_local s (popped n w.operands) (under n w.operands) w
works texts number (LoadG s n) w = leaves (push (words_at w.globals s n) w.operands) w
works texts number (StoreG s n) w = stores_global s (popped n w.operands) (under n w.operands) w
works texts number (LoadLX s x n) w =
    on_top w.operands λ o rest. in_bounds (nat_le (o + n) x) (leaves (push (words_at w.variables (s + o) n) rest) w)
works texts number (StoreLX s x n) w =
    on_top (under n w.operands) λ o rest. in_bounds (nat_le (o + n) x) (stores_local (s + o) (popped n w.operands) rest w)
works texts number (LoadGX s x n) w =
    on_top w.operands λ o rest. in_bounds (nat_le (o + n) x) (leaves (push (words_at w.globals (s + o) n) rest) w)
works texts number (StoreGX s x n) w =
    on_top (under n w.operands) λ o rest. in_bounds (nat_le (o + n) x) (stores_global (s + o) (popped n w.operands) rest w)
works texts number (Index c z) w = on_two w.operands λ o i rest. in_bounds (nat_lt i c) (leaves (wrap (o + i * z) ∷ rest) w)
works texts number Add w = on_two w.operands λ x y rest. leaves (wrap (x + y) ∷ rest) w
works texts number Sub w = on_two w.operands λ x y rest. leaves (wrap (x + (65536 - y)) ∷ rest) w
works texts number Mul w = on_two w.operands λ x y rest. leaves (wrap (x * y) ∷ rest) w
works texts number Neg w = on_top w.operands λ x rest. leaves (opposite x ∷ rest) w
works texts number DivI w = on_two w.operands λ x y rest. leaves_tried (by_divisor y (quotient Signed x y)) rest w
works texts number ModI w = on_two w.operands λ x y rest. leaves_tried (by_divisor y (remainder Signed x y)) rest w
works texts number DivC w = on_two w.operands λ x y rest. leaves_tried (by_divisor y (quotient Unsigned x y)) rest w
works texts number ModC w = on_two w.operands λ x y rest. leaves_tried (by_divisor y (remainder Unsigned x y)) rest w
works texts number Eq w = on_two w.operands λ x y rest. leaves (truth (nat_eq x y) ∷ rest) w
works texts number LessI w = on_two w.operands λ x y rest. leaves (truth (related Less Signed x y) ∷ rest) w
works texts number LessC w = on_two w.operands λ x y rest. leaves (truth (related Less Unsigned x y) ∷ rest) w
works texts number Not w = on_top w.operands λ x rest. leaves (truth (nat_eq x 0) ∷ rest) w
works texts number (CheckI a b) w = on_top w.operands λ x rest. in_bounds (fits (From Signed a b) x) (leaves (x ∷ rest) w)
works texts number (CheckC a b) w = on_top w.operands λ x rest. in_bounds (fits (From Unsigned a b) x) (leaves (x ∷ rest) w)
works texts number StrLen w = on_two w.operands λ m k rest. leaves (length (texts m k) ∷ rest) w
works texts number StrAt w =
    on_top w.operands λ i below. on_two below λ m k rest. leaves_tried (byte_at (texts m k) i) rest w
works texts number (Pop n) w = leaves (under n w.operands) w
works texts number (Roll n k) w =
    leaves (push (popped n (under k w.operands)) (push (popped k w.operands) (under n (under k w.operands)))) w
works texts number (ZeroL s n) w = stores_local s (zeros n) w.operands w
works texts number (ZeroG s n) w = stores_global s (zeros n) w.operands w
works texts number AddD w = on_two_longs w.operands λ x y rest. leaves_long (wrap_long (x + y)) rest w
works texts number SubD w = on_two_longs w.operands λ x y rest. leaves_long (wrap_long (x + (4294967296 - y))) rest w
works texts number MulD w = on_two_longs w.operands λ x y rest. leaves_long (wrap_long (x * y)) rest w
works texts number NegD w = on_long w.operands λ x rest. leaves_long (opposite_long x) rest w
works texts number DivDI w = on_two_longs w.operands λ x y rest. leaves_long_tried (by_divisor y (quotient_long Signed x y)) rest w
works texts number ModDI w = on_two_longs w.operands λ x y rest. leaves_long_tried (by_divisor y (remainder_long Signed x y)) rest w
works texts number DivDC w = on_two_longs w.operands λ x y rest. leaves_long_tried (by_divisor y (quotient_long Unsigned x y)) rest w
works texts number ModDC w = on_two_longs w.operands λ x y rest. leaves_long_tried (by_divisor y (remainder_long Unsigned x y)) rest w
works texts number EqD w = on_two_longs w.operands λ x y rest. leaves (truth (nat_eq x y) ∷ rest) w
works texts number LessDI w = on_two_longs w.operands λ x y rest. leaves (truth (related_long Less Signed x y) ∷ rest) w
works texts number LessDC w = on_two_longs w.operands λ x y rest. leaves (truth (related_long Less Unsigned x y) ∷ rest) w
works texts number WidenI w = on_top w.operands λ x rest. leaves_long (extended Signed x) rest w
works texts number WidenC w = on_top w.operands λ x rest. leaves_long (extended Unsigned x) rest w
works texts number NarrowI w = on_long w.operands λ x rest. in_bounds (is_word_of Signed (shifted_long Signed x)) (leaves (less_of x ∷ rest) w)
works texts number NarrowC w = on_long w.operands λ x rest. in_bounds (is_word_of Unsigned (shifted_long Signed x)) (leaves (less_of x ∷ rest) w)
works texts number CheckD w = on_long w.operands λ x rest. in_bounds (is_in_common x) (leaves w.operands w)
works texts number _ w = Touches
