-- The instructions of leaves, checks, conversions, indexes and operators by themselves, their operands' left out (rule of this project). They are
-- right for all words, also where a word stands for no value of its type. An operator that needs more than the operand stack uses
-- scratch words, from slot t on; they are written when its operands have been evaluated and hold nothing past its end.
use Rattle.std.specs.Prelude.{ℕ, zero, suc, ◌+◌, List, [], ◌∷◌, ◌++◌, length, Bool, true, false, nat_eq, if◌then◌else◌}
use Rattle.mesa_types.specs.declared.typed_parts.Base.{Base}
use Rattle.mesa_types.specs.declared.typed_parts.Base.TheVariants.{Signed, Unsigned}
use Rattle.mesa_types.specs.declared.typed_parts.Bases.{Bases}
use Rattle.mesa_types.specs.declared.typed_parts.Range.{Range}
use Rattle.mesa_types.specs.declared.typed_parts.Range.TheVariants.{Every, From}
use Rattle.mesa_types.specs.declared.typed_parts.Conversion.{Conversion}
use Rattle.mesa_types.specs.declared.typed_parts.Conversion.TheVariants.{Kept, Widened, Narrowed, InCommon}
use Rattle.mesa_types.specs.declared.typed_parts.Operator.{Operator}
use Rattle.mesa_types.specs.declared.typed_parts.Operator.TheVariants as operator
use Rattle.mesa_base.specs.declared.relation.Relation.{Relation}
use Rattle.mesa_base.specs.declared.relation.Relation.TheVariants.{Equal, NotEqual, Less, AtMost, Greater, AtLeast}
use Rattle.mesa_types.specs.Longs.{more_of, less_of}
use Rattle.mesa_types.specs.Operators.{differ}
use Rattle.code_forms.specs.declared.instruction.Instruction.{Instruction}
use Rattle.code_forms.specs.declared.instruction.Instruction.TheVariants.{Lit, LoadL, StoreL, Index, Add, Sub, Mul, DivI, ModI, DivC, ModC, Eq, LessI, LessC, Not, CheckI, CheckC, JumpIf, JumpIfNot, Pop, Roll, AddD, SubD, MulD, DivDI, ModDI, DivDC, ModDC, EqD, LessDI, LessDC, WidenI, WidenC, NarrowI, NarrowC, CheckD}

-- Words of the operand stack.

abbrev pub pop_code : (words : ℕ) → List Instruction
pop_code zero = []
pop_code (suc n) = Pop (suc n) ∷ []

-- the words under so many others come to the top
abbrev pub lift_code : (words over : ℕ) → List Instruction
lift_code words zero = []
lift_code words (suc over) = Roll words (suc over) ∷ []

-- the words under so many others are dropped
abbrev pub drop_code : (words over : ℕ) → List Instruction
drop_code zero over = []
drop_code (suc n) over = lift_code (suc n) over ++ Pop (suc n) ∷ []

-- of a value, so many words after so many
abbrev pub field_code : (before words after : ℕ) → List Instruction
field_code before words after = pop_code after ++ drop_code before words

-- LONG numbers lie on the operand stack as their two words, the more significant one under the other.

abbrev pub long_code : ℕ → List Instruction
long_code n = Lit (more_of n) ∷ Lit (less_of n) ∷ []

-- Checks and indexes.

abbrev pub check_code : Range → List Instruction
check_code Every = []
check_code (From Signed first last) = CheckI first last ∷ []
check_code (From Unsigned first last) = CheckC first last ∷ []

-- Conversions. A number of LONG CARDINAL is read with a sign only where it is one of LONG INTEGER too.

abbrev pub widen_code : (from to : Base) → List Instruction
widen_code Signed Signed = WidenI ∷ []
widen_code Signed Unsigned = WidenI ∷ CheckD ∷ []
widen_code Unsigned to = WidenC ∷ []

abbrev pub narrow_code : (from to : Base) → List Instruction
narrow_code Signed Signed = NarrowI ∷ []
narrow_code Unsigned Signed = CheckD ∷ NarrowI ∷ []
narrow_code from Unsigned = NarrowC ∷ []

abbrev pub conversion_code : Conversion → List Instruction
conversion_code Kept = []
conversion_code (Widened from to) = widen_code from to
conversion_code (Narrowed from to r) = narrow_code from to ++ check_code r
conversion_code InCommon = CheckD ∷ []

-- an index counts from the index type's first word
abbrev pub from_code : (first : ℕ) → List Instruction
from_code zero = []
from_code (suc n) = Lit (suc n) ∷ Sub ∷ []

-- the offset so far and the index are on the operand stack
abbrev pub index_code : Range → (first elements words : ℕ) → List Instruction
index_code r first n words = check_code r ++ (from_code first ++ Index n words ∷ [])

-- Relations.

abbrev pub less : Base → Instruction
less Signed = LessI
less Unsigned = LessC

-- a relation, or its opposite
abbrev pub comparison : Base → Relation → List Instruction
comparison b Equal = Eq ∷ []
comparison b NotEqual = Eq ∷ []
comparison b Less = less b ∷ []
comparison b AtMost = Roll 1 1 ∷ less b ∷ []
comparison b Greater = Roll 1 1 ∷ less b ∷ []
comparison b AtLeast = less b ∷ []

abbrev pub is_opposite : Relation → Bool
is_opposite Equal = false
is_opposite NotEqual = true
is_opposite Less = false
is_opposite AtMost = true
is_opposite Greater = false
is_opposite AtLeast = true

abbrev pub not_if : Bool → List Instruction
not_if true = Not ∷ []
not_if false = []

abbrev pub relation_code : Base → Relation → List Instruction
relation_code b o = comparison b o ++ not_if (is_opposite o)

-- the same of LONG numbers
abbrev pub less_long : Base → Instruction
less_long Signed = LessDI
less_long Unsigned = LessDC

abbrev pub long_comparison : Base → Relation → List Instruction
long_comparison b Equal = EqD ∷ []
long_comparison b NotEqual = EqD ∷ []
long_comparison b Less = less_long b ∷ []
long_comparison b AtMost = Roll 2 2 ∷ less_long b ∷ []
long_comparison b Greater = Roll 2 2 ∷ less_long b ∷ []
long_comparison b AtLeast = less_long b ∷ []

abbrev pub long_relation_code : Base → Relation → List Instruction
long_relation_code b o = long_comparison b o ++ not_if (is_opposite o)

-- a jump where the word on top is true, or where it is not
abbrev pub jump_where : Bool → (target : ℕ) → Instruction
jump_where true target = JumpIf target
jump_where false target = JumpIfNot target

-- a jump where the relation holds, or where it does not
abbrev pub relation_jump : Base → Relation → Bool → (target : ℕ) → List Instruction
relation_jump b o sense target = comparison b o ++ jump_where (differ (is_opposite o) sense) target ∷ []

abbrev pub long_relation_jump : Base → Relation → Bool → (target : ℕ) → List Instruction
long_relation_jump b o sense target = long_comparison b o ++ jump_where (differ (is_opposite o) sense) target ∷ []

-- Operators.

abbrev pub operator_code : (t : ℕ) → Operator → List Instruction
operator_code t operator.Add = Add ∷ []
operator_code t operator.Subtract = Sub ∷ []
operator_code t operator.Multiply = Mul ∷ []
operator_code t (operator.Divide Signed) = DivI ∷ []
operator_code t (operator.Divide Unsigned) = DivC ∷ []
operator_code t (operator.Modulo Signed) = ModI ∷ []
operator_code t (operator.Modulo Unsigned) = ModC ∷ []
operator_code t (operator.AddToCharacter Unsigned) = CheckC 0 255 ∷ Roll 1 1 ∷ CheckC 0 255 ∷ Add ∷ CheckC 0 255 ∷ []
operator_code t (operator.AddToCharacter Signed) = CheckI 32768 255 ∷ Roll 1 1 ∷ CheckC 0 33023 ∷ Add ∷ CheckC 0 255 ∷ []
operator_code t (operator.SubtractFromCharacter Unsigned) =
    StoreL t 2 ∷ LoadL t 2 ∷ LessC ∷ CheckC 0 0 ∷ Pop 1 ∷ LoadL t 2 ∷ Sub ∷ CheckC 0 255 ∷ []
operator_code t (operator.SubtractFromCharacter Signed) =
    CheckI 65281 32767 ∷ Roll 1 1 ∷ CheckC 0 33022 ∷ Roll 1 1 ∷ Sub ∷ CheckC 0 255 ∷ []

-- of LONG numbers; in no text is one of them a character
abbrev pub long_operator_code : Operator → List Instruction
long_operator_code operator.Add = AddD ∷ []
long_operator_code operator.Subtract = SubD ∷ []
long_operator_code operator.Multiply = MulD ∷ []
long_operator_code (operator.Divide Signed) = DivDI ∷ []
long_operator_code (operator.Divide Unsigned) = DivDC ∷ []
long_operator_code (operator.Modulo Signed) = ModDI ∷ []
long_operator_code (operator.Modulo Unsigned) = ModDC ∷ []
long_operator_code (operator.AddToCharacter b) = AddD ∷ []
long_operator_code (operator.SubtractFromCharacter b) = SubD ∷ []

-- Intervals.

-- whether the word in slot s is less than that in slot u, as plain numbers
abbrev pub less_code : Base → (s : ℕ) → Base → (u : ℕ) → List Instruction
less_code Signed s Signed u = LoadL s 1 ∷ LoadL u 1 ∷ LessI ∷ []
less_code Unsigned s Unsigned u = LoadL s 1 ∷ LoadL u 1 ∷ LessC ∷ []
less_code Signed s Unsigned u = LoadL s 1 ∷ Lit 0 ∷ LessI ∷ Not ∷ LoadL s 1 ∷ LoadL u 1 ∷ LessC ∷ Not ∷ Mul ∷ Not ∷ []
less_code Unsigned s Signed u = LoadL u 1 ∷ Lit 0 ∷ LessI ∷ Not ∷ LoadL s 1 ∷ LoadL u 1 ∷ LessC ∷ Mul ∷ []

-- the word in slot u lies behind that in slot s, or at it where the interval is not open there
abbrev pub bound_code : (is_open : Bool) → Base → (s : ℕ) → Base → (u : ℕ) → List Instruction
bound_code true b s c u = less_code b s c u
bound_code false b s c u = less_code c u b s ++ Not ∷ []

-- the number and the two bounds go to three scratch words
abbrev pub within_code : (t : ℕ) → Bases → (open_first open_last : Bool) → List Instruction
within_code t b open_first open_last =
    StoreL t 3 ∷ (bound_code open_first b.first (t + 1) b.number t ++ (bound_code open_last b.number t b.last (t + 2) ++ Mul ∷ []))

-- whether the LONG number in slots s and s + 1 is less than that in u and u + 1, as plain numbers
abbrev pub long_less_code : Base → (s : ℕ) → Base → (u : ℕ) → List Instruction
long_less_code Signed s Signed u = LoadL s 2 ∷ LoadL u 2 ∷ LessDI ∷ []
long_less_code Unsigned s Unsigned u = LoadL s 2 ∷ LoadL u 2 ∷ LessDC ∷ []
long_less_code Signed s Unsigned u =
    LoadL s 2 ∷ Lit 0 ∷ Lit 0 ∷ LessDI ∷ Not ∷ LoadL s 2 ∷ LoadL u 2 ∷ LessDC ∷ Not ∷ Mul ∷ Not ∷ []
long_less_code Unsigned s Signed u = LoadL u 2 ∷ Lit 0 ∷ Lit 0 ∷ LessDI ∷ Not ∷ LoadL s 2 ∷ LoadL u 2 ∷ LessDC ∷ Mul ∷ []

abbrev pub long_bound_code : (is_open : Bool) → Base → (s : ℕ) → Base → (u : ℕ) → List Instruction
long_bound_code true b s c u = long_less_code b s c u
long_bound_code false b s c u = long_less_code c u b s ++ Not ∷ []

-- the number and the two bounds go to six scratch words
abbrev pub long_within_code : (t : ℕ) → Bases → (open_first open_last : Bool) → List Instruction
long_within_code t b open_first open_last =
    StoreL t 6
    ∷ (long_bound_code open_first b.first (t + 2) b.number t ++ (long_bound_code open_last b.number t b.last (t + 4) ++ Mul ∷ []))

-- Keyed lists. The values were evaluated in the order of the text, so many words each. Those that lie in order at the beginning stay;
-- then for each further place its value is brought to the top, over those after it and those that were brought there before.

abbrev pub total : List ℕ → ℕ
total [] = 0
total (s ∷ sizes) = s + total sizes

-- the words of the value that is for a place, the words after it, and a list without it
abbrev pub size_for : ℕ → (places sizes : List ℕ) → ℕ
size_for q (p ∷ ps) (s ∷ sizes) = if nat_eq p q then s else size_for q ps sizes
size_for q _ _ = 0

abbrev pub size_after : ℕ → (places sizes : List ℕ) → ℕ
size_after q (p ∷ ps) (s ∷ sizes) = if nat_eq p q then total sizes else size_after q ps sizes
size_after q _ _ = 0

abbrev pub without : ℕ → (places xs : List ℕ) → List ℕ
without q (p ∷ ps) (x ∷ xs) = if nat_eq p q then xs else x ∷ without q ps xs
without q _ _ = []

-- from place q on, so many places; so many words were brought to the top before
abbrev pub rolls : (q count : ℕ) → (places sizes : List ℕ) → (moved : ℕ) → List Instruction
rolls q zero places sizes moved = []
rolls q (suc count) places sizes moved =
    lift_code (size_for q places sizes) (size_after q places sizes + moved)
    ++ rolls (suc q) count (without q places places) (without q places sizes) (moved + size_for q places sizes)

abbrev pub arrange_from : (q : ℕ) → (places sizes : List ℕ) → List Instruction
arrange_from q (p ∷ ps) (s ∷ sizes) =
    if nat_eq p q then arrange_from (suc q) ps sizes else rolls q (length (p ∷ ps)) (p ∷ ps) (s ∷ sizes) 0
arrange_from q _ _ = []

-- a list without places stands in order
abbrev pub arrange_code : (places sizes : List ℕ) → List Instruction
arrange_code places sizes = arrange_from 0 places sizes
