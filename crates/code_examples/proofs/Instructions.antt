-- The table of the instructions: their numbers, lengths and names.
use Rattle.std.proofs.Common.{◌≡◌, ℕ, zero, suc, ◌+◌, List, [], ◌∷◌, map, codes, refl}
use Rattle.code_forms.specs.declared.instruction.Instruction.{Instruction}
use Rattle.code_forms.specs.declared.instruction.Instruction.TheVariants.{Lit, Str, LoadL, StoreL, LoadG, StoreG, LoadLX, StoreLX, LoadGX, StoreGX, Index, Add, Sub, Mul, Neg, DivI, ModI, DivC, ModC, Eq, LessI, LessC, Not, CheckI, CheckC, Jump, JumpIf, JumpIfNot, JumpBack, StrLen, StrAt, Call, CallLink, Return, Raise, RaiseLink, RaiseHost, ArmEnd, Resume, Leave, LeaveReturn, Pop, Roll, ZeroL, ZeroG, AddD, SubD, MulD, NegD, DivDI, ModDI, DivDC, ModDC, EqD, LessDI, LessDC, WidenI, WidenC, NarrowI, NarrowC, CheckD}
use Rattle.code_forms.specs.Instructions.{Fixed, number_of, bytes_of, name_of, effect_of}

-- all in order
abbrev all : List Instruction
all =
    Lit 0 ∷ Str 0 ∷ LoadL 0 0 ∷ StoreL 0 0 ∷ LoadG 0 0 ∷ StoreG 0 0 ∷ LoadLX 0 0 0 ∷ StoreLX 0 0 0 ∷ LoadGX 0 0 0 ∷ StoreGX 0 0 0 ∷ Index 0 0
    ∷ Add ∷ Sub ∷ Mul ∷ Neg ∷ DivI ∷ ModI ∷ DivC ∷ ModC ∷ Eq ∷ LessI ∷ LessC ∷ Not ∷ CheckI 0 0 ∷ CheckC 0 0
    ∷ Jump 0 ∷ JumpIf 0 ∷ JumpIfNot 0 ∷ JumpBack 0 ∷ StrLen ∷ StrAt ∷ Call 0 ∷ CallLink 0 ∷ Return ∷ Raise 0 ∷ RaiseLink 0 ∷ RaiseHost 0
    ∷ ArmEnd ∷ Resume 0 ∷ Leave 0 0 ∷ LeaveReturn 0 ∷ Pop 0 ∷ Roll 0 0 ∷ ZeroL 0 0 ∷ ZeroG 0 0
    ∷ AddD ∷ SubD ∷ MulD ∷ NegD ∷ DivDI ∷ ModDI ∷ DivDC ∷ ModDC ∷ EqD ∷ LessDI ∷ LessDC ∷ WidenI ∷ WidenC ∷ NarrowI ∷ NarrowC ∷ CheckD
    ∷ []

abbrev counted : ℕ → ℕ → List ℕ
counted first zero = []
counted first (suc n) = first ∷ counted (first + 1) n

-- the numbers go up one by one, from 1 to 61
numbers : map number_of all ≡ counted 1 61
numbers = refl

-- a byte for the number, two for each word, four for a target or the number of a procedure, a signal or a link, one for a host's fault
lengths : map bytes_of all
    ≡ 3 ∷ 3 ∷ 5 ∷ 5 ∷ 5 ∷ 5 ∷ 7 ∷ 7 ∷ 7 ∷ 7 ∷ 5
    ∷ 1 ∷ 1 ∷ 1 ∷ 1 ∷ 1 ∷ 1 ∷ 1 ∷ 1 ∷ 1 ∷ 1 ∷ 1 ∷ 1 ∷ 5 ∷ 5
    ∷ 5 ∷ 5 ∷ 5 ∷ 5 ∷ 1 ∷ 1 ∷ 5 ∷ 5 ∷ 1 ∷ 5 ∷ 5 ∷ 2
    ∷ 1 ∷ 3 ∷ 7 ∷ 3 ∷ 3 ∷ 5 ∷ 5 ∷ 5
    ∷ 1 ∷ 1 ∷ 1 ∷ 1 ∷ 1 ∷ 1 ∷ 1 ∷ 1 ∷ 1 ∷ 1 ∷ 1 ∷ 1 ∷ 1 ∷ 1 ∷ 1 ∷ 1
    ∷ []
lengths = refl

names : map name_of all
    ≡ codes "Lit" ∷ codes "Str" ∷ codes "LoadL" ∷ codes "StoreL" ∷ codes "LoadG" ∷ codes "StoreG" ∷ codes "LoadLX" ∷ codes "StoreLX"
    ∷ codes "LoadGX" ∷ codes "StoreGX" ∷ codes "Index" ∷ codes "Add" ∷ codes "Sub" ∷ codes "Mul" ∷ codes "Neg" ∷ codes "DivI" ∷ codes "ModI"
    ∷ codes "DivC" ∷ codes "ModC" ∷ codes "Eq" ∷ codes "LessI" ∷ codes "LessC" ∷ codes "Not" ∷ codes "CheckI" ∷ codes "CheckC" ∷ codes "Jump"
    ∷ codes "JumpIf" ∷ codes "JumpIfNot" ∷ codes "JumpBack" ∷ codes "StrLen" ∷ codes "StrAt" ∷ codes "Call" ∷ codes "CallLink" ∷ codes "Return"
    ∷ codes "Raise" ∷ codes "RaiseLink" ∷ codes "RaiseHost" ∷ codes "ArmEnd" ∷ codes "Resume" ∷ codes "Leave" ∷ codes "LeaveReturn" ∷ codes "Pop"
    ∷ codes "Roll" ∷ codes "ZeroL" ∷ codes "ZeroG" ∷ codes "AddD" ∷ codes "SubD" ∷ codes "MulD" ∷ codes "NegD" ∷ codes "DivDI" ∷ codes "ModDI"
    ∷ codes "DivDC" ∷ codes "ModDC" ∷ codes "EqD" ∷ codes "LessDI" ∷ codes "LessDC" ∷ codes "WidenI" ∷ codes "WidenC" ∷ codes "NarrowI"
    ∷ codes "NarrowC" ∷ codes "CheckD"
    ∷ []
names = refl

-- the words that those over LONG numbers take and put: a number is two
long_effects : map effect_of (AddD ∷ SubD ∷ MulD ∷ NegD ∷ DivDI ∷ ModDI ∷ DivDC ∷ ModDC ∷ EqD ∷ LessDI ∷ LessDC ∷ WidenI ∷ WidenC ∷ NarrowI ∷ NarrowC ∷ CheckD ∷ [])
    ≡ Fixed 4 2 ∷ Fixed 4 2 ∷ Fixed 4 2 ∷ Fixed 2 2 ∷ Fixed 4 2 ∷ Fixed 4 2 ∷ Fixed 4 2 ∷ Fixed 4 2 ∷ Fixed 4 1 ∷ Fixed 4 1 ∷ Fixed 4 1 ∷ Fixed 1 2 ∷ Fixed 1 2
    ∷ Fixed 2 1 ∷ Fixed 2 1 ∷ Fixed 2 2 ∷ []
long_effects = refl
