-- The laws of instructions in files.
use Rattle.std.proofs.Common.{◌≡◌, ℕ, zero, suc, ◌+◌, ◌-◌, ◌<◌, ◌≤◌, List, [], ◌∷◌, length, Some, refl, ap, subst, arith}
use Rattle.std.specs.Prelude.{IsTrue}
use Rattle.std.proofs.lemmas.Bool.Decides.{nat_tests}
use Rattle.mesa_base.specs.declared.file_fault.Field.TheVariants as field
use Rattle.code_forms.specs.declared.instruction.Instruction.{Instruction}
use Rattle.code_forms.specs.declared.instruction.Instruction.TheVariants.{Lit, Str, LoadL, StoreL, LoadG, StoreG, LoadLX, StoreLX, LoadGX, StoreGX, Index, Add, Sub, Mul, Neg, DivI, ModI, DivC, ModC, Eq, LessI, LessC, Not, CheckI, CheckC, Jump, JumpIf, JumpIfNot, JumpBack, StrLen, StrAt, Call, CallLink, Return, Raise, RaiseLink, RaiseHost, ArmEnd, Resume, Leave, LeaveReturn, Pop, Roll, ZeroL, ZeroG, AddD, SubD, MulD, NegD, DivDI, ModDI, DivDC, ModDC, EqD, LessDI, LessDC, WidenI, WidenC, NarrowI, NarrowC, CheckD}
use Rattle.code_forms.specs.Instructions.{number_of, bytes_of}
use Rattle.file_forms.specs.Forms.{number, pair, ruled}
use Rattle.file_forms.specs.Lawful.{Lawful}
use Rattle.file_forms.proofs.Fields.{number_law, always_law}
use Rattle.file_forms.proofs.Pairs.{pair_law}
use Rattle.file_forms.proofs.Made.{ruled_law, built_law, variant_law}
use Rattle.object_rules.specs.Instructions.{sizes_of, with_operands, instruction_of, instruction_parts, first_and_rest, numbers, size_of, may_stand, instruction}

rest_back : (ns : List ℕ) (p : ℕ × List ℕ) → first_and_rest ns ≡ Some p → ns ≡ p.0 ∷ p.1
rest_back [] p e = absurd cc
rest_back (n ∷ ns) p e = cc

pub numbers_law : (sizes : List ℕ) → Lawful (numbers sizes)
unfolding numbers
numbers_law [] = always_law []
numbers_law (size ∷ sizes) =
    variant_law (λ p. p.0 ∷ p.1) (pair (number size) (λ _. numbers sizes)) (pair_law (number size) (λ _. numbers sizes) (number_law size) (λ _ _. numbers_law sizes))
    first_and_rest (λ p fits. refl) rest_back

-- there is a number for each size
pub numbers_fit : (sizes ns : List ℕ) → (numbers sizes).fits ns → length ns ≡ length sizes
unfolding numbers
numbers_fit [] ns fits = ap length fits
numbers_fit (size ∷ sizes) [] fits = absurd fits
numbers_fit (size ∷ sizes) (n ∷ ns) fits = ap suc (numbers_fit sizes ns fits.1)

-- ---- the number and the operands tell the instruction

-- where there are so many operands as the number wants, they and the number are found again
Back : ℕ → Type 0
Back op = (ns : List ℕ) → length ns ≡ length (sizes_of op) → instruction_parts (instruction_of (op, ns)) ≡ (op, ns)

none : (op : ℕ) → length (sizes_of op) ≡ 0 → instruction_parts (with_operands op 0 0 0) ≡ (op, []) → Back op
unfolding Back
none op size is [] e = is
none op size is (a ∷ ns) e = absurd (omega (arith, e, size))

one : (op : ℕ) → length (sizes_of op) ≡ 1 → ((a : ℕ) → instruction_parts (with_operands op a 0 0) ≡ (op, a ∷ [])) → Back op
unfolding Back
one op size is [] e = absurd (omega (arith, e, size))
one op size is (a ∷ []) e = is a
one op size is (a ∷ b ∷ ns) e = absurd (omega (arith, e, size))

two : (op : ℕ) → length (sizes_of op) ≡ 2 → ((a b : ℕ) → instruction_parts (with_operands op a b 0) ≡ (op, a ∷ b ∷ [])) → Back op
unfolding Back
two op size is [] e = absurd (omega (arith, e, size))
two op size is (a ∷ []) e = absurd (omega (arith, e, size))
two op size is (a ∷ b ∷ []) e = is a b
two op size is (a ∷ b ∷ c ∷ ns) e = absurd (omega (arith, e, size))

three : (op : ℕ) → length (sizes_of op) ≡ 3 → ((a b c : ℕ) → instruction_parts (with_operands op a b c) ≡ (op, a ∷ b ∷ c ∷ [])) → Back op
unfolding Back
three op size is [] e = absurd (omega (arith, e, size))
three op size is (a ∷ []) e = absurd (omega (arith, e, size))
three op size is (a ∷ b ∷ []) e = absurd (omega (arith, e, size))
three op size is (a ∷ b ∷ c ∷ []) e = is a b c
three op size is (a ∷ b ∷ c ∷ d ∷ ns) e = absurd (omega (arith, e, size))

-- so many numbers from one on
Backs : (count from : ℕ) → Type 0
Backs zero from = Unit {0}
Backs (suc n) from = Back from × Backs n (suc from)

infixr 5 ◌then◌
abbrev ◌then◌ : {A B : Type 0} → A → B → A × B
a then b = (a, b)

back_at : (d count from : ℕ) → Backs count from → d < count → Back (from + d)
unfolding Backs
back_at d zero from all less = absurd (omega (arith, less))
back_at zero (suc n) from all less = subst Back (omega arith) all.0
back_at (suc d) (suc n) from all less = subst Back (omega arith) (back_at d n (suc from) all.1 (omega (arith, less)))

backs : Backs 61 1
unfolding Backs sizes_of with_operands
backs =
    one 0x01 refl (λ a. refl) then
    one 0x02 refl (λ a. refl) then
    two 0x03 refl (λ a b. refl) then
    two 0x04 refl (λ a b. refl) then
    two 0x05 refl (λ a b. refl) then
    two 0x06 refl (λ a b. refl) then
    three 0x07 refl (λ a b c. refl) then
    three 0x08 refl (λ a b c. refl) then
    three 0x09 refl (λ a b c. refl) then
    three 0x0A refl (λ a b c. refl) then
    two 0x0B refl (λ a b. refl) then
    none 0x0C refl refl then
    none 0x0D refl refl then
    none 0x0E refl refl then
    none 0x0F refl refl then
    none 0x10 refl refl then
    none 0x11 refl refl then
    none 0x12 refl refl then
    none 0x13 refl refl then
    none 0x14 refl refl then
    none 0x15 refl refl then
    none 0x16 refl refl then
    none 0x17 refl refl then
    two 0x18 refl (λ a b. refl) then
    two 0x19 refl (λ a b. refl) then
    one 0x1A refl (λ a. refl) then
    one 0x1B refl (λ a. refl) then
    one 0x1C refl (λ a. refl) then
    one 0x1D refl (λ a. refl) then
    none 0x1E refl refl then
    none 0x1F refl refl then
    one 0x20 refl (λ a. refl) then
    one 0x21 refl (λ a. refl) then
    none 0x22 refl refl then
    one 0x23 refl (λ a. refl) then
    one 0x24 refl (λ a. refl) then
    one 0x25 refl (λ a. refl) then
    none 0x26 refl refl then
    one 0x27 refl (λ a. refl) then
    two 0x28 refl (λ a b. refl) then
    one 0x29 refl (λ a. refl) then
    one 0x2A refl (λ a. refl) then
    two 0x2B refl (λ a b. refl) then
    two 0x2C refl (λ a b. refl) then
    two 0x2D refl (λ a b. refl) then
    none 0x2E refl refl then
    none 0x2F refl refl then
    none 0x30 refl refl then
    none 0x31 refl refl then
    none 0x32 refl refl then
    none 0x33 refl refl then
    none 0x34 refl refl then
    none 0x35 refl refl then
    none 0x36 refl refl then
    none 0x37 refl refl then
    none 0x38 refl refl then
    none 0x39 refl refl then
    none 0x3A refl refl then
    none 0x3B refl refl then
    none 0x3C refl refl then
    none 0x3D refl refl then
    tt

in_range : (left op : ℕ) → IsTrue (may_stand left op) → (1 ≤ op) × (op ≤ 61) × (size_of op ≤ left)
in_range left op h = (first, last, room)
  where
    first : 1 ≤ op
    first = grind (arith, nat_tests, h)

    last : op ≤ 61
    last = grind (arith, nat_tests, h)

    room : size_of op ≤ left
    room = grind (arith, nat_tests, h)

instruction_back : (left : ℕ) (p : ℕ × List ℕ) → IsTrue (may_stand left p.0) → (numbers (sizes_of p.0)).fits p.1 → instruction_parts (instruction_of p) ≡ p
unfolding Back
instruction_back left p may fits =
    let range = in_range left p.0 may in
    let back : Back p.0 = subst Back (omega (arith, range.0)) (back_at (p.0 - 1) 61 1 backs (omega (arith, range.0, range.1))) in
    back p.1 (numbers_fit (sizes_of p.0) p.1 fits)

instruction_forth : (x : Instruction) → instruction_of (instruction_parts x) ≡ x
unfolding with_operands
instruction_forth (Lit a) = refl
instruction_forth (Str a) = refl
instruction_forth (LoadL a b) = refl
instruction_forth (StoreL a b) = refl
instruction_forth (LoadG a b) = refl
instruction_forth (StoreG a b) = refl
instruction_forth (LoadLX a b c) = refl
instruction_forth (StoreLX a b c) = refl
instruction_forth (LoadGX a b c) = refl
instruction_forth (StoreGX a b c) = refl
instruction_forth (Index a b) = refl
instruction_forth Add = refl
instruction_forth Sub = refl
instruction_forth Mul = refl
instruction_forth Neg = refl
instruction_forth DivI = refl
instruction_forth ModI = refl
instruction_forth DivC = refl
instruction_forth ModC = refl
instruction_forth Eq = refl
instruction_forth LessI = refl
instruction_forth LessC = refl
instruction_forth Not = refl
instruction_forth (CheckI a b) = refl
instruction_forth (CheckC a b) = refl
instruction_forth (Jump a) = refl
instruction_forth (JumpIf a) = refl
instruction_forth (JumpIfNot a) = refl
instruction_forth (JumpBack a) = refl
instruction_forth StrLen = refl
instruction_forth StrAt = refl
instruction_forth (Call a) = refl
instruction_forth (CallLink a) = refl
instruction_forth Return = refl
instruction_forth (Raise a) = refl
instruction_forth (RaiseLink a) = refl
instruction_forth (RaiseHost a) = refl
instruction_forth ArmEnd = refl
instruction_forth (Resume a) = refl
instruction_forth (Leave a b) = refl
instruction_forth (LeaveReturn a) = refl
instruction_forth (Pop a) = refl
instruction_forth (Roll a b) = refl
instruction_forth (ZeroL a b) = refl
instruction_forth (ZeroG a b) = refl
instruction_forth AddD = refl
instruction_forth SubD = refl
instruction_forth MulD = refl
instruction_forth NegD = refl
instruction_forth DivDI = refl
instruction_forth ModDI = refl
instruction_forth DivDC = refl
instruction_forth ModDC = refl
instruction_forth EqD = refl
instruction_forth LessDI = refl
instruction_forth LessDC = refl
instruction_forth WidenI = refl
instruction_forth WidenC = refl
instruction_forth NarrowI = refl
instruction_forth NarrowC = refl
instruction_forth CheckD = refl

-- the length in bytes
pub sizes_sum : (x : Instruction) → size_of (number_of x) ≡ bytes_of x
unfolding sizes_of
sizes_sum (Lit a) = refl
sizes_sum (Str a) = refl
sizes_sum (LoadL a b) = refl
sizes_sum (StoreL a b) = refl
sizes_sum (LoadG a b) = refl
sizes_sum (StoreG a b) = refl
sizes_sum (LoadLX a b c) = refl
sizes_sum (StoreLX a b c) = refl
sizes_sum (LoadGX a b c) = refl
sizes_sum (StoreGX a b c) = refl
sizes_sum (Index a b) = refl
sizes_sum Add = refl
sizes_sum Sub = refl
sizes_sum Mul = refl
sizes_sum Neg = refl
sizes_sum DivI = refl
sizes_sum ModI = refl
sizes_sum DivC = refl
sizes_sum ModC = refl
sizes_sum Eq = refl
sizes_sum LessI = refl
sizes_sum LessC = refl
sizes_sum Not = refl
sizes_sum (CheckI a b) = refl
sizes_sum (CheckC a b) = refl
sizes_sum (Jump a) = refl
sizes_sum (JumpIf a) = refl
sizes_sum (JumpIfNot a) = refl
sizes_sum (JumpBack a) = refl
sizes_sum StrLen = refl
sizes_sum StrAt = refl
sizes_sum (Call a) = refl
sizes_sum (CallLink a) = refl
sizes_sum Return = refl
sizes_sum (Raise a) = refl
sizes_sum (RaiseLink a) = refl
sizes_sum (RaiseHost a) = refl
sizes_sum ArmEnd = refl
sizes_sum (Resume a) = refl
sizes_sum (Leave a b) = refl
sizes_sum (LeaveReturn a) = refl
sizes_sum (Pop a) = refl
sizes_sum (Roll a b) = refl
sizes_sum (ZeroL a b) = refl
sizes_sum (ZeroG a b) = refl
sizes_sum AddD = refl
sizes_sum SubD = refl
sizes_sum MulD = refl
sizes_sum NegD = refl
sizes_sum DivDI = refl
sizes_sum ModDI = refl
sizes_sum DivDC = refl
sizes_sum ModDC = refl
sizes_sum EqD = refl
sizes_sum LessDI = refl
sizes_sum LessDC = refl
sizes_sum WidenI = refl
sizes_sum WidenC = refl
sizes_sum NarrowI = refl
sizes_sum NarrowC = refl
sizes_sum CheckD = refl

pub instruction_law : (left : ℕ) → Lawful (instruction left)
unfolding instruction
instruction_law left =
    built_law instruction_of (pair (ruled (number 1) (may_stand left) field.Opcode) (λ op. numbers (sizes_of op)))
    (pair_law (ruled (number 1) (may_stand left) field.Opcode) (λ op. numbers (sizes_of op)) (ruled_law (number 1) (may_stand left) field.Opcode (number_law 1)) (λ op _. numbers_law (sizes_of op)))
    instruction_parts (λ p fits. instruction_back left p fits.0.1 fits.1) instruction_forth

-- an instruction has a byte at least, and no more than are left
pub instruction_sized : (left : ℕ) (x : Instruction) → (instruction left).fits x → (0 < bytes_of x) × (bytes_of x ≤ left)
unfolding instruction
instruction_sized left x fits =
    let range = in_range left (number_of x) fits.0.1 in
    (omega (arith, sizes_sum x), omega (arith, sizes_sum x, range.2))
