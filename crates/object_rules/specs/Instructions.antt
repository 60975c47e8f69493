-- Instructions in files: the number of the instruction, and its operands, each of two bytes unless the table says otherwise (rule
-- of this project).
use Rattle.std.specs.Prelude.{ℕ, suc, Bool, ◌&&◌, ◌==◌, List, [], ◌∷◌, get_or, sum, nat_le, Option, Some, None, if◌then◌else◌}
use Rattle.mesa_base.specs.declared.file_fault.Field.TheVariants as field
use Rattle.code_forms.specs.declared.instruction.Instruction.{Instruction}
use Rattle.code_forms.specs.declared.instruction.Instruction.TheVariants as i
use Rattle.code_forms.specs.Instructions.{number_of}
use Rattle.file_forms.specs.Forms.{Form, number, always, pair, ruled, built, variant, between}

-- how many bytes each operand has of the instruction with this number: targets and the numbers of procedures, signals and links
-- four, the number of RaiseHost one
unfoldable pub sizes_of : ℕ → List ℕ
sizes_of op =
    if nat_le op 0x02 then 2 ∷ []
    else if nat_le op 0x06 then 2 ∷ 2 ∷ []
    else if nat_le op 0x0A then 2 ∷ 2 ∷ 2 ∷ []
    else if nat_le op 0x0B then 2 ∷ 2 ∷ []
    else if nat_le op 0x17 then []
    else if nat_le op 0x19 then 2 ∷ 2 ∷ []
    else if nat_le op 0x1D then 4 ∷ []
    else if nat_le op 0x1F then []
    else if nat_le op 0x21 then 4 ∷ []
    else if nat_le op 0x22 then []
    else if nat_le op 0x24 then 4 ∷ []
    else if nat_le op 0x25 then 1 ∷ []
    else if nat_le op 0x26 then []
    else if nat_le op 0x27 then 2 ∷ []
    else if nat_le op 0x28 then 2 ∷ 4 ∷ []
    else if nat_le op 0x2A then 2 ∷ []
    else if nat_le op 0x2D then 2 ∷ 2 ∷ []
    else []

-- the operands, in order
abbrev pub operands_of : Instruction → List ℕ
operands_of (i.Lit word) = word ∷ []
operands_of (i.Str literal) = literal ∷ []
operands_of (i.LoadL slot words) = slot ∷ words ∷ []
operands_of (i.StoreL slot words) = slot ∷ words ∷ []
operands_of (i.LoadG slot words) = slot ∷ words ∷ []
operands_of (i.StoreG slot words) = slot ∷ words ∷ []
operands_of (i.LoadLX slot extent words) = slot ∷ extent ∷ words ∷ []
operands_of (i.StoreLX slot extent words) = slot ∷ extent ∷ words ∷ []
operands_of (i.LoadGX slot extent words) = slot ∷ extent ∷ words ∷ []
operands_of (i.StoreGX slot extent words) = slot ∷ extent ∷ words ∷ []
operands_of (i.Index count size) = count ∷ size ∷ []
operands_of (i.CheckI least most) = least ∷ most ∷ []
operands_of (i.CheckC least most) = least ∷ most ∷ []
operands_of (i.Jump target) = target ∷ []
operands_of (i.JumpIf target) = target ∷ []
operands_of (i.JumpIfNot target) = target ∷ []
operands_of (i.JumpBack target) = target ∷ []
operands_of (i.Call procedure) = procedure ∷ []
operands_of (i.CallLink link) = link ∷ []
operands_of (i.Raise signal) = signal ∷ []
operands_of (i.RaiseLink link) = link ∷ []
operands_of (i.RaiseHost fault) = fault ∷ []
operands_of (i.Resume words) = words ∷ []
operands_of (i.Leave arms target) = arms ∷ target ∷ []
operands_of (i.LeaveReturn arms) = arms ∷ []
operands_of (i.Pop words) = words ∷ []
operands_of (i.Roll words over) = words ∷ over ∷ []
operands_of (i.ZeroL slot words) = slot ∷ words ∷ []
operands_of (i.ZeroG slot words) = slot ∷ words ∷ []
operands_of _ = []

-- the instruction with this number and these operands
unfoldable pub with_operands : ℕ → (a b c : ℕ) → Instruction
with_operands op a b c =
    if op == 0x01 then i.Lit a
    else if op == 0x02 then i.Str a
    else if op == 0x03 then i.LoadL a b
    else if op == 0x04 then i.StoreL a b
    else if op == 0x05 then i.LoadG a b
    else if op == 0x06 then i.StoreG a b
    else if op == 0x07 then i.LoadLX a b c
    else if op == 0x08 then i.StoreLX a b c
    else if op == 0x09 then i.LoadGX a b c
    else if op == 0x0A then i.StoreGX a b c
    else if op == 0x0B then i.Index a b
    else if op == 0x0C then i.Add
    else if op == 0x0D then i.Sub
    else if op == 0x0E then i.Mul
    else if op == 0x0F then i.Neg
    else if op == 0x10 then i.DivI
    else if op == 0x11 then i.ModI
    else if op == 0x12 then i.DivC
    else if op == 0x13 then i.ModC
    else if op == 0x14 then i.Eq
    else if op == 0x15 then i.LessI
    else if op == 0x16 then i.LessC
    else if op == 0x17 then i.Not
    else if op == 0x18 then i.CheckI a b
    else if op == 0x19 then i.CheckC a b
    else if op == 0x1A then i.Jump a
    else if op == 0x1B then i.JumpIf a
    else if op == 0x1C then i.JumpIfNot a
    else if op == 0x1D then i.JumpBack a
    else if op == 0x1E then i.StrLen
    else if op == 0x1F then i.StrAt
    else if op == 0x20 then i.Call a
    else if op == 0x21 then i.CallLink a
    else if op == 0x22 then i.Return
    else if op == 0x23 then i.Raise a
    else if op == 0x24 then i.RaiseLink a
    else if op == 0x25 then i.RaiseHost a
    else if op == 0x26 then i.ArmEnd
    else if op == 0x27 then i.Resume a
    else if op == 0x28 then i.Leave a b
    else if op == 0x29 then i.LeaveReturn a
    else if op == 0x2A then i.Pop a
    else if op == 0x2B then i.Roll a b
    else if op == 0x2C then i.ZeroL a b
    else if op == 0x2D then i.ZeroG a b
    else if op == 0x2E then i.AddD
    else if op == 0x2F then i.SubD
    else if op == 0x30 then i.MulD
    else if op == 0x31 then i.NegD
    else if op == 0x32 then i.DivDI
    else if op == 0x33 then i.ModDI
    else if op == 0x34 then i.DivDC
    else if op == 0x35 then i.ModDC
    else if op == 0x36 then i.EqD
    else if op == 0x37 then i.LessDI
    else if op == 0x38 then i.LessDC
    else if op == 0x39 then i.WidenI
    else if op == 0x3A then i.WidenC
    else if op == 0x3B then i.NarrowI
    else if op == 0x3C then i.NarrowC
    else i.CheckD

abbrev pub instruction_of : ℕ × List ℕ → Instruction
instruction_of p = with_operands p.0 (get_or p.1 0 0) (get_or p.1 1 0) (get_or p.1 2 0)

abbrev pub instruction_parts : Instruction → ℕ × List ℕ
instruction_parts x = (number_of x, operands_of x)

abbrev pub first_and_rest : List ℕ → Option (ℕ × List ℕ)
first_and_rest [] = None
first_and_rest (n ∷ ns) = Some (n, ns)

-- numbers of these sizes
unfoldable pub numbers : List ℕ → Form (List ℕ)
numbers [] = always []
numbers (size ∷ sizes) = variant (λ p. p.0 ∷ p.1) first_and_rest (pair (number size) (λ _. numbers sizes))

-- the bytes of an instruction
abbrev pub size_of : ℕ → ℕ
size_of op = suc (sum (sizes_of op))

-- there is such an instruction, and it has no more bytes than are left
abbrev pub may_stand : (left op : ℕ) → Bool
may_stand left op = between 0x01 0x3D op && nat_le (size_of op) left

-- an instruction where so many bytes of the code are left
unfoldable pub instruction : ℕ → Form Instruction
instruction left = built instruction_of instruction_parts (pair (ruled (number 1) (may_stand left) field.Opcode) (λ op. numbers (sizes_of op)))
