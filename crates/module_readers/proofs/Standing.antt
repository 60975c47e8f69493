-- An instruction is its number and what stands behind it.
use Rattle.std.proofs.Common.{◌≡◌, ℕ, ◌<◌, ◌≤◌, List, [], ◌∷◌, get_or, Result, Ok, Err, refl, sym, ap, ◌∙◌, arith}
use Rattle.code_forms.specs.Instructions.{bytes_of}
use Rattle.code_forms.specs.declared.instruction.Instruction.{Instruction}
use Rattle.file_forms.specs.declared.stopped.Stopped.{Stopped}
use Rattle.std.specs.Prelude.{IfOk}
use Rattle.file_forms.specs.Forms.{Reading, ◌>>=◌, number, ruled}
use Rattle.file_forms.specs.Reads.{Reads}
use Rattle.file_forms.proofs.Steps.{ok_is, never_err}
use Rattle.mesa_base.specs.declared.file_fault.Field.TheVariants.{Opcode}
use Rattle.module_readers.specs.Behind.{IsNumber, behind}
use Rattle.module_readers.proofs.Numbered.{byte_number, leave_number, sized}
use Rattle.object_rules.specs.Instructions.{sizes_of, size_of, instruction_of, numbers, may_stand, instruction}

abbrev put_first : ℕ → List ℕ × List ℕ → Reading (ℕ × List ℕ)
put_first op y = Ok ((op, y.0), y.1)

abbrev make_one : (ℕ × List ℕ) × List ℕ → Reading Instruction
make_one z = Ok (instruction_of z.0, z.1)

abbrev make_of : ℕ → List ℕ × List ℕ → Reading Instruction
make_of op y = Ok (instruction_of (op, y.0), y.1)

joined : (op : ℕ) (r : Reading (List ℕ)) → ((r >>= put_first op) >>= make_one) ≡ (r >>= make_of op)
joined op (Ok y) = refl
joined op (Err why) = refl

pub stands : (left op : ℕ) (bytes rest : List ℕ) → (ruled (number 1) (may_stand left) Opcode).read bytes ≡ Ok (op, rest)
    → (instruction left).read bytes ≡ (behind (sizes_of op) op).read rest
unfolding instruction behind
stands left op bytes rest e = rw e (joined op ((numbers (sizes_of op)).read rest))

pub stands_not : (left : ℕ) (bytes : List ℕ) (why : Stopped) → (ruled (number 1) (may_stand left) Opcode).read bytes ≡ Err why → (instruction left).read bytes ≡ Err why
unfolding instruction
stands_not left bytes why e = rw e refl

made : (op : ℕ) (r : Reading (List ℕ)) (x : Instruction) (rest : List ℕ) → IsNumber op → (r >>= make_of op) ≡ Ok (x, rest) → bytes_of x ≡ size_of op
made op (Ok y) x rest there e = ap bytes_of (sym (ap (λ p. p.0) (ok_is (instruction_of (op, y.0), y.1) (x, rest) e))) ∙ sized op (get_or y.0 0 0) (get_or y.0 1 0) (get_or y.0 2 0) there
made op (Err why) x rest there e = never_err why (x, rest) e

pub behind_sized : (op : ℕ) (bytes rest : List ℕ) (x : Instruction) → IsNumber op → (behind (sizes_of op) op).read bytes ≡ Ok (x, rest) → bytes_of x ≡ size_of op
unfolding behind
behind_sized op bytes rest x there e = made op ((numbers (sizes_of op)).read bytes) x rest there e

pub sized_result : (left op : ℕ) (bytes new : List ℕ) (r : Result Instruction Stopped) → IsNumber op → size_of op ≤ left → Reads ((behind (sizes_of op) op).read bytes) r new
    → IfOk r (λ x. (0 < bytes_of x) × (bytes_of x ≤ left))
sized_result left op bytes new (Ok x) there room e = let same = behind_sized op bytes new x there e in (omega (arith, same), omega (arith, same, room))
sized_result left op bytes new (Err why) there room e = tt

same_behind : (op other : ℕ) (sizes : List ℕ) (bytes : List ℕ) → op ≡ other → sizes_of op ≡ sizes → (behind sizes other).read bytes ≡ (behind (sizes_of op) op).read bytes
same_behind op other sizes bytes e s = ap (λ k. (behind sizes k).read bytes) (sym e) ∙ ap (λ (l : List ℕ). (behind l op).read bytes) (sym s)

pub byte_behind : (op : ℕ) (bytes : List ℕ) → IsNumber op → sizes_of op ≡ 1 ∷ [] → (behind (1 ∷ []) 37).read bytes ≡ (behind (sizes_of op) op).read bytes
byte_behind op bytes there s = same_behind op 37 (1 ∷ []) bytes (byte_number op there s) s

pub leave_behind : (op : ℕ) (bytes : List ℕ) → IsNumber op → sizes_of op ≡ 2 ∷ 4 ∷ [] → (behind (2 ∷ 4 ∷ []) 40).read bytes ≡ (behind (sizes_of op) op).read bytes
leave_behind op bytes there s = same_behind op 40 (2 ∷ 4 ∷ []) bytes (leave_number op there s) s
