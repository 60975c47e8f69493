-- Which of several faults is the first.
use Rattle.std.proofs.Common.{◌≡◌, ℕ, List, [], ◌∷◌, Some, None, All, refl}
use Rattle.code_forms.specs.declared.bad_code.CodeFault.{CodeFault}
use Rattle.code_forms.specs.declared.bad_code.CodeFault.TheVariants.{BadJump, StackDiffers, BadOperand, CatchRange}
use Rattle.code_forms.specs.declared.instruction.Instruction.TheVariants.{Lit, Str, LoadL, CallLink, Jump, JumpIf, Return, RaiseHost, ArmEnd, LeaveReturn, Leave, Pop, ZeroL}
use Rattle.code_forms.specs.declared.module_code.CodeProcedure.{CodeProcedure}
use Rattle.code_forms.specs.declared.module_code.Label.TheVariants.{Any}
use Rattle.code_examples.proofs.Tables.{Row, wrong, phrase, arm, any, procedure, holds, found, wanted, Said, rows_mean}

-- that of a phrase before each of an instruction; of several phrases that of the first of them
abbrev phrases : List Row
phrases =
    wrong (CatchRange 5) (Jump 0 ∷ ZeroL 0 0 ∷ Return ∷ ArmEnd ∷ []) (phrase 5 5 (any 11 12 ∷ []) ∷ [])
    ∷ wrong (CatchRange 5) (Pop 1 ∷ Str 9 ∷ Return ∷ ArmEnd ∷ []) (phrase 5 7 (any 7 8 ∷ []) ∷ [])
    ∷ wrong (CatchRange 5) (ZeroL 0 0 ∷ ZeroL 0 0 ∷ Return ∷ ArmEnd ∷ ArmEnd ∷ ArmEnd ∷ [])
    (phrase 0 10 (any 11 12 ∷ []) ∷ phrase 5 11 (any 12 13 ∷ []) ∷ phrase 1 5 (any 13 14 ∷ []) ∷ [])
    ∷ wrong (CatchRange 1) (ZeroL 0 0 ∷ ZeroL 0 0 ∷ Return ∷ ArmEnd ∷ ArmEnd ∷ ArmEnd ∷ [])
    (phrase 0 10 (any 11 12 ∷ []) ∷ phrase 1 5 (any 12 13 ∷ []) ∷ phrase 5 11 (any 13 14 ∷ []) ∷ [])
    ∷ wrong (CatchRange 0) (ZeroL 0 0 ∷ ZeroL 0 0 ∷ Return ∷ ArmEnd ∷ ArmEnd ∷ ArmEnd ∷ [])
    (phrase 0 5 (any 11 12 ∷ []) ∷ phrase 0 10 (any 12 13 ∷ []) ∷ phrase 5 10 (any 13 15 ∷ []) ∷ [])
    ∷ []

phrases_found : found phrases ≡ wanted phrases
phrases_found = refl

phrases_mean : All Said phrases
phrases_mean = rows_mean phrases phrases_found

-- else the one at the least offset
abbrev offsets : List Row
offsets =
    wrong (BadOperand 0) (Str 9 ∷ Jump 0 ∷ []) []
    ∷ wrong (BadJump 0) (Jump 0 ∷ Pop 1 ∷ []) []
    ∷ wrong (StackDiffers 0) (Pop 1 ∷ Jump 0 ∷ []) []
    ∷ wrong (BadOperand 3) (Lit 0 ∷ LoadL 6 0 ∷ Return ∷ []) []
    ∷ []

offsets_found : found offsets ≡ wanted offsets
offsets_found = refl

offsets_mean : All Said offsets
offsets_mean = rows_mean offsets offsets_found

-- at one offset BadJump before StackDiffers before BadOperand, that of an arm that begins there too
abbrev ranks : List Row
ranks =
    wrong (BadJump 0) (JumpIf 0 ∷ Return ∷ []) []
    ∷ wrong (StackDiffers 0) (JumpIf 5 ∷ Return ∷ []) []
    ∷ wrong (BadJump 0) (Leave 0 0 ∷ []) []
    ∷ wrong (BadJump 0) (LeaveReturn 1 ∷ []) []
    ∷ wrong (StackDiffers 0) (LoadL 9 9 ∷ Return ∷ []) []
    ∷ wrong (StackDiffers 0) (CallLink 2 ∷ Return ∷ []) []
    ∷ wrong (StackDiffers 0) (Str 9 ∷ []) []
    ∷ wrong (StackDiffers 6) (RaiseHost 0 ∷ Return ∷ Lit 0 ∷ Return ∷ []) (phrase 0 2 (any 3 7 ∷ []) ∷ [])
    ∷ []

ranks_found : found ranks ≡ wanted ranks
ranks_found = refl

ranks_mean : All Said ranks
ranks_mean = rows_mean ranks ranks_found

abbrev at_arms : List Row
at_arms =
    wrong (BadOperand 3) (RaiseHost 0 ∷ Return ∷ ArmEnd ∷ []) (phrase 0 2 (arm (Any ∷ []) 0 1 3 4 ∷ []) ∷ [])
    ∷ wrong (StackDiffers 3) (RaiseHost 0 ∷ Return ∷ Pop 1 ∷ ArmEnd ∷ []) (phrase 0 2 (arm (Any ∷ []) 0 1 3 7 ∷ []) ∷ [])
    ∷ wrong (BadJump 3) (RaiseHost 0 ∷ Return ∷ LeaveReturn 2 ∷ []) (phrase 0 2 (arm (Any ∷ []) 0 1 3 6 ∷ []) ∷ [])
    ∷ wrong (BadOperand 3) (RaiseHost 0 ∷ Return ∷ Pop 0 ∷ Pop 1 ∷ ArmEnd ∷ []) (phrase 0 2 (arm (Any ∷ []) 0 1 3 10 ∷ []) ∷ [])
    ∷ wrong (BadOperand 2) (RaiseHost 0 ∷ ArmEnd ∷ ArmEnd ∷ []) (phrase 0 2 (arm (Any ∷ []) 0 1 3 4 ∷ []) ∷ [])
    ∷ []

at_arms_found : found at_arms ≡ wanted at_arms
at_arms_found = refl

at_arms_mean : All Said at_arms
at_arms_mean = rows_mean at_arms at_arms_found

-- of several procedures that of the first with a fault
abbrev sound : CodeProcedure
sound = procedure 0 0 0 0 (Return ∷ []) []

abbrev jumping : CodeProcedure
jumping = procedure 0 0 0 0 (ZeroL 0 0 ∷ Jump 0 ∷ []) []

abbrev ranging : CodeProcedure
ranging = procedure 0 0 0 0 (RaiseHost 0 ∷ ArmEnd ∷ []) (phrase 1 2 (any 2 3 ∷ []) ∷ [])

abbrev first_fault_in : ℕ → CodeFault → List CodeProcedure → Row
first_fault_in number fault procedures = record { parts = holds procedures; fault = Some (record { procedure = number; fault = fault }) }

abbrev procedures : List Row
procedures =
    record { parts = holds (sound ∷ sound ∷ sound ∷ []); fault = None }
    ∷ first_fault_in 0 (BadJump 5) (jumping ∷ sound ∷ sound ∷ [])
    ∷ first_fault_in 1 (BadJump 5) (sound ∷ jumping ∷ ranging ∷ [])
    ∷ first_fault_in 1 (CatchRange 1) (sound ∷ ranging ∷ jumping ∷ [])
    ∷ first_fault_in 2 (BadJump 5) (sound ∷ sound ∷ jumping ∷ [])
    ∷ []

procedures_found : found procedures ≡ wanted procedures
procedures_found = refl

procedures_mean : All Said procedures
procedures_mean = rows_mean procedures procedures_found
