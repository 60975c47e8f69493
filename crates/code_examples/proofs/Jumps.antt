-- Where jumps may lead, and where not.
use Rattle.std.proofs.Common.{◌≡◌, ℕ, List, [], ◌∷◌, All, refl}
use Rattle.code_forms.specs.declared.bad_code.CodeFault.TheVariants.{BadJump}
use Rattle.code_forms.specs.declared.instruction.Instruction.{Instruction}
use Rattle.code_forms.specs.declared.instruction.Instruction.TheVariants.{Lit, Jump, JumpIf, JumpIfNot, JumpBack, Return, ArmEnd, Leave, LeaveReturn, ZeroL}
use Rattle.code_forms.specs.declared.module_code.Phrase.{Phrase}
use Rattle.code_examples.proofs.Tables.{Row, good, wrong, phrase, any, found, wanted, Said, rows_mean}

-- forward to the next instruction, to itself, before it, into the middle of one, to the end and past it
abbrev forward : List Row
forward =
    good (Jump 5 ∷ Return ∷ []) []
    ∷ wrong (BadJump 0) (Jump 0 ∷ Return ∷ []) []
    ∷ wrong (BadJump 5) (ZeroL 0 0 ∷ Jump 0 ∷ []) []
    ∷ wrong (BadJump 0) (Jump 6 ∷ ZeroL 0 0 ∷ Return ∷ []) []
    ∷ wrong (BadJump 0) (Jump 6 ∷ Return ∷ []) []
    ∷ wrong (BadJump 0) (Jump 7 ∷ Return ∷ []) []
    ∷ good (Lit 1 ∷ JumpIf 13 ∷ Jump 13 ∷ Return ∷ []) []
    ∷ wrong (BadJump 3) (Lit 1 ∷ JumpIf 3 ∷ Return ∷ []) []
    ∷ wrong (BadJump 3) (Lit 1 ∷ JumpIf 10 ∷ Lit 0 ∷ Return ∷ []) []
    ∷ good (Lit 1 ∷ JumpIfNot 8 ∷ Return ∷ []) []
    ∷ wrong (BadJump 3) (Lit 1 ∷ JumpIfNot 0 ∷ Return ∷ []) []
    ∷ wrong (BadJump 3) (Lit 1 ∷ JumpIfNot 9 ∷ Return ∷ []) []
    ∷ []

forward_found : found forward ≡ wanted forward
forward_found = refl

forward_mean : All Said forward
forward_mean = rows_mean forward forward_found

-- backward to itself, to one before it, to one after it, into the middle of one and past the end
abbrev backward : List Row
backward =
    good (JumpBack 0 ∷ []) []
    ∷ good (ZeroL 0 0 ∷ JumpBack 0 ∷ []) []
    ∷ wrong (BadJump 0) (JumpBack 5 ∷ Return ∷ []) []
    ∷ wrong (BadJump 5) (ZeroL 0 0 ∷ JumpBack 4 ∷ []) []
    ∷ wrong (BadJump 0) (JumpBack 5 ∷ []) []
    ∷ []

backward_found : found backward ≡ wanted backward
backward_found = refl

backward_mean : All Said backward
backward_mean = rows_mean backward backward_found

-- a body from 0 to 6, and two arms, from 6 and from 12, of a phrase from 0 to 5
abbrev arms : List Phrase
arms = phrase 0 5 (any 6 12 ∷ any 12 13 ∷ []) ∷ []

-- from region to region: from the body to an arm, from an arm to the body and to another arm; and in an arm
abbrev regions : List Row
regions =
    good (ZeroL 0 0 ∷ Return ∷ ZeroL 0 0 ∷ ArmEnd ∷ ArmEnd ∷ []) arms
    ∷ wrong (BadJump 0) (Jump 6 ∷ Return ∷ ZeroL 0 0 ∷ ArmEnd ∷ ArmEnd ∷ []) arms
    ∷ wrong (BadJump 6) (ZeroL 0 0 ∷ Return ∷ JumpBack 0 ∷ ArmEnd ∷ ArmEnd ∷ []) arms
    ∷ wrong (BadJump 6) (ZeroL 0 0 ∷ Return ∷ Jump 12 ∷ ArmEnd ∷ ArmEnd ∷ []) arms
    ∷ good (ZeroL 0 0 ∷ Return ∷ Jump 11 ∷ ArmEnd ∷ ArmEnd ∷ []) arms
    ∷ good (ZeroL 0 0 ∷ Return ∷ JumpBack 6 ∷ ArmEnd ∷ ArmEnd ∷ []) arms
    ∷ []

regions_found : found regions ≡ wanted regions
regions_found = refl

regions_mean : All Said regions
regions_mean = rows_mean regions regions_found

-- out of the arm from 6 to 13: to the body, out of none, out of more than there are, to its own region, into the middle of an instruction
-- and past the end; out of no arm
abbrev out : List Row
out =
    good (ZeroL 0 0 ∷ Return ∷ Leave 1 0 ∷ []) (phrase 0 5 (any 6 13 ∷ []) ∷ [])
    ∷ good (ZeroL 0 0 ∷ Return ∷ Leave 1 5 ∷ []) (phrase 0 5 (any 6 13 ∷ []) ∷ [])
    ∷ wrong (BadJump 6) (ZeroL 0 0 ∷ Return ∷ Leave 0 0 ∷ []) (phrase 0 5 (any 6 13 ∷ []) ∷ [])
    ∷ wrong (BadJump 6) (ZeroL 0 0 ∷ Return ∷ Leave 0 6 ∷ []) (phrase 0 5 (any 6 13 ∷ []) ∷ [])
    ∷ wrong (BadJump 6) (ZeroL 0 0 ∷ Return ∷ Leave 2 0 ∷ []) (phrase 0 5 (any 6 13 ∷ []) ∷ [])
    ∷ wrong (BadJump 6) (ZeroL 0 0 ∷ Return ∷ Leave 1 6 ∷ []) (phrase 0 5 (any 6 13 ∷ []) ∷ [])
    ∷ wrong (BadJump 6) (ZeroL 0 0 ∷ Return ∷ Leave 1 1 ∷ []) (phrase 0 5 (any 6 13 ∷ []) ∷ [])
    ∷ wrong (BadJump 6) (ZeroL 0 0 ∷ Return ∷ Leave 1 13 ∷ []) (phrase 0 5 (any 6 13 ∷ []) ∷ [])
    ∷ wrong (BadJump 0) (Leave 1 0 ∷ []) []
    ∷ wrong (BadJump 0) (Leave 0 0 ∷ []) []
    ∷ good (ZeroL 0 0 ∷ Return ∷ LeaveReturn 1 ∷ []) (phrase 0 5 (any 6 9 ∷ []) ∷ [])
    ∷ wrong (BadJump 6) (ZeroL 0 0 ∷ Return ∷ LeaveReturn 0 ∷ []) (phrase 0 5 (any 6 9 ∷ []) ∷ [])
    ∷ wrong (BadJump 6) (ZeroL 0 0 ∷ Return ∷ LeaveReturn 2 ∷ []) (phrase 0 5 (any 6 9 ∷ []) ∷ [])
    ∷ wrong (BadJump 0) (LeaveReturn 0 ∷ []) []
    ∷ wrong (BadJump 0) (LeaveReturn 1 ∷ []) []
    ∷ []

out_found : found out ≡ wanted out
out_found = refl

out_mean : All Said out
out_mean = rows_mean out out_found

-- three arms in one another: a body from 0 to 6, an arm from 6 to 12 of a phrase in it, one from 12 to 18 of a phrase in that arm, and one
-- from 18 to `end` of a phrase in that one
abbrev nested : ℕ → List Phrase
nested end = phrase 0 5 (any 6 12 ∷ []) ∷ phrase 6 11 (any 12 18 ∷ []) ∷ phrase 12 17 (any 18 end ∷ []) ∷ []

abbrev within : Instruction → List Instruction
within last = ZeroL 0 0 ∷ Return ∷ ZeroL 0 0 ∷ ArmEnd ∷ ZeroL 0 0 ∷ ArmEnd ∷ last ∷ []

abbrev deep : List Row
deep =
    good (within ArmEnd) (nested 19)
    ∷ good (within (Leave 1 12)) (nested 25)
    ∷ good (within (Leave 2 6)) (nested 25)
    ∷ good (within (Leave 3 0)) (nested 25)
    ∷ good (within (Leave 3 5)) (nested 25)
    ∷ wrong (BadJump 18) (within (Leave 1 6)) (nested 25)
    ∷ wrong (BadJump 18) (within (Leave 2 0)) (nested 25)
    ∷ wrong (BadJump 18) (within (Leave 2 12)) (nested 25)
    ∷ wrong (BadJump 18) (within (Leave 3 6)) (nested 25)
    ∷ wrong (BadJump 18) (within (Leave 4 0)) (nested 25)
    ∷ good (within (LeaveReturn 3)) (nested 21)
    ∷ wrong (BadJump 18) (within (LeaveReturn 2)) (nested 21)
    ∷ wrong (BadJump 18) (within (LeaveReturn 1)) (nested 21)
    ∷ wrong (BadJump 18) (within (LeaveReturn 4)) (nested 21)
    ∷ wrong (BadJump 18) (within (LeaveReturn 65535)) (nested 21)
    ∷ []

deep_found : found deep ≡ wanted deep
deep_found = refl

deep_mean : All Said deep
deep_mean = rows_mean deep deep_found
