-- How many words the operand stack has: what each instruction takes and puts, the ways to an instruction, the ends of regions.
use Rattle.std.proofs.Common.{◌≡◌, ℕ, zero, suc, ◌+◌, ◌-◌, ◌*◌, List, [], ◌∷◌, ◌++◌, map, All, refl}
use Rattle.code_forms.specs.declared.bad_code.CodeFault.TheVariants.{StackDiffers}
use Rattle.code_forms.specs.declared.instruction.Instruction.{Instruction}
use Rattle.code_forms.specs.declared.instruction.Instruction.TheVariants.{Lit, Str, LoadL, StoreL, LoadG, StoreG, LoadLX, StoreLX, LoadGX, StoreGX, Index, Add, Sub, Mul, Neg, DivI, ModI, DivC, ModC, Eq, LessI, LessC, Not, CheckI, CheckC, Jump, JumpIf, JumpIfNot, JumpBack, StrLen, StrAt, Call, CallLink, Return, Raise, RaiseLink, RaiseHost, ArmEnd, Resume, Leave, LeaveReturn, Pop, Roll, ZeroL, ZeroG, AddD, SubD, MulD, NegD, DivDI, ModDI, DivDC, ModDC, EqD, LessDI, LessDC, WidenI, WidenC, NarrowI, NarrowC, CheckD}
use Rattle.code_examples.proofs.Tables.{Row, good, wrong, good_deep, wrong_deep, phrase, any, found, wanted, Said, rows_mean}

-- so many words on the operand stack
abbrev lits : ℕ → List Instruction
lits zero = []
lits (suc n) = Lit 0 ∷ lits n

pub record Effect : Type 0 where
  pub instruction : Instruction
  pub takes : ℕ
  pub puts : ℕ

abbrev moves : Instruction → ℕ → ℕ → Effect
moves i takes puts = record { instruction = i; takes = takes; puts = puts }

-- with just the words that it takes it leaves just those that it puts, since a return finds none; with one word less it takes too many
abbrev just : Effect → Row
just e = good (lits e.takes ++ (e.instruction ∷ Pop e.puts ∷ Return ∷ [])) []

abbrev one_less : Effect → Row
one_less e = wrong (StackDiffers (3 * (e.takes - 1))) (lits (e.takes - 1) ++ (e.instruction ∷ Pop e.puts ∷ Return ∷ [])) []

abbrev takers : List Effect
takers =
    moves (StoreL 0 2) 2 0 ∷ moves (StoreG 0 3) 3 0
    ∷ moves (LoadLX 0 2 2) 1 2 ∷ moves (StoreLX 0 2 2) 3 0 ∷ moves (LoadGX 0 3 3) 1 3 ∷ moves (StoreGX 0 2 1) 2 0
    ∷ moves (Index 1 1) 2 1 ∷ moves Add 2 1 ∷ moves Sub 2 1 ∷ moves Mul 2 1 ∷ moves Neg 1 1
    ∷ moves DivI 2 1 ∷ moves ModI 2 1 ∷ moves DivC 2 1 ∷ moves ModC 2 1
    ∷ moves Eq 2 1 ∷ moves LessI 2 1 ∷ moves LessC 2 1 ∷ moves Not 1 1 ∷ moves (CheckI 0 1) 1 1 ∷ moves (CheckC 0 1) 1 1
    ∷ moves StrLen 2 1 ∷ moves StrAt 3 1
    ∷ moves (Call 1) 2 1 ∷ moves (CallLink 0) 1 3 ∷ moves (Raise 0) 1 2 ∷ moves (RaiseLink 1) 2 1
    ∷ moves (Pop 3) 3 0 ∷ moves (Roll 1 2) 3 3 ∷ moves (Roll 2 1) 3 3 ∷ moves (Roll 1 0) 1 1
    ∷ []

abbrev others : List Effect
others =
    moves (Lit 0) 0 1 ∷ moves (Str 1) 0 2 ∷ moves (LoadL 0 3) 0 3 ∷ moves (LoadG 0 2) 0 2 ∷ moves (ZeroL 0 5) 0 0 ∷ moves (ZeroG 0 4) 0 0
    ∷ moves (Pop 0) 0 0 ∷ moves (Roll 0 0) 0 0 ∷ moves (StoreL 0 0) 0 0 ∷ moves (LoadG 0 0) 0 0
    ∷ []

abbrev enough : List Row
enough = map just (takers ++ others)

enough_found : found enough ≡ wanted enough
enough_found = refl

enough_mean : All Said enough
enough_mean = rows_mean enough enough_found

abbrev too_few : List Row
too_few = map one_less takers

too_few_found : found too_few ≡ wanted too_few
too_few_found = refl

too_few_mean : All Said too_few
too_few_mean = rows_mean too_few too_few_found

-- the same of those over LONG numbers, with room for two of them
abbrev just_long : Effect → Row
just_long e = good_deep (lits e.takes ++ (e.instruction ∷ Pop e.puts ∷ Return ∷ []))

abbrev one_less_long : Effect → Row
one_less_long e = wrong_deep (StackDiffers (3 * (e.takes - 1))) (lits (e.takes - 1) ++ (e.instruction ∷ Pop e.puts ∷ Return ∷ []))

abbrev last_long : Effect → Row
last_long e = wrong_deep (StackDiffers (3 * e.takes)) (lits e.takes ++ (e.instruction ∷ []))

abbrev long_takers : List Effect
long_takers =
    moves AddD 4 2 ∷ moves SubD 4 2 ∷ moves MulD 4 2 ∷ moves NegD 2 2
    ∷ moves DivDI 4 2 ∷ moves ModDI 4 2 ∷ moves DivDC 4 2 ∷ moves ModDC 4 2
    ∷ moves EqD 4 1 ∷ moves LessDI 4 1 ∷ moves LessDC 4 1
    ∷ moves WidenI 1 2 ∷ moves WidenC 1 2 ∷ moves NarrowI 2 1 ∷ moves NarrowC 2 1 ∷ moves CheckD 2 2
    ∷ []

abbrev longs : List Row
longs = map just_long long_takers ++ map one_less_long long_takers ++ map last_long long_takers

longs_found : found longs ≡ wanted longs
longs_found = refl

longs_mean : All Said longs
longs_mean = rows_mean longs longs_found

-- those that put more than they take: they may fill the room of 3 words, and not pass it
abbrev full : Effect → Row
full e = good (lits (3 + e.takes - e.puts) ++ (e.instruction ∷ Pop 3 ∷ Return ∷ [])) []

abbrev too_full : Effect → Row
too_full e = wrong (StackDiffers (3 * (4 + e.takes - e.puts))) (lits (4 + e.takes - e.puts) ++ (e.instruction ∷ Pop 4 ∷ Return ∷ [])) []

abbrev growers : List Effect
growers =
    moves (Lit 0) 0 1 ∷ moves (Str 1) 0 2 ∷ moves (LoadL 0 3) 0 3 ∷ moves (LoadG 0 2) 0 2 ∷ moves (LoadLX 0 2 2) 1 2 ∷ moves (LoadGX 0 3 3) 1 3
    ∷ moves (CallLink 0) 1 3 ∷ moves (Raise 0) 1 2 ∷ moves WidenI 1 2 ∷ moves WidenC 1 2
    ∷ []

abbrev brims : List Row
brims = map full growers ++ map too_full growers

brims_found : found brims ≡ wanted brims
brims_found = refl

brims_mean : All Said brims
brims_mean = rows_mean brims brims_found

-- each that goes on may not be the last
abbrev last : Effect → Row
last e = wrong (StackDiffers (3 * e.takes)) (lits e.takes ++ (e.instruction ∷ [])) []

abbrev lasts : List Row
lasts = map last (takers ++ others)

lasts_found : found lasts ≡ wanted lasts
lasts_found = refl

lasts_mean : All Said lasts
lasts_mean = rows_mean lasts lasts_found

-- the other instructions that take words: jumps, raises of errors, and the end of an arm
abbrev enders : List Row
enders =
    good (Lit 0 ∷ JumpIf 8 ∷ Return ∷ []) []
    ∷ wrong (StackDiffers 0) (JumpIf 5 ∷ Return ∷ []) []
    ∷ good (Lit 0 ∷ JumpIfNot 8 ∷ Return ∷ []) []
    ∷ wrong (StackDiffers 0) (JumpIfNot 5 ∷ Return ∷ []) []
    ∷ good (Lit 0 ∷ Lit 0 ∷ Raise 1 ∷ []) []
    ∷ wrong (StackDiffers 3) (Lit 0 ∷ Raise 1 ∷ []) []
    ∷ good (Lit 0 ∷ RaiseLink 2 ∷ []) []
    ∷ wrong (StackDiffers 0) (RaiseLink 2 ∷ []) []
    ∷ good (ZeroL 0 0 ∷ Return ∷ Lit 0 ∷ Resume 1 ∷ []) (phrase 0 5 (any 6 12 ∷ []) ∷ [])
    ∷ wrong (StackDiffers 9) (ZeroL 0 0 ∷ Return ∷ Lit 0 ∷ Resume 2 ∷ []) (phrase 0 5 (any 6 12 ∷ []) ∷ [])
    ∷ []

enders_found : found enders ≡ wanted enders
enders_found = refl

enders_mean : All Said enders
enders_mean = rows_mean enders enders_found

-- there is room for 3 words; an instruction first takes all, then it puts
abbrev room : List Row
room =
    good (Lit 0 ∷ Lit 0 ∷ Lit 0 ∷ Pop 3 ∷ Return ∷ []) []
    ∷ wrong (StackDiffers 9) (Lit 0 ∷ Lit 0 ∷ Lit 0 ∷ Lit 0 ∷ Pop 4 ∷ Return ∷ []) []
    ∷ wrong (StackDiffers 6) (Lit 0 ∷ Lit 0 ∷ Str 1 ∷ Pop 4 ∷ Return ∷ []) []
    ∷ wrong (StackDiffers 0) (LoadL 0 4 ∷ Pop 4 ∷ Return ∷ []) []
    ∷ good (Lit 0 ∷ LoadGX 0 3 3 ∷ Pop 3 ∷ Return ∷ []) []
    ∷ wrong (StackDiffers 3) (Lit 0 ∷ LoadGX 0 4 4 ∷ Pop 4 ∷ Return ∷ []) []
    ∷ good (Lit 0 ∷ Lit 0 ∷ Lit 0 ∷ Add ∷ Pop 2 ∷ Return ∷ []) []
    ∷ wrong (StackDiffers 6) (Lit 0 ∷ Lit 0 ∷ CallLink 0 ∷ Pop 4 ∷ Return ∷ []) []
    ∷ wrong (StackDiffers 0) (Roll 65535 65535 ∷ Return ∷ []) []
    ∷ []

room_found : found room ≡ wanted room
room_found = refl

room_mean : All Said room
room_mean = rows_mean room room_found

-- the depth is one on each way: the first earlier instruction that leads to one settles it, another that leads there with more or less has
-- the fault, a jump backward too; to which none leads has none
abbrev ways : List Row
ways =
    good (Lit 0 ∷ JumpIf 16 ∷ Lit 0 ∷ Jump 19 ∷ Lit 0 ∷ Pop 1 ∷ Return ∷ []) []
    ∷ wrong (StackDiffers 8) (Lit 0 ∷ JumpIf 11 ∷ Lit 0 ∷ Return ∷ []) []
    ∷ wrong (StackDiffers 11) (Lit 0 ∷ JumpIf 16 ∷ Lit 0 ∷ Jump 16 ∷ Return ∷ []) []
    ∷ wrong (StackDiffers 14) (Lit 0 ∷ Lit 0 ∷ JumpIf 17 ∷ Pop 1 ∷ Pop 0 ∷ Pop 1 ∷ Return ∷ []) []
    ∷ wrong (StackDiffers 14) (Lit 0 ∷ JumpIf 22 ∷ Lit 0 ∷ Lit 0 ∷ JumpIf 22 ∷ Pop 1 ∷ Return ∷ []) []
    ∷ wrong (StackDiffers 14) (Lit 0 ∷ JumpIf 22 ∷ Lit 0 ∷ Lit 0 ∷ JumpIfNot 22 ∷ Pop 1 ∷ Return ∷ []) []
    ∷ good (Lit 0 ∷ JumpBack 3 ∷ []) []
    ∷ wrong (StackDiffers 3) (Lit 0 ∷ JumpBack 0 ∷ []) []
    ∷ good (Lit 0 ∷ Pop 1 ∷ JumpBack 0 ∷ []) []
    ∷ wrong (StackDiffers 9) (Lit 0 ∷ Lit 0 ∷ Pop 0 ∷ JumpBack 3 ∷ []) []
    ∷ good (Return ∷ Lit 0 ∷ Pop 1 ∷ JumpBack 1 ∷ []) []
    ∷ wrong (StackDiffers 4) (Return ∷ Lit 0 ∷ JumpBack 1 ∷ []) []
    ∷ wrong (StackDiffers 3) (Lit 0 ∷ Return ∷ []) []
    ∷ good (Lit 0 ∷ RaiseHost 0 ∷ Return ∷ []) []
    ∷ wrong (StackDiffers 5) (Lit 0 ∷ RaiseHost 0 ∷ Pop 1 ∷ Return ∷ []) []
    ∷ []

ways_found : found ways ≡ wanted ways
ways_found = refl

ways_mean : All Said ways
ways_mean = rows_mean ways ways_found

-- in arms: each begins with no words, and may end with some; a jump out of them finds none at its target
abbrev arms : List Row
arms =
    good (Lit 0 ∷ Pop 1 ∷ Return ∷ Lit 0 ∷ ArmEnd ∷ []) (phrase 0 3 (any 7 11 ∷ []) ∷ [])
    ∷ good (Lit 0 ∷ Pop 1 ∷ Return ∷ Lit 0 ∷ LeaveReturn 1 ∷ []) (phrase 0 3 (any 7 13 ∷ []) ∷ [])
    ∷ good (Lit 0 ∷ Pop 1 ∷ Return ∷ Lit 0 ∷ Lit 0 ∷ Resume 1 ∷ []) (phrase 0 3 (any 7 16 ∷ []) ∷ [])
    ∷ good (Lit 0 ∷ Pop 1 ∷ Return ∷ Lit 0 ∷ Leave 1 0 ∷ []) (phrase 0 3 (any 7 17 ∷ []) ∷ [])
    ∷ good (Lit 0 ∷ Pop 1 ∷ Return ∷ Lit 0 ∷ Leave 1 6 ∷ []) (phrase 0 3 (any 7 17 ∷ []) ∷ [])
    ∷ wrong (StackDiffers 10) (Lit 0 ∷ Pop 1 ∷ Return ∷ Lit 0 ∷ Leave 1 3 ∷ []) (phrase 0 3 (any 7 17 ∷ []) ∷ [])
    ∷ wrong (StackDiffers 7) (Lit 0 ∷ Pop 1 ∷ Return ∷ Pop 1 ∷ ArmEnd ∷ []) (phrase 0 3 (any 7 11 ∷ []) ∷ [])
    ∷ wrong (StackDiffers 10) (Lit 0 ∷ Pop 1 ∷ Return ∷ Lit 0 ∷ JumpBack 7 ∷ []) (phrase 0 3 (any 7 15 ∷ []) ∷ [])
    ∷ []

arms_found : found arms ≡ wanted arms
arms_found = refl

arms_mean : All Said arms
arms_mean = rows_mean arms arms_found

-- a region ends in no instruction that goes on: not the code, not the body before an arm, not an arm before another
abbrev ends : List Row
ends =
    wrong (StackDiffers 0) (Pop 0 ∷ []) []
    ∷ wrong (StackDiffers 0) (Call 1 ∷ []) []
    ∷ wrong (StackDiffers 3) (Lit 0 ∷ Raise 0 ∷ []) []
    ∷ wrong (StackDiffers 6) (Lit 0 ∷ Lit 0 ∷ RaiseLink 1 ∷ []) []
    ∷ good (Jump 5 ∷ RaiseHost 2 ∷ []) []
    ∷ wrong (StackDiffers 0) (ZeroL 0 0 ∷ ArmEnd ∷ []) (phrase 0 5 (any 5 6 ∷ []) ∷ [])
    ∷ wrong (StackDiffers 6) (ZeroL 0 0 ∷ Return ∷ ZeroL 0 0 ∷ ArmEnd ∷ []) (phrase 0 5 (any 6 11 ∷ any 11 12 ∷ []) ∷ [])
    ∷ wrong (StackDiffers 7) (ZeroL 0 0 ∷ Return ∷ ArmEnd ∷ ZeroL 0 0 ∷ []) (phrase 0 5 (any 6 7 ∷ any 7 12 ∷ []) ∷ [])
    ∷ good (ZeroL 0 0 ∷ Return ∷ Lit 0 ∷ Lit 0 ∷ Raise 1 ∷ RaiseHost 0 ∷ []) (phrase 0 5 (any 6 17 ∷ any 17 19 ∷ []) ∷ [])
    ∷ []

ends_found : found ends ≡ wanted ends
ends_found = refl

ends_mean : All Said ends
ends_mean = rows_mean ends ends_found
