-- The ranges of phrases and the regions of their arms.
use Rattle.std.proofs.Common.{◌≡◌, ℕ, List, [], ◌∷◌, All, refl}
use Rattle.code_forms.specs.declared.bad_code.CodeFault.TheVariants.{CatchRange}
use Rattle.code_forms.specs.declared.instruction.Instruction.{Instruction}
use Rattle.code_forms.specs.declared.instruction.Instruction.TheVariants.{Return, ArmEnd, ZeroL}
use Rattle.code_forms.specs.declared.module_code.Arm.{Arm}
use Rattle.code_forms.specs.declared.module_code.Phrase.{Phrase}
use Rattle.code_examples.proofs.Tables.{Row, good, wrong, phrase, any, found, wanted, Said, rows_mean}

-- instructions at 0, 5, 10 and 11; the code ends at 12
abbrev short : List Instruction
short = ZeroL 0 0 ∷ ZeroL 0 0 ∷ Return ∷ ArmEnd ∷ []

-- one phrase with one arm from 11 to 12
abbrev one : ℕ → ℕ → List Phrase
one from to = phrase from to (any 11 12 ∷ []) ∷ []

-- the range is not empty, and begins and ends at instructions, before its arms
abbrev ranges : List Row
ranges =
    good short (one 0 5)
    ∷ good short (one 5 11)
    ∷ good short (one 0 11)
    ∷ wrong (CatchRange 1) short (one 1 10)
    ∷ wrong (CatchRange 0) short (one 0 6)
    ∷ wrong (CatchRange 5) short (one 5 5)
    ∷ wrong (CatchRange 5) short (one 5 0)
    ∷ wrong (CatchRange 0) short (one 0 12)
    ∷ wrong (CatchRange 0) short (one 0 13)
    ∷ wrong (CatchRange 11) short (one 11 12)
    ∷ wrong (CatchRange 12) short (one 12 13)
    ∷ []

ranges_found : found ranges ≡ wanted ranges
ranges_found = refl

ranges_mean : All Said ranges
ranges_mean = rows_mean ranges ranges_found

-- one phrase from 0 to 5 with these arms
abbrev caught : List Arm → List Phrase
caught arms = phrase 0 5 arms ∷ []

-- one more arm: the code ends at 13
abbrev longer : List Instruction
longer = ZeroL 0 0 ∷ ZeroL 0 0 ∷ Return ∷ ArmEnd ∷ ArmEnd ∷ []

-- the arms' regions: not empty, each beginning at an instruction and where the one before it ends, up to the end of the code. The body has an
-- instruction too. The arm that ends inside one is named by what follows it
abbrev arms : List Row
arms =
    good longer (caught (any 11 12 ∷ any 12 13 ∷ []))
    ∷ good longer (caught (any 11 13 ∷ []))
    ∷ wrong (CatchRange 0) longer (phrase 0 12 (any 11 13 ∷ []) ∷ [])
    ∷ wrong (CatchRange 11) longer (phrase 11 12 (any 11 13 ∷ []) ∷ [])
    ∷ wrong (CatchRange 0) longer (caught (any 11 12 ∷ []))
    ∷ wrong (CatchRange 0) longer (caught (any 11 14 ∷ []))
    ∷ wrong (CatchRange 0) longer (caught (any 12 13 ∷ any 11 12 ∷ []))
    ∷ wrong (CatchRange 0) longer (caught (any 11 13 ∷ any 12 13 ∷ []))
    ∷ wrong (CatchRange 0) longer (caught (any 11 11 ∷ any 11 13 ∷ []))
    ∷ wrong (CatchRange 0) longer (caught (any 11 13 ∷ any 13 13 ∷ []))
    ∷ wrong (CatchRange 0) longer (caught (any 11 13 ∷ any 13 14 ∷ []))
    ∷ wrong (CatchRange 0) longer (caught (any 9 13 ∷ []))
    ∷ wrong (CatchRange 0) longer (caught (any 0 13 ∷ []))
    ∷ wrong (CatchRange 0) (ZeroL 0 0 ∷ Return ∷ ZeroL 0 0 ∷ ArmEnd ∷ []) (caught (any 6 8 ∷ any 8 12 ∷ []))
    ∷ wrong (CatchRange 0) (ZeroL 0 0 ∷ Return ∷ ZeroL 0 0 ∷ ArmEnd ∷ []) (caught (any 6 10 ∷ []))
    ∷ []

arms_found : found arms ≡ wanted arms
arms_found = refl

arms_mean : All Said arms
arms_mean = rows_mean arms arms_found

-- two phrases, with arms from 11 to 12 and from 12 to 13
abbrev two : ℕ → ℕ → ℕ → ℕ → List Phrase
two from to from' to' = phrase from to (any 11 12 ∷ []) ∷ phrase from' to' (any 12 13 ∷ []) ∷ []

-- disjoint, the later in the earlier, equal; the earlier in the later, crossing, out of order
abbrev nesting : List Row
nesting =
    good longer (two 0 5 5 10)
    ∷ good longer (two 0 10 0 5)
    ∷ good longer (two 0 10 5 10)
    ∷ good longer (two 0 10 0 10)
    ∷ wrong (CatchRange 0) longer (two 0 5 0 10)
    ∷ wrong (CatchRange 5) longer (two 0 10 5 11)
    ∷ wrong (CatchRange 0) longer (two 5 10 0 5)
    ∷ wrong (CatchRange 0) longer (two 5 10 0 10)
    ∷ []

nesting_found : found nesting ≡ wanted nesting
nesting_found = refl

nesting_mean : All Said nesting
nesting_mean = rows_mean nesting nesting_found

-- the regions follow from phrase to phrase; the last phrase has the fault where only the end of its last arm is not the code's
abbrev following : List Row
following =
    wrong (CatchRange 5) longer (phrase 0 5 (any 11 12 ∷ []) ∷ phrase 5 10 (any 13 14 ∷ []) ∷ [])
    ∷ wrong (CatchRange 5) longer (phrase 0 5 (any 11 12 ∷ []) ∷ phrase 5 10 (any 11 13 ∷ []) ∷ [])
    ∷ wrong (CatchRange 5) longer (phrase 0 5 (any 12 13 ∷ []) ∷ phrase 5 10 (any 11 12 ∷ []) ∷ [])
    ∷ wrong (CatchRange 5) (ZeroL 0 0 ∷ ZeroL 0 0 ∷ Return ∷ ArmEnd ∷ ArmEnd ∷ ArmEnd ∷ []) (two 0 5 5 10)
    ∷ wrong (CatchRange 5) longer (phrase 0 5 (any 11 12 ∷ []) ∷ phrase 5 10 (any 12 14 ∷ []) ∷ [])
    ∷ wrong (CatchRange 5) (ZeroL 0 0 ∷ ZeroL 0 0 ∷ Return ∷ ZeroL 0 0 ∷ ArmEnd ∷ []) (phrase 0 5 (any 11 13 ∷ []) ∷ phrase 5 10 (any 13 17 ∷ []) ∷ [])
    ∷ []

following_found : found following ≡ wanted following
following_found = refl

following_mean : All Said following
following_mean = rows_mean following following_found

-- a body from 0 to 6, an arm from 6 to 17 and an arm from 17 to 18 of a phrase in the body, and an arm from 18 on of another phrase
abbrev regions : List Instruction
regions = ZeroL 0 0 ∷ Return ∷ ZeroL 0 0 ∷ ZeroL 0 0 ∷ ArmEnd ∷ ArmEnd ∷ ArmEnd ∷ []

abbrev in_arms : ℕ → ℕ → List Phrase
in_arms from to = phrase 0 5 (any 6 17 ∷ any 17 18 ∷ []) ∷ phrase from to (any 18 19 ∷ []) ∷ []

-- the range of a phrase in an arm: in it alone, up to its end, over two arms, over the body and an arm, in its own arm
abbrev held : List Row
held =
    good regions (in_arms 6 11)
    ∷ good regions (in_arms 6 17)
    ∷ good regions (in_arms 17 18)
    ∷ wrong (CatchRange 6) regions (in_arms 6 18)
    ∷ wrong (CatchRange 16) regions (in_arms 16 18)
    ∷ wrong (CatchRange 5) regions (in_arms 5 11)
    ∷ wrong (CatchRange 0) regions (in_arms 0 11)
    ∷ wrong (CatchRange 18) regions (in_arms 18 19)
    ∷ wrong (CatchRange 17) regions (in_arms 17 19)
    ∷ []

held_found : found held ≡ wanted held
held_found = refl

held_mean : All Said held
held_mean = rows_mean held held_found
