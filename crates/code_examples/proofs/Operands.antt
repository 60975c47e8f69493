-- Operands at their edges: the last that is in range, and the first that is not.
use Rattle.std.proofs.Common.{◌≡◌, List, [], ◌∷◌, All, refl}
use Rattle.code_forms.specs.declared.bad_code.CodeFault.TheVariants.{StackDiffers, BadOperand}
use Rattle.code_forms.specs.declared.instruction.Instruction.TheVariants.{Lit, Str, LoadL, StoreL, LoadG, StoreG, LoadLX, StoreLX, LoadGX, StoreGX, Index, CheckI, CheckC, Call, CallLink, Return, Raise, RaiseLink, RaiseHost, ArmEnd, Resume, Pop, Roll, ZeroL, ZeroG}
use Rattle.code_forms.specs.declared.module_code.Label.TheVariants.{Any, Unwind, Own, Link, BoundsFault, ZeroDivisor}
use Rattle.code_examples.proofs.Tables.{Row, good, wrong, phrase, arm, any, found, wanted, Said, rows_mean}

-- slots and words of a frame of 5 words and of 4 globals; no words may stand at the end
abbrev slots : List Row
slots =
    good (LoadL 3 2 ∷ StoreL 3 2 ∷ Return ∷ []) []
    ∷ wrong (BadOperand 0) (LoadL 3 3 ∷ StoreL 2 3 ∷ Return ∷ []) []
    ∷ wrong (BadOperand 5) (LoadL 3 2 ∷ StoreL 4 2 ∷ Return ∷ []) []
    ∷ good (LoadL 5 0 ∷ StoreL 5 0 ∷ Return ∷ []) []
    ∷ wrong (BadOperand 0) (LoadL 6 0 ∷ Return ∷ []) []
    ∷ good (LoadG 3 1 ∷ StoreG 3 1 ∷ Return ∷ []) []
    ∷ wrong (BadOperand 0) (LoadG 4 1 ∷ StoreG 3 1 ∷ Return ∷ []) []
    ∷ wrong (BadOperand 5) (LoadG 3 1 ∷ StoreG 4 1 ∷ Return ∷ []) []
    ∷ good (ZeroL 0 5 ∷ ZeroG 0 4 ∷ Return ∷ []) []
    ∷ wrong (BadOperand 0) (ZeroL 0 6 ∷ Return ∷ []) []
    ∷ wrong (BadOperand 0) (ZeroL 65535 65535 ∷ Return ∷ []) []
    ∷ wrong (BadOperand 0) (ZeroG 0 5 ∷ Return ∷ []) []
    ∷ []

slots_found : found slots ≡ wanted slots
slots_found = refl

slots_mean : All Said slots
slots_mean = rows_mean slots slots_found

-- the extent is within the frame or the globals, and the words are at most the extent
abbrev extents : List Row
extents =
    good (Lit 0 ∷ LoadLX 2 3 3 ∷ Pop 3 ∷ Return ∷ []) []
    ∷ wrong (BadOperand 3) (Lit 0 ∷ LoadLX 3 3 1 ∷ Pop 1 ∷ Return ∷ []) []
    ∷ wrong (BadOperand 3) (Lit 0 ∷ LoadLX 0 2 3 ∷ Pop 3 ∷ Return ∷ []) []
    ∷ good (Lit 0 ∷ Lit 0 ∷ StoreLX 0 5 1 ∷ Return ∷ []) []
    ∷ wrong (BadOperand 6) (Lit 0 ∷ Lit 0 ∷ StoreLX 1 5 1 ∷ Return ∷ []) []
    ∷ wrong (BadOperand 9) (Lit 0 ∷ Lit 0 ∷ Lit 0 ∷ StoreLX 0 1 2 ∷ Return ∷ []) []
    ∷ good (Lit 0 ∷ LoadGX 3 1 1 ∷ Pop 1 ∷ Return ∷ []) []
    ∷ wrong (BadOperand 3) (Lit 0 ∷ LoadGX 4 1 1 ∷ Pop 1 ∷ Return ∷ []) []
    ∷ wrong (BadOperand 3) (Lit 0 ∷ LoadGX 0 1 2 ∷ Pop 2 ∷ Return ∷ []) []
    ∷ good (Lit 0 ∷ Lit 0 ∷ Lit 0 ∷ StoreGX 0 4 2 ∷ Return ∷ []) []
    ∷ wrong (BadOperand 6) (Lit 0 ∷ Lit 0 ∷ StoreGX 0 5 1 ∷ Return ∷ []) []
    ∷ wrong (BadOperand 9) (Lit 0 ∷ Lit 0 ∷ Lit 0 ∷ StoreGX 0 1 2 ∷ Return ∷ []) []
    ∷ []

extents_found : found extents ≡ wanted extents
extents_found = refl

extents_mean : All Said extents
extents_mean = rows_mean extents extents_found

-- words, numbers of elements and bounds are any
abbrev plain : List Row
plain =
    good (Lit 65535 ∷ Lit 0 ∷ Index 0 65535 ∷ CheckI 65535 0 ∷ CheckC 9 1 ∷ Roll 1 0 ∷ Roll 0 1 ∷ Roll 0 0 ∷ Pop 1 ∷ Pop 0 ∷ Return ∷ []) []
    ∷ []

plain_found : found plain ≡ wanted plain
plain_found = refl

plain_mean : All Said plain
plain_mean = rows_mean plain plain_found

-- literals count from 1; procedure 0 is not called; a link is called where it is a procedure, else raised. What is out of range takes and
-- gives nothing and goes on; a link of the wrong kind takes and gives its words all the same
abbrev numbers : List Row
numbers =
    good (Str 1 ∷ Pop 2 ∷ Str 2 ∷ Pop 2 ∷ Return ∷ []) []
    ∷ wrong (BadOperand 0) (Str 0 ∷ Pop 2 ∷ Return ∷ []) []
    ∷ wrong (BadOperand 0) (Str 3 ∷ Pop 2 ∷ Return ∷ []) []
    ∷ good (Lit 0 ∷ Lit 0 ∷ Call 1 ∷ Pop 1 ∷ Return ∷ []) []
    ∷ wrong (BadOperand 0) (Call 0 ∷ Return ∷ []) []
    ∷ wrong (BadOperand 0) (Call 2 ∷ Return ∷ []) []
    ∷ wrong (StackDiffers 0) (Call 2 ∷ []) []
    ∷ good (Lit 0 ∷ CallLink 0 ∷ Pop 3 ∷ Return ∷ []) []
    ∷ wrong (BadOperand 6) (Lit 0 ∷ Lit 0 ∷ CallLink 1 ∷ Pop 1 ∷ Return ∷ []) []
    ∷ wrong (BadOperand 3) (Lit 0 ∷ CallLink 2 ∷ Return ∷ []) []
    ∷ wrong (StackDiffers 0) (CallLink 2 ∷ Return ∷ []) []
    ∷ wrong (BadOperand 0) (CallLink 3 ∷ Return ∷ []) []
    ∷ good (Lit 0 ∷ Raise 0 ∷ Pop 2 ∷ Return ∷ []) []
    ∷ good (Lit 0 ∷ Lit 0 ∷ Raise 1 ∷ []) []
    ∷ wrong (BadOperand 0) (Raise 2 ∷ Return ∷ []) []
    ∷ wrong (StackDiffers 0) (Raise 2 ∷ []) []
    ∷ wrong (BadOperand 3) (Lit 0 ∷ RaiseLink 0 ∷ Pop 3 ∷ Return ∷ []) []
    ∷ good (Lit 0 ∷ Lit 0 ∷ RaiseLink 1 ∷ Pop 1 ∷ Return ∷ []) []
    ∷ good (Lit 0 ∷ RaiseLink 2 ∷ []) []
    ∷ wrong (BadOperand 0) (RaiseLink 3 ∷ Return ∷ []) []
    ∷ wrong (StackDiffers 0) (RaiseLink 3 ∷ []) []
    ∷ wrong (StackDiffers 3) (Lit 0 ∷ RaiseLink 0 ∷ []) []
    ∷ wrong (StackDiffers 0) (CallLink 3 ∷ []) []
    ∷ wrong (StackDiffers 3) (Lit 0 ∷ CallLink 2 ∷ []) []
    ∷ good (RaiseHost 0 ∷ RaiseHost 1 ∷ RaiseHost 2 ∷ []) []
    ∷ wrong (BadOperand 2) (RaiseHost 0 ∷ RaiseHost 3 ∷ []) []
    ∷ []

numbers_found : found numbers ≡ wanted numbers
numbers_found = refl

numbers_mean : All Said numbers
numbers_mean = rows_mean numbers numbers_found

-- Return stands in the body alone, ArmEnd and Resume in arms alone
abbrev places : List Row
places =
    good (RaiseHost 2 ∷ Return ∷ ArmEnd ∷ []) (phrase 0 2 (any 3 4 ∷ []) ∷ [])
    ∷ good (RaiseHost 2 ∷ Return ∷ Resume 0 ∷ []) (phrase 0 2 (any 3 6 ∷ []) ∷ [])
    ∷ wrong (BadOperand 3) (RaiseHost 2 ∷ Return ∷ Return ∷ []) (phrase 0 2 (any 3 4 ∷ []) ∷ [])
    ∷ wrong (BadOperand 0) (ArmEnd ∷ []) []
    ∷ wrong (BadOperand 0) (Resume 0 ∷ []) []
    ∷ []

places_found : found places ≡ wanted places
places_found = refl

places_mean : All Said places
places_mean = rows_mean places places_found

-- an arm from 3 to 4, with these labels, from a slot of the frame on so many words
abbrev caught : List Row
caught =
    good (RaiseHost 2 ∷ Return ∷ ArmEnd ∷ []) (phrase 0 2 (arm (Own 0 ∷ []) 4 1 3 4 ∷ []) ∷ [])
    ∷ wrong (BadOperand 3) (RaiseHost 2 ∷ Return ∷ ArmEnd ∷ []) (phrase 0 2 (arm (Own 0 ∷ []) 5 1 3 4 ∷ []) ∷ [])
    ∷ good (RaiseHost 2 ∷ Return ∷ ArmEnd ∷ []) (phrase 0 2 (arm (Own 0 ∷ []) 5 0 3 4 ∷ []) ∷ [])
    ∷ wrong (BadOperand 3) (RaiseHost 2 ∷ Return ∷ ArmEnd ∷ []) (phrase 0 2 (arm (Own 0 ∷ []) 6 0 3 4 ∷ []) ∷ [])
    ∷ wrong (BadOperand 3) (RaiseHost 2 ∷ Return ∷ ArmEnd ∷ []) (phrase 0 2 (arm (Own 0 ∷ []) 0 2 3 4 ∷ []) ∷ [])
    ∷ good (RaiseHost 2 ∷ Return ∷ ArmEnd ∷ []) (phrase 0 2 (arm (Own 1 ∷ Link 1 ∷ []) 3 2 3 4 ∷ []) ∷ [])
    ∷ wrong (BadOperand 3) (RaiseHost 2 ∷ Return ∷ ArmEnd ∷ []) (phrase 0 2 (arm (Own 1 ∷ Link 2 ∷ []) 0 2 3 4 ∷ []) ∷ [])
    ∷ wrong (BadOperand 3) (RaiseHost 2 ∷ Return ∷ ArmEnd ∷ []) (phrase 0 2 (arm (Own 0 ∷ Own 1 ∷ []) 0 1 3 4 ∷ []) ∷ [])
    ∷ good (RaiseHost 2 ∷ Return ∷ ArmEnd ∷ []) (phrase 0 2 (arm (Own 0 ∷ Own 1 ∷ []) 0 0 3 4 ∷ []) ∷ [])
    ∷ wrong (BadOperand 3) (RaiseHost 2 ∷ Return ∷ ArmEnd ∷ []) (phrase 0 2 (arm (Any ∷ []) 0 1 3 4 ∷ []) ∷ [])
    ∷ wrong (BadOperand 3) (RaiseHost 2 ∷ Return ∷ ArmEnd ∷ []) (phrase 0 2 (arm (BoundsFault ∷ []) 0 1 3 4 ∷ []) ∷ [])
    ∷ wrong (BadOperand 3) (RaiseHost 2 ∷ Return ∷ ArmEnd ∷ []) (phrase 0 2 (arm (ZeroDivisor ∷ []) 0 1 3 4 ∷ []) ∷ [])
    ∷ wrong (BadOperand 3) (RaiseHost 2 ∷ Return ∷ ArmEnd ∷ []) (phrase 0 2 (arm (Unwind ∷ []) 0 1 3 4 ∷ []) ∷ [])
    ∷ []

caught_found : found caught ≡ wanted caught
caught_found = refl

caught_mean : All Said caught
caught_mean = rows_mean caught caught_found

-- labels of signals beside ANY and UNWIND: then the arm has no words. The fault of an arm is at its own start
abbrev mixed : List Row
mixed =
    good (RaiseHost 2 ∷ Return ∷ ArmEnd ∷ []) (phrase 0 2 (arm (Unwind ∷ Own 0 ∷ Any ∷ BoundsFault ∷ ZeroDivisor ∷ Link 1 ∷ []) 0 0 3 4 ∷ []) ∷ [])
    ∷ wrong (BadOperand 3) (RaiseHost 2 ∷ Return ∷ ArmEnd ∷ []) (phrase 0 2 (arm (Own 0 ∷ Unwind ∷ []) 0 1 3 4 ∷ []) ∷ [])
    ∷ wrong (BadOperand 3) (RaiseHost 2 ∷ Return ∷ ArmEnd ∷ []) (phrase 0 2 (arm (Any ∷ Own 0 ∷ []) 0 1 3 4 ∷ []) ∷ [])
    ∷ wrong (BadOperand 4) (RaiseHost 2 ∷ Return ∷ ArmEnd ∷ ArmEnd ∷ []) (phrase 0 2 (any 3 4 ∷ arm (Own 0 ∷ Unwind ∷ []) 0 1 4 5 ∷ []) ∷ [])
    ∷ wrong (BadOperand 4) (RaiseHost 2 ∷ Return ∷ ArmEnd ∷ ArmEnd ∷ []) (phrase 0 2 (any 3 4 ∷ []) ∷ phrase 0 2 (arm (Own 0 ∷ Unwind ∷ []) 0 1 4 5 ∷ []) ∷ [])
    ∷ []

mixed_found : found mixed ≡ wanted mixed
mixed_found = refl

mixed_mean : All Said mixed
mixed_mean = rows_mean mixed mixed_found
