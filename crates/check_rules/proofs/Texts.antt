-- What texts come to: checked, or refused with a cause at the place that a `^` in the text marks.
use Rattle.std.specs.Prelude.{ℕ, ◌+◌, Bool, true, false, ◌&&◌, List, [], ◌∷◌, ◌++◌, Option, Some, None, Ok, Err, codes, nat_eq, if◌then◌else◌}
use Rattle.interface_records.specs.PlainTypes.{PlainInterface}
use Rattle.syntax_trees.specs.Syntax as s
use Rattle.check_rules.specs.Steps.{Checked}
use Rattle.check_rules.specs.CheckedModule.{program_by, interface_by}
use Rattle.check_rules.specs.declared.fault.Cause.{Cause}
use Rattle.check_rules.specs.declared.fault.Cause.TheVariants.{UnknownName, TwiceDeclared, TypeMismatch, NotConstant, BadLabel, WrongCount, NotResumable, UnwindJumps, ExportDiffers, FrameTooLarge, GlobalsTooLarge, TypeTooLarge, StampMissing, StampUnwanted}
use Rattle.check_rules.proofs.Lexing.{Token}
use Rattle.check_rules.proofs.Reading.{read}

pub data Answer : Type 0 where
  -- the text is none of the grammar
  NoText : Answer
  Fine : Answer
  Refused : Cause → ℕ → Answer

abbrev pub answer_of : {A : Type 0} → Checked A → Answer
answer_of (Ok m) = Fine
answer_of (Err f) = Refused f.cause f.place.column

abbrev pub answer_for : List PlainInterface → Option (s.Module × List Token) → Answer
answer_for is (Some r) = answer_of (program_by r.0 is r.0.kind)
answer_for is None = NoText

abbrev pub answer_under : ℕ → List PlainInterface → Option (s.Module × List Token) → Answer
answer_under stamp is (Some r) = answer_of (interface_by r.0 stamp is r.0.kind)
answer_under stamp is None = NoText

-- without the mark, and where the mark stands, from 1
unfoldable pub unmarked : List ℕ → List ℕ
unmarked [] = []
unmarked (c ∷ cs) = if nat_eq c 94 then cs else c ∷ unmarked cs

unfoldable pub marked : ℕ → List ℕ → ℕ
marked n [] = 0
marked n (c ∷ cs) = if nat_eq c 94 then n else marked (n + 1) cs

pub record Row : Type 0 where
  pub text : List ℕ
  pub want : Answer

abbrev pub fine : List ℕ → Row
fine text = record { text = text; want = Fine }

abbrev pub bad : Cause → List ℕ → Row
bad cause text = record { text = unmarked text; want = Refused cause (marked 1 text) }

-- what stands in a program without interfaces
abbrev pub in_program : List ℕ → List ℕ
in_program text = codes "M: PROGRAM = BEGIN " ++ (text ++ codes " END.")

abbrev pub good : List ℕ → Row
good text = fine (in_program text)

abbrev pub wrong : Cause → List ℕ → Row
wrong cause text = bad cause (in_program text)

-- what stands in a program that imports and opens IODefs
abbrev pub with_io : List ℕ → List ℕ
with_io text = codes "DIRECTORY IODefs: FROM \"IODefs\"; M: PROGRAM IMPORTS IODefs = BEGIN OPEN IODefs; " ++ (text ++ codes " END.")

abbrev pub runs : List ℕ → Row
runs text = fine (with_io text)

abbrev pub number : Cause → ℕ
number UnknownName = 0
number TwiceDeclared = 1
number TypeMismatch = 2
number NotConstant = 3
number BadLabel = 4
number WrongCount = 5
number NotResumable = 6
number UnwindJumps = 7
number ExportDiffers = 8
number FrameTooLarge = 9
number GlobalsTooLarge = 10
number TypeTooLarge = 11
number StampMissing = 12
number StampUnwanted = 13

abbrev pub same : Answer → Answer → Bool
same Fine Fine = true
same (Refused a m) (Refused b n) = nat_eq (number a) (number b) && nat_eq m n
same _ _ = false

-- a row whose text comes to something else
pub record Wrong : Type 0 where
  pub row : ℕ
  pub got : Answer

abbrev pub wrong_if : Bool → ℕ → Answer → List Wrong → List Wrong
wrong_if true n got rest = rest
wrong_if false n got rest = record { row = n; got = got } ∷ rest

unfoldable pub mistakes : List PlainInterface → ℕ → List Row → List Wrong
mistakes is n [] = []
mistakes is n (r ∷ rs) =
    let got = answer_for is (read r.text) in wrong_if (same got r.want) n got (mistakes is (n + 1) rs)

unfoldable pub mistakes_under : ℕ → List PlainInterface → ℕ → List Row → List Wrong
mistakes_under stamp is n [] = []
mistakes_under stamp is n (r ∷ rs) =
    let got = answer_under stamp is (read r.text) in wrong_if (same got r.want) n got (mistakes_under stamp is (n + 1) rs)

-- the interface of a text
abbrev pub interface_of : ℕ → List PlainInterface → Option (s.Module × List Token) → List PlainInterface
interface_of stamp is None = []
interface_of stamp is (Some r) = one (interface_by r.0 stamp is r.0.kind)
  where
    one : Checked PlainInterface → List PlainInterface
    one (Ok i) = i ∷ []
    one (Err e) = []

abbrev pub interface : ℕ → List ℕ → List PlainInterface
interface stamp text = interface_of stamp [] (read text)
