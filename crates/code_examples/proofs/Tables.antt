-- Codes of modules written short, and tables of them with what each comes to.
use Rattle.std.proofs.Common.{◌≡◌, ℕ, zero, suc, ◌+◌, Bool, true, List, [], ◌∷◌, map, Option, Some, None, MatchOption, codes, All, ap, arith}
use Rattle.code_forms.specs.declared.bad_code.BadCode.{BadCode}
use Rattle.code_forms.specs.declared.bad_code.CodeFault.{CodeFault}
use Rattle.code_forms.specs.declared.instruction.Instruction.{Instruction}
use Rattle.code_forms.specs.declared.instruction.Instruction.TheVariants.{Return}
use Rattle.code_forms.specs.declared.module_code.Arm.{Arm}
use Rattle.code_forms.specs.declared.module_code.CodeEntry.{CodeEntry}
use Rattle.code_forms.specs.declared.module_code.CodeKind.{CodeKind}
use Rattle.code_forms.specs.declared.module_code.CodeKind.TheVariants as k
use Rattle.code_forms.specs.declared.module_code.CodeLink.{CodeLink}
use Rattle.code_forms.specs.declared.module_code.CodeProcedure.{CodeProcedure}
use Rattle.code_forms.specs.declared.module_code.CodeSignal.{CodeSignal}
use Rattle.code_forms.specs.declared.module_code.Label.{Label}
use Rattle.code_forms.specs.declared.module_code.Label.TheVariants as l
use Rattle.code_forms.specs.declared.module_code.Phrase.{Phrase}
use Rattle.code_forms.specs.Instructions.{bytes_of}
use Rattle.code_examples.proofs.InRange.{Keeps, keeps, kept_where_true}
use Rattle.code_examples.proofs.Judging.{Parts, PartsAreValid, PartsHaveFirst, fault_of, valid_where_none, first_fault_where_some}

-- instructions from an offset on, one behind the other
abbrev pub placed : ℕ → List Instruction → List CodeEntry
placed at [] = []
placed at (i ∷ code) = record { at = at; depth = 0; instruction = i } ∷ placed (at + bytes_of i) code

abbrev pub procedure : (args results frame depth : ℕ) → List Instruction → List Phrase → CodeProcedure
procedure args results frame depth code phrases =
    record { name = codes "P"; args = args; results = results; frame = frame; depth = depth; code = placed 0 code; phrases = phrases }

abbrev pub phrase : (from to : ℕ) → List Arm → Phrase
phrase from to arms = record { from = from; to = to; arms = arms }

-- an arm with parameters, and one for any signal without
abbrev pub arm : List Label → (slot words start end : ℕ) → Arm
arm labels slot words start end = record { labels = labels; slot = slot; words = words; start = start; end = end }

abbrev pub any : (start end : ℕ) → Arm
any start end = arm (l.Any ∷ []) 0 0 start end

abbrev signal : CodeKind → (args results : ℕ) → CodeSignal
signal kind args results = record { kind = kind; name = codes "S"; args = args; results = results }

abbrev link : CodeKind → (args results : ℕ) → CodeLink
link kind args results = record { kind = kind; args = args; results = results }

-- a module of 4 globals and 2 strings, with these procedures: its signal 0 takes 1 word and gives 2, its error 1 takes 2; its link 0 is a
-- procedure that takes 1 word and gives 3, link 1 a signal that takes 2 words and gives 1, link 2 an error that takes 1
abbrev pub holds : List CodeProcedure → Parts
holds procedures = record {
  globals = 4;
  strings = codes "a" ∷ codes "b" ∷ [];
  signals = signal k.Signal 1 2 ∷ signal k.Error 2 0 ∷ [];
  links = link k.Procedure 1 3 ∷ link k.Signal 2 1 ∷ link k.Error 1 0 ∷ [];
  procedures = procedures;
}

-- this body, with a frame of 5 words and room for 3 on the operand stack; procedure 1 takes 2 words and gives 1
abbrev pub body : List Instruction → List Phrase → Parts
body code phrases = holds (procedure 0 0 5 3 code phrases ∷ procedure 2 1 3 0 (Return ∷ []) [] ∷ [])

-- the same with room for 4, two numbers of two words each
abbrev pub deep_body : List Instruction → Parts
deep_body code = holds (procedure 0 0 5 4 code [] ∷ procedure 2 1 3 0 (Return ∷ []) [] ∷ [])

-- what a code is to come to: it is valid, or has this first fault
pub record Row : Type 0 where
  pub parts : Parts
  pub fault : Option BadCode

abbrev pub good : List Instruction → List Phrase → Row
good code phrases = record { parts = body code phrases; fault = None }

abbrev pub wrong : CodeFault → List Instruction → List Phrase → Row
wrong fault code phrases = record { parts = body code phrases; fault = Some (record { procedure = 0; fault = fault }) }

abbrev pub good_deep : List Instruction → Row
good_deep code = record { parts = deep_body code; fault = None }

abbrev pub wrong_deep : CodeFault → List Instruction → Row
wrong_deep fault code = record { parts = deep_body code; fault = Some (record { procedure = 0; fault = fault }) }

-- what is found of a code: whether it keeps the ranges of each module, and its first fault
pub record Found : Type 0 where
  pub in_range : Bool
  pub fault : Option BadCode

abbrev looked_at : Parts → Found
looked_at m = record { in_range = keeps m; fault = fault_of m }

abbrev asked : Option BadCode → Found
asked fault = record { in_range = true; fault = fault }

abbrev pub found : List Row → List Found
found rows = map (λ (r : Row). looked_at r.parts) rows

abbrev pub wanted : List Row → List Found
wanted rows = map (λ (r : Row). asked r.fault) rows

-- a file can hold the code, and the definition says of it what the row does
pub record Said (r : Row) : Type 0 where
  pub in_range : Keeps r.parts
  pub means : MatchOption r.fault (PartsAreValid r.parts) (λ bad. PartsHaveFirst r.parts bad)

means_fault : (m : Parts) (o : Option BadCode) → fault_of m ≡ o → MatchOption o (PartsAreValid m) (λ bad. PartsHaveFirst m bad)
means_fault m None e = valid_where_none m e
means_fault m (Some bad) e = first_fault_where_some m bad e

means_row : (r : Row) → looked_at r.parts ≡ asked r.fault → Said r
means_row r e = record {
  in_range = kept_where_true r.parts (ap (λ (f : Found). f.in_range) e);
  means = means_fault r.parts r.fault (ap (λ (f : Found). f.fault) e);
}

first_same : (a b : Found) (xs ys : List Found) → a ∷ xs ≡ b ∷ ys → a ≡ b
first_same a b xs ys e = cc

rest_same : (a b : Found) (xs ys : List Found) → a ∷ xs ≡ b ∷ ys → xs ≡ ys
rest_same a b xs ys e = cc

pub rows_mean : (rows : List Row) → found rows ≡ wanted rows → All Said rows
rows_mean [] e k d l = absurd (omega arith)
rows_mean (r ∷ rows) e zero d l = means_row r (first_same (looked_at r.parts) (asked r.fault) (found rows) (wanted rows) e)
rows_mean (r ∷ rows) e (suc k) d l = rows_mean rows (rest_same (looked_at r.parts) (asked r.fault) (found rows) (wanted rows) e) k d (omega arith)
