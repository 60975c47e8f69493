-- How the procedures and codes of the examples are written by hand.
use Rattle.std.specs.Prelude.{◌≡◌, ℕ, ◌+◌, Some, List, [], ◌∷◌, codes}
use Rattle.mesa_types.specs.Typed.{Kind, Kinds, NoKinds, AndKind, Expr, Variable, Exprs, NoExprs, AndExpr, NoSuffix, Stmt, NoPhrase, Block, Stmts, NoStmts, AndStmt, NoExits}
use Rattle.mesa_types.specs.declared.faces.Import.{Import}
use Rattle.mesa_types.specs.declared.typed_parts.Base.{Base}
use Rattle.mesa_types.specs.declared.typed_parts.Bases.{Bases}
use Rattle.mesa_types.specs.declared.typed_parts.Part.{Part}
use Rattle.mesa_types.specs.declared.typed_parts.Home.TheVariants.{Global, Local}
use Rattle.code_forms.specs.declared.around.Moved.{Moved}
use Rattle.code_forms.specs.declared.instruction.Instruction.{Instruction}
use Rattle.code_forms.specs.declared.module_code.Arm.{Arm}
use Rattle.code_forms.specs.declared.module_code.Label.{Label}
use Rattle.code_forms.specs.declared.module_code.CodeEntry.{CodeEntry}
use Rattle.code_forms.specs.declared.module_code.CodeKind.TheVariants.{Signal, Error, Procedure}
use Rattle.code_forms.specs.declared.module_code.CodeLink.{CodeLink}
use Rattle.code_forms.specs.declared.module_code.CodeSignal.{CodeSignal}
use Rattle.code_forms.specs.declared.module_code.Phrase.{Phrase}
use Rattle.code_forms.specs.Instructions.{bytes_of}
use Rattle.code_forms.specs.Routine.{spots, words}
use Rattle.code_rules.specs.Reading.{Coded, Place, Own, one_more, read, behind}

-- an instruction with its offset and the words before it
abbrev pub at : (offset depth : ℕ) → Instruction → CodeEntry
at offset depth i = record { at = offset; depth = depth; instruction = i }

abbrev pub kinds : List Kind → Kinds
kinds [] = NoKinds
kinds (k ∷ ks) = AndKind k (kinds ks)

-- the signals of the examples: 0 takes a word and gives one, 1 is an error that takes nothing; link 0 is a procedure, link 1 a signal;
-- procedure 1 takes a word and gives one, procedure 2 takes three words and gives two
abbrev pub signals : List CodeSignal
signals = record { kind = Signal; name = codes "Odd"; args = 1; results = 1 } ∷ record { kind = Error; name = codes "Bad"; args = 0; results = 0 } ∷ []

abbrev pub links : List CodeLink
links = record { kind = Procedure; args = 1; results = 0 } ∷ record { kind = Signal; args = 1; results = 1 } ∷ []

abbrev pub sizes : List Moved
sizes = words 0 0 ∷ words 1 1 ∷ words 3 2 ∷ []

-- a procedure with these globals and variables, of a module with these imports
abbrev pub with_imports : List Import → Kinds → Kinds → List CodeEntry → List Phrase → Coded
with_imports imports globals locals entries phrases = record {
  imports = imports;
  globals = globals;
  locals = locals;
  routine = record {
    globals = 20;
    strings = 2;
    signals = signals;
    links = links;
    procedures = sizes;
    frame = 40;
    room = 20;
    code = spots entries;
    phrases = phrases;
  };
  entries = entries;
}

abbrev pub procedure : Kinds → Kinds → List CodeEntry → List Phrase → Coded
procedure globals locals entries phrases = with_imports [] globals locals entries phrases

abbrev pub local : ℕ → Expr
local n = Variable (Local n) NoSuffix 1

abbrev pub global : ℕ → Expr
global n = Variable (Global n) NoSuffix 1

abbrev pub exprs : List Expr → Exprs
exprs [] = NoExprs
exprs (e ∷ es) = AndExpr e (exprs es)

abbrev pub stmts : List Stmt → Stmts
stmts [] = NoStmts
stmts (s ∷ ss) = AndStmt s (stmts ss)

abbrev pub plain_block : List Stmt → Stmt
plain_block ss = Block NoPhrase (stmts ss) NoExits

abbrev pub part : (field offset words : ℕ) → Part
part field offset words = record { field = field; offset = offset; words = words }

abbrev pub bases : (number first last : Base) → Bases
bases number first last = record { number = number; first = first; last = last }

-- an interface of which the text names these items
abbrev pub import : List ℕ → Import
import used = record { face = record { name = codes "I"; stamp = 1; items = [] }; used = used }

-- a phrase with its range, and an arm with the slot and the number of its parameters' words and with its region
abbrev pub arm : List Label → (slot words start end : ℕ) → Arm
arm labels slot words start end = record { labels = labels; slot = slot; words = words; start = start; end = end }

abbrev pub phrase : (from to : ℕ) → List Arm → Phrase
phrase from to arms = record { from = from; to = to; arms = arms }

-- an instruction and those after it
infixr 3 ◌&◌
abbrev pub ◌&◌ : {P : Coded} {w : Place} {i : Instruction} {is : List Instruction} {a b : ℕ}
    → read P a ≡ Some (record { instruction = i; depth = w.depth; around = w.around }) → Own P (behind P i w) is (a + bytes_of i) b
    → Own P w (i ∷ is) a b
r & rest = one_more r rest
