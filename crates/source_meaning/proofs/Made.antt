-- How the programs of the examples are written by hand, and what is seen of their runs.
use Rattle.std.specs.Prelude.{ℕ, zero, suc, List, [], ◌∷◌, replicate, codes, None, slice_get}
use Rattle.std.specs.Fmt.{digits}
use Rattle.mesa_types.specs.Typed.{Kinds, NoKinds, AndKind, Ordinal, Endless, Expr, Number, Literal, Variable, Operate, Call, Raise, Exprs, NoExprs, AndExpr, NoSuffix, NoOperation, Then, Phrase, NoPhrase, Catch, Arms, NoArms, AndArm, Stmt, Marked, DeclareAs, Assign, Perform, Block, Repeat, Stmts, NoStmts, AndStmt, NoExits, LoopOf, Finish, Condition, Procedure, Module, point_of}
use Rattle.mesa_types.specs.declared.typed_parts.Home.TheVariants.{Global, Local}
use Rattle.mesa_types.specs.declared.typed_parts.Range.TheVariants.{Every}
use Rattle.mesa_types.specs.declared.typed_parts.Operator.{Operator}
use Rattle.mesa_types.specs.declared.typed_parts.Operator.TheVariants.{Add, Subtract}
use Rattle.mesa_types.specs.declared.typed_parts.Callee.TheVariants.{OwnProcedure, LinkedProcedure}
use Rattle.mesa_types.specs.declared.typed_parts.Raised.{Raised}
use Rattle.mesa_types.specs.declared.typed_parts.Label.{Label}
use Rattle.mesa_types.specs.Shapes.{join, count_in}
use Rattle.mesa_types.specs.Links.{item_in, imported}
use Rattle.mesa_types.specs.declared.types.TypeTree.TheVariants.{Integer}
use Rattle.mesa_types.specs.declared.types.FieldType.{FieldType, roll-FieldType}
use Rattle.mesa_types.specs.declared.faces.ItemKind.TheVariants as kind
use Rattle.mesa_types.specs.declared.faces.Item.{Item}
use Rattle.mesa_types.specs.declared.faces.Import.{Import}
use Rattle.source_meaning.specs.Value as v
use Rattle.mesa_types.specs.Longs as l
use Rattle.mesa_types.specs.Operators as o
use Rattle.source_meaning.specs.Program.{Target, ToSignal, Unnamed, Instance, Program, or_else, no_body, head_named, no_procedure, no_module, no_instance, instance_of, module_of, main_of, procedure_in, procedure_of, beyond_parameters, string_of, callee_of, signal_in, linked_signal, raised_of, is_signal, takes_back, resumes, host_of, host_target, target_of, single}
use Rattle.source_meaning.specs.State.{Ending, End, Answer, Result, give, carry, after, look, change, spend_of, spend, leave, enter_if, enter, put, read_of, read, peek_of, peek, branch, value_then, on_values, on_value, on_word, on_long, give_value, give_word, give_long, normal_then, on_normal, dropped_of, dropped, marked_of, marked, labelled_of, labelled, body_end_of, body_end}
use Rattle.source_meaning.specs.Variables.{at_if, put_at, set_globals, set_variables, fetch, store, store_part, store_all, store_from, add_frame, in_frame}
use Rattle.source_meaning.specs.Signals.{same_signal, is_for, is_unwind, some_label, arm_in, first_arm, catching, arm_answer, arm_body, put_parameters, run_arm, run_unwind_arm, asked, ask_arm, ask, raise, raised_for, on_tried, unwound, unwind, through_of, through}
use Rattle.source_meaning.specs.Calls.{run_procedure, mark_started, start, start_first, results, host, call_to, call}
use Rattle.source_meaning.specs.Meaning.{has_label, fields_in, number_for, value_by, counted, one_round_less, rounds_of, value, values, all_of, some_of, path, operations, long_operations, targets, tests, condition, does, sequence, cases, exits, loop, finish, meaning}
use Rattle.source_meaning.specs.Means.{control, first_state, outcome}

-- What is seen of a run.

-- what it printed, how it ended, the turns left, and the input left
pub data Seen : Type 0 where
  Saw : (output : List ℕ) → Answer → (left : ℕ) → Seen

unfoldable pub shown : Result → Seen
shown r = Saw r.state.output r.answer r.state.turns

-- a program over an input, with what follows it, where so many activations stand already
unfoldable pub seen_among : (standing : ℕ) → Program → List ℕ → Ending → (turns : ℕ) → Seen
unfolding digits shown v.word v.long v.bytes v.parts v.nth v.with_nth v.one v.join v.how_many v.with_from v.some_from v.find_place v.arranged_from v.arrange v.copies v.zero_of v.zeros v.part_at v.with_part v.path_of o.wrap o.shifted o.unshifted o.opposite o.is_negative o.magnitude_if o.magnitude o.with_sign o.differ o.quotient o.remainder o.related o.past o.first_of o.beyond o.lies_in o.truth o.is_true o.fits o.fine_if o.checked o.by_divisor o.character o.tried o.element o.indexed o.fine_or o.byte_at l.more_of l.less_of l.two_words l.long_of l.wrap_long l.shifted_long l.opposite_long l.is_negative_long l.long_magnitude_if l.long_magnitude l.with_sign_long l.quotient_long l.remainder_long l.tried_long l.related_long l.lies_in_long l.extended_if l.extended l.is_in_common l.widened l.is_word_of l.narrowed l.on_fine l.converted join count_in item_in imported point_of or_else no_body head_named no_procedure no_module no_instance instance_of module_of main_of procedure_in procedure_of beyond_parameters string_of callee_of signal_in linked_signal raised_of is_signal takes_back resumes host_of host_target target_of single give carry after look change spend_of spend leave enter_if enter put read_of read peek_of peek branch value_then on_values on_value on_word on_long give_value give_word give_long normal_then on_normal dropped_of dropped marked_of marked labelled_of labelled body_end_of body_end at_if put_at set_globals set_variables fetch store store_part store_all store_from add_frame in_frame same_signal is_for is_unwind some_label arm_in first_arm catching arm_answer arm_body put_parameters run_arm run_unwind_arm asked ask_arm ask raise raised_for on_tried unwound unwind through_of through run_procedure mark_started start start_first results host call_to call has_label fields_in number_for value_by counted one_round_less rounds_of value values all_of some_of path operations long_operations targets tests condition does sequence cases exits loop finish meaning control first_state outcome
seen_among standing P input e turns = shown (control P (meaning P (suc turns)) P.control (record (first_state P input e turns) { standing = standing }))

unfoldable pub seen : Program → (turns : ℕ) → Seen
unfolding seen_among
seen P turns = seen_among 0 P [] End turns

unfoldable pub seen_over : Program → List ℕ → Ending → (turns : ℕ) → Seen
unfolding seen_among
seen_over P input e turns = seen_among 0 P input e turns

-- Trees.

abbrev pub exprs : List Expr → Exprs
exprs [] = NoExprs
exprs (e ∷ es) = AndExpr e (exprs es)

abbrev pub stmts : List Stmt → Stmts
stmts [] = NoStmts
stmts (s ∷ ss) = AndStmt s (stmts ss)

abbrev pub words : ℕ → Kinds
words zero = NoKinds
words (suc n) = AndKind Ordinal (words n)

abbrev pub block : List Stmt → Stmt
block ss = Block NoPhrase (stmts ss) NoExits

abbrev pub global : ℕ → Expr
global n = Variable (Global n) NoSuffix 1

abbrev pub local : ℕ → Expr
local n = Variable (Local n) NoSuffix 1

abbrev pub declare_as : ℕ → Expr → Stmt
declare_as n e = DeclareAs (Global n ∷ []) Ordinal e

abbrev pub assign : ℕ → Expr → Stmt
assign n e = Assign (Global n) NoSuffix e

abbrev pub operated : Operator → Expr → Expr → Expr
operated op d e = Operate d (Then Every op e NoOperation)

abbrev pub plus : Expr → Expr → Expr
plus d e = operated Add d e

abbrev pub minus : Expr → Expr → Expr
minus d e = operated Subtract d e

abbrev pub calls : ℕ → List Expr → Phrase → Expr
calls q es ph = Call (OwnProcedure q) [] (exprs es) 1 ph

abbrev pub perform : ℕ → Phrase → Stmt
perform q ph = Perform (calls q [] ph)

-- a statement with this number, which is a call with this phrase's arms
abbrev pub caught : (statement q : ℕ) → Arms → Stmt
caught n q arms = Marked n (perform q (Catch n arms))

abbrev pub arm : Label → Stmt → Arms → Arms
arm l s arms = AndArm (l ∷ []) 0 0 s arms

abbrev pub one_arm : Label → Stmt → Arms
one_arm l s = arm l s NoArms

-- a block with an ENABLE
abbrev pub enabling : (statement : ℕ) → Arms → List Stmt → Stmt
enabling n arms ss = Marked n (Block (Catch n arms) (stmts ss) NoExits)

abbrev pub raises : Raised → Stmt
raises r = Perform (Raise r [] NoExprs 0 NoPhrase)

-- an endless loop with this number, whose body has the next one
abbrev pub looping : (statement : ℕ) → Condition → List Stmt → Finish → Stmt
looping n c ss fin = Marked n (Repeat Endless (LoopOf c (Marked (suc n) (block ss)) NoExits fin))

-- Modules and programs.

abbrev pub parameters : ℕ → List FieldType
parameters n = replicate n (roll-FieldType (record { name = None; kind = Integer }))

abbrev pub item : (takes gives : ℕ) → Item
item takes gives = record { kind = kind.Procedure; name = []; takes = parameters takes; gives = parameters gives }

abbrev pub signal : (takes gives : ℕ) → Item
signal takes gives = record { kind = kind.Signal; name = []; takes = parameters takes; gives = parameters gives }

abbrev pub error : Item
error = record { kind = kind.Error; name = []; takes = []; gives = [] }

abbrev pub procedure : (takes gives variables : ℕ) → Stmt → Procedure
procedure takes gives variables s = record { head = item takes gives; body = record { variables = words variables; does = s } }

abbrev pub named : List ℕ → Item
named name = record { kind = kind.Procedure; name = name; takes = []; gives = [] }

-- the interface of the host, as import 0
abbrev pub host_import : Import
host_import = record {
  face = record {
    name = codes "IODefs";
    stamp = 1;
    items = named (codes "WriteChar") ∷ named (codes "WriteString") ∷ named (codes "WriteDecimal") ∷ named (codes "ReadChar") ∷ named (codes "EndOfInput") ∷ named (codes "NoInput") ∷ [];
  };
  used = 0 ∷ 1 ∷ 2 ∷ 3 ∷ 4 ∷ 5 ∷ [];
}

abbrev pub on_host : ℕ → List Expr → Expr
on_host n es = Call (LinkedProcedure 0 n) [] (exprs es) 0 NoPhrase

abbrev pub write_char : ℕ → Stmt
write_char c = Perform (on_host 0 (Number c ∷ []))

abbrev pub write_string : ℕ → Stmt
write_string k = Perform (on_host 1 (Literal k ∷ []))

abbrev pub write_decimal : Expr → Stmt
write_decimal e = Perform (on_host 2 (e ∷ []))

abbrev pub read_char : Expr
read_char = on_host 3 []

abbrev pub end_of_input : Expr
end_of_input = on_host 4 []

abbrev pub module_with : (globals : Kinds) → (signals : List Item) → (strings : List (List ℕ)) → List Procedure → (variables : ℕ) → Stmt → Module
module_with globals signals strings procedures variables s = record {
  name = codes "M";
  imports = host_import ∷ [];
  exports = [];
  globals = globals;
  signals = signals;
  strings = strings;
  procedures = procedures;
  body = record { variables = words variables; does = s };
}

-- a module alone, with so many words as variables
abbrev pub alone : ℕ → List Stmt → Program
alone n ss = single (module_with (words n) [] [] [] 0 (block ss))

-- and with signals or errors and procedures
abbrev pub alone_with : ℕ → List Item → List Procedure → List Stmt → Program
alone_with n signals procedures ss = single (module_with (words n) signals [] procedures 0 (block ss))

-- what the imports of an instance stand for, import by import and item by item
abbrev pub table : List (List Target) → ℕ → ℕ → Target
table ts k n = or_else (ToSignal Unnamed) (slice_get (or_else [] (slice_get ts k)) n)

abbrev pub instance : List ℕ → Module → List (List Target) → Instance
instance name m ts = record { path = name ∷ []; code = m; links = table ts }
