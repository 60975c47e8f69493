-- The code of a procedure, and that of a module (rule of this project).
use Rattle.std.specs.Prelude.{◌≡◌, ℕ, ◌≤◌, List, [], ◌∷◌, length, map}
use Rattle.mesa_types.specs.declared.faces.Item.{Item}
use Rattle.mesa_types.specs.declared.faces.ItemKind.{ItemKind}
use Rattle.mesa_types.specs.declared.faces.ItemKind.TheVariants as item
use Rattle.mesa_types.specs.declared.types.FieldType.{FieldType}
use Rattle.mesa_types.specs.Typed.{Stmt, Procedure, Module}
use Rattle.mesa_types.specs.Shapes.{words_in_all, join}
use Rattle.mesa_types.specs.Links.{links_of}
use Rattle.mesa_types.specs.Plain.{kinds_of}
use Rattle.code_forms.specs.declared.instruction.Instruction.TheVariants.{Return}
use Rattle.code_forms.specs.declared.module_code.CodeKind.{CodeKind}
use Rattle.code_forms.specs.declared.module_code.CodeKind.TheVariants as kind
use Rattle.code_forms.specs.declared.module_code.CodeLink.{CodeLink}
use Rattle.code_forms.specs.declared.module_code.CodeProcedure.{CodeProcedure}
use Rattle.code_forms.specs.declared.module_code.CodeSignal.{CodeSignal}
use Rattle.code_forms.specs.declared.module_code.ModuleCode.{ModuleCode}
use Rattle.code_forms.specs.declared.module_code.Phrase.{Phrase}
use Rattle.code_forms.specs.Phrases.{first_start}
use Rattle.code_forms.specs.Routine.{Routine, routine_with, code_end}
use Rattle.code_rules.specs.CodeFor.{StmtCode}
use Rattle.code_rules.specs.Reading.{Coded, Own, at_body, scratch}

-- where the body's region ends: at the first arm's, or with the code
abbrev pub body_end_of : List Phrase → (whole : ℕ) → ℕ
body_end_of [] whole = whole
body_end_of (p ∷ ps) whole = first_start p.arms

abbrev pub body_end : Routine → ℕ
body_end r = body_end_of r.phrases (code_end r.code)

-- the body's region stands for its statement and ends in a return; the frame has slots for all variables
pub record BodyCode (P : Coded) (s : Stmt) : Type 0 where
  pub end : ℕ
  pub does : StmtCode P (at_body P) s 0 end
  pub returns : Own P (at_body P) (Return ∷ []) end (body_end P.routine)
  pub room : scratch P ≤ P.routine.frame

abbrev pub kind_code : ItemKind → CodeKind
kind_code item.Procedure = kind.Procedure
kind_code item.Signal = kind.Signal
kind_code item.Error = kind.Error

abbrev pub words_of_fields : List FieldType → ℕ
words_of_fields fields = words_in_all (kinds_of fields)

-- a signal or error has its kind, name and sizes; a link the kind and sizes of its item
abbrev pub signal_code : Item → CodeSignal
signal_code i = record { kind = kind_code i.kind; name = i.name; args = words_of_fields i.takes; results = words_of_fields i.gives }

abbrev pub link_code : Item → CodeLink
link_code i = record { kind = kind_code i.kind; args = words_of_fields i.takes; results = words_of_fields i.gives }

-- a procedure of a module with its code
abbrev pub coded : Module → Procedure → Routine → CodeProcedure → Coded
coded m p r c = record {
  imports = m.imports;
  globals = m.globals;
  locals = join (kinds_of p.head.takes) (join (kinds_of p.head.gives) p.body.variables);
  routine = r;
  entries = c.code;
}

-- the code of a procedure has its name and sizes
pub record ProcedureCode (m : Module) (routine : CodeProcedure → Routine) (p : Procedure) (c : CodeProcedure) : Type 0 where
  pub name : c.name ≡ p.head.name
  pub args : c.args ≡ words_of_fields p.head.takes
  pub results : c.results ≡ words_of_fields p.head.gives
  pub body : BodyCode (coded m p (routine c) c) p.body.does

abbrev pub ProceduresCode : Module → (CodeProcedure → Routine) → List Procedure → List CodeProcedure → Type 0
ProceduresCode m routine [] [] = Unit {0}
ProceduresCode m routine (p ∷ ps) (c ∷ cs) = ProcedureCode m routine p c × ProceduresCode m routine ps cs
ProceduresCode m routine _ _ = ⊥

-- procedure 0 is the body, under the module's name; the others follow in order
abbrev pub main_of : Module → Procedure
main_of m = record { head = record { kind = item.Procedure; name = m.name; takes = []; gives = [] }; body = m.body }

abbrev pub procedures_of : Module → List Procedure
procedures_of m = main_of m ∷ m.procedures

-- the code of a module, by its parts
pub record PartsFor (m : Module) (name : List ℕ) (globals : ℕ) (signals : List CodeSignal) (strings : List (List ℕ)) (links : List CodeLink)
    (procedures : List CodeProcedure) : Type 0 where
  pub named : name ≡ m.name
  pub global_words : globals ≡ words_in_all m.globals
  pub each_signal : signals ≡ map signal_code m.signals
  pub each_string : strings ≡ m.strings
  pub each_link : links ≡ map link_code (links_of m.imports)
  pub each_procedure : ProceduresCode m (routine_with globals (length strings) signals links procedures) (procedures_of m) procedures

-- the code stands for the typed module
abbrev pub CodeFor : Module → ModuleCode → Type 0
CodeFor m c = PartsFor m c.name c.global_words c.signals c.strings c.links c.procedures
