-- A program: the heads of its declarations in text order, then its ENABLE, initial values, procedures, statements and EXITS
-- in text order, then its exports (Language Manual, chapters 4 and 7).
use Rattle.std.specs.Prelude.{ℕ, suc, ◌+◌, Bool, true, false, ◌&&◌, List, [], ◌∷◌, ◌++◌, length, map, replicate, Option, Some, None, Ok, Err, if◌then◌else◌, bytes_eq, nat_le}
use Rattle.mesa_base.specs.declared.limits.TheConstants.{OPERAND_WORDS, SIGNAL_WORDS, LOCAL_WORDS}
use Rattle.mesa_base.specs.declared.place.Place.{Place}
use Rattle.mesa_types.specs.Shapes.{words_in_all}
use Rattle.check_rules.specs.Typed.{NoKinds}
use Rattle.syntax_trees.specs.Syntax as s
use Rattle.check_rules.specs.Typed as t
use Rattle.mesa_types.specs.declared.faces.Pair.{Pair}
use Rattle.mesa_types.specs.declared.faces.Export.{Export}
use Rattle.mesa_types.specs.declared.faces.Import.{Import}
use Rattle.mesa_types.specs.declared.faces.ItemKind.{ItemKind}
use Rattle.mesa_types.specs.declared.faces.ItemKind.TheVariants as item
use Rattle.mesa_base.specs.declared.identifier.Identifier.{Identifier}
use Rattle.syntax_trees.specs.declared.syntax.Access.{Access}
use Rattle.syntax_trees.specs.declared.syntax.Access.TheVariants.{Public, Private}
use Rattle.check_rules.specs.Scopes.{Scope, nothing, over, has, innermost}
use Rattle.check_rules.specs.Meanings.{Meaning, Procedure, Signal, Later, Headless}
use Rattle.check_rules.specs.Steps.{State, Fault, Check, Checked, and_then, ◌>>=◌, pure, only, ensure, in_scope, measured, with_top, within_operands}
use Rattle.check_rules.specs.Around.{Around, Known, body_of, in_statement, inside, with_labels}
use Rattle.check_rules.specs.Names.{announce, settle}
use Rattle.check_rules.specs.Parts.{first_name, names_of, each_of, same_types, join_stmts}
use Rattle.check_rules.specs.Statements.{Headed, fields_from, labels_of_exits}
use Rattle.check_rules.specs.Phrases.{is_catch}
use Rattle.check_rules.specs.Checking.{type_exp, unnamed_fields, head, initial, block, phrase, statements, exits}
use Rattle.check_rules.specs.declared.fault.Cause.TheVariants.{ExportDiffers, FrameTooLarge}
-- the names that a module declares itself, elements of the enumerations in its own types included
use Rattle.interface_records.specs.PlainTypes.{PlainField, PlainInterface, PlainItem, face_of, item_of, words_of_fields}

unfoldable mutual
  pub elements_of : s.TypeExp → List Identifier
  elements_of (s.Enumeration p xs) = xs
  elements_of (s.Array p i e) = elements_of i ++ elements_of e
  elements_of (s.Record p fs) = elements_in fs
  elements_of _ = []

  pub elements_in : s.FieldList → List Identifier
  elements_in (s.WithNames fs) = elements_in_named fs
  elements_in (s.Unnamed ts) = elements_in_types ts

  pub elements_in_named : s.NamedFields → List Identifier
  elements_in_named s.NoFields = []
  elements_in_named (s.AndFields xs e fs) = elements_of e ++ elements_in_named fs

  pub elements_in_types : s.TypeExps → List Identifier
  elements_in_types s.NoTypes = []
  elements_in_types (s.AndType e es) = elements_of e ++ elements_in_types es

abbrev pub type_of : s.PlainItem → s.TypeExp
type_of (s.TypeIs e) = e
type_of (s.Variable e) = e
type_of (s.Initial e x) = e
type_of (s.Constant e x) = e

abbrev pub also : Meaning → List Identifier → Scope Meaning → Scope Meaning
also m xs scope x = if has x (names_of xs) then Some m else scope x

-- what a module's own names mean before their declaration
abbrev pub one_ahead : List Identifier → s.Declared → Scope Meaning → Scope Meaning
one_ahead xs (s.Data d) scope = also Later (xs ++ elements_of (type_of d)) scope
one_ahead xs d scope = also Headless xs scope

unfoldable pub ahead : List s.Declaration → Scope Meaning
ahead [] = nothing
ahead (d ∷ ds) = one_ahead d.names d.declared (ahead ds)

-- what a module's own names mean to an initial value, where they are not declared before it
abbrev pub hidden_unless_head : Option Meaning → Option Meaning
hidden_unless_head (Some (Procedure c i)) = Some (Procedure c i)
hidden_unless_head (Some (Signal r i)) = Some (Signal r i)
hidden_unless_head (Some m) = Some Later
hidden_unless_head None = None

abbrev pub heads_alone : Scope Meaning → Scope Meaning
heads_alone scope x = hidden_unless_head (scope x)

abbrev pub second : Scope Meaning → List (Scope Meaning) → List (Scope Meaning)
second s (t ∷ u ∷ ss) = t ∷ s ∷ ss
second s ss = ss

abbrev pub behind_top : List (Scope Meaning) → List (Scope Meaning)
behind_top (t ∷ ss) = second (heads_alone t) (t ∷ ss)
behind_top [] = []

abbrev pub heads_are_done : Check (Unit {0})
heads_are_done = λ s. Ok (tt, record s { scopes = behind_top s.scopes })

-- Heads that stand further on, as if they were checked: each behind all that stands before it, where a declaration with a
-- fault is passed over. Its names are then taken, and not visible.
abbrev pub passed_over : List Identifier → State → State
passed_over xs s = with_top (over (innermost s.scopes) (also Later xs nothing)) s

abbrev pub next_or : {A : Type 0} → State → Checked (A × State) → State
next_or s (Ok r) = r.1
next_or s (Err f) = s

unfoldable pub behind : {D A : Type 0} → (D → List Identifier) → (D → Check A) → List D → State → State
behind names rule [] s = s
behind names rule (d ∷ ds) s = behind names rule ds (next_or (passed_over (names d) s) (rule d s))

abbrev pub head_alone : Option Meaning → Option Meaning
head_alone (Some (Procedure c i)) = Some (Procedure c i)
head_alone (Some (Signal r i)) = Some (Signal r i)
head_alone _ = None

-- the heads among these declarations, which stand behind one of these names
abbrev pub heads_further : {D A : Type 0} → (D → List Identifier) → (D → Check A) → List Identifier → List D → State → Scope Meaning
heads_further names rule xs ds s x = head_alone (innermost (behind names rule ds (passed_over xs s)).scopes x)

abbrev pub fault_or : {A : Type 0} → Fault → Checked A → Checked A
fault_or e (Ok r) = Err e
fault_or e (Err f) = Err f

abbrev pub told : {A : Type 0} → Checked A → (Unit {0} → Checked A) → Checked A
told (Ok r) again = Ok r
told (Err e) again = fault_or e (again tt)

-- A declaration before these others. What it declares needs no head further on, since none is in a constant; of a declaration
-- with a fault these heads tell which fault is the first.
abbrev pub before_others : {D A : Type 0} → (D → List Identifier) → (Around → D → Check A) → Around → D → List D → Check A
before_others names rule a d ds = λ now. told (rule a d now) (λ _. rule (record a { further = heads_further names (rule a) (names d) ds now }) d now)

-- Heads of procedures, signals and errors: parameters and results are one scope, which the types in it do not see.
unfoldable pub named_parameters : Around → s.NamedFields → Check (List PlainField)
named_parameters a s.NoFields = pure []
named_parameters a (s.AndFields xs e rest) = do
  _ ← announce xs
  k ← type_exp a e
  fs ← named_parameters a rest
  pure (each_of k xs ++ fs)

abbrev pub parameters : Around → Option s.FieldList → Check (List PlainField)
parameters a None = pure []
parameters a (Some (s.WithNames fs)) = named_parameters a fs
parameters a (Some (s.Unnamed es)) = unnamed_fields a es

-- a head, and the scope of its parameters, results and elements
pub record Heading : Type 0 where
  pub takes : List PlainField
  pub gives : List PlainField
  pub scope : Scope Meaning

abbrev pub own_scope : List PlainField → List PlainField → Scope Meaning → Scope Meaning
own_scope takes gives scope = over (fields_from 0 (takes ++ gives) nothing) scope

abbrev pub coming_scope : Check (Scope Meaning)
coming_scope = λ s. Ok (s.coming, s)

unfoldable pub heading : Around → Option s.FieldList → Option s.FieldList → Check Heading
heading a takes gives = in_scope nothing (do
  fs ← parameters (inside a) takes
  gs ← parameters (inside a) gives
  scope ← coming_scope
  pure (record { takes = fs; gives = gs; scope = own_scope fs gs scope }))

abbrev pub named_item : ItemKind → Heading → Identifier → PlainItem
named_item kind h x = record { kind = kind; name = x.name; takes = h.takes; gives = h.gives }

-- what the module declares to others
pub record Offer : Type 0 where
  pub name : Identifier
  pub number : ℕ
  pub item : PlainItem

-- a declaration whose head is read
pub data Stated : Type 0 where
  DataHead : Headed → Stated
  ProcedureHead : PlainItem → Scope Meaning → (operands : ℕ) → Stated
  SignalHead : Stated

pub record Declared : Type 0 where
  pub head : Stated
  pub procedures : ℕ
  pub signals : List PlainItem
  pub offers : List Offer

abbrev pub is_public : Option Access → Bool
is_public (Some Public) = true
is_public (Some Private) = false
is_public None = false

abbrev pub if_public : Option Access → List Offer → List Offer
if_public access offers = if is_public access then offers else []

abbrev pub procedure_offer : ℕ → PlainItem → Identifier → Offer
procedure_offer n i x = record { name = x; number = n; item = i }

unfoldable pub signal_offers : ℕ → List Identifier → List PlainItem → List Offer
signal_offers n (x ∷ xs) (i ∷ is) = record { name = x; number = n; item = i } ∷ signal_offers (n + 1) xs is
signal_offers n _ _ = []

unfoldable pub signal_meanings : ℕ → List PlainItem → List Meaning
signal_meanings n [] = []
signal_meanings n (i ∷ is) = Signal (t.OwnSignal n) i ∷ signal_meanings (n + 1) is

-- several names before one block are names of one procedure, whose head is under the first
abbrev pub first_item : Heading → List Identifier → PlainItem
first_item h [] = record { kind = item.Procedure; name = []; takes = h.takes; gives = h.gives }
first_item h (x ∷ xs) = named_item item.Procedure h x

abbrev pub declared_procedure : List Identifier → Option Access → ℕ → Heading × ℕ → Check Declared
declared_procedure xs access n h = do
  _ ← settle xs (map (λ x. Procedure (t.OwnProcedure n) (first_item h.0 xs)) xs)
  pure (record {
    head = ProcedureHead (first_item h.0 xs) h.0.scope h.1;
    procedures = 1;
    signals = [];
    offers = if_public access (map (procedure_offer n (first_item h.0 xs)) xs);
  })

-- the words of the parameters and results of a signal or error are limited (rule of this project)
abbrev pub declared_signals : ItemKind → List Identifier → Option Access → ℕ → Heading → Check Declared
declared_signals kind xs access n h = do
  _ ← ensure (nat_le (words_of_fields h.takes + words_of_fields h.gives) SIGNAL_WORDS) FrameTooLarge (first_name xs)
  _ ← settle xs (signal_meanings n (map (named_item kind h) xs))
  pure (record {
    head = SignalHead;
    procedures = 0;
    signals = map (named_item kind h) xs;
    offers = if_public access (signal_offers n xs (map (named_item kind h) xs));
  })

-- with so many procedures, the body among them, and signals before it
unfoldable pub declared : Around → ℕ → ℕ → List Identifier → Option Access → s.Declared → Check Declared
declared a np ns xs access (s.Data d) = do
  h ← head a xs d
  pure (record { head = DataHead h; procedures = 0; signals = []; offers = [] })
declared a np ns xs access (s.Procedure h b) = do
  _ ← announce xs
  x ← measured (heading a h.takes h.gives)
  declared_procedure xs access np x
declared a np ns xs access (s.Signal h) = within_operands 0 (first_name xs) (do
  _ ← announce xs
  x ← heading a h.takes h.gives
  declared_signals item.Signal xs access ns x)
declared a np ns xs access (s.Error takes) = within_operands 0 (first_name xs) (do
  _ ← announce xs
  x ← heading a takes None
  declared_signals item.Error xs access ns x)

abbrev pub declaration : ℕ → ℕ → Around → s.Declaration → Check Declared
declaration np ns a d = declared a np ns d.names d.access d.declared

unfoldable pub all_declared : Around → ℕ → ℕ → List s.Declaration → Check (List Declared)
all_declared a np ns [] = pure []
all_declared a np ns (d ∷ ds) = do
  x ← before_others (λ (e : s.Declaration). e.names) (declaration np ns) a d ds
  more ← all_declared a (np + x.procedures) (ns + length x.signals) ds
  pure (x ∷ more)

unfoldable pub signals_of : List Declared → List PlainItem
signals_of [] = []
signals_of (d ∷ ds) = d.signals ++ signals_of ds

unfoldable pub offers_of : List Declared → List Offer
offers_of [] = []
offers_of (d ∷ ds) = d.offers ++ offers_of ds

-- Bodies: the words of parameters, results, variables and hidden words together are limited (rule of this project).
abbrev pub fresh : State → State
fresh s = record s { variables = NoKinds; hidden = 0 }

abbrev pub as_before : {A : Type 0} → State → A × State → Checked (A × State)
as_before s r = Ok (r.0, record r.1 { variables = s.variables; hidden = s.hidden })

abbrev pub in_frame : {A : Type 0} → Check A → Check A
in_frame p = λ s. and_then (p (fresh s)) (as_before s)

abbrev pub frame : List PlainField → List PlainField → Place → Check t.Kinds
frame takes gives p = λ s.
    and_then (only (nat_le (words_of_fields takes + words_of_fields gives + words_in_all s.variables + s.hidden) LOCAL_WORDS) FrameTooLarge p)
    (λ _. Ok (s.variables, s))

-- the operands of a head count as those of a statement, and are looked at after the body
unfoldable pub procedure : Known → List Identifier → PlainItem → Scope Meaning → ℕ → s.Block → Check t.Procedure
procedure known xs i scope operands b = in_frame (do
  does ← in_scope scope (block (body_of known i.takes i.gives) b)
  variables ← frame i.takes i.gives (first_name xs)
  _ ← ensure (nat_le operands OPERAND_WORDS) FrameTooLarge (first_name xs)
  pure (record { head = item_of i; body = record { variables = variables; does = does } }))

-- what the declarations leave: procedures, and statements of the body
pub record Values : Type 0 where
  pub procedures : List t.Procedure
  pub statements : t.Stmts

abbrev pub and_statement : (t.Stmts → t.Stmts) → Values → Values
and_statement put v = record v { statements = put v.statements }

abbrev pub and_procedure : t.Procedure → Values → Values
and_procedure p v = record v { procedures = p ∷ v.procedures }

unfoldable pub value_of : Around → List Identifier → s.Declared → Stated → Check (Values → Values)
value_of a xs (s.Data d) (DataHead h) = initial a xs d h >>= (λ put. pure (and_statement put))
value_of a xs (s.Procedure h b) (ProcedureHead i scope operands) = procedure a.known xs i scope operands b >>= (λ p. pure (and_procedure p))
value_of a xs d h = pure (λ v. v)

unfoldable pub values_of : Around → List s.Declaration → List Declared → Check Values
values_of a (d ∷ ds) (x ∷ xs) = do
  put ← value_of a d.names d.declared x.head
  v ← values_of a ds xs
  pure (put v)
values_of a _ _ = pure (record { procedures = []; statements = t.NoStmts })

-- Exports: each item that a public procedure, signal or error has the name of, with its kind and types.
unfoldable pub offer_named : List ℕ → List Offer → Option Offer
offer_named x [] = None
offer_named x (o ∷ os) = if bytes_eq x o.name.name then Some o else offer_named x os

abbrev pub same_kind : ItemKind → ItemKind → Bool
same_kind item.Procedure item.Procedure = true
same_kind item.Signal item.Signal = true
same_kind item.Error item.Error = true
same_kind _ _ = false

abbrev pub is_for : PlainItem → PlainItem → Bool
is_for given wanted = same_kind given.kind wanted.kind && (same_types given.takes wanted.takes && same_types given.gives wanted.gives)

abbrev pub pair_for : ℕ → PlainItem → Option Offer → List Pair → Checked (List Pair)
pair_for n i None rest = Ok rest
pair_for n i (Some o) rest = Ok (record { item = n; number = o.number } ∷ rest)

abbrev pub fits_item : PlainItem → Option Offer → Checked (Unit {0})
fits_item i None = Ok tt
fits_item i (Some o) = only (is_for o.item i) ExportDiffers o.name.place

unfoldable pub pairs : List Offer → ℕ → List PlainItem → Checked (List Pair)
pairs os n [] = Ok []
pairs os n (i ∷ is) =
    and_then (fits_item i (offer_named i.name os)) (λ _.
    and_then (pairs os (suc n) is) (pair_for n i (offer_named i.name os)))

unfoldable pub exported : List Offer → List PlainInterface → Checked (List Export)
exported os [] = Ok []
exported os (f ∷ fs) =
    and_then (pairs os 0 f.items) (λ ps.
    and_then (exported os fs) (λ es. Ok (record { face = face_of f; given = ps } ∷ es)))

-- Imports, each with those of its items that the text names.
unfoldable pub unused : List PlainInterface → List (List Bool)
unused [] = []
unused (f ∷ fs) = replicate (length f.items) false ∷ unused fs

unfoldable pub marked_from : ℕ → List PlainItem → List Bool → List ℕ
marked_from n (i ∷ is) (true ∷ ms) = n ∷ marked_from (suc n) is ms
marked_from n (i ∷ is) (false ∷ ms) = marked_from (suc n) is ms
marked_from n _ _ = []

abbrev pub first_row : List (List Bool) → List Bool
first_row [] = []
first_row (ms ∷ rest) = ms

abbrev pub other_rows : List (List Bool) → List (List Bool)
other_rows [] = []
other_rows (ms ∷ rest) = rest

unfoldable pub imported : List PlainInterface → List (List Bool) → List Import
imported [] rows = []
imported (f ∷ fs) rows = record { face = face_of f; used = marked_from 0 f.items (first_row rows) } ∷ imported fs (other_rows rows)

-- The module itself: its EXITS see its names, and its labels are those of its EXITS.
pub record Whole : Type 0 where
  pub declared : List Declared
  pub procedures : List t.Procedure
  pub body : t.Body

abbrev pub marked_if : Bool → t.Stmt → t.Stmt
marked_if true s = t.Marked 0 s
marked_if false s = s

abbrev pub enabled : Bool → Around → Around
enabled true a = in_statement a
enabled false a = a

abbrev pub outermost : Around → Around
outermost a = record a { is_outermost = true }

abbrev pub body_block : t.Phrase → t.Stmts → t.Stmts → t.Exits → t.Stmt
body_block w ds ss es = t.Block w (join_stmts ds ss) es

unfoldable pub whole_in : Around → Place → s.Inner → Check Whole
whole_in a p inner = do
  ds ← all_declared (outermost (with_labels (labels_of_exits inner.exits) a)) 1 0 inner.declarations
  _ ← heads_are_done
  w ← phrase (with_labels (labels_of_exits inner.exits) a) inner.enable
  vs ← values_of (with_labels (labels_of_exits inner.exits) a) inner.declarations ds
  ss ← statements (with_labels (labels_of_exits inner.exits) a) inner.statements
  es ← exits a a.labelled [] inner.exits
  variables ← frame [] [] p
  pure (record {
    declared = ds;
    procedures = vs.procedures;
    body = record { variables = variables; does = marked_if (is_catch inner.enable) (body_block w vs.statements ss es) };
  })

-- at the place of the module's name
abbrev pub program_body : Known → Place → s.Inner → Check Whole
program_body known p inner = whole_in (enabled (is_catch inner.enable) (body_of known [] [])) p inner
