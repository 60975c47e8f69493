-- The names of a program's signals and procedures are among those that its text declares.
use Rattle.std.specs.Prelude.{ℕ, ◌≡◌, ◌+◌, ◌≤◌, List, [], ◌∷◌, ◌++◌, Option, None, length, map, nat_le}
use Rattle.std.proofs.Common.{refl, arith}
use Rattle.mesa_base.specs.declared.limits.TheConstants.{OPERAND_WORDS, SIGNAL_WORDS}
use Rattle.mesa_base.specs.declared.place.Place.{Place}
use Rattle.mesa_base.specs.declared.identifier.Identifier.{Identifier}
use Rattle.syntax_trees.specs.Syntax as s
use Rattle.syntax_trees.specs.declared.syntax.Access.{Access}
use Rattle.mesa_types.specs.declared.faces.ItemKind.{ItemKind}
use Rattle.mesa_types.specs.declared.faces.ItemKind.TheVariants as item
use Rattle.interface_records.specs.PlainTypes.{PlainItem, item_of, words_of_fields}
use Rattle.check_rules.specs.Typed as t
use Rattle.check_rules.specs.Scopes.{Scope}
use Rattle.check_rules.specs.Meanings.{Meaning}
use Rattle.check_rules.specs.Meanings as meaning
use Rattle.check_rules.specs.Steps.{◌>>=◌, pure, in_scope, ensure}
use Rattle.check_rules.specs.Around.{Around, Known, body_of, with_labels}
use Rattle.check_rules.specs.Parts.{first_name}
use Rattle.check_rules.specs.Statements.{labels_of_exits}
use Rattle.check_rules.specs.Phrases.{is_catch}
use Rattle.check_rules.specs.Checking.{block}
use Rattle.check_rules.specs.Programs.{declaration, Heading, named_item, Stated, DataHead, ProcedureHead, SignalHead, Declared, if_public, procedure_offer, signal_offers, signal_meanings, first_item, declared_procedure, declared_signals, declared, all_declared, signals_of, frame, procedure, Values, value_of, values_of, Whole, marked_if, outermost, body_block, whole_in}
use Rattle.check_rules.specs.declared.fault.Cause.TheVariants.{FrameTooLarge}
use Rattle.checking_laws.specs.Sizes.{item_bytes, head_bytes}
use Rattle.checking_laws.specs.Weights.{in_bytes, each_name}
use Rattle.checking_laws.proofs.Written.{declared_bytes}
use Rattle.checking_laws.proofs.Using.{Uses, bind, give, after, only_if, within, inside_scope, measuring}
use Rattle.checking_laws.proofs.Names.{announced, has_settled}
use Rattle.checking_laws.proofs.Expressions.{head_used, initial_value_used, block_used, phrase_used, statements_used, exits_used}
use Rattle.checking_laws.proofs.Declarations.{before_others_used, after_heads, heading_used, framed, frame_used, rest_of}

-- the names of signals, and of a declaration's procedure and signals
unfoldable pub signal_bytes : List PlainItem → ℕ
signal_bytes [] = 0
signal_bytes (i ∷ is) = length i.name + signal_bytes is

abbrev stated_bytes : Stated → ℕ
stated_bytes (DataHead h) = 0
stated_bytes (ProcedureHead i scope operands) = length i.name
stated_bytes SignalHead = 0

abbrev FewBytes : ℕ → Declared → ℕ → Type 0
FewBytes most x n = stated_bytes x.head + signal_bytes x.signals ≤ most

unfoldable all_stated : List Declared → ℕ
all_stated [] = 0
all_stated (x ∷ xs) = stated_bytes x.head + all_stated xs

pub items_bytes : (is : List PlainItem) → item_bytes (map item_of is) ≡ signal_bytes is
unfolding item_bytes signal_bytes
items_bytes [] = refl
items_bytes (i ∷ is) = omega (arith, items_bytes is)

joined : (is js : List PlainItem) → signal_bytes (is ++ js) ≡ signal_bytes is + signal_bytes js
unfolding signal_bytes
joined [] js = omega arith
joined (i ∷ is) js = omega (arith, joined is js)

signal_names : (kind : ItemKind) (h : Heading) (xs : List Identifier) → signal_bytes (map (named_item kind h) xs) ≡ each_name in_bytes xs
unfolding signal_bytes each_name
signal_names kind h [] = refl
signal_names kind h (x ∷ xs) = omega (arith, signal_names kind h xs)

first_name_bytes : (h : Heading) (xs : List Identifier) → length (first_item h xs).name ≤ each_name in_bytes xs
unfolding each_name
first_name_bytes h [] = omega arith
first_name_bytes h (x ∷ xs) = omega arith

procedure_stated : (xs : List Identifier) (access : Option Access) (n : ℕ) (x : Heading × ℕ)
    → Uses (FewBytes (each_name in_bytes xs)) (declared_procedure xs access n x)
unfolding signal_bytes
procedure_stated xs access n x = bind (has_settled xs (map (λ y. meaning.Procedure (t.OwnProcedure n) (first_item x.0 xs)) xs)) (λ v m h.
    give {a = record {
      head = ProcedureHead (first_item x.0 xs) x.0.scope x.1;
      procedures = 1;
      signals = [];
      offers = if_public access (map (procedure_offer n (first_item x.0 xs)) xs);
    }} (omega (arith, first_name_bytes x.0 xs)))

signals_stated : (kind : ItemKind) (xs : List Identifier) (access : Option Access) (n : ℕ) (x : Heading)
    → Uses (FewBytes (each_name in_bytes xs)) (declared_signals kind xs access n x)
signals_stated kind xs access n x =
    after (only_if (nat_le (words_of_fields x.takes + words_of_fields x.gives) SIGNAL_WORDS) FrameTooLarge (first_name xs) tt) (λ v w.
    bind (has_settled xs (signal_meanings n (map (named_item kind x) xs))) (λ v m h.
    give {a = record {
      head = SignalHead;
      procedures = 0;
      signals = map (named_item kind x) xs;
      offers = if_public access (signal_offers n xs (map (named_item kind x) xs));
    }} (omega (arith, signal_names kind x xs))))

declared_stated : (a : Around) (np ns : ℕ) (xs : List Identifier) (access : Option Access) (x : s.Declared)
    → Uses (FewBytes (each_name in_bytes xs)) (declared a np ns xs access x)
unfolding declared signal_bytes
declared_stated a np ns xs access (s.Data x) =
    bind (head_used a xs x) (λ h n i. give {a = record { head = DataHead h; procedures = 0; signals = []; offers = [] }} (omega arith))
declared_stated a np ns xs access (s.Procedure h b) =
    bind (announced xs) (λ v n i.
    bind (measuring (heading_used a h.takes h.gives)) (λ x m j.
    procedure_stated xs access np x))
declared_stated a np ns xs access (s.Signal h) = within 0 (first_name xs) (
    bind (announced xs) (λ v n i.
    bind (heading_used a h.takes h.gives) (λ x m j.
    signals_stated item.Signal xs access ns x)))
declared_stated a np ns xs access (s.Error takes) = within 0 (first_name xs) (
    bind (announced xs) (λ v n i.
    bind (heading_used a takes None) (λ x m j.
    signals_stated item.Error xs access ns x)))

all_declared_stated : (a : Around) (np ns : ℕ) (ds : List s.Declaration)
    → Uses (λ (xs : List Declared) n. all_stated xs + signal_bytes (signals_of xs) ≤ declared_bytes ds) (all_declared a np ns ds)
unfolding all_declared all_stated signals_of signal_bytes declared_bytes
all_declared_stated a np ns [] = give {a = []} (omega arith)
all_declared_stated a np ns (d ∷ ds) =
    bind (before_others_used (λ (e : s.Declaration). e.names) (declaration np ns) a d ds
    (λ f. declared_stated (record a { further = f }) np ns d.names d.access d.declared)) (λ y n h.
    bind (all_declared_stated a (np + y.procedures) (ns + length y.signals) ds) (λ more m i.
    give {a = y ∷ more} (omega (arith, joined y.signals (signals_of more)))))

-- procedures have the names of their heads
procedure_named : (known : Known) (xs : List Identifier) (i : PlainItem) (scope : Scope Meaning) (operands : ℕ) (b : s.Block)
    → Uses (λ (p : t.Procedure) n. length p.head.name ≡ length i.name) (procedure known xs i scope operands b)
unfolding procedure
procedure_named known xs i scope operands b =
    framed {c = in_scope scope (block (body_of known i.takes i.gives) b) >>= (λ does. frame i.takes i.gives (first_name xs) >>= (λ variables.
    ensure (nat_le operands OPERAND_WORDS) FrameTooLarge (first_name xs) >>=
    (λ v. pure (record { head = item_of i; body = record { variables = variables; does = does } }))))} (
    bind (inside_scope scope (block_used (body_of known i.takes i.gives) b)) (λ does n q.
    bind (frame_used i.takes i.gives (first_name xs)) (λ variables m h.
    after (only_if (nat_le operands OPERAND_WORDS) FrameTooLarge (first_name xs) tt) (λ v w.
    give {a = record { head = item_of i; body = record { variables = variables; does = does } }} refl))))

value_of_named : (a : Around) (xs : List Identifier) (x : s.Declared) (h : Stated)
    → Uses (λ (put : Values → Values) n. (y : Values) → head_bytes (put y).procedures ≤ stated_bytes h + head_bytes y.procedures) (value_of a xs x h)
unfolding value_of head_bytes
value_of_named a xs (s.Data x) (DataHead h) = bind (initial_value_used a xs x h) (λ put n q. give (λ y. omega arith))
value_of_named a xs (s.Procedure h b) (ProcedureHead i scope operands) =
    bind (procedure_named a.known xs i scope operands b) (λ p n q. give (λ y. omega (arith, q)))
value_of_named a xs (s.Data x) (ProcedureHead i scope operands) = give (λ y. omega arith)
value_of_named a xs (s.Data x) SignalHead = give (λ y. omega arith)
value_of_named a xs (s.Procedure h b) (DataHead x) = give (λ y. omega arith)
value_of_named a xs (s.Procedure h b) SignalHead = give (λ y. omega arith)
value_of_named a xs (s.Signal h) x = give (λ y. omega arith)
value_of_named a xs (s.Error takes) x = give (λ y. omega arith)

values_of_named : (a : Around) (ds : List s.Declaration) (xs : List Declared)
    → Uses (λ (y : Values) n. head_bytes y.procedures ≤ all_stated xs) (values_of a ds xs)
unfolding values_of head_bytes all_stated
values_of_named a [] [] = give {a = record { procedures = []; statements = t.NoStmts }} (omega arith)
values_of_named a [] (x ∷ xs) = give {a = record { procedures = []; statements = t.NoStmts }} (omega arith)
values_of_named a (d ∷ ds) [] = give {a = record { procedures = []; statements = t.NoStmts }} (omega arith)
values_of_named a (d ∷ ds) (x ∷ xs) =
    bind (value_of_named a d.names d.declared x.head) (λ put n q.
    bind (values_of_named a ds xs) (λ y m w.
    give {a = put y} (omega (arith, q y))))

-- those of the signals and procedures of a program
abbrev pub BytesDeclared : s.Inner → Whole → ℕ → Type 0
BytesDeclared inner x n = head_bytes x.procedures + signal_bytes (signals_of x.declared) ≤ declared_bytes inner.declarations

pub whole_in_named : (a : Around) (p : Place) (inner : s.Inner) → Uses (BytesDeclared inner) (whole_in a p inner)
unfolding whole_in
whole_in_named a p inner =
    bind (all_declared_stated (outermost (with_labels (labels_of_exits inner.exits) a)) 1 0 inner.declarations) (λ ds i h.
    after_heads (λ x. rest_of a p inner ds) (
    bind (phrase_used (with_labels (labels_of_exits inner.exits) a) inner.enable) (λ w j q.
    bind (values_of_named (with_labels (labels_of_exits inner.exits) a) inner.declarations ds) (λ vs k x.
    bind (statements_used (with_labels (labels_of_exits inner.exits) a) inner.statements) (λ ss l y.
    bind (exits_used a a.labelled [] inner.exits) (λ es m z.
    bind (frame_used [] [] p) (λ variables n v.
    give {a = record {
      declared = ds;
      procedures = vs.procedures;
      body = record { variables = variables; does = marked_if (is_catch inner.enable) (body_block w vs.statements ss es) };
    }} (omega arith))))))))
