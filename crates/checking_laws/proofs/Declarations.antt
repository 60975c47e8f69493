-- Declarations of a program and of an interface, procedures, and a program's body.
use Rattle.std.specs.Prelude.{ℕ, ◌≡◌, ◌+◌, ◌≤◌, Bool, true, false, Option, Some, None, Ok, Err, List, [], ◌∷◌, length, map, nat_le}
use Rattle.std.proofs.Common.{refl, arith}
use Rattle.mesa_base.specs.declared.limits.TheConstants.{OPERAND_WORDS, SIGNAL_WORDS, LOCAL_WORDS}
use Rattle.mesa_base.specs.declared.place.Place.{Place}
use Rattle.mesa_base.specs.declared.identifier.Identifier.{Identifier}
use Rattle.syntax_trees.specs.Syntax as s
use Rattle.syntax_trees.specs.declared.syntax.Access.{Access}
use Rattle.mesa_types.specs.Shapes.{words_in_all}
use Rattle.mesa_types.specs.declared.faces.ItemKind.{ItemKind}
use Rattle.mesa_types.specs.declared.faces.ItemKind.TheVariants as item
use Rattle.check_rules.specs.Typed as t
use Rattle.interface_records.specs.PlainTypes.{PlainField, PlainItem, item_of, words_of_fields}
use Rattle.check_rules.specs.Scopes.{Scope, nothing}
use Rattle.check_rules.specs.Meanings.{Meaning}
use Rattle.check_rules.specs.Meanings as meaning
use Rattle.check_rules.specs.Steps.{Fault, State, Check, Checked, ◌>>=◌, pure, only, in_scope, ensure}
use Rattle.check_rules.specs.Around.{Around, Known, body_of, inside, with_labels, in_constant}
use Rattle.check_rules.specs.Parts.{first, first_name}
use Rattle.check_rules.specs.Ranges.{Into}
use Rattle.check_rules.specs.Statements.{labels_of_exits}
use Rattle.check_rules.specs.Phrases.{is_catch}
use Rattle.check_rules.specs.Checking.{block, phrase, statements, exits}
use Rattle.check_rules.specs.Programs.{heads_further, fault_or, told, before_others, declaration, behind_top, heads_are_done, named_parameters, parameters, Heading, own_scope, coming_scope, heading, named_item, Stated, DataHead, ProcedureHead, SignalHead, Declared, signal_meanings, first_item, declared_procedure, declared_signals, declared, all_declared, fresh, in_frame, frame, procedure, Values, value_of, values_of, Whole, marked_if, outermost, body_block, whole_in}
use Rattle.check_rules.specs.Definitions as d
use Rattle.check_rules.specs.declared.fault.Cause.TheVariants.{FrameTooLarge}
use Rattle.checking_laws.specs.Weights as tree
use Rattle.checking_laws.specs.Weights.{one_each}
use Rattle.checking_laws.proofs.Uses as u
use Rattle.checking_laws.proofs.Marks.{marks}
use Rattle.checking_laws.proofs.Using.{IsOther, Used, Uses, Unused, AnyNumber, bind, give, after, weaker, mapped, only_if, within, inside_scope, measuring}
use Rattle.checking_laws.proofs.Names.{announced, has_settled, passed}
use Rattle.checking_laws.proofs.Statements.{OfStatement, constant_meaning_given}
use Rattle.checking_laws.proofs.Expressions.{join_names, check_used, type_exp_used, unnamed_fields_used, head_used, initial_value_used, block_used, phrase_used, statements_used, exits_used}

-- a declaration of which the heads further on tell no more than its fault
or_fault : {A : Type 0} (P : A → ℕ → Type 0) (before : ℕ) (e : Fault) (r : Checked (A × State)) → IsOther e.cause → Used P before r
    → Used P before (fault_or e r)
or_fault P before e (Ok a) h k = h
or_fault P before e (Err f) h k = k

told_used : {A : Type 0} (P : A → ℕ → Type 0) (before : ℕ) (r : Checked (A × State)) (again : Unit {0} → Checked (A × State)) → Used P before r
    → Used P before (again tt) → Used P before (told r again)
told_used P before (Ok a) again h k = h
told_used P before (Err e) again h k = or_fault P before e (again tt) h k

pub before_others_used : {D A : Type 0} {P : A → ℕ → Type 0} (names : D → List Identifier) (rule : Around → D → Check A) (a : Around) (d : D) (ds : List D)
    → ((f : Scope Meaning) → Uses P (rule (record a { further = f }) d)) → Uses P (before_others names rule a d ds)
before_others_used {D} {A} {P} names rule a d ds h = record {
  in_state = λ σ. told_used P (marks σ.used) (rule a d σ) (λ x. rule (record a { further = heads_further names (rule a) (names d) ds σ }) d σ)
      ((h a.further).in_state σ) ((h (heads_further names (rule a) (names d) ds σ)).in_state σ);
}

after_coming : {B : Type 0} {Q : B → ℕ → Type 0} (f : Scope Meaning → Check B) → ((x : Scope Meaning) → Uses Q (f x)) → Uses Q (coming_scope >>= f)
after_coming f h = record { in_state = λ σ. (h σ.coming).in_state σ }

pub after_heads : {B : Type 0} {Q : B → ℕ → Type 0} (f : Unit {0} → Check B) → Uses Q (f tt) → Uses Q (heads_are_done >>= f)
after_heads f h = record { in_state = λ σ. h.in_state (record σ { scopes = behind_top σ.scopes }) }

-- heads
named_parameters_used : (a : Around) (fs : s.NamedFields) → Uses Unused (named_parameters a fs)
unfolding named_parameters
named_parameters_used a s.NoFields = give refl
named_parameters_used a (s.AndFields xs e rest) =
    bind (announced xs) (λ x n h.
    bind (type_exp_used a e) (λ k m i.
    bind (named_parameters_used a rest) (λ fs l j.
    give (omega arith))))

parameters_used : (a : Around) (fs : Option s.FieldList) → Uses Unused (parameters a fs)
parameters_used a None = give refl
parameters_used a (Some (s.WithNames fs)) = named_parameters_used a fs
parameters_used a (Some (s.Unnamed ts)) = unnamed_fields_used a ts

pub heading_used : (a : Around) (takes gives : Option s.FieldList) → Uses Unused (heading a takes gives)
unfolding heading
heading_used a takes gives = inside_scope nothing {c =
    parameters (inside a) takes >>= (λ fs. parameters (inside a) gives >>= (λ gs. coming_scope >>= (λ scope.
    pure (record { takes = fs; gives = gs; scope = own_scope fs gs scope }))))} (
    bind (parameters_used (inside a) takes) (λ fs n h.
    bind (parameters_used (inside a) gives) (λ gs m i.
    after_coming (λ scope. pure (record { takes = fs; gives = gs; scope = own_scope fs gs scope })) (λ scope. give (omega arith)))))

declared_procedure_used : (xs : List Identifier) (access : Option Access) (n : ℕ) (x : Heading × ℕ) → Uses Unused (declared_procedure xs access n x)
declared_procedure_used xs access n x =
    bind (has_settled xs (map (λ y. meaning.Procedure (t.OwnProcedure n) (first_item x.0 xs)) xs)) (λ v m h. give (omega arith))

declared_signals_used : (kind : ItemKind) (xs : List Identifier) (access : Option Access) (n : ℕ) (x : Heading)
    → Uses Unused (declared_signals kind xs access n x)
declared_signals_used kind xs access n x =
    after (only_if (nat_le (words_of_fields x.takes + words_of_fields x.gives) SIGNAL_WORDS) FrameTooLarge (first_name xs) tt) (λ v w.
    bind (has_settled xs (signal_meanings n (map (named_item kind x) xs))) (λ v m h. give (omega arith)))

declared_used : (a : Around) (np ns : ℕ) (xs : List Identifier) (access : Option Access) (x : s.Declared) → Uses Unused (declared a np ns xs access x)
unfolding declared
declared_used a np ns xs access (s.Data x) = bind (head_used a xs x) (λ h n i. give (omega arith))
declared_used a np ns xs access (s.Procedure h b) =
    bind (announced xs) (λ v n i.
    bind (measuring (heading_used a h.takes h.gives)) (λ x m j.
    weaker (declared_procedure_used xs access np x) (λ y l k. omega arith)))
declared_used a np ns xs access (s.Signal h) = within 0 (first_name xs) (
    bind (announced xs) (λ v n i.
    bind (heading_used a h.takes h.gives) (λ x m j.
    weaker (declared_signals_used item.Signal xs access ns x) (λ y l k. omega arith))))
declared_used a np ns xs access (s.Error takes) = within 0 (first_name xs) (
    bind (announced xs) (λ v n i.
    bind (heading_used a takes None) (λ x m j.
    weaker (declared_signals_used item.Error xs access ns x) (λ y l k. omega arith))))

all_declared_used : (a : Around) (np ns : ℕ) (ds : List s.Declaration) → Uses Unused (all_declared a np ns ds)
unfolding all_declared
all_declared_used a np ns [] = give refl
all_declared_used a np ns (x ∷ ds) =
    bind (before_others_used (λ (e : s.Declaration). e.names) (declaration np ns) a x ds
    (λ f. declared_used (record a { further = f }) np ns x.names x.access x.declared)) (λ y n h.
    bind (all_declared_used a (np + y.procedures) (ns + length y.signals) ds) (λ more m i.
    give (omega arith)))

-- bodies
pub framed : {A : Type 0} {P : A → ℕ → Type 0} {c : Check A} → Uses P c → Uses P (in_frame c)
framed {A} {P} {c} h = record {
  in_state = λ σ. mapped P P (marks σ.used) (λ r. (r.0, record r.1 { variables = σ.variables; hidden = σ.hidden })) (c (fresh σ))
      (h.in_state (fresh σ)) (λ r p. record { growth = p.growth; marked = p.marked; holds = p.holds });
}

pub frame_used : (takes gives : List PlainField) (p : Place) → Uses Unused (frame takes gives p)
frame_used takes gives p = record {
  in_state = λ σ. passed Unused (marks σ.used)
      (only (nat_le (words_of_fields takes + words_of_fields gives + words_in_all σ.variables + σ.hidden) LOCAL_WORDS) FrameTooLarge p) (Ok (σ.variables, σ))
      (only_if (nat_le (words_of_fields takes + words_of_fields gives + words_in_all σ.variables + σ.hidden) LOCAL_WORDS) FrameTooLarge p tt)
      (record { growth = 0; marked = omega arith; holds = refl });
}

procedure_used : (known : Known) (xs : List Identifier) (i : PlainItem) (scope : Scope Meaning) (operands : ℕ) (b : s.Block)
    → Uses (λ (x : t.Procedure). OfStatement (tree.block_weight one_each b) x.body.does) (procedure known xs i scope operands b)
unfolding procedure
procedure_used known xs i scope operands b =
    framed {c = in_scope scope (block (body_of known i.takes i.gives) b) >>= (λ does. frame i.takes i.gives (first_name xs) >>= (λ variables.
    ensure (nat_le operands OPERAND_WORDS) FrameTooLarge (first_name xs) >>=
    (λ v. pure (record { head = item_of i; body = record { variables = variables; does = does } }))))} (
    bind (inside_scope scope (block_used (body_of known i.takes i.gives) b)) (λ does n q.
    bind (frame_used i.takes i.gives (first_name xs)) (λ variables m h.
    after (only_if (nat_le operands OPERAND_WORDS) FrameTooLarge (first_name xs) tt) (λ v w.
    give {a = record { head = item_of i; body = record { variables = variables; does = does } }} (omega arith, omega arith)))))

-- what declarations leave names
abbrev pub in_values : Values → ℕ
in_values x = u.in_procedures x.procedures + u.in_stmts x.statements

value_of_used : (a : Around) (xs : List Identifier) (x : s.Declared) (h : Stated)
    → Uses (λ (put : Values → Values) n. (n ≤ tree.declared_weight one_each x) × ((y : Values) → n + in_values y ≤ in_values (put y))) (value_of a xs x h)
unfolding value_of tree.declared_weight u.in_procedures
value_of_used a xs (s.Data x) (DataHead h) =
    bind (initial_value_used a xs x h) (λ put n q. give (omega arith, λ y. omega (arith, q.1 y.statements)))
value_of_used a xs (s.Procedure h b) (ProcedureHead i scope operands) =
    bind (procedure_used a.known xs i scope operands b) (λ p n q. give (omega arith, λ y. omega (arith, q.1)))
value_of_used a xs (s.Data x) (ProcedureHead i scope operands) = give (omega arith, λ y. omega arith)
value_of_used a xs (s.Data x) SignalHead = give (omega arith, λ y. omega arith)
value_of_used a xs (s.Procedure h b) (DataHead x) = give (omega arith, λ y. omega arith)
value_of_used a xs (s.Procedure h b) SignalHead = give (omega arith, λ y. omega arith)
value_of_used a xs (s.Signal h) x = give (omega arith, λ y. omega arith)
value_of_used a xs (s.Error takes) x = give (omega arith, λ y. omega arith)

values_of_used : (a : Around) (ds : List s.Declaration) (xs : List Declared)
    → Uses (λ (y : Values) n. (n ≤ tree.declarations_weight one_each ds) × (n ≤ in_values y)) (values_of a ds xs)
unfolding values_of tree.declarations_weight
values_of_used a [] [] = give (omega arith, omega arith)
values_of_used a [] (x ∷ xs) = give (omega arith, omega arith)
values_of_used a (d ∷ ds) [] = give (omega arith, omega arith)
values_of_used a (d ∷ ds) (x ∷ xs) =
    bind (value_of_used a d.names d.declared x.head) (λ put n q.
    bind (values_of_used a ds xs) (λ y m w.
    give (omega arith, omega (arith, q.1 y))))

marked_names : (b : Bool) (x : t.Stmt) → u.in_stmt (marked_if b x) ≡ u.in_stmt x
unfolding u.in_stmt
marked_names true x = refl
marked_names false x = refl

-- what a program's body and procedures name
abbrev pub in_whole : Whole → ℕ
in_whole x = u.in_procedures x.procedures + u.in_stmt x.body.does

-- what stands behind the heads
abbrev pub rest_of : Around → Place → s.Inner → List Declared → Check Whole
rest_of a p inner ds = phrase (with_labels (labels_of_exits inner.exits) a) inner.enable >>= (λ w.
    values_of (with_labels (labels_of_exits inner.exits) a) inner.declarations ds >>= (λ vs.
    statements (with_labels (labels_of_exits inner.exits) a) inner.statements >>= (λ ss.
    exits a a.labelled [] inner.exits >>= (λ es.
    frame [] [] p >>= (λ variables. pure (record {
      declared = ds;
      procedures = vs.procedures;
      body = record { variables = variables; does = marked_if (is_catch inner.enable) (body_block w vs.statements ss es) };
    }))))))

abbrev pub OfWhole : s.Inner → Whole → ℕ → Type 0
OfWhole inner x n = (n ≤ tree.inner_weight one_each inner) × (n ≤ in_whole x)

pub whole_in_used : (a : Around) (p : Place) (inner : s.Inner) → Uses (OfWhole inner) (whole_in a p inner)
unfolding whole_in tree.inner_weight u.in_stmt
whole_in_used a p inner =
    bind (all_declared_used (outermost (with_labels (labels_of_exits inner.exits) a)) 1 0 inner.declarations) (λ ds i h.
    after_heads (λ x. rest_of a p inner ds) (
    bind (phrase_used (with_labels (labels_of_exits inner.exits) a) inner.enable) (λ w j q.
    bind (values_of_used (with_labels (labels_of_exits inner.exits) a) inner.declarations ds) (λ vs k x.
    bind (statements_used (with_labels (labels_of_exits inner.exits) a) inner.statements) (λ ss l y.
    bind (exits_used a a.labelled [] inner.exits) (λ es m z.
    bind (frame_used [] [] p) (λ variables n v.
    give {a = record {
      declared = ds;
      procedures = vs.procedures;
      body = record { variables = variables; does = marked_if (is_catch inner.enable) (body_block w vs.statements ss es) };
    }} (
      omega arith,
      omega (arith, marked_names (is_catch inner.enable) (body_block w vs.statements ss es), join_names vs.statements ss),
    ))))))))

-- interfaces
defined_items_used : (kind : ItemKind) (xs : List Identifier) (h : Heading) → Uses AnyNumber (d.defined_items kind xs h)
defined_items_used kind xs h = bind (has_settled xs (map (d.item_meaning kind) (map (named_item kind h) xs))) (λ x n i. give tt)

defined_used : (a : Around) (xs : List Identifier) (x : s.Defined) → Uses AnyNumber (d.defined a xs x)
unfolding d.defined
defined_used a xs (s.ProcedureItem h) = bind (heading_used a h.takes h.gives) (λ x n i. defined_items_used item.Procedure xs x)
defined_used a xs (s.SignalItem h) = bind (heading_used a h.takes h.gives) (λ x n i. defined_items_used item.Signal xs x)
defined_used a xs (s.ErrorItem takes) = bind (heading_used a takes None) (λ x n i. defined_items_used item.Error xs x)
defined_used a xs (s.TypeItem e) =
    bind (type_exp_used a e) (λ k n i. bind (has_settled xs (map (λ x. meaning.TypeName k) xs)) (λ x m j. give tt))
defined_used a xs (s.ConstantItem e x) =
    bind (type_exp_used a e) (λ k n i.
    bind (check_used (in_constant (first x) a) (Into k (first x)) x) (λ y m j.
    after (constant_meaning_given a k x (first x) y.value) (λ z w.
    bind (has_settled xs (map (λ x. z) xs)) (λ v l q. give tt))))

pub all_defined_used : (a : Around) (ds : List s.Definition) → Uses AnyNumber (d.all_defined a ds)
unfolding d.all_defined
all_defined_used a [] = give tt
all_defined_used a (x ∷ ds) =
    bind {P = AnyNumber} (before_others_used (λ (e : s.Definition). e.names) d.definition a x ds
    (λ f. within 0 (first_name x.names) (
    bind (announced x.names) (λ v n h.
    defined_used (record a { further = f }) x.names x.defined)))) (λ y n h.
    bind {P = AnyNumber} (all_defined_used a ds) (λ more m i.
    give tt))
