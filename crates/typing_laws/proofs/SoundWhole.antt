-- The whole of a module: its initial values and procedures, its ENABLE, statements and EXITS.
use Rattle.std.proofs.Common.{◌≡◌, ℕ, ◌+◌, List, [], ◌∷◌, length, refl, ◌∙◌, subst, arith}
use Rattle.std.specs.Prelude.{◌≤◌, Bool, true, false, Option, Some, None, Ok, IfOk, All, nat_le}
use Rattle.std.proofs.lemmas.List.Elements.{All-head, All-tail}
use Rattle.mesa_base.specs.declared.place.Place.{Place}
use Rattle.mesa_base.specs.declared.identifier.Identifier.{Identifier}
use Rattle.mesa_base.specs.declared.limits.TheConstants.{LOCAL_WORDS}
use Rattle.mesa_types.specs.declared.faces.ItemKind.TheVariants as item
use Rattle.syntax_trees.specs.Syntax as s
use Rattle.mesa_types.specs.Sound as sound
use Rattle.mesa_types.specs.Counts.{hidden, hidden_stmts}
use Rattle.mesa_types.specs.Shapes.{words_in_all}
use Rattle.check_rules.specs.Typed as t
use Rattle.interface_records.specs.PlainTypes.{PlainItem, item_of, words_of_fields}
use Rattle.check_rules.specs.Scopes.{Scope}
use Rattle.check_rules.specs.Meanings as m
use Rattle.check_rules.specs.Meanings.{Meaning}
use Rattle.check_rules.specs.Steps.{State, Check, and_then, ◌>>=◌, pure, only}
use Rattle.check_rules.specs.Around.{Around, with_labels}
use Rattle.check_rules.specs.Phrases.{is_catch}
use Rattle.check_rules.specs.Statements.{held, labels_of_exits, numbers_from}
use Rattle.check_rules.specs.Checking.{phrase, statements, exits}
use Rattle.check_rules.specs.declared.fault.Cause.TheVariants.{FrameTooLarge}
use Rattle.check_rules.specs.Programs.{heads_alone, hidden_unless_head, behind_top, Stated, DataHead, ProcedureHead, SignalHead, Declared, Values, and_statement, and_procedure, value_of, values_of, Whole, marked_if, body_block, frame}
use Rattle.check_rules.specs.Written.{DeclaredWritten, DeclarationWritten, InnerWritten}
use Rattle.check_rules.proofs.SoundTypes.{none_is_no}
use Rattle.typing_laws.proofs.SoundSteps.{World, Spot, at, ItemIn, MeaningIn, ScopeIn, ScopesIn, Names, Step, Rule, bind, under, given, unmoved, if_ok, weaker}
use Rattle.typing_laws.proofs.SoundnessStatements.{AroundIn, PhraseHere}
use Rattle.typing_laws.proofs.SoundScopes.{inside_scopes, inside_scope}
use Rattle.typing_laws.proofs.SoundAround.{labelled_spot, labelled_around}
use Rattle.typing_laws.proofs.SoundBlocks.{block_in, joined_in, joined_hidden, labelled_phrase, inside_flat}
use Rattle.typing_laws.proofs.SoundBodies.{item_checks, phrase_checks, statements_check, exits_check}
use Rattle.typing_laws.proofs.SoundProcedures.{KnownIn, SoundBody, procedure_rule}
use Rattle.typing_laws.proofs.SoundDeclarations.{StatedIn, AllDeclaredIn}

-- a procedure whose head is in order and whose body is sound
pub record ProcedureDone (W : World) (q : t.Procedure) : Type 0 where
  pub wanted : PlainItem
  pub head : ItemIn wanted
  pub kind : wanted.kind ≡ item.Procedure
  pub same : q.head ≡ item_of wanted
  pub body : SoundBody W wanted.takes wanted.gives q.body

unfoldable pub EachDone : World → List t.Procedure → Type 0
EachDone W [] = Unit {0}
EachDone W (q ∷ qs) = ProcedureDone W q × EachDone W qs

pub record ValuesIn (W : World) (p : Spot) (v : Values) (spent hid : ℕ) : Type 0 where
  pub procedures : EachDone W v.procedures
  pub statements : sound.StmtsIn (at W p) v.statements
  pub hidden_are : hidden_stmts v.statements ≤ hid

-- what a declaration puts before what the others leave
abbrev pub PutsValues : World → Spot → (Values → Values) → ℕ → ℕ → Type 0
PutsValues W p f i j = (v : Values) (m n : ℕ) → ValuesIn W p v m n → ValuesIn W p (f v) (i + m) (j + n)

module _ (W : World) (p : Spot) where
  puts_nothing : (v : Values) (m n : ℕ) → ValuesIn W p v m n → ValuesIn W p v (0 + m) (0 + n)
  puts_nothing v m n h = record { procedures = h.procedures; statements = h.statements; hidden_are = omega (arith, h.hidden_are) }

  value_in : (a : Around) → KnownIn W a.known → (xs : List Identifier) (d : s.Declared) (h : Stated)
      → Rule W true (AroundIn W true p a × DeclaredWritten d × StatedIn W p h) (PutsValues W p) (value_of a xs d h)
  unfolding value_of DeclaredWritten StatedIn EachDone
  value_in a known xs (s.Data d) (DataHead h) =
      bind W true (under W true (λ pre. (pre.0, pre.1, pre.2)) ((item_checks W d).initial true p a xs h)) (λ f c g.
      given W true (and_statement f) (λ pre v m n h. let r = pre.1 v.statements h.statements in record {
        procedures = h.procedures;
        statements = r.0;
        hidden_are = omega (arith, r.1, h.hidden_are);
      }))
  value_in a known xs (s.Data d) (ProcedureHead i scope words) = given W true (λ v. v) (λ pre. puts_nothing)
  value_in a known xs (s.Data d) SignalHead = given W true (λ v. v) (λ pre. puts_nothing)
  value_in a known xs (s.Procedure h b) (DataHead i) = given W true (λ v. v) (λ pre. puts_nothing)
  value_in a known xs (s.Procedure h b) (ProcedureHead i scope words) =
      bind W true (under W true (λ pre. (pre.2, pre.1.1)) (procedure_rule W a.known known xs i scope words b)) (λ q c g.
      given W true (and_procedure q) (λ pre v m n h. record {
        procedures = (record { wanted = i; head = (pre.0.2).head; kind = (pre.0.2).kind; same = pre.1.0; body = pre.1.1 }, h.procedures);
        statements = h.statements;
        hidden_are = omega (arith, h.hidden_are);
      }))
  value_in a known xs (s.Procedure h b) SignalHead = given W true (λ v. v) (λ pre. puts_nothing)
  value_in a known xs (s.Signal h) x = given W true (λ v. v) (λ pre. puts_nothing)
  value_in a known xs (s.Error takes) x = given W true (λ v. v) (λ pre. puts_nothing)

  no_values : ValuesIn W p (record { procedures = []; statements = t.NoStmts }) 0 0
  unfolding EachDone sound.StmtsIn hidden_stmts
  no_values = record { procedures = tt; statements = tt; hidden_are = omega arith }

  pub values_in : (a : Around) → KnownIn W a.known → (ds : List s.Declaration) (xs : List Declared)
      → Rule W true (AroundIn W true p a × All DeclarationWritten ds × AllDeclaredIn W p xs) (ValuesIn W p) (values_of a ds xs)
  unfolding values_of AllDeclaredIn DeclarationWritten
  values_in a known [] xs = given W true (record { procedures = []; statements = t.NoStmts }) (λ pre. no_values)
  values_in a known (d ∷ ds) [] = given W true (record { procedures = []; statements = t.NoStmts }) (λ pre. no_values)
  values_in a known (d ∷ ds) (x ∷ xs) =
      bind W true (under W true (λ pre. (pre.0, (All-head DeclarationWritten d ds pre.1).1, (pre.2.0).head)) (value_in a known d.names d.declared x.head))
      (λ f c g.
      bind W true (under W true (λ pre. (pre.0.0, All-tail DeclarationWritten d ds pre.0.1, pre.0.2.1)) (values_in a known ds xs)) (λ v m n.
      given W true (f v) (λ pre. let r = pre.0.1 v m n pre.1 in record {
        procedures = r.procedures;
        statements = r.statements;
        hidden_are = omega (arith, r.hidden_are);
      })))

-- ---- the heads are done: an initial value sees no other name of the module that is not declared before it
module _ (W : World) where
  alone_in : (flat : Bool) (scope : Scope Meaning) → ScopeIn W flat scope → ScopeIn W flat (heads_alone scope)
  unfolding ScopeIn MeaningIn
  alone_in flat scope h x a e = by (scope x) refl e
    where
      same_meaning : (a b : Meaning) → Some a ≡ Some b → a ≡ b
      same_meaning a b e = cc

      seen : (b : Meaning) → scope x ≡ Some b → Some b ≡ Some a → MeaningIn W flat a
      seen b d e = subst (MeaningIn W flat) (same_meaning b a e) (h x b d)

      later : Some m.Later ≡ Some a → MeaningIn W flat a
      later e = subst (MeaningIn W flat) (same_meaning m.Later a e) tt

      by : (o : Option Meaning) → scope x ≡ o → hidden_unless_head o ≡ Some a → MeaningIn W flat a
      by None d e = none_is_no a e
      by (Some (m.Procedure c i)) d e = seen (m.Procedure c i) d e
      by (Some (m.Signal r i)) d e = seen (m.Signal r i) d e
      by (Some (m.Variable h k)) d e = later e
      by (Some (m.Constant k n)) d e = later e
      by (Some (m.TextConstant n)) d e = later e
      by (Some (m.TypeName k)) d e = later e
      by (Some (m.Interface n)) d e = later e
      by (Some m.Later) d e = later e
      by (Some m.Headless) d e = later e
      by (Some m.NotImported) d e = later e

  pub behind_in : (scopes : List (Scope Meaning)) → ScopesIn W true scopes → ScopesIn W true (behind_top scopes)
  unfolding ScopesIn
  behind_in [] h = tt
  behind_in (scope ∷ []) h = h
  behind_in (scope ∷ next ∷ scopes) h = (h.0, (alone_in true scope h.0, h.1.1))

-- ---- the body of the module: its own ENABLE and initial values see names that mean no local variable

-- a rule from where no name means a local variable
pub record Turns {A : Type 0} (W : World) (Pre : Type 0) (Post : A → ℕ → ℕ → Type 0) (q : Check A) : Type 0 where
  pub by : (s : State) → IfOk (q s) (Step W false (Pre × Names W true s) Post s)

module _ (W : World) where
  pub inside_all : (s : State) → Names W true s → Names W false s
  inside_all s names = record {
    scopes = inside_scopes W true s.scopes names.scopes;
    coming = inside_scope W true s.coming names.coming;
    rows = names.rows;
    globals = names.globals;
    variables = names.variables;
  }

  bind_turns : {A B : Type 0} {Pre : Type 0} {P : A → ℕ → ℕ → Type 0} {Q : B → ℕ → ℕ → Type 0} {q : Check A} {f : A → Check B}
      → Rule W true Pre P q → ((x : A) (i j : ℕ) → Turns W (Pre × P x i j) (λ y m n. Q y (i + m) (j + n)) (f x)) → Turns W Pre Q (q >>= f)
  bind_turns {A} {B} {Pre} {P} {Q} {q} {f} one next = record {
    by = λ s. if_ok (q s) (λ r. f r.0 r.1) (Step W true Pre P s) (Step W false (Pre × Names W true s) Q s) (one.by s) (λ r st.
        weaker (f r.0 r.1) (Step W false ((Pre × P r.0 st.spent st.hid) × Names W true r.1) (λ y m n. Q y (st.spent + m) (st.hid + n)) r.1)
        (Step W false (Pre × Names W true s) Q s)
        (λ u su. record {
          spent = st.spent + su.spent;
          hid = st.hid + su.hid;
          spends = omega (arith, su.spends, st.spends);
          hides = omega (arith, su.hides, st.hides);
          under = su.under ∙ st.under;
          back = λ w. st.back (su.back w);
          limit = λ l. su.limit (st.limit l);
          rows = su.rows ∙ st.rows;
          keeps = λ pre w names. let there = st.keeps pre.0 (su.back w) pre.1 in
              su.keeps ((pre.0, st.gives pre.0 (su.back w) pre.1), there) w (inside_all r.1 there);
          gives = λ pre w names. let there = st.keeps pre.0 (su.back w) pre.1 in
              su.gives ((pre.0, st.gives pre.0 (su.back w) pre.1), there) w (inside_all r.1 there);
        })
        ((next r.0 st.spent st.hid).by r.1));
  }

  turned : {A : Type 0} {Pre : Type 0} {Q : A → ℕ → ℕ → Type 0} {q : Check A} → Rule W false Pre Q q → Turns W Pre Q q
  turned {A} {Pre} {Q} {q} one = record { by = λ s. (under W false {Pre = Pre × Names W true s} (λ pre. pre.0) one).by s }

  frame_rule : (c : Bool) (Pre : Type 0) (q : Place) (s : State)
      → IfOk (and_then (only c FrameTooLarge q) (λ x. Ok (s.variables, s))) (Step W false Pre (λ ks i j. Unit {0}) s)
  frame_rule true Pre q s = unmoved W false Pre (λ ks i j. Unit {0}) s s.variables (λ pre names w. tt)
  frame_rule false Pre q s = tt

  framed : {Pre : Type 0} (q : Place) → Rule W false Pre (λ ks i j. Unit {0}) (frame [] [] q)
  framed {Pre} q = record { by = λ s. frame_rule (nat_le (words_of_fields [] + words_of_fields [] + words_in_all s.variables + s.hidden) LOCAL_WORDS) Pre q s }

-- what stands behind the heads
abbrev pub inner_around : Around → s.Inner → Around
inner_around a inner = with_labels (labels_of_exits inner.exits) a

abbrev pub inner_spot : Spot → Around → s.Inner → Spot
inner_spot z a inner = labelled_spot (a.labelled + length (labels_of_exits inner.exits)) (numbers_from a.labelled (labels_of_exits inner.exits)) z

abbrev pub own_body : Around → Place → s.Inner → List Declared → Check Whole
own_body a p inner ds = do
  w ← phrase (inner_around a inner) inner.enable
  vs ← values_of (inner_around a inner) inner.declarations ds
  ss ← statements (inner_around a inner) inner.statements
  es ← exits a a.labelled [] inner.exits
  variables ← frame [] [] p
  pure (record {
    declared = ds;
    procedures = vs.procedures;
    body = record { variables = variables; does = marked_if (is_catch inner.enable) (body_block w vs.statements ss es) };
  })

pub record Outset (W : World) (z : Spot) (a : Around) (inner : s.Inner) : Type 0 where
  pub around : AroundIn W true z a
  pub phrase : is_catch inner.enable ≡ true → PhraseHere z a
  pub written : InnerWritten inner

pub record OwnBody (W : World) (z : Spot) (b : Bool) (x : Whole) (spent hid : ℕ) : Type 0 where
  pub procedures : EachDone W x.procedures
  pub block : t.Stmt
  pub is : (x.body).does ≡ marked_if b block
  pub does : sound.StmtIn (at W z) block
  pub hidden_are : hidden block ≤ hid

module _ (W : World) (z : Spot) (a : Around) (p : Place) (inner : s.Inner) (known : KnownIn W a.known) where
  abbrev xs : List Identifier
  xs = labels_of_exits inner.exits

  abbrev L : Around
  L = inner_around a inner

  abbrev zl : Spot
  zl = inner_spot z a inner

  pub around_in : AroundIn W true z a → AroundIn W true zl L
  around_in h = labelled_around W true z a xs h

  phrase_in : PhraseHere z a → PhraseHere zl L
  phrase_in h = let r = labelled_phrase W z a xs h in record { start = r.start; after = r.after }

  pub own_in : (ds : List Declared) → Turns W (Outset W z a inner × AllDeclaredIn W zl ds) (OwnBody W z (is_catch inner.enable)) (own_body a p inner ds)
  unfolding InnerWritten hidden
  own_in ds =
      bind_turns W (under W true (λ pre. record {
        around = around_in (pre.0).around;
        phrase = λ e. phrase_in ((pre.0).phrase e);
        written = (pre.0).written.0;
      }) ((phrase_checks W inner.enable).by true zl L)) (λ w c g.
      bind_turns W (under W true (λ pre. (around_in (pre.0.0).around, (pre.0.0).written.1, pre.0.1)) (values_in W zl L known inner.declarations ds))
      (λ vs d h.
      turned W (bind W false (under W false (λ pre. (inside_flat W true zl L (around_in (pre.0.0.0).around), (pre.0.0.0).written.2))
      ((statements_check W inner.statements).by zl L)) (λ ss e i.
      bind W false (under W false (λ pre. (inside_flat W true z a (pre.0.0.0.0).around, (pre.0.0.0.0).written.3))
      ((exits_check W inner.exits).by z a a.labelled [])) (λ es f j.
      bind W false (framed W p) (λ ks m n.
      given W false _ (λ pre. record {
        procedures = (pre.0.0.0.1).procedures;
        block = body_block w vs.statements ss es;
        is = refl;
        does = block_in W z a.labelled inner.exits (held w vs.statements ss) es 0 (g + (h + i)) f j ((pre.0.0.0.0.0.0).around).labels (record {
          phrase = (pre.0.0.0.0.1).phrase;
          statements = joined_in W zl vs.statements ss (pre.0.0.0.1).statements (pre.0.0.1).statements;
          hidden_are = omega (arith, joined_hidden W vs.statements ss, (pre.0.0.0.0.1).hidden_are, (pre.0.0.0.1).hidden_are, (pre.0.0.1).hidden_are);
        }) pre.0.1;
        hidden_are = omega (
          arith,
          joined_hidden W vs.statements ss,
          (pre.0.0.0.0.1).hidden_are,
          (pre.0.0.0.1).hidden_are,
          (pre.0.0.1).hidden_are,
          (pre.0.1).hidden_are,
        );
      })))))))
