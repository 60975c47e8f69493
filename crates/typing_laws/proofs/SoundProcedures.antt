-- The body of a procedure is sound, where its names are in order and what it marks as used is used.
use Rattle.std.proofs.Common.{◌≡◌, ℕ, ◌+◌, List, [], ◌∷◌, refl, sym, ap, subst, arith}
use Rattle.std.specs.Prelude.{◌≤◌, ◌<◌, Bool, true, false, Some, Ok, Err, IfOk, nat_le, slice_get}
use Rattle.std.proofs.lemmas.Bool.{leb-true}
use Rattle.mesa_base.specs.declared.place.Place.{Place}
use Rattle.mesa_base.specs.declared.identifier.Identifier.{Identifier}
use Rattle.mesa_base.specs.declared.limits.TheConstants.{LOCAL_WORDS, OPERAND_WORDS}
use Rattle.mesa_types.specs.Sound as sound
use Rattle.mesa_types.specs.declared.faces.ItemKind.TheVariants as item
use Rattle.mesa_types.specs.Typed as points
use Rattle.syntax_trees.specs.Syntax as s
use Rattle.mesa_types.specs.Counts.{hidden}
use Rattle.mesa_types.specs.Shapes.{join, words_in_all, AllHaveWords}
use Rattle.check_rules.specs.Typed as t
use Rattle.interface_records.specs.PlainTypes.{PlainField, PlainItem, kinds_of, item_of, words_of_fields}
use Rattle.check_rules.specs.declared.fault.Cause.{Cause}
use Rattle.check_rules.specs.declared.fault.Cause.TheVariants.{FrameTooLarge}
use Rattle.check_rules.specs.Scopes.{Scope, outer, nothing}
use Rattle.check_rules.specs.Meanings as m
use Rattle.check_rules.specs.Meanings.{Meaning}
use Rattle.check_rules.specs.Steps.{State, Checked, and_then, only, back}
use Rattle.check_rules.specs.Around.{Known, body_of}
use Rattle.check_rules.specs.Parts.{first_name}
use Rattle.check_rules.specs.Values.{number_in}
use Rattle.check_rules.specs.Checking.{block}
use Rattle.check_rules.specs.Programs.{fresh, as_before, procedure}
use Rattle.check_rules.specs.Written.{BlockWritten}
use Rattle.check_rules.proofs.SoundTypes.{FieldsIn, no_truth, none_is_no, field_words_agree}
use Rattle.typing_laws.proofs.SoundSteps.{World, Spot, at, ItemIn, MeaningIn, ScopeIn, ScopesIn, Within, Names, Step, Rule, under, if_ok}
use Rattle.typing_laws.proofs.SoundnessStatements.{AroundIn, ArmIn}
use Rattle.typing_laws.proofs.SoundScopes.{no_names}
use Rattle.typing_laws.proofs.SoundAround.{first_member}
use Rattle.typing_laws.proofs.SoundStatements.{StatementIn}
use Rattle.typing_laws.proofs.SoundBodies.{block_checks}

-- where a body stands
unfoldable pub at_start : Spot
at_start = record { points = record { point = points.Leave; depth = 0 } ∷ []; statements = 0; labels = 0; depth = 0; arm = []; statement = 0 }

-- a module with the locals of one of its bodies
abbrev pub with_body : World → List PlainField → List PlainField → t.Kinds → World
with_body W takes gives variables = record W {
  locals = join (kinds_of takes) (join (kinds_of gives) variables);
  takes = takes;
  gives = gives;
}

-- names that mean no local variable mean the same in each body
pub in_each_body : (W : World) (takes gives : List PlainField) (ks : t.Kinds) (a : Meaning) → MeaningIn W true a
    → MeaningIn (with_body W takes gives ks) false a
unfolding MeaningIn
in_each_body W takes gives ks (m.Variable (t.Global n) k) h = h
in_each_body W takes gives ks (m.Variable (t.Local n) k) h = no_truth (sym h.0)
in_each_body W takes gives ks (m.Constant k n) h = h
in_each_body W takes gives ks (m.TextConstant n) h = h
in_each_body W takes gives ks (m.TypeName k) h = h
in_each_body W takes gives ks (m.Procedure (t.OwnProcedure q) i) h = h
in_each_body W takes gives ks (m.Procedure (t.LinkedProcedure k n) i) h = h
in_each_body W takes gives ks (m.Signal (t.OwnSignal n) i) h = h
in_each_body W takes gives ks (m.Signal (t.LinkedSignal k n) i) h = h
in_each_body W takes gives ks (m.Signal t.TheBoundsFault i) h = h
in_each_body W takes gives ks (m.Signal t.TheZeroDivisor i) h = h
in_each_body W takes gives ks (m.Signal t.TheUnnamed i) h = h
in_each_body W takes gives ks (m.Interface n) h = h
in_each_body W takes gives ks m.Later h = h
in_each_body W takes gives ks m.Headless h = h
in_each_body W takes gives ks m.NotImported h = h

pub scope_in_body : (W : World) (takes gives : List PlainField) (ks : t.Kinds) (scope : Scope Meaning) → ScopeIn W true scope
    → ScopeIn (with_body W takes gives ks) false scope
unfolding ScopeIn
scope_in_body W takes gives ks scope h = λ x a e. in_each_body W takes gives ks a (h x a e)

pub scopes_in_body : (W : World) (takes gives : List PlainField) (ks : t.Kinds) (scopes : List (Scope Meaning)) → ScopesIn W true scopes
    → ScopesIn (with_body W takes gives ks) false scopes
unfolding ScopesIn
scopes_in_body W takes gives ks [] h = tt
scopes_in_body W takes gives ks (scope ∷ scopes) h = (scope_in_body W takes gives ks scope h.0, scopes_in_body W takes gives ks scopes h.1)

-- what the module has to offer to each of its bodies
pub record KnownIn (W : World) (known : Known) : Type 0 where
  pub strings : (x : List ℕ) (n : ℕ) → number_in x 0 known.strings ≡ Some n → n < W.strings
  pub interfaces : (n : ℕ) (scope : Scope Meaning) → slice_get known.interfaces n ≡ Some scope → ScopeIn W true scope

pub start_around : (W : World) (known : Known) (takes gives : List PlainField) (ks : t.Kinds) → KnownIn W known → FieldsIn gives
    → AroundIn (with_body W takes gives ks) false at_start (body_of known takes gives)
unfolding at_start ArmIn
start_around W known takes gives ks h g = record {
  takes = refl;
  gives = refl;
  gives_types = g;
  strings = h.strings;
  interfaces = λ n scope e. scope_in_body W takes gives ks scope (h.interfaces n scope e);
  further = λ x. refl;
  depth = refl;
  few = omega arith;
  statements = omega arith;
  labels = omega arith;
  labelled = λ x l e. none_is_no l e;
  exit = λ l e. none_is_no l e;
  next = λ l e. none_is_no l e;
  leave = λ u. first_member (record { point = points.Leave; depth = 0 }) [];
  arm = tt;
}

-- a body within the limit of words of a frame
pub record SoundBody (W : World) (takes gives : List PlainField) (body : t.Body) : Type 0 where
  pub variables : AllHaveWords body.variables
  pub does : sound.StmtIn (at (with_body W takes gives body.variables) at_start) body.does
  pub small : words_in_all (kinds_of takes) + words_in_all (kinds_of gives) + words_in_all body.variables + hidden body.does ≤ LOCAL_WORDS

-- the head of a procedure, and what its names mean in its body
pub record ProcedureGood (W : World) (i : PlainItem) (scope : Scope Meaning) : Type 0 where
  pub head : ItemIn i
  pub kind : i.kind ≡ item.Procedure
  pub names : (ks : t.Kinds) → ScopeIn (with_body W i.takes i.gives ks) false scope

pub in_each_world : {A B : Type 0} (q : Checked B) (P : A → B → Type 0) → ((x : A) → IfOk q (P x)) → IfOk q (λ r. (x : A) → P x r)
in_each_world (Ok b) P h = h
in_each_world (Err e) P h = tt

pub none_more : (ks : t.Kinds) → join ks t.NoKinds ≡ ks
unfolding join
none_more t.NoKinds = refl
none_more (t.AndKind k ks) = ap (t.AndKind k) (none_more ks)

pub no_words : AllHaveWords t.NoKinds
unfolding AllHaveWords
no_words = tt

module _ (W : World) (known : Known) (h : KnownIn W known) (xs : List Identifier) (i : PlainItem) (scope : Scope Meaning) (words : ℕ) (b : s.Block) where
  abbrev body_world : t.Kinds → World
  body_world ks = with_body W i.takes i.gives ks

  abbrev Good : Type 0
  Good = ProcedureGood W i scope × BlockWritten b

  abbrev IsSound : t.Procedure → ℕ → ℕ → Type 0
  IsSound p m n = (p.head ≡ item_of i) × SoundBody W i.takes i.gives p.body

  block_rule : (ks : t.Kinds) → Rule (body_world ks) false Good (StatementIn (body_world ks) at_start) (block (body_of known i.takes i.gives) b)
  block_rule ks = under (body_world ks) false (λ pre. (start_around W known i.takes i.gives ks h ((pre.0).head).gives, pre.1))
      ((block_checks (body_world ks) b).by at_start (body_of known i.takes i.gives))

  abbrev inner : State → State
  inner before = record (fresh before) { scopes = scope ∷ before.scopes; coming = nothing }

  abbrev Steps : State → t.Stmt × State → Type 0
  Steps before r = (ks : t.Kinds) → Step (body_world ks) false Good (StatementIn (body_world ks) at_start) (inner before) r

  abbrev framed : Bool → Cause → Place → State → Checked (t.Kinds × State)
  framed c cause q u = and_then (only c cause q) (λ x. Ok (u.variables, u))

  abbrev ensured : Bool → Cause → Place → State → Checked (Unit {0} × State)
  ensured c cause q u = and_then (only c cause q) (λ x. Ok (x, u))

  abbrev made : t.Kinds → t.Stmt → t.Procedure
  made ks x = record { head = item_of i; body = record { variables = ks; does = x } }

  abbrev ended : t.Stmt × State → Bool → Bool → Cause → Cause → Place → Checked (t.Procedure × State)
  ended r c d x y q = and_then (framed c x q r.1) (λ u. and_then (ensured d y q u.1) (λ w. Ok (made u.0 r.0, w.1)))

  -- the state outside the scope of the body, and then outside its frame
  abbrev outside : State → State → State
  outside before u = record u { scopes = outer u.scopes; coming = before.coming }

  abbrev left : State → State → State
  left before u = record (outside before u) { variables = before.variables; hidden = before.hidden }

  within_body : (before u : State) → Within W (left before u) → Within (body_world u.variables) u
  within_body before u w = record {
    more_globals = w.more_globals;
    globals = w.globals;
    more_locals = t.NoKinds;
    locals = ap (λ x. join (kinds_of i.takes) (join (kinds_of i.gives) x)) (sym (none_more u.variables));
    used = w.used;
  }

  names_inside : (before : State) (ks : t.Kinds) → ProcedureGood W i scope → Names W true before → Names (body_world ks) false (inner before)
  unfolding ScopesIn
  names_inside before ks good names = record {
    scopes = (good.names ks, scopes_in_body W i.takes i.gives ks before.scopes names.scopes);
    coming = no_names (body_world ks) false;
    rows = names.rows;
    globals = names.globals;
    variables = no_words;
  }

  made_step : (before : State) (r : t.Stmt × State) → Steps before r
      → words_of_fields i.takes + words_of_fields i.gives + words_in_all (r.1).variables + (r.1).hidden ≤ LOCAL_WORDS
      → Step W true Good IsSound before (made (r.1).variables r.0, left before r.1)
  made_step before r steps small =
      let ks = (r.1).variables in
      let st = steps ks in
      record {
        spent = st.spent;
        hid = 0;
        spends = st.spends;
        hides = omega arith;
        under = ap outer st.under;
        back = λ w. let v = st.back (within_body before r.1 w) in record
            { more_globals = v.more_globals; globals = v.globals; more_locals = w.more_locals; locals = w.locals; used = v.used };
        limit = st.limit;
        rows = st.rows;
        keeps = λ pre w names. let v = st.keeps pre (within_body before r.1 w) (names_inside before ks pre.0 names) in record {
          scopes = subst (ScopesIn W true) (sym st.under) names.scopes;
          coming = names.coming;
          rows = v.rows;
          globals = v.globals;
          variables = names.variables;
        };
        gives = λ pre w names.
            let inside = within_body before r.1 w in
            let start = names_inside before ks pre.0 names in
            let done' = st.gives pre inside start in (
              refl,
              record {
                variables = (st.keeps pre inside start).variables;
                does = done'.statement;
                small = omega (arith, small, field_words_agree i.takes, field_words_agree i.gives, st.hides, done'.hidden_are);
              },
            );
      }

  abbrev end : t.Stmt × State → Checked (t.Procedure × State)
  end r = ended r (nat_le (words_of_fields i.takes + words_of_fields i.gives + words_in_all (r.1).variables + (r.1).hidden) LOCAL_WORDS)
      (nat_le words OPERAND_WORDS) FrameTooLarge FrameTooLarge (first_name xs)

  abbrev Left : State → t.Procedure × State → Type 0
  Left before r = Step W true Good IsSound before (r.0, record r.1 { variables = before.variables; hidden = before.hidden })

  ended_in : (before : State) (r : t.Stmt × State) → Steps before r → (c d : Bool) (x y : Cause) (q : Place)
      → (c ≡ true → words_of_fields i.takes + words_of_fields i.gives + words_in_all (r.1).variables + (r.1).hidden ≤ LOCAL_WORDS)
      → IfOk (ended (r.0, outside before r.1) c d x y q) (Left before)
  ended_in before r steps true true x y q small = made_step before r steps (small refl)
  ended_in before r steps true false x y q small = tt
  ended_in before r steps false d x y q small = tt

  pub procedure_rule : Rule W true Good IsSound (procedure known xs i scope words b)
  unfolding procedure
  procedure_rule = record {
    by = λ before.
        let q = block (body_of known i.takes i.gives) b (inner before) in
        let steps : IfOk q (Steps before) = in_each_world q (λ ks. Step (body_world ks) false Good (StatementIn (body_world ks) at_start) (inner before))
        (λ ks. (block_rule ks).by (inner before)) in
        if_ok (and_then (and_then q (back (fresh before))) _) (as_before before) (Left before) (Step W true Good IsSound before)
        (if_ok (and_then q (back (fresh before))) _ (λ r. IfOk (end r) (Left before)) (Left before)
        (if_ok q (back (fresh before)) (Steps before) (λ r. IfOk (end r) (Left before)) steps (λ r st.
        ended_in before r st (nat_le (words_of_fields i.takes + words_of_fields i.gives + words_in_all (r.1).variables + (r.1).hidden) LOCAL_WORDS)
        (nat_le words OPERAND_WORDS) FrameTooLarge FrameTooLarge (first_name xs)
        (leb-true (words_of_fields i.takes + words_of_fields i.gives + words_in_all (r.1).variables + (r.1).hidden) LOCAL_WORDS)))
        (λ r k. k))
        (λ r k. k);
  }
