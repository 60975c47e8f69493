-- Scopes: what is declared is there in the end, and what is in a scope of its own leaves the others as they were.
use Rattle.std.proofs.Common.{◌≡◌, ℕ, zero, suc, ◌+◌, List, [], ◌∷◌, length, refl, sym, ◌∙◌, ap, subst, arith}
use Rattle.std.specs.Prelude.{cond, ◌≤◌, ◌≢◌, Bool, true, false, not, Option, Some, None, Ok, IfOk, nat_le, nat_eq, bytes_eq, map, All, if◌then◌else◌}
use Rattle.std.proofs.lemmas.Bool.{leb-true, eqb-true}
use Rattle.std.specs.Option.{option_or}
use Rattle.std.proofs.lemmas.List.Elements.{All-cons}
use Rattle.mesa_types.specs.declared.faces.Item.{Item}
use Rattle.mesa_types.specs.Links.{imported, IsUsed}
use Rattle.mesa_base.specs.declared.place.Place.{Place}
use Rattle.mesa_base.specs.declared.identifier.Identifier.{Identifier}
use Rattle.mesa_base.specs.declared.limits.TheConstants.{GLOBAL_WORDS}
use Rattle.mesa_types.specs.Sound as sound
use Rattle.mesa_types.specs.Shapes.{join, one, count_in, KindAt, AllHaveWords, words_in_all}
use Rattle.check_rules.specs.Typed as t
use Rattle.interface_records.specs.PlainTypes.{PlainType, PlainField, kind_of, kinds_of}
use Rattle.check_rules.specs.declared.fault.Cause.{Cause}
use Rattle.check_rules.specs.Scopes.{Scope, innermost, outer, nothing, over, with_name}
use Rattle.check_rules.specs.Meanings.{Meaning}
use Rattle.check_rules.specs.Meanings as m
use Rattle.check_rules.specs.Steps.{State, Check, Checked, and_then, ◌>>=◌, pure, only, back, in_scope, with_top, seeing}
use Rattle.check_rules.specs.Around.{Around, ArmLabel, ForAny, ForUnwind, ForSignal, parameters_of, all_like}
use Rattle.check_rules.specs.Parts.{first_name}
use Rattle.check_rules.specs.Names.{coming, is_declared, announce, each_means, settle}
use Rattle.check_rules.specs.Statements.{with_variable, global, variable, variables, meaning_of, ArmPlace, named_field, fields_from, arm_place, enter_arm, Headed, Nothing, Variables, declare}
use Rattle.check_rules.proofs.SoundTypes.{TypeIn, FieldsIn, none_is_no, has_words, fields_have_words}
use Rattle.typing_laws.proofs.SoundSteps.{World, Spot, at, MeaningIn, ScopeIn, ScopesIn, mark_at, Within, Names, Step, Rule, bind, given, if_ok, weaker}
use Rattle.typing_laws.proofs.SoundCalls.{count_of_kinds, raised_of}
use Rattle.typing_laws.proofs.SoundnessStatements.{Inward, AroundIn, LabelsIn, LabelIn, EachLabelIn}

abbrev pub done : Unit {0}
done = tt

-- ---- kinds joined

pub joined_twice : (a b c : t.Kinds) → join (join a b) c ≡ join a (join b c)
unfolding join
joined_twice t.NoKinds b c = refl
joined_twice (t.AndKind k a) b c = ap (t.AndKind k) (joined_twice a b c)

pub words_joined : (a b : t.Kinds) → AllHaveWords a → AllHaveWords b → AllHaveWords (join a b)
unfolding join AllHaveWords
words_joined t.NoKinds b h i = i
words_joined (t.AndKind k a) b h i = (h.0, words_joined a b h.1 i)

pub kind_behind : (a b : t.Kinds) (n : ℕ) (k : t.Kind) → KindAt b n k → KindAt (join a b) (n + count_in a) k
unfolding join KindAt count_in
kind_behind t.NoKinds b n k h = let e : n ≡ n + 0 = omega arith in subst (λ i. KindAt b i k) e h
kind_behind (t.AndKind j a) b n k h = let e : suc (n + count_in a) ≡ n + (1 + count_in a) = omega arith in subst
    (λ i. KindAt (t.AndKind j (join a b)) i k) e
    (kind_behind a b n k h)

pub kind_before : (a b : t.Kinds) (n : ℕ) (k : t.Kind) → KindAt a n k → KindAt (join a b) n k
unfolding join KindAt
kind_before t.NoKinds b n k h = absurd h
kind_before (t.AndKind j a) b zero k h = h
kind_before (t.AndKind j a) b (suc n) k h = kind_before a b n k h

pub joined_count : (a b : t.Kinds) → count_in (join a b) ≡ count_in a + count_in b
unfolding join count_in
joined_count t.NoKinds b = omega arith
joined_count (t.AndKind k a) b = omega (arith, joined_count a b)

-- ---- names

module _ (W : World) where
  pub inside_names : (flat : Bool) (a : Meaning) → MeaningIn W flat a → MeaningIn W false a
  unfolding MeaningIn
  inside_names flat (m.Variable (t.Global n) k) h = h
  inside_names flat (m.Variable (t.Local n) k) h = (refl, h.1, h.2)
  inside_names flat (m.Constant k n) h = h
  inside_names flat (m.TextConstant n) h = h
  inside_names flat (m.TypeName k) h = h
  inside_names flat (m.Procedure (t.OwnProcedure q) i) h = h
  inside_names flat (m.Procedure (t.LinkedProcedure k n) i) h = h
  inside_names flat (m.Signal (t.OwnSignal n) i) h = h
  inside_names flat (m.Signal (t.LinkedSignal k n) i) h = h
  inside_names flat (m.Signal t.TheBoundsFault i) h = h
  inside_names flat (m.Signal t.TheZeroDivisor i) h = h
  inside_names flat (m.Signal t.TheUnnamed i) h = h
  inside_names flat (m.Interface n) h = h
  inside_names flat m.Later h = h
  inside_names flat m.Headless h = h
  inside_names flat m.NotImported h = h

  pub inside_scope : (flat : Bool) (scope : Scope Meaning) → ScopeIn W flat scope → ScopeIn W false scope
  unfolding ScopeIn
  inside_scope flat scope h = λ x a e. inside_names flat a (h x a e)

  pub inside_scopes : (flat : Bool) (scopes : List (Scope Meaning)) → ScopesIn W flat scopes → ScopesIn W false scopes
  unfolding ScopesIn
  inside_scopes flat [] h = tt
  inside_scopes flat (scope ∷ scopes) h = (inside_scope flat scope h.0, inside_scopes flat scopes h.1)

  pub no_names : (flat : Bool) → ScopeIn W flat nothing
  unfolding ScopeIn
  no_names flat = λ x a e. none_is_no a e

  same_meaning : (a b : Meaning) → Some a ≡ Some b → a ≡ b
  same_meaning a b e = cc

  pub name_more : (flat : Bool) (x : List ℕ) (a : Meaning) (scope : Scope Meaning) → MeaningIn W flat a → ScopeIn W flat scope
      → ScopeIn W flat (with_name x a scope)
  unfolding ScopeIn
  name_more flat x a scope h i = λ y b e. by (bytes_eq x y) y b e
    where
      by : (c : Bool) (y : List ℕ) (b : Meaning) → cond c (Some a) (scope y) ≡ Some b → MeaningIn W flat b
      by true y b e = subst (MeaningIn W flat) (same_meaning a b e) h
      by false y b e = i y b e

  pub over_in : (flat : Bool) (a b : Scope Meaning) → ScopeIn W flat a → ScopeIn W flat b → ScopeIn W flat (over a b)
  unfolding ScopeIn
  over_in flat a b h i = λ x y e. by x y (a x) refl e
    where
      by : (x : List ℕ) (y : Meaning) (o : Option Meaning) → a x ≡ o → option_or o (b x) ≡ Some y → MeaningIn W flat y
      by x y (Some z) d e = h x y (d ∙ e)
      by x y None d e = i x y e

  pub innermost_in : (flat : Bool) (scopes : List (Scope Meaning)) → ScopesIn W flat scopes → ScopeIn W flat (innermost scopes)
  unfolding ScopesIn
  innermost_in flat [] h = no_names flat
  innermost_in flat (scope ∷ scopes) h = h.0

  pub outer_in : (flat : Bool) (scopes : List (Scope Meaning)) → ScopesIn W flat scopes → ScopesIn W flat (outer scopes)
  unfolding ScopesIn
  outer_in flat [] h = tt
  outer_in flat (scope ∷ scopes) h = h.1

  -- ---- a scope of its own
  pub scoped : {A : Type 0} {Pre : Type 0} {P : A → ℕ → ℕ → Type 0} {q : Check A} (flat : Bool) (scope : Scope Meaning) → (Pre → ScopeIn W false scope)
      → Rule W false Pre P q → Rule W flat Pre P (in_scope scope q)
  unfolding ScopesIn
  scoped {A} {Pre} {P} {q} flat scope h one = record {
    by = λ s.
        let inner : State = record s { scopes = scope ∷ s.scopes; coming = nothing } in
        if_ok (q inner) (back s) (Step W false Pre P inner) (Step W flat Pre P s) (one.by inner) (λ r st. record {
          spent = st.spent;
          hid = st.hid;
          spends = st.spends;
          hides = st.hides;
          limit = st.limit;
          rows = st.rows;
          under = ap outer st.under;
          back = λ w. let v = st.back (record {
            more_globals = w.more_globals;
            globals = w.globals;
            more_locals = w.more_locals;
            locals = w.locals;
            used = w.used;
          }) in
              record { more_globals = v.more_globals; globals = v.globals; more_locals = v.more_locals; locals = v.locals; used = v.used };
          keeps = λ pre w names.
              let v = st.keeps pre (record {
                more_globals = w.more_globals;
                globals = w.globals;
                more_locals = w.more_locals;
                locals = w.locals;
                used = w.used;
              })
              (record {
                scopes = (h pre, inside_scopes flat s.scopes names.scopes);
                coming = no_names false;
                rows = names.rows;
                globals = names.globals;
                variables = names.variables;
              }) in
              record {
                scopes = subst (ScopesIn W flat) (sym st.under) names.scopes;
                coming = names.coming;
                rows = v.rows;
                globals = v.globals;
                variables = v.variables;
              };
          gives = λ pre w names.
              st.gives pre (record {
                more_globals = w.more_globals;
                globals = w.globals;
                more_locals = w.more_locals;
                locals = w.locals;
                used = w.used;
              })
              (record {
                scopes = (h pre, inside_scopes flat s.scopes names.scopes);
                coming = no_names false;
                rows = names.rows;
                globals = names.globals;
                variables = names.variables;
              });
        });
  }

  -- where the innermost scope is as it was before
  pub seen_before : {A : Type 0} {Pre : Type 0} {P : A → ℕ → ℕ → Type 0} {q : Check A} (flat : Bool) (scope : Scope Meaning)
      → (Pre → ScopeIn W flat scope)
      → Rule W flat Pre P q → Rule W flat Pre P (seeing scope q)
  unfolding ScopesIn
  seen_before {A} {Pre} {P} {q} flat scope h one = record {
    by = λ s.
        let inner : State = with_top scope s in
        if_ok (q inner) (λ r. Ok (r.0, with_top (innermost s.scopes) r.1)) (Step W flat Pre P inner) (Step W flat Pre P s) (one.by inner)
        (λ r st. record {
          spent = st.spent;
          hid = st.hid;
          spends = st.spends;
          hides = st.hides;
          limit = st.limit;
          rows = st.rows;
          under = st.under;
          back = λ w. let v = st.back (record {
            more_globals = w.more_globals;
            globals = w.globals;
            more_locals = w.more_locals;
            locals = w.locals;
            used = w.used;
          }) in
              record { more_globals = v.more_globals; globals = v.globals; more_locals = v.more_locals; locals = v.locals; used = v.used };
          keeps = λ pre w names.
              let v = st.keeps pre (record {
                more_globals = w.more_globals;
                globals = w.globals;
                more_locals = w.more_locals;
                locals = w.locals;
                used = w.used;
              })
              (record {
                scopes = (h pre, outer_in flat s.scopes names.scopes);
                coming = names.coming;
                rows = names.rows;
                globals = names.globals;
                variables = names.variables;
              }) in
              record {
                scopes = (innermost_in flat s.scopes names.scopes, subst (ScopesIn W flat) (sym st.under) (outer_in flat s.scopes names.scopes));
                coming = v.coming;
                rows = v.rows;
                globals = v.globals;
                variables = v.variables;
              };
          gives = λ pre w names.
              st.gives pre (record {
                more_globals = w.more_globals;
                globals = w.globals;
                more_locals = w.more_locals;
                locals = w.locals;
                used = w.used;
              })
              (record {
                scopes = (h pre, outer_in flat s.scopes names.scopes);
                coming = names.coming;
                rows = names.rows;
                globals = names.globals;
                variables = names.variables;
              });
        });
  }

  -- ---- declarations
  comes : {A : Type 0} {Pre : Type 0} {Q : A → ℕ → ℕ → Type 0} (flat : Bool) (x : List ℕ) (a : Meaning) (y : A) (s : State) → (Pre → MeaningIn W flat a)
      → (Pre → Q y 0 0) → Step W flat Pre Q s (y, coming x a s)
  comes flat x a y s h g = record {
    spent = 0;
    hid = 0;
    spends = omega arith;
    hides = omega arith;
    under = refl;
    limit = λ l. l;
    rows = refl;
    back = λ w. record { more_globals = w.more_globals; globals = w.globals; more_locals = w.more_locals; locals = w.locals; used = w.used };
    keeps = λ pre w names. record {
      scopes = names.scopes;
      coming = name_more flat x a s.coming (h pre) names.coming;
      rows = names.rows;
      globals = names.globals;
      variables = names.variables;
    };
    gives = λ pre w names. g pre;
  }

  -- a step by the state, behind a step
  pub then_by : {A B : Type 0} {Pre : Type 0} {P : A → ℕ → ℕ → Type 0} (Q : B → ℕ → ℕ → Type 0) (flat : Bool) (s : State) (r : A × State)
      → Step W flat Pre P s r → (u : Checked (B × State))
      → ((k h : ℕ) → IfOk u (Step W flat (Pre × P r.0 k h) (λ y m n. Q y (k + m) (h + n)) r.1)) → IfOk u (Step W flat Pre Q s)
  then_by {A} {B} {Pre} {P} Q flat s r st u h = weaker u (Step W flat (Pre × P r.0 st.spent st.hid) (λ y m n. Q y (st.spent + m) (st.hid + n)) r.1)
      (Step W flat Pre Q s) (λ x su. record {
        spent = st.spent + su.spent;
        hid = st.hid + su.hid;
        spends = omega (arith, su.spends, st.spends);
        hides = omega (arith, su.hides, st.hides);
        under = su.under ∙ st.under;
        back = λ w. st.back (su.back w);
        limit = λ l. su.limit (st.limit l);
        rows = su.rows ∙ st.rows;
        keeps = λ pre w names. su.keeps (pre, st.gives pre (su.back w) names) w (st.keeps pre (su.back w) names);
        gives = λ pre w names. su.gives (pre, st.gives pre (su.back w) names) w (st.keeps pre (su.back w) names);
      }) (h st.spent st.hid)

  later_in : (flat : Bool) → MeaningIn W flat m.Later
  unfolding MeaningIn
  later_in flat = tt

  pub announced : (flat : Bool) (xs : List Identifier) {Pre : Type 0} → Rule W flat Pre (λ u i j. Unit {0}) (announce xs)
  unfolding announce
  announced flat [] {Pre} = given W flat {A = Unit {0}} {Pre = Pre} {Q = λ u i j. Unit {0}} tt (λ pre. tt)
  announced flat (x ∷ xs) {Pre} = record { by = λ s. by s (not (is_declared x.name s)) _ (λ k h. (announced flat xs).by (coming x.name m.Later s)) }
    where
      by : (s : State) (b : Bool) (cause : Cause) → ((k h : ℕ) → IfOk (announce xs (coming x.name m.Later s))
          (Step W flat (Pre × Unit {0}) (λ u i j. Unit {0}) (coming x.name m.Later s)))
          → IfOk (and_then (only b cause x.place) (λ _. announce xs (coming x.name m.Later s))) (Step W flat Pre (λ u i j. Unit {0}) s)
      by s true cause h = then_by {P = λ u i j. Unit {0}} (λ u i j. Unit {0}) flat s (done, coming x.name m.Later s)
          (comes flat x.name m.Later done s (λ pre. later_in flat) (λ pre. tt)) (announce xs (coming x.name m.Later s)) h
      by s false cause h = tt

  unfoldable pub MeaningsIn : Bool → List Meaning → Type 0
  MeaningsIn flat [] = Unit {0}
  MeaningsIn flat (a ∷ as') = MeaningIn W flat a × MeaningsIn flat as'

  each_meant : (flat : Bool) (xs : List Identifier) (ms : List Meaning) (s : State) → MeaningsIn flat ms → ScopeIn W flat s.coming
      → ScopeIn W flat (each_means xs ms s).coming
  unfolding MeaningsIn each_means
  each_meant flat [] ms s h i = i
  each_meant flat (x ∷ xs) [] s h i = i
  each_meant flat (x ∷ xs) (a ∷ as') s h i = each_meant flat xs as' (coming x.name a s) h.1 (name_more flat x.name a s.coming h.0 i)

  -- what a declaration declares leaves all but the names coming
  record SameBut (s r : State) : Type 0 where
    scopes : r.scopes ≡ s.scopes
    used : r.used ≡ s.used
    globals : r.globals ≡ s.globals
    variables : r.variables ≡ s.variables
    hidden : r.hidden ≡ s.hidden
    operands : r.operands ≡ s.operands

  each_same : (xs : List Identifier) (ms : List Meaning) (s : State) → SameBut s (each_means xs ms s)
  unfolding each_means
  each_same [] ms s = record { scopes = refl; used = refl; globals = refl; variables = refl; hidden = refl; operands = refl }
  each_same (x ∷ xs) [] s = record { scopes = refl; used = refl; globals = refl; variables = refl; hidden = refl; operands = refl }
  each_same (x ∷ xs) (a ∷ as') s = let r = each_same xs as' (coming x.name a s) in record
      { scopes = r.scopes; used = r.used; globals = r.globals; variables = r.variables; hidden = r.hidden; operands = r.operands }

  pub settled : (flat : Bool) (xs : List Identifier) (ms : List Meaning) {Pre : Type 0} → (Pre → MeaningsIn flat ms)
      → Rule W flat Pre (λ u i j. Unit {0}) (settle xs ms)
  unfolding settle ScopesIn
  settled flat xs ms {Pre} h = record {
    by = λ s.
        let e = each_means xs ms s in
        let r = each_same xs ms s in
        record {
          spent = 0;
          hid = 0;
          spends = omega (arith, r.operands);
          hides = omega (arith, r.hidden);
          under = ap outer r.scopes;
          rows = ap (map length) r.used;
          limit = λ l. subst (λ g. words_in_all g ≤ GLOBAL_WORDS) (sym r.globals) l;
          back = λ w. record {
            more_globals = w.more_globals;
            globals = subst (λ g. W.globals ≡ join g w.more_globals) r.globals w.globals;
            more_locals = w.more_locals;
            locals = subst (λ g. W.locals ≡ join (kinds_of W.takes) (join (kinds_of W.gives) (join g w.more_locals))) r.variables
                w.locals;
            used = subst (λ u. (k n : ℕ) → mark_at u k n ≡ Some true → IsUsed W.imports k n) r.used w.used;
          };
          keeps = λ pre w names. record {
            scopes = (
              over_in flat e.coming (innermost e.scopes) (each_meant flat xs ms s (h pre) names.coming)
                  (innermost_in flat e.scopes (subst (ScopesIn W flat) (sym r.scopes) names.scopes)),
              outer_in flat e.scopes (subst (ScopesIn W flat) (sym r.scopes) names.scopes),
            );
            coming = no_names flat;
            rows = subst (λ u. (k n : ℕ) (i : Item) → imported W.imports k n ≡ Some i → (b : Bool) × (mark_at u k n ≡ Some b)) (sym r.used) names.rows;
            globals = subst AllHaveWords (sym r.globals) names.globals;
            variables = subst AllHaveWords (sym r.variables) names.variables;
          };
          gives = λ pre w names. tt;
        };
  }

-- ---- variables

module _ (W : World) (p : Spot) where
  record HomesIn (flat : Bool) (k : PlainType) (hs : List t.Home) : Type 0 where
    homes : All (λ h. sound.VariableIn (at W p) h (kind_of k)) hs
    meanings : MeaningsIn W flat (map (meaning_of k) hs)

  no_homes : (flat : Bool) (k : PlainType) → HomesIn flat k []
  unfolding MeaningsIn
  no_homes flat k = record { homes = λ k d small. absurd (omega (arith, small)); meanings = tt }

  one_home : (flat : Bool) (k : PlainType) (h : t.Home) → MeaningIn W flat (m.Variable h k) → sound.VariableIn (at W p) h (kind_of k)
  unfolding MeaningIn sound.VariableIn
  one_home flat k (t.Global n) h = h.0
  one_home flat k (t.Local n) h = h.1

  home_more : (flat : Bool) (k : PlainType) (h : t.Home) (hs : List t.Home) → MeaningIn W flat (m.Variable h k) → HomesIn flat k hs
      → HomesIn flat k (h ∷ hs)
  unfolding MeaningsIn
  home_more flat k h hs i r = record {
    homes = All-cons (λ h. sound.VariableIn (at W p) h (kind_of k)) h hs (one_home flat k h i) r.homes;
    meanings = (i, r.meanings);
  }

  local_there : (flat : Bool) (k : PlainType) (s : State) (n : ℕ) → flat ≡ false → TypeIn k → n ≡ length W.takes + length W.gives + count_in s.variables
      → Within W (with_variable k s) → MeaningIn W flat (m.Variable (t.Local n) k)
  unfolding MeaningIn one join KindAt
  local_there flat k s n f h e w =
      let there : KindAt (join s.variables (join (one (kind_of k)) w.more_locals)) (0 + count_in s.variables) (kind_of k) = kind_behind s.variables
      (join (one (kind_of k)) w.more_locals) 0 (kind_of k) refl in
      let same : W.locals ≡ join (kinds_of W.takes) (join (kinds_of W.gives) (join s.variables (join (one (kind_of k)) w.more_locals))) =
      w.locals ∙ ap (λ x. join (kinds_of W.takes) (join (kinds_of W.gives) x)) (joined_twice s.variables (one (kind_of k)) w.more_locals) in
      let at_end = kind_behind (kinds_of W.takes) _ _ (kind_of k) (kind_behind (kinds_of W.gives) _ _ (kind_of k) there) in
      let number : 0 + count_in s.variables + count_in (kinds_of W.gives) + count_in (kinds_of W.takes) ≡ n = omega
      (arith, e, count_of_kinds W.takes, count_of_kinds W.gives) in (
        f,
        subst (λ ks. KindAt ks n (kind_of k)) (sym same) (subst (λ i. KindAt (join (kinds_of W.takes)
            (join (kinds_of W.gives) (join s.variables (join (one (kind_of k)) w.more_locals)))) i (kind_of k)) number at_end),
        h,
      )

  global_there : (flat : Bool) (k : PlainType) (s : State) → TypeIn k → Within W (record s { globals = join s.globals (one (kind_of k)) })
      → MeaningIn W flat (m.Variable (t.Global (count_in s.globals)) k)
  unfolding MeaningIn one join KindAt
  global_there flat k s h w =
      let there : KindAt (join s.globals (join (one (kind_of k)) w.more_globals)) (0 + count_in s.globals) (kind_of k) = kind_behind s.globals
      (join (one (kind_of k)) w.more_globals) 0 (kind_of k) refl in
      let same : W.globals ≡ join s.globals (join (one (kind_of k)) w.more_globals) = w.globals
      ∙ joined_twice s.globals (one (kind_of k)) w.more_globals in
      let number : 0 + count_in s.globals ≡ count_in s.globals = omega arith in (
        subst (λ ks. KindAt ks (count_in s.globals) (kind_of k)) (sym same) (subst
            (λ i. KindAt (join s.globals (join (one (kind_of k)) w.more_globals)) i (kind_of k)) number there),
        h,
      )

  one_has_words : (k : PlainType) → TypeIn k → AllHaveWords (one (kind_of k))
  unfolding AllHaveWords one
  one_has_words k h = (has_words k h, tt)

  -- a step that is as any other but for the limit of the globals, which is looked at when all variables are declared
  record Grows {A : Type 0} (flat : Bool) (Pre : Type 0) (Post : A → Type 0) (s : State) (r : A × State) : Type 0 where
    spends : (r.1).operands ≡ s.operands
    hides : (r.1).hidden ≡ s.hidden
    under : (r.1).scopes ≡ s.scopes
    rows : map length (r.1).used ≡ map length s.used
    back : Within W r.1 → Within W s
    keeps : Pre → Within W r.1 → Names W flat s → Names W flat r.1
    gives : Pre → Within W r.1 → Names W flat s → Post r.0

  variable_grows : (flat outermost : Bool) (n : ℕ) (k : PlainType) (s : State) (Pre : Type 0) → (Pre → TypeIn k)
      → (Pre → outermost ≡ false → flat ≡ false)
      → (Pre → n ≡ length W.takes + length W.gives)
      → IfOk ((if outermost then global k else (λ s. Ok (t.Local (n + count_in s.variables), with_variable k s))) s)
      (Grows flat Pre (λ h. MeaningIn W flat (m.Variable h k)) s)
  variable_grows flat true n k s Pre h o e = record {
    spends = refl;
    hides = refl;
    under = refl;
    rows = refl;
    back = λ w. record {
      more_globals = join (one (kind_of k)) w.more_globals;
      globals = w.globals ∙ joined_twice s.globals (one (kind_of k)) w.more_globals;
      more_locals = w.more_locals;
      locals = w.locals;
      used = w.used;
    };
    keeps = λ pre w names. record {
      scopes = names.scopes;
      coming = names.coming;
      rows = names.rows;
      globals = words_joined s.globals (one (kind_of k)) names.globals (one_has_words k (h pre));
      variables = names.variables;
    };
    gives = λ pre w names. global_there flat k s (h pre) w;
  }
  variable_grows flat false n k s Pre h o e = record {
    spends = refl;
    hides = refl;
    under = refl;
    rows = refl;
    back = λ w. record {
      more_globals = w.more_globals;
      globals = w.globals;
      more_locals = join (one (kind_of k)) w.more_locals;
      locals = w.locals ∙ ap (λ x. join (kinds_of W.takes) (join (kinds_of W.gives) x)) (joined_twice s.variables (one (kind_of k)) w.more_locals);
      used = w.used;
    };
    keeps = λ pre w names. record {
      scopes = names.scopes;
      coming = names.coming;
      rows = names.rows;
      globals = names.globals;
      variables = words_joined s.variables (one (kind_of k)) names.variables (one_has_words k (h pre));
    };
    gives = λ pre w names. local_there flat k s (n + count_in s.variables) (o pre refl) (h pre) (omega (arith, e pre)) w;
  }

  variables_grow : (flat : Bool) (a : Around) (k : PlainType) (xs : List Identifier) (s : State) → Inward flat a
      → IfOk (variables a k xs s) (Grows flat (AroundIn W flat p a × TypeIn k) (λ hs. HomesIn flat k hs × (length hs ≡ length xs)) s)
  unfolding variables
  variables_grow flat a k [] s o = record {
    spends = refl;
    hides = refl;
    under = refl;
    rows = refl;
    back = λ w. w;
    keeps = λ pre w names. names;
    gives = λ pre w names. (no_homes flat k, refl);
  }
  variables_grow flat a k (x ∷ xs) s o =
      if_ok (variable a k s) _ (Grows flat (AroundIn W flat p a × TypeIn k) (λ h. MeaningIn W flat (m.Variable h k)) s)
      (Grows flat (AroundIn W flat p a × TypeIn k) (λ hs. HomesIn flat k hs × (length hs ≡ suc (length xs))) s)
      (variable_grows flat a.is_outermost (length a.takes + length a.gives) k s (AroundIn W flat p a × TypeIn k) (λ pre. pre.1) (λ pre. o)
      (λ pre. let f = ap length (pre.0).takes in let g = ap length (pre.0).gives in omega (arith, f, g)))
      (λ r st. if_ok (variables a k xs r.1) _ (Grows flat (AroundIn W flat p a × TypeIn k) (λ hs. HomesIn flat k hs × (length hs ≡ length xs)) r.1)
      (Grows flat (AroundIn W flat p a × TypeIn k) (λ hs. HomesIn flat k hs × (length hs ≡ suc (length xs))) s)
      (variables_grow flat a k xs r.1 o)
      (λ u su. record {
        spends = su.spends ∙ st.spends;
        hides = su.hides ∙ st.hides;
        under = su.under ∙ st.under;
        rows = su.rows ∙ st.rows;
        back = λ w. st.back (su.back w);
        keeps = λ pre w names. su.keeps pre w (st.keeps pre (su.back w) names);
        gives = λ pre w names. let more = su.gives pre w (st.keeps pre (su.back w) names) in
            (home_more flat k r.0 u.0 (st.gives pre (su.back w) names) more.0, ap suc more.1);
      }))

  -- variables that are declared, with the innermost scope before
  unfoldable pub HeadedIn : Bool → Headed → Type 0
  HeadedIn flat Nothing = Unit {0}
  HeadedIn flat (Variables homes k scope words) = (homes ≢ []) × All (λ h. sound.VariableIn (at W p) h (kind_of k)) homes × TypeIn k × ScopeIn W flat
      scope

  some_homes : (xs : List Identifier) (hs : List t.Home) → length hs ≡ length xs → xs ≢ [] → hs ≢ []
  some_homes [] hs e h d = h refl
  some_homes (x ∷ xs) [] e h d = omega (arith, e)
  some_homes (x ∷ xs) (y ∷ hs) e h d = let no : length (y ∷ hs) ≡ 0 = ap length d in omega (arith, no)

  grown : {A : Type 0} {Pre : Type 0} {P : A → Type 0} (flat : Bool) (s : State) (r : A × State) → Grows flat Pre P s r
      → words_in_all (r.1).globals ≤ GLOBAL_WORDS → Step W flat Pre (λ x i j. P x) s r
  grown flat s r g l = record {
    spent = 0;
    hid = 0;
    spends = omega (arith, g.spends);
    hides = omega (arith, g.hides);
    under = ap outer g.under;
    back = g.back;
    limit = λ k. l;
    rows = g.rows;
    keeps = g.keeps;
    gives = g.gives;
  }

  abbrev few_at : Bool → Cause → Place → State → Checked (Unit {0} × State)
  few_at b cause q u = and_then (only b cause q) (λ x. Ok (done, u))

  within_limit : {A B : Type 0} {Pre : Type 0} {P : A → Type 0} (Q : B → ℕ → ℕ → Type 0) (flat : Bool) (q : Place) (s : State) (r : A × State)
      (rest : Check B)
      → Grows flat Pre P s r
      → Rule W flat (Pre × P r.0) (λ y m n. Q y m n) rest → ((y : B) (i j m n : ℕ) → Q y m n → Q y (i + m) (j + n))
      → (b : Bool) (cause : Cause) → nat_le (words_in_all (r.1).globals) GLOBAL_WORDS ≡ b
      → IfOk (and_then (few_at b cause q r.1) (λ u. rest u.1)) (Step W flat Pre Q s)
  within_limit {A} {B} {Pre} {P} Q flat q s r rest g one more true cause e =
      then_by W {P = λ x i j. P x} Q flat s r (grown flat s r g (leb-true (words_in_all (r.1).globals) GLOBAL_WORDS e)) (rest r.1)
      (λ k h. weaker (rest r.1) (Step W flat (Pre × P r.0) Q r.1) (Step W flat (Pre × P r.0) (λ y m n. Q y (k + m) (h + n)) r.1)
      (λ x st. record {
        spent = st.spent;
        hid = st.hid;
        spends = st.spends;
        hides = st.hides;
        under = st.under;
        back = st.back;
        limit = st.limit;
        rows = st.rows;
        keeps = st.keeps;
        gives = λ pre w names. more x.0 k h st.spent st.hid (st.gives pre w names);
      })
      (one.by r.1))
  within_limit Q flat q s r rest g one more false cause e = tt

  pub declared : (flat : Bool) (a : Around) (xs : List Identifier) (k : PlainType) (words : ℕ) → Inward flat a
      → Rule W flat (AroundIn W flat p a × TypeIn k × (xs ≢ [])) (λ h i j. HeadedIn flat h) (declare a xs k words)
  unfolding HeadedIn
  declared flat a xs k words o = record {
    by = λ s.
        if_ok (variables a k xs s) _ (Grows flat (AroundIn W flat p a × TypeIn k) (λ hs. HomesIn flat k hs × (length hs ≡ length xs)) s)
        (Step W flat (AroundIn W flat p a × TypeIn k × (xs ≢ [])) (λ h i j. HeadedIn flat h) s)
        (variables_grow flat a k xs s o)
        (λ r st. within_limit {Pre = AroundIn W flat p a × TypeIn k × (xs ≢ [])}
        {P = λ hs. (HomesIn flat k hs × (length hs ≡ length xs)) × ScopeIn W flat (innermost s.scopes)} (λ h i j. HeadedIn flat h) flat (first_name xs)
        s r
        (settle xs (map (meaning_of k) r.0) >>= (λ u. pure (Variables r.0 k (innermost s.scopes) words)))
        (record {
          spends = st.spends;
          hides = st.hides;
          under = st.under;
          rows = st.rows;
          back = st.back;
          keeps = λ pre. st.keeps (pre.0, pre.1);
          gives = λ pre w names. (st.gives (pre.0, pre.1) w names, innermost_in W flat s.scopes names.scopes);
        })
        (bind W flat (settled W flat xs (map (meaning_of k) r.0) (λ pre. (pre.1.0.0).meanings))
        (λ u i j. given W flat (Variables r.0 k (innermost s.scopes) words) (λ pre.
        (some_homes xs r.0 (pre.0.1.0).1 pre.0.0.2, ((pre.0.1.0).0).homes, pre.0.0.1, pre.0.1.1))))
        (λ y i j m n h. h) (nat_le (words_in_all (r.1).globals) GLOBAL_WORDS) _ refl);
  }

  -- ---- the parameters of an arm
  unfoldable pub LocalsTyped : ℕ → List PlainField → Type 0
  LocalsTyped n [] = Unit {0}
  LocalsTyped n (f ∷ fs) = KindAt W.locals n (kind_of f.kind) × TypeIn f.kind × LocalsTyped (n + 1) fs

  named_field_in : (n : ℕ) (x : Option (List ℕ)) (k : PlainType) (scope : Scope Meaning) → KindAt W.locals n (kind_of k) → TypeIn k
      → ScopeIn W false scope
      → ScopeIn W false (named_field x (m.Variable (t.Local n) k) scope)
  unfolding MeaningIn
  named_field_in n (Some x) k scope h i j = name_more W false x (m.Variable (t.Local n) k) scope (refl, h, i) j
  named_field_in n None k scope h i j = j

  pub fields_from_in : (n : ℕ) (fs : List PlainField) (scope : Scope Meaning) → LocalsTyped n fs → ScopeIn W false scope
      → ScopeIn W false (fields_from n fs scope)
  unfolding fields_from LocalsTyped
  fields_from_in n [] scope h i = i
  fields_from_in n (f ∷ fs) scope h i = fields_from_in (n + 1) fs (named_field f.name (m.Variable (t.Local n) f.kind) scope) h.2
      (named_field_in n f.name f.kind scope h.0 h.1 i)

  pub locals_typed : (before : t.Kinds) (fs : List PlainField) (more : t.Kinds) (n : ℕ) → FieldsIn fs → W.locals ≡ join before (join (kinds_of fs) more)
      → n ≡ count_in before → LocalsTyped n fs
  unfolding LocalsTyped FieldsIn kinds_of join KindAt count_in
  locals_typed before [] more n h e d = tt
  locals_typed before (f ∷ fs) more n h e d =
      let there = kind_behind before (t.AndKind (kind_of f.kind) (join (kinds_of fs) more)) 0 (kind_of f.kind) refl in
      let number : 0 + count_in before ≡ n = omega (arith, d) in
      let one_more : join before (t.AndKind (kind_of f.kind) (join (kinds_of fs) more)) ≡ join (join before (t.AndKind (kind_of f.kind) t.NoKinds))
      (join (kinds_of fs) more) = sym (joined_twice before (t.AndKind (kind_of f.kind) t.NoKinds) (join (kinds_of fs) more)) in (
        subst (λ ks. KindAt ks n (kind_of f.kind)) (sym e) (subst (λ i. KindAt (join before (t.AndKind (kind_of f.kind) (join (kinds_of fs) more))) i
            (kind_of f.kind)) number there),
        h.0,
        locals_typed (join before (t.AndKind (kind_of f.kind) t.NoKinds)) fs more (n + 1) h.1 (e ∙ one_more)
            (omega (arith, d, counted before (kind_of f.kind))),
      )
    where
      counted : (ks : t.Kinds) (k : t.Kind) → count_in (join ks (t.AndKind k t.NoKinds)) ≡ count_in ks + 1
      counted t.NoKinds k = omega arith
      counted (t.AndKind j ks) k = omega (arith, counted ks k)

  typed_locals : (n : ℕ) (fs : List PlainField) → LocalsTyped n fs → sound.LocalsFrom (at W p) n (kinds_of fs)
  unfolding LocalsTyped sound.LocalsFrom kinds_of
  typed_locals n [] h = tt
  typed_locals n (f ∷ fs) h = (
    h.0,
    let e : n + 1 ≡ suc n = omega arith in subst (λ i. sound.LocalsFrom (at W p) i (kinds_of fs)) e
        (typed_locals (n + 1) fs h.2),
  )

  pub record ArmPlaceIn (fs : List PlainField) (x : ArmPlace) : Type 0 where
    pub scope : ScopeIn W false x.scope
    pub locals : sound.LocalsFrom (at W p) x.first (kinds_of fs)
    pub count : x.count ≡ count_in (kinds_of fs)
    pub none : kinds_of fs ≡ t.NoKinds → x.first ≡ 0

  arm_place_in : (fs : List PlainField) (n : ℕ) → LocalsTyped n fs → ArmPlaceIn fs (arm_place fs n)
  unfolding LocalsTyped kinds_of sound.LocalsFrom
  arm_place_in [] n h = record {
    scope = fields_from_in n [] nothing h (no_names W false);
    locals = tt;
    count = sym (count_of_kinds []);
    none = λ e. refl;
  }
  arm_place_in (f ∷ fs) n h = record {
    scope = fields_from_in n (f ∷ fs) nothing h (no_names W false);
    locals = chosen (nat_eq (length (f ∷ fs)) 0) refl;
    count = sym (count_of_kinds (f ∷ fs));
    none = λ e. absurd (apart (kind_of f.kind) (kinds_of fs) e);
  }
    where
      chosen : (b : Bool) → nat_eq (length (f ∷ fs)) 0 ≡ b → sound.LocalsFrom (at W p) (if b then 0 else n) (kinds_of (f ∷ fs))
      chosen true e = let no : length (f ∷ fs) ≡ 0 = eqb-true (length (f ∷ fs)) 0 e in absurd (omega (arith, no))
      chosen false e = typed_locals n (f ∷ fs) h

      apart : (k : t.Kind) (ks : t.Kinds) → t.AndKind k ks ≡ t.NoKinds → ⊥
      apart k ks e = cc

  parameter_types : (ls : List ArmLabel) → EachLabelIn W ls → FieldsIn (parameters_of ls)
  unfolding parameters_of EachLabelIn LabelIn FieldsIn
  parameter_types [] h = tt
  parameter_types (ForAny ∷ ls) h = tt
  parameter_types (ForUnwind ∷ ls) h = tt
  parameter_types (ForSignal r i ∷ ls) h = by (all_like i ls)
    where
      by : (b : Bool) → FieldsIn (if b then i.takes else [])
      by true = ((raised_of W p false r i h.0).item).takes
      by false = tt

  pub arm_entered : (flat : Bool) (a : Around) (ls : List ArmLabel) {Pre : Type 0} → (Pre → AroundIn W flat p a × LabelsIn W ls)
      → Rule W flat Pre (λ x i j. ArmPlaceIn (parameters_of ls) x) (enter_arm a ls)
  unfolding enter_arm
  arm_entered flat a ls {Pre} h = record {
    by = λ s. record {
      spent = 0;
      hid = 0;
      spends = omega arith;
      hides = omega arith;
      under = refl;
      limit = λ l. l;
      rows = refl;
      back = λ w. record {
        more_globals = w.more_globals;
        globals = w.globals;
        more_locals = join (kinds_of (parameters_of ls)) w.more_locals;
        locals = w.locals ∙ ap (λ x. join (kinds_of W.takes) (join (kinds_of W.gives) x))
            (joined_twice s.variables (kinds_of (parameters_of ls)) w.more_locals);
        used = w.used;
      };
      keeps = λ pre w names. record {
        scopes = names.scopes;
        coming = names.coming;
        rows = names.rows;
        globals = names.globals;
        variables = words_joined s.variables (kinds_of (parameters_of ls)) names.variables
            (fields_have_words (parameters_of ls) (parameter_types ls ((h pre).1).each));
      };
      gives = λ pre w names. arm_place_in (parameters_of ls) (length a.takes + length a.gives + count_in s.variables)
          (locals_typed (join (kinds_of W.takes) (join (kinds_of W.gives) s.variables)) (parameters_of ls) w.more_locals
          (length a.takes + length a.gives + count_in s.variables) (parameter_types ls ((h pre).1).each)
          (w.locals ∙ regrouped (kinds_of W.takes) (kinds_of W.gives) s.variables (kinds_of (parameters_of ls)) w.more_locals)
          (let f = ap length ((h pre).0).takes in let g = ap length ((h pre).0).gives in omega (
            arith,
            f,
            g,
            count_of_kinds W.takes,
            count_of_kinds W.gives,
            count_joined (kinds_of W.takes) (join (kinds_of W.gives) s.variables),
            count_joined
                (kinds_of W.gives) s.variables,
          )));
    };
  }
    where
      regrouped : (a b c d e : t.Kinds) → join a (join b (join (join c d) e)) ≡ join (join a (join b c)) (join d e)
      regrouped a b c d e = ap (λ x. join a (join b x)) (joined_twice c d e) ∙ ap (join a) (sym (joined_twice b c (join d e)))
          ∙ sym (joined_twice a (join b c) (join d e))

      count_joined : (a b : t.Kinds) → count_in (join a b) ≡ count_in a + count_in b
      count_joined a b = joined_count a b
