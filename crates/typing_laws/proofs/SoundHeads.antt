-- Heads of procedures, signals and errors: their types keep their limits, and in a body their names mean its variables.
use Rattle.std.proofs.Common.{◌≡◌, ℕ, List, [], ◌∷◌, ◌++◌, refl, sym, ◌∙◌, ap, subst}
use Rattle.std.specs.Prelude.{Bool, true, false, Option, Some, None, Ok, Err, IfOk}
use Rattle.mesa_base.specs.declared.identifier.Identifier.{Identifier}
use Rattle.syntax_trees.specs.Syntax as s
use Rattle.mesa_types.specs.Shapes.{join, count_in}
use Rattle.check_rules.specs.Typed as t
use Rattle.interface_records.specs.PlainTypes.{PlainField, kind_of, kinds_of}
use Rattle.check_rules.specs.Scopes.{Scope, outer, nothing}
use Rattle.check_rules.specs.Meanings.{Meaning}
use Rattle.check_rules.specs.Steps.{State, Check, Checked, back, in_scope}
use Rattle.check_rules.specs.Around.{Around, inside}
use Rattle.check_rules.specs.Parts.{each_of}
use Rattle.check_rules.specs.Statements.{fields_from}
use Rattle.check_rules.specs.Programs.{named_parameters, parameters, Heading, own_scope, coming_scope, heading, told, fault_or, before_others}
use Rattle.check_rules.specs.Written.{NamedWritten, FieldsWritten, MaybeFieldsWritten}
use Rattle.check_rules.proofs.SoundTypes.{FieldsIn, none_is_no}
use Rattle.typing_laws.proofs.SoundSteps.{World, Spot, ScopeIn, ScopesIn, Step, Rule, bind, so, under, given, unmoved, if_ok}
use Rattle.typing_laws.proofs.SoundnessStatements.{AroundIn}
use Rattle.typing_laws.proofs.SoundScopes.{joined_twice, no_names, announced, over_in, fields_from_in, locals_typed}
use Rattle.typing_laws.proofs.SoundAround.{inside_around}
use Rattle.typing_laws.proofs.SoundTypeRules.{each_field, and_fields}
use Rattle.typing_laws.proofs.SoundBodies.{type_checks, types_check}
use Rattle.typing_laws.proofs.SoundProcedures.{with_body, scope_in_body}

-- heads that stand further on make no declaration good that is not
pub told_in : {A : Type 0} (P : A → Type 0) (r : Checked A) (again : Unit {0} → Checked A) → IfOk r P → IfOk (told r again) P
told_in {A} P (Ok r) again h = h
told_in {A} P (Err e) again h = by (again tt)
  where
    by : (r : Checked A) → IfOk (fault_or e r) P
    by (Ok r) = tt
    by (Err f) = tt

joined_kinds : (fs gs : List PlainField) → kinds_of (fs ++ gs) ≡ join (kinds_of fs) (kinds_of gs)
unfolding kinds_of join
joined_kinds [] gs = refl
joined_kinds (f ∷ fs) gs = ap (t.AndKind (kind_of f.kind)) (joined_kinds fs gs)

pub record HeadingIn (W : World) (h : Heading) : Type 0 where
  pub takes : FieldsIn h.takes
  pub gives : FieldsIn h.gives
  pub scope : (ks : t.Kinds) → ScopeIn (with_body W h.takes h.gives ks) false h.scope

module _ (W : World) where
  pub before : {D A : Type 0} {Pre : Type 0} {P : A → ℕ → ℕ → Type 0} (flat : Bool) (names : D → List Identifier) (rule : Around → D → Check A)
      (a : Around) (d : D) (ds : List D)
      → Rule W flat Pre P (rule a d) → Rule W flat Pre P (before_others names rule a d ds)
  before {D} {A} {Pre} {P} flat names rule a d ds h = record { by = λ s. told_in (Step W flat Pre P s) (rule a d s) _ (h.by s) }

  -- a scope of its own, where no body is around
  scoped_apart : {A : Type 0} {Pre : Type 0} {P : A → ℕ → ℕ → Type 0} {q : Check A} → Rule W true Pre P q → Rule W true Pre P (in_scope nothing q)
  unfolding ScopesIn
  scoped_apart {A} {Pre} {P} {q} one = record {
    by = λ s.
        let inner : State = record s { scopes = nothing ∷ s.scopes; coming = nothing } in
        if_ok (q inner) (back s) (Step W true Pre P inner) (Step W true Pre P s) (one.by inner) (λ r st. record {
          spent = st.spent;
          hid = st.hid;
          spends = st.spends;
          hides = st.hides;
          limit = st.limit;
          rows = st.rows;
          under = ap outer st.under;
          back = λ w. let v = st.back (record {
            more_globals = w.more_globals;
            globals = w.globals;
            more_locals = w.more_locals;
            locals = w.locals;
            used = w.used;
          }) in
              record { more_globals = v.more_globals; globals = v.globals; more_locals = v.more_locals; locals = v.locals; used = v.used };
          keeps = λ pre w names.
              let v = st.keeps pre (record {
                more_globals = w.more_globals;
                globals = w.globals;
                more_locals = w.more_locals;
                locals = w.locals;
                used = w.used;
              })
              (record {
                scopes = (no_names W true, names.scopes);
                coming = no_names W true;
                rows = names.rows;
                globals = names.globals;
                variables = names.variables;
              }) in
              record {
                scopes = subst (ScopesIn W true) (sym st.under) names.scopes;
                coming = names.coming;
                rows = v.rows;
                globals = v.globals;
                variables = v.variables;
              };
          gives = λ pre w names.
              st.gives pre (record { more_globals = w.more_globals; globals = w.globals; more_locals = w.more_locals; locals = w.locals; used = w.used })
              (record {
                scopes = (no_names W true, names.scopes);
                coming = no_names W true;
                rows = names.rows;
                globals = names.globals;
                variables = names.variables;
              });
        });
  }

  named_in : (fs : s.NamedFields) (flat : Bool) (p : Spot) (a : Around) → Rule W flat (AroundIn W flat p a × NamedWritten fs) (λ x i j. FieldsIn x)
      (named_parameters a fs)
  unfolding named_parameters NamedWritten FieldsIn
  named_in s.NoFields flat p a = given W flat [] (λ pre. tt)
  named_in (s.AndFields xs e rest) flat p a =
      bind W flat (announced W flat xs) (λ u c g.
      bind W flat (under W flat (λ pre. (pre.0.0, pre.0.1.1)) ((type_checks W e).by flat p a)) (λ k d h.
      bind W flat (under W flat (λ pre. (pre.0.0.0, pre.0.0.1.2)) (named_in rest flat p a)) (λ fs i j.
      given W flat (each_of k xs ++ fs) (λ pre. and_fields W (each_of k xs) fs (each_field W k xs pre.0.1) pre.1))))

  parameters_in : (fs : Option s.FieldList) (flat : Bool) (p : Spot) (a : Around)
      → Rule W flat (AroundIn W flat p a × MaybeFieldsWritten fs) (λ x i j. FieldsIn x × (fs ≡ None → x ≡ [])) (parameters a fs)
  unfolding MaybeFieldsWritten FieldsWritten FieldsIn
  parameters_in None flat p a = given W flat [] (λ pre. (tt, λ e. refl))
  parameters_in (Some (s.WithNames fs)) flat p a = so W flat (λ x i j pre h. (h, λ e. none_is_no (s.WithNames fs) (sym e))) (named_in fs flat p a)
  parameters_in (Some (s.Unnamed es)) flat p a = so W flat (λ x i j pre h. (h.0, λ e. none_is_no (s.Unnamed es) (sym e))) ((types_check W es).by flat p a)

  coming_seen : {Pre : Type 0} → Rule W true Pre (λ scope i j. ScopeIn W true scope) coming_scope
  coming_seen {Pre} = record { by = λ s. unmoved W true Pre (λ scope i j. ScopeIn W true scope) s s.coming (λ pre names w. names.coming) }

  own_names : (fs gs : List PlainField) (scope : Scope Meaning) (ks : t.Kinds) → FieldsIn (fs ++ gs) → ScopeIn W true scope
      → ScopeIn (with_body W fs gs ks) false (own_scope fs gs scope)
  unfolding join count_in
  own_names fs gs scope ks h i =
      let V = with_body W fs gs ks in
      let same : V.locals ≡ join t.NoKinds (join (kinds_of (fs ++ gs)) ks) = sym (joined_twice (kinds_of fs) (kinds_of gs) ks)
      ∙ ap (λ x. join x ks) (sym (joined_kinds fs gs)) in
      over_in V false (fields_from 0 (fs ++ gs) nothing) scope
      (fields_from_in V start 0 (fs ++ gs) nothing (locals_typed V start t.NoKinds (fs ++ gs) ks 0 h same refl) (no_names V false))
      (scope_in_body W fs gs ks scope i)
    where
      start : Spot
      start = record { points = []; statements = 0; labels = 0; depth = 0; arm = []; statement = 0 }

  pub heading_in : (takes gives : Option s.FieldList) (p : Spot) (a : Around)
      → Rule W true (AroundIn W true p a × MaybeFieldsWritten takes × MaybeFieldsWritten gives) (λ h i j. HeadingIn W h × (gives ≡ None → h.gives ≡ []))
      (heading a takes gives)
  unfolding heading
  heading_in takes gives p a = scoped_apart
      (bind W true (under W true (λ pre. (inside_around W true p a pre.0, pre.1)) (parameters_in takes true p (inside a))) (λ fs c g.
      bind W true (under W true (λ pre. (inside_around W true p a pre.0.0, pre.0.2)) (parameters_in gives true p (inside a))) (λ gs d h.
      bind W true {P = λ scope i j. ScopeIn W true scope} coming_seen (λ scope i j.
      given W true (record { takes = fs; gives = gs; scope = own_scope fs gs scope }) (λ pre. (
        record {
          takes = pre.0.0.1.0;
          gives = pre.0.1.0;
          scope = λ ks. own_names fs gs scope ks (and_fields W fs gs pre.0.0.1.0 pre.0.1.0) pre.1;
        },
        pre.0.1.1,
      ))))))
