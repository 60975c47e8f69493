-- Parameters and results, one declaration after the other, and the scope of their names.
use Rattle.std.proofs.Common.{◌≡◌, ◌<◌, ◌≤◌, ◌+◌, ℕ, Bool, true, false, List, [], ◌∷◌, ◌++◌, drop, length, get_or, Option, Some, None, Ok, Err, refl, sym, ap, ◌∙◌, append_assoc, arith}
use Rattle.std.specs.Option.{option_or}
use Rattle.std.specs.Prelude.{cond, bytes_eq}
use Rattle.std.proofs.lemmas.List.{drop_all}
use Rattle.mesa_base.specs.declared.identifier.Identifier.{Identifier}
use Rattle.syntax_trees.specs.PlainSyntax as plain
use Rattle.syntax_trees.specs.Syntax as s
use Rattle.syntax_trees.specs.declared.syntax.Labeled.{Labeled}
use Rattle.syntax_trees.specs.declared.syntax.TypeExp.{TypeExp}
use Rattle.check_rules.specs.Around.{Around, inside}
use Rattle.check_rules.specs.Checking.{type_exp}
use Rattle.check_rules.specs.Meanings.{Meaning, Variable}
use Rattle.check_rules.specs.Names.{announce}
use Rattle.check_rules.specs.Parts.{each_of}
use Rattle.interface_records.specs.PlainTypes.{PlainField, PlainType}
use Rattle.check_rules.specs.Programs.{Heading, heading, named_parameters, own_scope, parameters}
use Rattle.check_rules.specs.Scopes.{Scope, nothing, outer, over}
use Rattle.check_rules.specs.Statements.{fields_from, named_field}
use Rattle.check_rules.specs.Steps.{State, Check, Checked, and_then, back}
use Rattle.check_rules.specs.Typed.{Local}
use Rattle.check_jumps.proofs.Gathering.{behind}
use Rattle.check_jumps.proofs.Tests.{at_drop}

append_none : {A : Type 0} (xs : List A) → xs ++ [] ≡ xs
append_none [] = refl
append_none (x ∷ xs) = ap (λ ys. x ∷ ys) (append_none xs)

-- ---- the parameters of some names

abbrev Group : Type 0
Group = Labeled (List Identifier) TypeExp

-- those still to come, behind those that are done
unfoldable pub parameters_rest : Around → List PlainField → s.NamedFields → Check (List PlainField)
parameters_rest a done fs σ = behind done (named_parameters a fs σ)

longer : (done fs : List PlainField) (m : Checked (List PlainField × State)) → behind done (and_then m (λ r. Ok (fs ++ r.0, r.1))) ≡ behind (done ++ fs) m
longer done fs (Ok r) = ap (λ gs. Ok (gs, r.1)) (sym (append_assoc done fs r.0))
longer done fs (Err e) = refl

with_kind : (a : Around) (done : List PlainField) (xs : List Identifier) (fs : s.NamedFields) (m : Checked (PlainType × State))
    → behind done (and_then m (λ k. and_then (named_parameters a fs k.1) (λ r. Ok (each_of k.0 xs ++ r.0, r.1))))
    ≡ and_then m (λ k. behind (done ++ each_of k.0 xs) (named_parameters a fs k.1))
with_kind a done xs fs (Ok k) = longer done (each_of k.0 xs) (named_parameters a fs k.1)
with_kind a done xs fs (Err e) = refl

with_names : (a : Around) (done : List PlainField) (xs : List Identifier) (e : s.TypeExp) (fs : s.NamedFields) (m : Checked (Unit {0} × State))
    → behind done (and_then m (λ u. and_then (type_exp a e u.1) (λ k. and_then (named_parameters a fs k.1) (λ r. Ok (each_of k.0 xs ++ r.0, r.1)))))
    ≡ and_then m (λ u. and_then (type_exp a e u.1) (λ k. behind (done ++ each_of k.0 xs) (named_parameters a fs k.1)))
with_names a done xs e fs (Ok u) = with_kind a done xs fs (type_exp a e u.1)
with_names a done xs e fs (Err f) = refl

pub parameters_first : (a : Around) (fs : s.NamedFields) (σ : State) → named_parameters a fs σ ≡ parameters_rest a [] fs σ
unfolding parameters_rest
parameters_first a fs σ = by (named_parameters a fs σ)
  where
    by : (m : Checked (List PlainField × State)) → m ≡ behind [] m
    by (Ok r) = refl
    by (Err e) = refl

pub parameters_at : (a : Around) (done : List PlainField) (all : List Group) (i : ℕ) (x : Group) (σ : State) → i < length all → x ≡ get_or all i x
    → parameters_rest a done (plain.named_fields (drop i all)) σ
    ≡ and_then (announce x.labels σ) (λ u. and_then (type_exp a (plain.type_exp x.item) u.1)
    (λ k. parameters_rest a (done ++ each_of k.0 x.labels) (plain.named_fields (drop (i + 1) all)) k.1))
unfolding parameters_rest named_parameters
parameters_at a done all i x σ inside here =
    ap (λ xs. behind done (named_parameters a (plain.named_fields xs) σ)) (at_drop all i x inside here)
    ∙ with_names a done x.labels (plain.type_exp x.item) (plain.named_fields (drop (i + 1) all)) (announce x.labels σ)

pub parameters_end : (a : Around) (done : List PlainField) (all : List Group) (i : ℕ) (σ : State) → length all ≤ i
    → parameters_rest a done (plain.named_fields (drop i all)) σ ≡ Ok (done, σ)
unfolding parameters_rest named_parameters
parameters_end a done all i σ outside =
    ap (λ xs. behind done (named_parameters a (plain.named_fields xs) σ)) (drop_all i all outside) ∙ ap (λ fs. Ok (fs, σ)) (append_none done)

-- ---- their names

or_cond : {X : Type 0} (b : Bool) (x : X) (o p : Option X) → option_or (cond b (Some x) o) p ≡ cond b (Some x) (option_or o p)
or_cond true x o p = refl
or_cond false x o p = refl

named_over : (x : Option (List ℕ)) (m : Meaning) (inner outer : Scope Meaning) → over (named_field x m inner) outer ≡ named_field x m (over inner outer)
named_over None m inner outer = refl
named_over (Some x) m inner outer = λ i y. or_cond (bytes_eq x y) m (inner y) (outer y) i

fields_over : (n : ℕ) (fs : List PlainField) (inner outer : Scope Meaning) → over (fields_from n fs inner) outer ≡ fields_from n fs (over inner outer)
unfolding fields_from
fields_over n [] inner outer = refl
fields_over n (f ∷ fs) inner outer =
    fields_over (n + 1) fs (named_field f.name (Variable (Local n) f.kind) inner) outer
    ∙ ap (fields_from (n + 1) fs) (named_over f.name (Variable (Local n) f.kind) inner outer)

fields_both : (n : ℕ) (fs gs : List PlainField) (scope : Scope Meaning) → fields_from n (fs ++ gs) scope ≡ fields_from (n + length fs) gs (fields_from n fs scope)
unfolding fields_from
fields_both n [] gs scope = ap (λ m. fields_from m gs scope) (omega arith)
fields_both n (f ∷ fs) gs scope =
    let next : (n + 1) + length fs ≡ n + length (f ∷ fs) = omega arith in
    fields_both (n + 1) fs gs (named_field f.name (Variable (Local n) f.kind) scope)
    ∙ ap (λ m. fields_from m gs (fields_from (n + 1) fs (named_field f.name (Variable (Local n) f.kind) scope))) next

pub own_scope_is : (n : ℕ) (fs gs : List PlainField) (scope : Scope Meaning) → n ≡ 0 + length fs → fields_from n gs (fields_from 0 fs scope) ≡ own_scope fs gs scope
own_scope_is n fs gs scope e =
    ap (λ m. fields_from m gs (fields_from 0 fs scope)) e ∙ sym (fields_both 0 fs gs scope) ∙ sym (fields_over 0 (fs ++ gs) nothing scope)

-- ---- a head, step by step

module _ (a b : Around) (takes gives : Option s.FieldList) (before entered : State) (scope : Scope Meaning) (near : b ≡ inside a) (empty : scope ≡ nothing)
    (enters : entered ≡ record before { scopes = scope ∷ before.scopes; coming = nothing }) where
  abbrev pub behind_takes : List PlainField × State → Checked (Heading × State)
  behind_takes fs = and_then (parameters (inside a) gives fs.1) (λ gs. Ok (record { takes = fs.0; gives = gs.0; scope = own_scope fs.0 gs.0 gs.1.coming }, gs.1))

  pub at_takes : heading a takes gives before ≡ and_then (and_then (parameters b takes entered) behind_takes) (back before)
  unfolding heading
  at_takes =
      ap (λ (c : Scope Meaning). and_then (and_then (parameters (inside a) takes (record before { scopes = c ∷ before.scopes; coming = nothing })) behind_takes) (back before)) (sym empty)
      ∙ ap (λ σ. and_then (and_then (parameters (inside a) takes σ) behind_takes) (back before)) (sym enters)
      ∙ ap (λ c. and_then (and_then (parameters c takes entered) behind_takes) (back before)) (sym near)

  module _ (fs : List PlainField) (τ : State) (taken : parameters b takes entered ≡ Ok (fs, τ)) where
    pub at_gives : heading a takes gives before
        ≡ and_then (and_then (parameters b gives τ) (λ gs. Ok (record { takes = fs; gives = gs.0; scope = own_scope fs gs.0 gs.1.coming }, gs.1))) (back before)
    at_gives =
        at_takes ∙ ap (λ m. and_then (and_then m behind_takes) (back before)) taken
        ∙ ap (λ c. and_then (and_then (parameters c gives τ) (λ gs. Ok (record { takes = fs; gives = gs.0; scope = own_scope fs gs.0 gs.1.coming }, gs.1))) (back before)) (sym near)

    pub headed : (gs : List PlainField) (υ after : State) (h : Heading) (inner outside : Scope Meaning) → parameters b gives τ ≡ Ok (gs, υ)
        → outside ≡ before.coming → inner ≡ υ.coming → h ≡ record { takes = fs; gives = gs; scope = own_scope fs gs inner }
        → after ≡ record υ { scopes = outer υ.scopes; coming = outside } → heading a takes gives before ≡ Ok (h, after)
    headed gs υ after h inner outside given old new is_head leaves =
        at_gives ∙ ap (λ m. and_then (and_then m (λ gs. Ok (record { takes = fs; gives = gs.0; scope = own_scope fs gs.0 gs.1.coming }, gs.1))) (back before)) given
        ∙ ap (λ (c : Scope Meaning). Ok (record { takes = fs; gives = gs; scope = own_scope fs gs c }, record υ { scopes = outer υ.scopes; coming = before.coming })) (sym new)
        ∙ ap (λ h. Ok (h, record υ { scopes = outer υ.scopes; coming = before.coming })) (sym is_head)
        ∙ ap (λ (c : Scope Meaning). Ok (h, record υ { scopes = outer υ.scopes; coming = c })) (sym old)
        ∙ ap (λ σ. Ok (h, σ)) (sym leaves)
