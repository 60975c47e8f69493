-- Fields, one declaration after the other.
use Rattle.std.proofs.Common.{◌≡◌, ◌<◌, ◌≤◌, ◌+◌, ℕ, List, [], ◌∷◌, ◌++◌, map, take, drop, length, get_or, Some, None, Ok, Err, refl, sym, ap, ◌∙◌, append_assoc}
use Rattle.std.proofs.lemmas.List.{drop_all, take_more, map-append}
use Rattle.mesa_base.specs.declared.identifier.Identifier.{Identifier}
use Rattle.syntax_trees.specs.PlainSyntax as plain
use Rattle.syntax_trees.specs.Syntax as s
use Rattle.syntax_trees.specs.declared.syntax.Labeled.{Labeled}
use Rattle.syntax_trees.specs.declared.syntax.TypeExp.{TypeExp}
use Rattle.mesa_types.specs.declared.types.FieldType.{FieldType}
use Rattle.check_rules.specs.Around.{Around}
use Rattle.check_rules.specs.Checking as spec
use Rattle.check_rules.specs.Parts.{distinct, each_of, names_of}
use Rattle.interface_records.specs.PlainTypes.{PlainField, PlainType, plain_field}
use Rattle.check_rules.specs.Steps.{State, Check, Checked, and_then}
use Rattle.check_declared.specs.check_jumps.proofs.Tests.{at_drop}
use Rattle.check_declared.specs.check_jumps.proofs.Gathering.{behind}

append_none : {A : Type 0} (xs : List A) → xs ++ [] ≡ xs
append_none [] = refl
append_none (x ∷ xs) = ap (λ ys. x ∷ ys) (append_none xs)

-- ---- the fields of some names

pub each_at : (done : List PlainField) (k : PlainType) (all : List Identifier) (i : ℕ) (x : Identifier) → i < length all → x ≡ get_or all i x
    → done ++ each_of k (drop i all) ≡ (done ++ record { name = Some x.name; kind = k } ∷ []) ++ each_of k (drop (i + 1) all)
each_at done k all i x inside here =
    ap (λ xs. done ++ each_of k xs) (at_drop all i x inside here)
    ∙ sym (append_assoc done (record { name = Some x.name; kind = k } ∷ []) (each_of k (drop (i + 1) all)))

pub each_out : (done : List PlainField) (k : PlainType) (all : List Identifier) (i : ℕ) → length all ≤ i → done ++ each_of k (drop i all) ≡ done
each_out done k all i outside = ap (λ xs. done ++ each_of k xs) (drop_all i all outside) ∙ append_none done

-- ---- fields without names

abbrev unnamed : PlainType → PlainField
unnamed k = record { name = None; kind = k }

-- those still to come, behind those that are done
unfoldable pub unnamed_rest : Around → List PlainField → s.TypeExps → Check (List PlainField)
unnamed_rest a done es σ = behind done (spec.unnamed_fields a es σ)

longer : (done fs : List PlainField) (m : Checked (List PlainField × State)) → behind done (and_then m (λ r. Ok (fs ++ r.0, r.1))) ≡ behind (done ++ fs) m
longer done fs (Ok r) = ap (λ gs. Ok (gs, r.1)) (sym (append_assoc done fs r.0))
longer done fs (Err e) = refl

unnamed_one : (a : Around) (done : List PlainField) (es : s.TypeExps) (m : Checked (PlainType × State))
    → behind done (and_then m (λ k. and_then (spec.unnamed_fields a es k.1) (λ r. Ok (unnamed k.0 ∷ r.0, r.1))))
    ≡ and_then m (λ k. behind (done ++ unnamed k.0 ∷ []) (spec.unnamed_fields a es k.1))
unnamed_one a done es (Ok k) = longer done (unnamed k.0 ∷ []) (spec.unnamed_fields a es k.1)
unnamed_one a done es (Err e) = refl

pub unnamed_first : (a : Around) (es : s.TypeExps) (σ : State) → spec.unnamed_fields a es σ ≡ unnamed_rest a [] es σ
unfolding unnamed_rest
unnamed_first a es σ = by (spec.unnamed_fields a es σ)
  where
    by : (m : Checked (List PlainField × State)) → m ≡ behind [] m
    by (Ok r) = refl
    by (Err e) = refl

pub unnamed_at : (a : Around) (done : List PlainField) (all : List TypeExp) (i : ℕ) (x : TypeExp) (σ : State) → i < length all → x ≡ get_or all i x
    → unnamed_rest a done (plain.types (drop i all)) σ
    ≡ and_then (spec.type_exp a (plain.type_exp x) σ) (λ k. unnamed_rest a (done ++ unnamed k.0 ∷ []) (plain.types (drop (i + 1) all)) k.1)
unfolding unnamed_rest spec.check
unnamed_at a done all i x σ inside here =
    ap (λ xs. behind done (spec.unnamed_fields a (plain.types xs) σ)) (at_drop all i x inside here)
    ∙ unnamed_one a done (plain.types (drop (i + 1) all)) (spec.type_exp a (plain.type_exp x) σ)

pub unnamed_end : (a : Around) (done : List PlainField) (all : List TypeExp) (i : ℕ) (σ : State) → length all ≤ i
    → unnamed_rest a done (plain.types (drop i all)) σ ≡ Ok (done, σ)
unfolding unnamed_rest spec.check
unnamed_end a done all i σ outside =
    ap (λ xs. behind done (spec.unnamed_fields a (plain.types xs) σ)) (drop_all i all outside) ∙ ap (λ fs. Ok (fs, σ)) (append_none done)

pub field_more : (done : List FieldType) (f : FieldType) → map plain_field (done ++ f ∷ []) ≡ map plain_field done ++ plain_field f ∷ []
field_more done f = map-append plain_field done (f ∷ [])

-- ---- fields with names

abbrev Group : Type 0
Group = Labeled (List Identifier) TypeExp

-- the names of these fields
unfoldable pub names_before : List Group → List (List ℕ)
names_before [] = []
names_before (x ∷ xs) = names_of x.labels ++ names_before xs

names_both : (xs ys : List Group) → names_before (xs ++ ys) ≡ names_before xs ++ names_before ys
unfolding names_before
names_both [] ys = refl
names_both (x ∷ xs) ys = ap (λ ns. names_of x.labels ++ ns) (names_both xs ys) ∙ sym (append_assoc (names_of x.labels) (names_before xs) (names_before ys))

pub names_more : (all : List Group) (i : ℕ) (x : Group) → i < length all → x ≡ get_or all i x
    → names_before (take (i + 1) all) ≡ names_before (take i all) ++ names_of x.labels
unfolding names_before
names_more all i x inside here =
    ap names_before (take_more all i x inside ∙ ap (λ y. take i all ++ y ∷ []) (sym here))
    ∙ names_both (take i all) (x ∷ [])
    ∙ ap (λ ns. names_before (take i all) ++ ns) (append_none (names_of x.labels))

unfoldable pub named_rest : Around → List PlainField → List (List ℕ) → s.NamedFields → Check (List PlainField)
named_rest a done before fs σ = behind done (spec.named_fields a before fs σ)

pub named_first : (a : Around) (fs : s.NamedFields) (σ : State) → spec.named_fields a [] fs σ ≡ named_rest a [] [] fs σ
unfolding named_rest
named_first a fs σ = by (spec.named_fields a [] fs σ)
  where
    by : (m : Checked (List PlainField × State)) → m ≡ behind [] m
    by (Ok r) = refl
    by (Err e) = refl

named_kind : (a : Around) (done : List PlainField) (before : List (List ℕ)) (xs : List Identifier) (fs : s.NamedFields) (m : Checked (PlainType × State))
    → behind done (and_then m (λ k. and_then (spec.named_fields a before fs k.1) (λ r. Ok (each_of k.0 xs ++ r.0, r.1))))
    ≡ and_then m (λ k. behind (done ++ each_of k.0 xs) (spec.named_fields a before fs k.1))
named_kind a done before xs fs (Ok k) = longer done (each_of k.0 xs) (spec.named_fields a before fs k.1)
named_kind a done before xs fs (Err e) = refl

abbrev with_state : {A : Type 0} → State → A → Checked (A × State)
with_state σ x = Ok (x, σ)

named_one : (a : Around) (done : List PlainField) (before : List (List ℕ)) (xs : List Identifier) (e : s.TypeExp) (fs : s.NamedFields) (σ : State) (d : Checked (Unit {0}))
    → behind done (and_then (and_then d (with_state σ)) (λ u. and_then (spec.type_exp a e u.1) (λ k. and_then (spec.named_fields a before fs k.1) (λ r. Ok (each_of k.0 xs ++ r.0, r.1)))))
    ≡ and_then d (λ u. and_then (spec.type_exp a e σ) (λ k. behind (done ++ each_of k.0 xs) (spec.named_fields a before fs k.1)))
named_one a done before xs e fs σ (Ok u) = named_kind a done before xs fs (spec.type_exp a e σ)
named_one a done before xs e fs σ (Err f) = refl

pub named_at : (a : Around) (done : List PlainField) (all : List Group) (i : ℕ) (x : Group) (σ : State) → i < length all → x ≡ get_or all i x
    → named_rest a done (names_before (take i all)) (plain.named_fields (drop i all)) σ
    ≡ and_then (distinct (names_before (take i all)) x.labels) (λ u. and_then (spec.type_exp a (plain.type_exp x.item) σ)
    (λ k. named_rest a (done ++ each_of k.0 x.labels) (names_before (take (i + 1) all)) (plain.named_fields (drop (i + 1) all)) k.1))
unfolding named_rest spec.check
named_at a done all i x σ inside here =
    let before = names_before (take i all) in
    ap (λ xs. behind done (spec.named_fields a before (plain.named_fields xs) σ)) (at_drop all i x inside here)
    ∙ named_one a done (before ++ names_of x.labels) x.labels (plain.type_exp x.item) (plain.named_fields (drop (i + 1) all)) σ (distinct before x.labels)
    ∙ ap (λ now. and_then (distinct before x.labels) (λ u. and_then (spec.type_exp a (plain.type_exp x.item) σ)
    (λ k. behind (done ++ each_of k.0 x.labels) (spec.named_fields a now (plain.named_fields (drop (i + 1) all)) k.1)))) (sym (names_more all i x inside here))

pub named_end : (a : Around) (done : List PlainField) (before : List (List ℕ)) (all : List Group) (i : ℕ) (σ : State) → length all ≤ i
    → named_rest a done before (plain.named_fields (drop i all)) σ ≡ Ok (done, σ)
unfolding named_rest spec.check
named_end a done before all i σ outside =
    ap (λ xs. behind done (spec.named_fields a before (plain.named_fields xs) σ)) (drop_all i all outside) ∙ ap (λ fs. Ok (fs, σ)) (append_none done)
