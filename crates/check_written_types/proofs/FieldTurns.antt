-- One turn of the fields that are written, with what is known of its steps.
use Rattle.std.proofs.Common.{◌≡◌, ◌<◌, ◌+◌, ℕ, List, [], ◌∷◌, ◌++◌, map, take, drop, length, get_or, None, Ok, Err, sym, ap, subst, ◌∙◌, Bool}
use Rattle.std.specs.Prelude.{◌≢◌, Result, OnOk}
use Rattle.mesa_base.specs.declared.identifier.Identifier.{Identifier}
use Rattle.syntax_trees.specs.PlainSyntax as plain
use Rattle.syntax_trees.specs.declared.syntax.Labeled.{Labeled}
use Rattle.syntax_trees.specs.declared.syntax.TypeExp.{TypeExp}
use Rattle.mesa_types.specs.declared.types.FieldType.{FieldType}
use Rattle.check_rules.specs.Around.{Around}
use Rattle.check_rules.specs.Checking as spec
use Rattle.check_rules.specs.Parts.{distinct, each_of, names_of}
use Rattle.interface_records.specs.PlainTypes.{PlainField, PlainType, plain_field}
use Rattle.check_rules.specs.Steps.{State, and_then}
use Rattle.check_rules.specs.declared.fault.CheckFault.{CheckFault}
use Rattle.check_rules.specs.declared.fault.CheckFault.TheVariants.{Memory}
use Rattle.check_declared.specs.Naming.{HasNames}
use Rattle.check_scopes.specs.declared.names.Names.{Names}
use Rattle.check_state.specs.Gives.{GivesOnly, fault}
use Rattle.check_written_types.proofs.FieldLoops.{field_more, named_at, named_rest, names_before, names_more, unnamed_at, unnamed_rest}

pub unnamed_turn : (a : Around) (all : List TypeExp) (i : ℕ) (x : TypeExp) (σ τ : State) (held made : List FieldType) (f : FieldType) (k : PlainType)
    → i < length all → x ≡ get_or all i x → spec.type_exp a (plain.type_exp x) σ ≡ Ok (k, τ) → plain_field f ≡ record { name = None; kind = k } → made ≡ held ++ f ∷ []
    → unnamed_rest a (map plain_field held) (plain.types (drop i all)) σ ≡ unnamed_rest a (map plain_field made) (plain.types (drop (i + 1) all)) τ
unnamed_turn a all i x σ τ held made f k inside here is_type is_field pushed =
    let rest = plain.types (drop (i + 1) all) in
    unnamed_at a (map plain_field held) all i x σ inside here
    ∙ ap (λ m. and_then m (λ k. unnamed_rest a (map plain_field held ++ record { name = None; kind = k.0 } ∷ []) rest k.1)) is_type
    ∙ ap (λ g. unnamed_rest a (map plain_field held ++ g ∷ []) rest τ) (sym is_field)
    ∙ ap (λ gs. unnamed_rest a gs rest τ) (sym (field_more held f))
    ∙ ap (λ gs. unnamed_rest a (map plain_field gs) rest τ) (sym pushed)

abbrev Group : Type 0
Group = Labeled (List Identifier) TypeExp

module _ (a : Around) (done : List PlainField) (all : List Group) (i : ℕ) (x : Group) (σ : State) (inside : i < length all) (here : x ≡ get_or all i x) where
  pub named_turn : (fs : List PlainField) (k : PlainType) (τ : State) → distinct (names_before (take i all)) x.labels ≡ Ok tt
      → spec.type_exp a (plain.type_exp x.item) σ ≡ Ok (k, τ) → fs ≡ done ++ each_of k x.labels
      → named_rest a done (names_before (take i all)) (plain.named_fields (drop i all)) σ
      ≡ named_rest a fs (names_before (take (i + 1) all)) (plain.named_fields (drop (i + 1) all)) τ
  named_turn fs k τ differ is_type made =
      named_at a done all i x σ inside here
      ∙ ap (λ d. and_then d (λ u. and_then (spec.type_exp a (plain.type_exp x.item) σ) (λ k. named_rest a (done ++ each_of k.0 x.labels) (names_before (take (i + 1) all)) (plain.named_fields (drop (i + 1) all)) k.1))) differ
      ∙ ap (λ m. and_then m (λ k. named_rest a (done ++ each_of k.0 x.labels) (names_before (take (i + 1) all)) (plain.named_fields (drop (i + 1) all)) k.1)) is_type
      ∙ ap (λ gs. named_rest a gs (names_before (take (i + 1) all)) (plain.named_fields (drop (i + 1) all)) τ) (sym made)

-- ---- what is known of names that are looked up in the index

abbrev Outcome : Type 0
Outcome = Result (Unit {0}) CheckFault

pub they_differ : (before : List (List ℕ)) (xs ys : List Identifier) (r : Outcome) (u : Unit {0}) → xs ≡ ys → r ≡ Ok u
    → GivesOnly (λ (u : Unit {0}). u) (distinct before xs) r → distinct before ys ≡ Ok tt
they_differ before xs ys r u same e h =
    subst (λ zs. distinct before zs ≡ Ok tt) same (subst (λ q. GivesOnly (λ (u : Unit {0}). u) (distinct before xs) q) e h)

pub one_twice : (before : List (List ℕ)) (xs ys : List Identifier) (r : Outcome) (f : CheckFault) → xs ≡ ys → r ≡ Err f
    → GivesOnly (λ (u : Unit {0}). u) (distinct before xs) r → f ≢ Memory → distinct before ys ≡ Err (fault f)
one_twice before xs ys r f same e h =
    subst (λ zs. f ≢ Memory → distinct before zs ≡ Err (fault f)) same (subst (λ q. GivesOnly (λ (u : Unit {0}). u) (distinct before xs) q) e h)

abbrev Taken : Names Bool → Names Bool → List Identifier → Type 0
Taken old new xs = (before : List (List ℕ)) → HasNames old before → HasNames new (before ++ names_of xs)

pub names_turn : (all : List Group) (i : ℕ) (x : Group) (old new : Names Bool) (xs : List Identifier) (r : Outcome) (u : Unit {0}) → i < length all → x ≡ get_or all i x
    → xs ≡ x.labels → r ≡ Ok u → OnOk r (Taken old new xs) → HasNames old (names_before (take i all)) → HasNames new (names_before (take (i + 1) all))
names_turn all i x old new xs r u inside here same e h has_them =
    let taken : Taken old new xs = subst (λ q. OnOk q (Taken old new xs)) e h in
    subst (HasNames new) (ap (λ ys. names_before (take i all) ++ names_of ys) same ∙ sym (names_more all i x inside here)) (taken (names_before (take i all)) has_them)
