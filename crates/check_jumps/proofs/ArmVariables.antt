-- The parameters of an arm as variables, one after the other.
use Rattle.std.proofs.Common.{◌≡◌, ◌<◌, ◌≤◌, ◌+◌, ℕ, List, drop, length, get_or, refl, ap, ◌∙◌}
use Rattle.std.proofs.lemmas.List.{drop_all}
use Rattle.mesa_types.specs.Shapes.{join, one}
use Rattle.mesa_types.specs.Typed.{Kind, Kinds, NoKinds, AndKind}
use Rattle.mesa_types.specs.declared.types.FieldType.{FieldType}
use Rattle.check_rules.specs.Meanings.{Meaning, Variable}
use Rattle.interface_records.specs.PlainTypes.{plain, plain_field, kind_of, kinds_of}
use Rattle.check_rules.specs.Scopes.{Scope, nothing}
use Rattle.check_rules.specs.Statements.{fields_from, named_field}
use Rattle.check_rules.specs.Typed.{Local}
use Rattle.check_scopes.specs.Shows.{means}
use Rattle.check_scopes.specs.declared.names.Names.{Names}
use Rattle.check_state.specs.declared.meaning.Meaning.{Meaning as Words}
use Rattle.check_state.specs.Views.{fields, names}
use Rattle.check_jumps.proofs.FieldLaws.{kind_is}
use Rattle.check_jumps.proofs.Tests.{at_drop}

pub fields_from_at : (n : ℕ) (all : List FieldType) (i : ℕ) (x : FieldType) (scope : Scope Meaning) → i < length all → x ≡ get_or all i x
    → fields_from n (fields (drop i all)) scope
    ≡ fields_from (n + 1) (fields (drop (i + 1) all)) (named_field (plain_field x).name (Variable (Local n) (plain_field x).kind) scope)
unfolding fields_from
fields_from_at n all i x scope inside here = ap (λ xs. fields_from n (fields xs) scope) (at_drop all i x inside here)

pub fields_from_out : (n : ℕ) (all : List FieldType) (i : ℕ) (scope : Scope Meaning) → length all ≤ i → fields_from n (fields (drop i all)) scope ≡ scope
unfolding fields_from
fields_from_out n all i scope outside = ap (λ xs. fields_from n (fields xs) scope) (drop_all i all outside)

pub names_nothing : (new : Names Words) → means new ≡ nothing → names new ≡ nothing
unfolding names
names_nothing new e = rw e refl

joined : (ks : Kinds) (k : Kind) (js : Kinds) → join ks (AndKind k js) ≡ join (join ks (one k)) js
unfolding join one
joined NoKinds k js = refl
joined (AndKind i ks) k js = ap (AndKind i) (joined ks k js)

pub kinds_at : (ks : Kinds) (all : List FieldType) (i : ℕ) (x : FieldType) → i < length all → x ≡ get_or all i x
    → join ks (kinds_of (fields (drop i all))) ≡ join (join ks (one (kind_of (plain x.kind)))) (kinds_of (fields (drop (i + 1) all)))
unfolding kinds_of
kinds_at ks all i x inside here =
    ap (λ xs. join ks (kinds_of (fields xs))) (at_drop all i x inside here)
    ∙ joined ks (kind_of (plain_field x).kind) (kinds_of (fields (drop (i + 1) all)))
    ∙ ap (λ k. join (join ks (one (kind_of k))) (kinds_of (fields (drop (i + 1) all)))) (kind_is x)

join_none : (ks : Kinds) → join ks NoKinds ≡ ks
unfolding join
join_none NoKinds = refl
join_none (AndKind k ks) = ap (AndKind k) (join_none ks)

pub kinds_out : (ks : Kinds) (all : List FieldType) (i : ℕ) → length all ≤ i → join ks (kinds_of (fields (drop i all))) ≡ ks
unfolding kinds_of
kinds_out ks all i outside = ap (λ xs. join ks (kinds_of (fields xs))) (drop_all i all outside) ∙ join_none ks
