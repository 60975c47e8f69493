-- Where variables lie, by where each of them ends.
use Rattle.std.proofs.Common.{◌≡◌, refl, sym, ap, ◌∙◌, ℕ, zero, suc, ◌+◌, ◌≤◌, List, ◌∷◌, ◌++◌, Some, None, append_assoc, length, get_or, drop, drop-cons, add-one, ◌<◌, arith}
use Rattle.std.specs.Prelude.{slice_get, min}
use Rattle.mesa_types.specs.Plain.{field_kind, kinds_of}
use Rattle.mesa_types.specs.Shapes.{join, words_before, words_in, words_in_all}
use Rattle.mesa_types.specs.Typed.{Kinds, NoKinds, AndKind}
use Rattle.mesa_types.specs.Types.{words_of}
use Rattle.mesa_types.specs.declared.types.TypeTree.TheFolds.{fold_out-FieldType}
use Rattle.mesa_types.specs.declared.types.FieldType.{FieldType}
use Rattle.mesa_types.proofs.KindWords.{kind_words}
use Rattle.code_rules.specs.Slots.{words_at, words_from}
use Rattle.code_trees.specs.Starts.{ends_from}

pub words_joined : (ks js : Kinds) → words_in_all (join ks js) ≡ words_in_all ks + words_in_all js
unfolding words_in_all join
words_joined NoKinds js = omega arith
words_joined (AndKind k ks) js = omega (arith, words_joined ks js)

pub ends_joined : (n : ℕ) (ks js : Kinds) → ends_from n (join ks js) ≡ ends_from n ks ++ ends_from (n + words_in_all ks) js
unfolding ends_from words_in_all join
ends_joined n NoKinds js = let same : n ≡ n + 0 = omega arith in ap (λ k. ends_from k js) same
ends_joined n (AndKind k ks) js =
    let same : (n + words_in k) + words_in_all ks ≡ n + (words_in k + words_in_all ks) = omega arith in
    ap (λ es. (n + words_in k) ∷ es) (ends_joined (n + words_in k) ks js ∙ ap (λ j. ends_from (n + words_in k) ks ++ ends_from j js) same)

-- the words before a variable, and behind the last one all
pub start_at : (n : ℕ) (ks : Kinds) (at start : ℕ) → slice_get (n ∷ ends_from n ks) at ≡ Some start → start ≡ n + words_before ks at
unfolding ends_from words_before
start_at n NoKinds zero start h = let found : Some n ≡ Some start = h in let same : n ≡ start = cc in omega arith
start_at n NoKinds (suc at) start h = let none : None ≡ Some start = h in cc
start_at n (AndKind k ks) zero start h = let found : Some n ≡ Some start = h in let same : n ≡ start = cc in omega arith
start_at n (AndKind k ks) (suc at) start h = omega (arith, start_at (n + words_in k) ks at start h)

pub start_behind : (n : ℕ) (ks : Kinds) (at : ℕ) → slice_get (n ∷ ends_from n ks) at ≡ None → words_before ks at ≡ words_in_all ks
unfolding ends_from words_before words_in_all
start_behind n NoKinds at h = refl
start_behind n (AndKind k ks) zero h = let none : Some n ≡ None = h in cc
start_behind n (AndKind k ks) (suc at) h = ap (λ m. words_in k + m) (start_behind (n + words_in k) ks at h)

pub before_within : (ks : Kinds) (at : ℕ) → words_before ks at ≤ words_in_all ks
unfolding words_before words_in_all
before_within NoKinds at = omega arith
before_within (AndKind k ks) zero = omega arith
before_within (AndKind k ks) (suc at) = omega (arith, before_within ks at)

between : (ks : Kinds) (at : ℕ) → words_before ks (suc at) ≡ words_before ks at + words_at ks at
unfolding words_before
between NoKinds at = omega arith
between (AndKind k NoKinds) zero = omega arith
between (AndKind k (AndKind j js)) zero = omega arith
between (AndKind k ks) (suc at) = omega (arith, between ks at)

pub words_between : (ks : Kinds) (at : ℕ) → words_before ks (at + 1) ≡ words_before ks at + words_at ks at
words_between ks at = let same : at + 1 ≡ suc at = omega arith in ap (words_before ks) same ∙ between ks at

pub words_from_on : (ks : Kinds) (first count : ℕ) → words_before ks (first + count) ≡ words_before ks first + words_from ks first count
words_from_on ks first zero = let same : first + 0 ≡ first = omega arith in ap (words_before ks) same ∙ omega arith
words_from_on ks first (suc count) =
    let same : first + suc count ≡ suc first + count = omega arith in
    ap (words_before ks) same ∙ omega (arith, words_from_on ks (suc first) count, between ks first)

-- a field's words are those of its type
pub field_words : (f : FieldType) → words_in (field_kind f) ≡ words_of f.kind
field_words f = rw fold_out-FieldType (kind_words f.kind)

pub ends_with : (n : ℕ) (f : FieldType) (fs : List FieldType)
    → ends_from n (kinds_of (f ∷ fs)) ≡ (n + words_of f.kind) ∷ ends_from (n + words_of f.kind) (kinds_of fs)
unfolding ends_from
ends_with n f fs = ap (λ w. (n + w) ∷ ends_from (n + w) (kinds_of fs)) (field_words f)

pub words_with : (f : FieldType) (fs : List FieldType) → words_in_all (kinds_of (f ∷ fs)) ≡ words_of f.kind + words_in_all (kinds_of fs)
unfolding words_in_all
words_with f fs = ap (λ w. w + words_in_all (kinds_of fs)) (field_words f)

-- a field that is read in its place, and what lies behind it
pub from_field : (fs : List FieldType) (i : ℕ) (f : FieldType) → i < length fs → f ≡ get_or fs i f → drop i fs ≡ f ∷ drop (i + 1) fs
from_field fs i f lt is = rw add-one (drop-cons fs i f lt ∙ ap (λ x. x ∷ drop (suc i) fs) (sym is))

pub words_left : (fs : List FieldType) (i : ℕ) (f : FieldType) (w : ℕ) → drop i fs ≡ f ∷ drop (i + 1) fs → w ≡ min (words_of f.kind) 4294967295
    → words_in_all (kinds_of (drop i fs)) ≤ 65535 → words_in_all (kinds_of (drop i fs)) ≡ w + words_in_all (kinds_of (drop (i + 1) fs))
words_left fs i f w split is small =
    let whole : words_in_all (kinds_of (drop i fs)) ≡ words_of f.kind + words_in_all (kinds_of (drop (i + 1) fs))
    = ap (λ l. words_in_all (kinds_of l)) split ∙ words_with f (drop (i + 1) fs) in
    omega arith

pub ends_left : (fs : List FieldType) (i : ℕ) (f : FieldType) (w end : ℕ) → drop i fs ≡ f ∷ drop (i + 1) fs → w ≡ min (words_of f.kind) 4294967295
    → words_in_all (kinds_of (drop i fs)) ≤ 65535
    → ends_from end (kinds_of (drop i fs)) ≡ (end + w) ∷ ends_from (end + w) (kinds_of (drop (i + 1) fs))
ends_left fs i f w end split is small =
    let whole : words_in_all (kinds_of (drop i fs)) ≡ words_of f.kind + words_in_all (kinds_of (drop (i + 1) fs))
    = ap (λ l. words_in_all (kinds_of l)) split ∙ words_with f (drop (i + 1) fs) in
    let same : words_of f.kind ≡ w = omega arith in
    ap (λ l. ends_from end (kinds_of l)) split ∙ ends_with end f (drop (i + 1) fs)
    ∙ ap (λ m. (end + m) ∷ ends_from (end + m) (kinds_of (drop (i + 1) fs))) same

-- those of three lists, one behind the other
pub ends_of_three : (ks js is : Kinds) → ends_from 0 (join ks (join js is))
    ≡ (ends_from 0 ks ++ ends_from (words_in_all ks) js) ++ ends_from (words_in_all ks + words_in_all js) is
ends_of_three ks js is =
    let none : 0 + words_in_all ks ≡ words_in_all ks = omega arith in
    ends_joined 0 ks (join js is)
    ∙ ap (λ n. ends_from 0 ks ++ ends_from n (join js is)) none
    ∙ ap (λ es. ends_from 0 ks ++ es) (ends_joined (words_in_all ks) js is)
    ∙ sym (append_assoc (ends_from 0 ks) (ends_from (words_in_all ks) js) (ends_from (words_in_all ks + words_in_all js) is))

pub words_of_three : (ks js is : Kinds) → words_in_all (join ks (join js is)) ≡ words_in_all ks + words_in_all js + words_in_all is
words_of_three ks js is = omega (arith, words_joined ks (join js is), words_joined js is)
