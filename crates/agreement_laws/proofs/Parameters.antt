-- Values put into some variables of a frame, from one on: the parameters of an arm, and results.
use Rattle.std.proofs.Common.{◌≡◌, ⊎_elim, inl, inr, ℕ, zero, suc, ◌+◌, ◌-◌, ◌<◌, ◌≤◌, ◌⊎◌, List, refl, sym, ap, ◌∙◌, subst, arith}
use Rattle.std.specs.Prelude.{nat_lt, if◌then◌else◌}
use Rattle.std.proofs.lemmas.Bool.{cases_lt, lt-ltb, le-ltb}
use Rattle.mesa_types.specs.Typed.{Kind, Kinds, NoKinds, AndKind}
use Rattle.mesa_types.specs.Shapes.{words_in, words_in_all, words_before, count_in, KindAt}
use Rattle.mesa_types.specs.Sound.{Scope, LocalsFrom}
use Rattle.source_meaning.specs.Value.{Values, AndValue, how_many, with_nth, with_from, some_from}
use Rattle.machine_rules.specs.Words.{put_words}
use Rattle.code_rules.specs.Slots.{words_at, words_from}
use Rattle.agreement_rules.specs.Layout.{Strings, Slots, slots_of, value_at, values_at, Show}
use Rattle.agreement_rules.specs.Operators.{Lies}
use Rattle.agreement_rules.proofs.Memory.{put_below, put_here, put_beyond}
use Rattle.agreement_rules.proofs.Values.{value_same, values_same, kind_within, nth_value}

-- kinds of variables from one on
abbrev pub AllFrom : Kinds → ℕ → Kinds → Type 0
AllFrom all n NoKinds = Unit {0}
AllFrom all n (AndKind k ks) = KindAt all n k × AllFrom all (suc n) ks

pub locals_from : (Γ : Scope) (n : ℕ) (ks : Kinds) → LocalsFrom Γ n ks → AllFrom Γ.locals n ks
unfolding LocalsFrom
locals_from Γ n NoKinds h = tt
locals_from Γ n (AndKind k ks) h = (h.0, locals_from Γ (suc n) ks h.1)

pub from_by : (all js : Kinds) (n : ℕ) → ((i : ℕ) (k : Kind) → KindAt js i k → KindAt all (n + i) k) → AllFrom all n js
unfolding KindAt
from_by all NoKinds n h = tt
from_by all (AndKind k js) n h =
    let here : n + 0 ≡ n = omega arith in (
      subst (λ x. KindAt all x k) here (h 0 k refl),
      from_by all js (suc n)
          (λ i j l. let e : n + suc i ≡ suc n + i = omega arith in subst (λ x. KindAt all x j) e (h (suc i) j l)),
    )

pub from_first : (ks : Kinds) → AllFrom ks 0 ks
from_first ks = from_by ks ks 0 (λ i k h. let e : i ≡ 0 + i = omega arith in subst (λ x. KindAt ks x k) e h)

-- their words

before_next : (all : Kinds) (n : ℕ) (k : Kind) → KindAt all n k → words_before all (suc n) ≡ words_before all n + words_in k
unfolding KindAt words_before
before_next NoKinds n k h = absurd h
before_next (AndKind j NoKinds) zero k h = let e = ap words_in h in omega (arith, e)
before_next (AndKind j (AndKind i ks)) zero k h = let e = ap words_in h in omega (arith, e)
before_next (AndKind j ks) (suc n) k h = let e = before_next ks n k h in omega (arith, e)

pub word_count : (all : Kinds) (n : ℕ) (k : Kind) → KindAt all n k → words_at all n ≡ words_in k
unfolding KindAt
word_count NoKinds n k h = absurd h
word_count (AndKind j ks) zero k h = ap words_in h
word_count (AndKind j ks) (suc n) k h = word_count ks n k h

pub from_words : (all : Kinds) (n : ℕ) (ks : Kinds) → AllFrom all n ks → words_from all n (count_in ks) ≡ words_in_all ks
unfolding count_in words_in_all
from_words all n NoKinds h = refl
from_words all n (AndKind k ks) h =
    let c : 1 + count_in ks ≡ suc (count_in ks) = omega arith in
    let a = word_count all n k h.0 in let b = from_words all (suc n) ks h.1 in
    ap (λ x. words_from all n x) c ∙ omega (arith, a, b)

pub from_within : (all : Kinds) (n : ℕ) (ks : Kinds) → AllFrom all n ks → (words_in_all ks ≡ 0) ⊎ (words_before all n + words_in_all ks ≤ words_in_all all)
unfolding words_in_all
from_within all n NoKinds h = inl refl
from_within all n (AndKind k ks) h =
    let x = kind_within all n k h.0 in let y = before_next all n k h.0 in
    inr (⊎_elim (λ (e : words_in_all ks ≡ 0). omega (arith, e, x)) (λ l. omega (arith, l, y)) (from_within all (suc n) ks h.1))

-- their values

pub how_many_values : (texts : Strings) (m : Slots) (s : ℕ) (ks : Kinds) → how_many (values_at texts m s ks) ≡ count_in ks
unfolding how_many values_at count_in
how_many_values texts m s NoKinds = refl
how_many_values texts m s (AndKind k ks) = let e = how_many_values texts m (s + words_in k) ks in omega (arith, e)

pub some_values : (texts : Strings) (m : Slots) (s : ℕ) (all : Kinds) (n : ℕ) (js : Kinds) → AllFrom all n js
    → some_from (values_at texts m s all) n (count_in js) ≡ values_at texts m (s + words_before all n) js
unfolding count_in some_from values_at
some_values texts m s all n NoKinds h = refl
some_values texts m s all n (AndKind k js) h =
    let next = before_next all n k h.0 in
    let e : s + words_before all (suc n) ≡ (s + words_before all n) + words_in k = omega (arith, next) in
    let c : 1 + count_in js ≡ suc (count_in js) = omega arith in
    ap (λ x. some_from (values_at texts m s all) n x) c
    ∙ ap (λ v. AndValue v (some_from (values_at texts m s all) (suc n) (count_in js))) (nth_value texts m s all n k h.0)
    ∙ ap (λ vs. AndValue (value_at texts m (s + words_before all n) k) vs) (some_values texts m s all (suc n) js h.1 ∙ ap (λ x. values_at texts m x js) e)

before_first : (ks : Kinds) → words_before ks 0 ≡ 0
unfolding words_before
before_first NoKinds = refl
before_first (AndKind k ks) = refl

-- as many as there are
pub some_all : (texts : Strings) (m : Slots) (ks : Kinds) → some_from (values_at texts m 0 ks) 0 (count_in ks) ≡ values_at texts m 0 ks
some_all texts m ks =
    let b = before_first ks in
    let e : 0 + words_before ks 0 ≡ 0 = omega (arith, b) in
    some_values texts m 0 ks 0 ks (from_first ks) ∙ ap (λ x. values_at texts m x ks) e

pub with_value : (texts : Strings) (m m' : Slots) (s : ℕ) (all : Kinds) (n : ℕ) (k : Kind) → KindAt all n k
    → ((i : ℕ) → i < words_in_all all → (i < words_before all n) ⊎ (words_before all n + words_in k ≤ i) → m' (s + i) ≡ m (s + i))
    → with_nth (values_at texts m s all) n (value_at texts m' (s + words_before all n) k) ≡ values_at texts m' s all
unfolding with_nth values_at KindAt words_before words_in_all
with_value texts m m' s NoKinds n k h a = absurd h
with_value texts m m' s (AndKind j ks) zero k h a =
    let e : s + 0 ≡ s = omega arith in
    let words = ap words_in h in
    ap (λ v. AndValue v (values_at texts m (s + words_in j) ks)) (ap (λ x. value_at texts m' x k) e ∙ ap (λ x. value_at texts m' s x) (sym h))
    ∙ ap (λ vs. AndValue (value_at texts m' s j) vs) (values_same texts m m' (s + words_in j) (s + words_in j) ks (λ i lt.
    let f : s + (words_in j + i) ≡ (s + words_in j) + i = omega arith in
    ap m (sym f) ∙ sym (a (words_in j + i) (omega (arith, lt)) (inr (omega (arith, words)))) ∙ ap m' f))
with_value texts m m' s (AndKind j ks) (suc n) k h a =
    let e : s + (words_in j + words_before ks n) ≡ (s + words_in j) + words_before ks n = omega arith in
    ap (λ x. AndValue (value_at texts m s j) (with_nth (values_at texts m (s + words_in j) ks) n (value_at texts m' x k))) e
    ∙ ap (λ vs. AndValue (value_at texts m s j) vs) (with_value texts m m' (s + words_in j) ks n k h (λ i lt d.
    let f : s + (words_in j + i) ≡ (s + words_in j) + i = omega arith in
    ap m' (sym f) ∙ a (words_in j + i) (omega (arith, lt)) (⊎_elim (λ (x : i < words_before ks n). inl (omega (arith, x))) (λ x. inr (omega (arith, x))) d)
    ∙ ap m f))
    ∙ ap (λ v. AndValue v (values_at texts m' (s + words_in j) ks))
    (value_same texts m m' s s j (λ i lt. sym (a i (omega (arith, lt)) (inl (omega (arith, lt))))))

-- one of two below and from a slot on
abbrev mixed : Slots → Slots → ℕ → Slots
mixed m m' s i = if nat_lt i s then m' i else m i

mixed_low : (m m' : Slots) (s i : ℕ) → i < s → mixed m m' s i ≡ m' i
mixed_low m m' s i lt = ap (λ b. if b then m' i else m i) (lt-ltb i s lt)

mixed_high : (m m' : Slots) (s i : ℕ) → s ≤ i → mixed m m' s i ≡ m i
mixed_high m m' s i le = ap (λ b. if b then m' i else m i) (le-ltb i s le)

pub with_values : (texts : Strings) (m m' : Slots) (s : ℕ) (all : Kinds) (n : ℕ) (js : Kinds) → AllFrom all n js
    → ((i : ℕ) → i < words_in_all all → (i < words_before all n) ⊎ (words_before all n + words_in_all js ≤ i) → m' (s + i) ≡ m (s + i))
    → with_from (values_at texts m s all) n (values_at texts m' (s + words_before all n) js) ≡ values_at texts m' s all
unfolding with_from values_at words_in_all
with_values texts m m' s all n NoKinds h a =
    values_same texts m m' s s all (λ i lt. sym
    (a i lt (⊎_elim (λ (x : i < words_before all n). inl x) (λ (y : words_before all n ≤ i). inr (omega (arith, y))) (cases_lt i (words_before all n)))))
with_values texts m m' s all n (AndKind k js) h a =
    let b = words_before all n in
    let nx : words_before all (suc n) ≡ b + words_in k = before_next all n k h.0 in
    let z = s + words_before all (suc n) in
    let m1 = mixed m m' z in
    let e : (s + b) + words_in k ≡ z = omega (arith, nx) in
    let part : value_at texts m' (s + b) k ≡ value_at texts m1 (s + b) k =
    value_same texts m' m1 (s + b) (s + b) k (λ i lt. sym (mixed_low m m' z ((s + b) + i) (omega (arith, lt, nx)))) in
    let first : with_nth (values_at texts m s all) n (value_at texts m' (s + b) k) ≡ values_at texts m1 s all =
    ap (λ v. with_nth (values_at texts m s all) n v) part
    ∙ with_value texts m m1 s all n k h.0 (λ i lt d. ⊎_elim
    (λ (x : i < b). mixed_low m m' z (s + i) (omega (arith, x, nx)) ∙ a i lt (inl x))
    (λ (x : b + words_in k ≤ i). mixed_high m m' z (s + i) (omega (arith, x, nx))) d) in
    ap (λ vs. with_from vs (suc n) (values_at texts m' ((s + b) + words_in k) js)) first
    ∙ ap (λ x. with_from (values_at texts m1 s all) (suc n) (values_at texts m' x js)) e
    ∙ with_values texts m1 m' s all (suc n) js h.1 (λ i lt d. ⊎_elim
    (λ (x : i < words_before all (suc n)). sym (mixed_low m m' z (s + i) (omega (arith, x))))
    (λ (x : words_before all (suc n) + words_in_all js ≤ i).
    a i lt (inr (omega (arith, x, nx))) ∙ sym (mixed_high m m' z (s + i) (omega (arith, x)))) d)

-- Words put in their slots are the values put into the variables.

module _ (texts : Strings) (all : Kinds) (old : List ℕ) (n : ℕ) (ks : Kinds) (vs : Values) (words : List ℕ) (from : AllFrom all n ks)
    (shown : Show texts ks vs words) where
  abbrev pub new : List ℕ
  new = put_words old (words_before all n) words

  pub put_other : (i : ℕ) → (i < words_before all n) ⊎ (words_before all n + words_in_all ks ≤ i) → slots_of new i ≡ slots_of old i
  put_other i d =
      let size = shown.size in
      ⊎_elim (λ (x : i < words_before all n). put_below old (words_before all n) words i x)
      (λ x. put_beyond old (words_before all n) words i (omega (arith, x, size))) d

  -- words behind the variables stay
  pub put_behind : (i : ℕ) → words_in_all all ≤ i → slots_of new i ≡ slots_of old i
  put_behind i le = put_other i (⊎_elim
      (λ (x : words_in_all ks ≡ 0). ⊎_elim (λ (l : i < words_before all n). inl l) (λ (g : words_before all n ≤ i). inr (omega (arith, g, x)))
      (cases_lt i (words_before all n)))
      (λ x. inr (omega (arith, x, le)))
      (from_within all n ks from))

  put_small : (i : ℕ) → ((j : ℕ) → j < words_in_all all → slots_of old j < 65536) → i < words_in_all all → slots_of new i < 65536
  put_small i small lt =
      let size = shown.size in
      let b = words_before all n in
      ⊎_elim
      (λ (x : i < b). let e = put_other i (inl x) in let l = small i lt in omega (arith, e, l))
      (λ (g : b ≤ i). ⊎_elim
      (λ (x : i < b + words_in_all ks).
      let is : b + (i - b) ≡ i = omega (arith, g) in
      let e = ap (λ j. slots_of new j) (sym is) ∙ put_here old b words (i - b) (omega (arith, g, x, size)) in
      let l = shown.small (i - b) in omega (arith, e, l))
      (λ (x : b + words_in_all ks ≤ i). let e = put_other i (inr x) in let l = small i lt in omega (arith, e, l))
      (cases_lt i (b + words_in_all ks)))
      (cases_lt i b)

  pub put_lies : (variables : Values) → Lies texts all variables old → Lies texts all (with_from variables n vs) new
  put_lies variables lies = record {
    worth =
        let b = words_before all n in
        let size = shown.size in
        ap (λ v. with_from v n vs) lies.worth
        ∙ ap (λ v. with_from (values_at texts (slots_of old) 0 all) n v) (shown.worth ∙ values_same texts (slots_of words) (slots_of new) 0 (0 + b) ks (λ i lt.
        let e : 0 + i ≡ i = omega arith in let f : b + i ≡ (0 + b) + i = omega arith in
        ap (λ j. slots_of words j) e ∙ sym (put_here old b words i (omega (arith, lt, size))) ∙ ap (λ j. slots_of new j) f))
        ∙ with_values texts (slots_of old) (slots_of new) 0 all n ks from (λ i lt d.
        let e : 0 + i ≡ i = omega arith in ap (λ j. slots_of new j) e ∙ put_other i d ∙ ap (λ j. slots_of old j) (sym e));
    small = λ i lt. put_small i lies.small lt;
  }
