-- The words of a new frame, and of its results.
use Rattle.std.proofs.Common.{◌≡◌, ℕ, zero, suc, ◌+◌, ◌*◌, ◌<◌, ◌≤◌, List, [], ◌∷◌, ◌++◌, length, refl, sym, ap, ◌∙◌, subst, arith}
use Rattle.mesa_types.specs.Typed.{Kind, Ordinal, Longs, Texts, Array, Record, Kinds, NoKinds, AndKind}
use Rattle.mesa_types.specs.Longs.{long_of}
use Rattle.mesa_types.specs.Shapes.{words_in, words_in_all, words_before, count_in, KindAt}
use Rattle.mesa_types.specs.Shapes as shape
use Rattle.source_meaning.specs.Value.{Value, Word, Long, Text, Many, Values, AndValue, copies, zero_of, some_from}
use Rattle.source_meaning.specs.Value as value
use Rattle.machine_rules.specs.Words.{zeros, words_at}
use Rattle.agreement_rules.specs.Layout.{Strings, Slots, slots_of, each, value_at, values_at, Show}
use Rattle.agreement_rules.specs.Operators.{Lies}
use Rattle.agreement_rules.proofs.Memory.{no_slot, zeros_behind, read_long, read_slots}
use Rattle.agreement_rules.proofs.Values.{values_same, small_words}
use Rattle.agreement_laws.proofs.Parameters.{AllFrom, from_by, some_values}

-- Values of zeros.

copies_each : (n : ℕ) (v : Value) (f : ℕ → Value) → ((i : ℕ) → v ≡ f i) → copies n v ≡ each n f
unfolding copies each
copies_each zero v f h = refl
copies_each (suc n) v f h =
    ap (λ x. AndValue x (copies n v)) (h 0) ∙ ap (λ vs. AndValue (f 0) vs) (copies_each n v (λ i. f (suc i)) (λ i. h (suc i)))

abbrev ZerosFrom : Slots → ℕ → Type 0
ZerosFrom m s = (i : ℕ) → s ≤ i → m i ≡ 0

no_long : long_of 0 0 ≡ 0
unfolding long_of
no_long = refl

mutual
  unfolding zero_of value.zeros value_at

  zero_value : (texts : Strings) (m : Slots) (s : ℕ) (k : Kind) → texts 0 0 ≡ [] → ZerosFrom m s → zero_of k ≡ value_at texts m s k
  zero_value texts m s Ordinal e h = ap Word (sym (h s (omega arith)))
  zero_value texts m s Longs e h =
      ap Long (sym no_long ∙ ap (λ x. long_of x 0) (sym (h s (omega arith))) ∙ ap (λ y. long_of (m s) y) (sym (h (s + 1) (omega arith))))
  zero_value texts m s Texts e h =
      ap Text (sym e ∙ ap (λ x. texts x 0) (sym (h s (omega arith))) ∙ ap (λ y. texts (m s) y) (sym (h (s + 1) (omega arith))))
  zero_value texts m s (Array n k) e h =
      ap Many (copies_each n (zero_of k) (λ i. value_at texts m (s + i * words_in k) k)
      (λ i. zero_value texts m (s + i * words_in k) k e (λ j le. h j (omega (arith, le)))))
  zero_value texts m s (Record ks) e h = ap Many (zero_values texts m s ks e h)

  zero_values : (texts : Strings) (m : Slots) (s : ℕ) (ks : Kinds) → texts 0 0 ≡ [] → ZerosFrom m s → value.zeros ks ≡ values_at texts m s ks
  zero_values texts m s NoKinds e h = refl
  zero_values texts m s (AndKind k ks) e h =
      ap (λ v. AndValue v (value.zeros ks)) (zero_value texts m s k e h)
      ∙ ap (λ vs. AndValue (value_at texts m s k) vs) (zero_values texts m (s + words_in k) ks e (λ j le. h j (omega (arith, le))))

pub zeros_lie : (texts : Strings) (ks : Kinds) (k : ℕ) → texts 0 0 ≡ [] → Lies texts ks (value.zeros ks) (zeros k)
zeros_lie texts ks k e = record {
  worth = zero_values texts (slots_of (zeros k)) 0 ks e (λ i le. zeros_behind [] k i ∙ no_slot i);
  small = λ n lt. let x = zeros_behind [] k n in let y = no_slot n in omega (arith, x, y);
}

-- Values one behind the other.

values_join : (texts : Strings) (m : Slots) (s : ℕ) (ks js : Kinds)
    → values_at texts m s (shape.join ks js) ≡ value.join (values_at texts m s ks) (values_at texts m (s + words_in_all ks) js)
unfolding shape.join value.join values_at words_in_all
values_join texts m s NoKinds js = let e : s ≡ s + 0 = omega arith in ap (λ x. values_at texts m x js) e
values_join texts m s (AndKind k ks) js =
    let e : (s + words_in k) + words_in_all ks ≡ s + (words_in k + words_in_all ks) = omega arith in
    ap (λ vs. AndValue (value_at texts m s k) vs) (values_join texts m (s + words_in k) ks js
    ∙ ap (λ x. value.join (values_at texts m (s + words_in k) ks) (values_at texts m x js)) e)

pub words_join : (ks js : Kinds) → words_in_all (shape.join ks js) ≡ words_in_all ks + words_in_all js
unfolding shape.join words_in_all
words_join NoKinds js = omega arith
words_join (AndKind k ks) js = let e = words_join ks js in omega (arith, e)

past_end : (ws : List ℕ) (i : ℕ) → length ws ≤ i → slots_of ws i ≡ 0
unfolding slots_of
past_end [] i le = no_slot i
past_end (w ∷ ws) zero le = absurd (omega (arith, le))
past_end (w ∷ ws) (suc i) le = past_end ws i (omega (arith, le))

-- the arguments, and zeros
pub frame_lies : (texts : Strings) (takes rest : Kinds) (vs : Values) (ws : List ℕ) (k : ℕ) → texts 0 0 ≡ [] → Show texts takes vs ws
    → Lies texts (shape.join takes rest) (value.join vs (value.zeros rest)) (ws ++ zeros k)
frame_lies texts takes rest vs ws k e shown = record {
  worth =
      let new = slots_of (ws ++ zeros k) in
      let size = shown.size in
      ap (λ v. value.join v (value.zeros rest)) (shown.worth ∙ values_same texts (slots_of ws) new 0 0 takes (λ i lt. sym (zeros_behind ws k (0 + i))))
      ∙ ap (λ u. value.join (values_at texts new 0 takes) u) (zero_values texts new (0 + words_in_all takes) rest e (λ i le.
      zeros_behind ws k i ∙ past_end ws i (omega (arith, le, size))))
      ∙ sym (values_join texts new 0 takes rest);
  small = λ n lt. let x = zeros_behind ws k n in let l = shown.small n in omega (arith, x, l);
}

-- Results.

kind_behind : (pre js : Kinds) (n : ℕ) (k : Kind) → KindAt js n k → KindAt (shape.join pre js) (count_in pre + n) k
unfolding KindAt shape.join count_in
kind_behind NoKinds js n k h = let e : n ≡ 0 + n = omega arith in subst (λ x. KindAt js x k) e h
kind_behind (AndKind i pre) js n k h =
    let e : suc (count_in pre + n) ≡ (1 + count_in pre) + n = omega arith in
    subst (λ x. KindAt (AndKind i (shape.join pre js)) x k) e (kind_behind pre js n k h)

kind_before : (js post : Kinds) (n : ℕ) (k : Kind) → KindAt js n k → KindAt (shape.join js post) n k
unfolding KindAt shape.join
kind_before NoKinds post n k h = absurd h
kind_before (AndKind i js) post zero k h = h
kind_before (AndKind i js) post (suc n) k h = kind_before js post n k h

pub results_from : (takes gives rest : Kinds) → AllFrom (shape.join takes (shape.join gives rest)) (count_in takes) gives
results_from takes gives rest =
    from_by (shape.join takes (shape.join gives rest)) gives (count_in takes) (λ i k h.
    kind_behind takes (shape.join gives rest) i k (kind_before gives rest i k h))

pub before_join : (pre js : Kinds) → words_before (shape.join pre js) (count_in pre) ≡ words_in_all pre
unfolding words_before shape.join count_in words_in_all
before_join NoKinds NoKinds = refl
before_join NoKinds (AndKind k js) = refl
before_join (AndKind k pre) js =
    let e : 1 + count_in pre ≡ suc (count_in pre) = omega arith in
    ap (λ n. words_before (AndKind k (shape.join pre js)) n) e ∙ ap (λ n. words_in k + n) (before_join pre js)

show_read : (texts : Strings) (words : List ℕ) (s : ℕ) (ks : Kinds) → ((i : ℕ) → i < words_in_all ks → slots_of words (s + i) < 65536)
    → Show texts ks (values_at texts (slots_of words) s ks) (words_at words s (words_in_all ks))
show_read texts words s ks small =
    let n = words_in_all ks in
    record {
      size = read_long words s n;
      worth = values_same texts (slots_of words) (slots_of (words_at words s n)) s 0 ks (λ i lt.
          let e : i ≡ 0 + i = omega arith in sym (read_slots words s n i lt) ∙ ap (λ j. slots_of (words_at words s n) j) e);
      small = small_words (words_at words s n) (λ i lt.
          let long = read_long words s n in
          let l : i < n = omega (arith, long, lt) in
          let e = read_slots words s n i l in
          let x = small i l in omega (arith, e, x));
    }

-- the present values of the result variables are their words
pub results_show : (texts : Strings) (takes gives rest : Kinds) (vs : Values) (words : List ℕ) → Lies texts (shape.join takes (shape.join gives rest)) vs words
    → Show texts gives (some_from vs (count_in takes) (count_in gives)) (words_at words (words_in_all takes) (words_in_all gives))
results_show texts takes gives rest vs words lies =
    let all = shape.join takes (shape.join gives rest) in
    let long = words_join takes (shape.join gives rest) in
    let more = words_join gives rest in
    let before = before_join takes (shape.join gives rest) in
    let e : 0 + words_before all (count_in takes) ≡ words_in_all takes = omega (arith, before) in
    subst (λ v. Show texts gives v (words_at words (words_in_all takes) (words_in_all gives)))
    (sym (ap (λ v. some_from v (count_in takes) (count_in gives)) lies.worth
    ∙ some_values texts (slots_of words) 0 all (count_in takes) gives (results_from takes gives rest)
    ∙ ap (λ x. values_at texts (slots_of words) x gives) e))
    (show_read texts words (words_in_all takes) gives (λ i lt. lies.small (words_in_all takes + i) (omega (arith, lt, long, more))))
