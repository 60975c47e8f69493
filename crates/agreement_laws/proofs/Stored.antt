-- Words written into a part of a variable are those of the value with the part put in.
use Rattle.std.proofs.Common.{◌≡◌, ⊎_elim, inl, inr, ℕ, zero, suc, ◌+◌, ◌-◌, ◌*◌, ◌<◌, ◌≤◌, ◌⊎◌, List, [], ◌∷◌, length, refl, sym, ap, ◌∙◌, arith}
use Rattle.std.proofs.lemmas.Bool.{cases_lt}
use Rattle.mesa_types.specs.Typed.{Kind, Ordinal, Longs, Texts, Array, Record, Kinds}
use Rattle.mesa_types.specs.Shapes.{one, words_in, words_in_all, words_before, KindAt}
use Rattle.source_meaning.specs.Value.{Value, Many, Values, AndValue, nth, with_nth, parts, with_part}
use Rattle.source_meaning.specs.Value as value
use Rattle.machine_rules.specs.Words.{put_words}
use Rattle.agreement_rules.specs.Layout.{Strings, Slots, slots_of, each, value_at, values_at, Show}
use Rattle.agreement_rules.specs.Operators.{PathAt, Lies}
use Rattle.agreement_rules.proofs.Memory.{put_below, put_here, put_beyond}
use Rattle.agreement_rules.proofs.Values.{value_same, kind_within, nth_value, path_within}
use Rattle.agreement_laws.proofs.Parameters.{with_value}
use Rattle.agreement_laws.proofs.Shown.{the_value}

-- Elements by their number.

each_same : (n : ℕ) (f g : ℕ → Value) → ((i : ℕ) → i < n → f i ≡ g i) → each n f ≡ each n g
unfolding each
each_same zero f g h = refl
each_same (suc n) f g h =
    ap (λ v. AndValue v (each n (λ i. f (suc i)))) (h 0 (omega arith))
    ∙ ap (λ vs. AndValue (g 0) vs) (each_same n (λ i. f (suc i)) (λ i. g (suc i)) (λ i lt. h (suc i) (omega (arith, lt))))

nth_each : (n : ℕ) (f : ℕ → Value) (i : ℕ) → i < n → nth (each n f) i ≡ f i
unfolding each nth
nth_each zero f i lt = absurd (omega (arith, lt))
nth_each (suc n) f zero lt = refl
nth_each (suc n) f (suc i) lt = nth_each n (λ j. f (suc j)) i (omega (arith, lt))

with_each : (n : ℕ) (f g : ℕ → Value) (i : ℕ) → i < n → ((j : ℕ) → j < n → (j < i) ⊎ (i < j) → g j ≡ f j) → with_nth (each n f) i (g i) ≡ each n g
unfolding each with_nth
with_each zero f g i lt h = absurd (omega (arith, lt))
with_each (suc n) f g zero lt h =
    ap (λ vs. AndValue (g 0) vs) (each_same n (λ j. f (suc j)) (λ j. g (suc j)) (λ j k. sym (h (suc j) (omega (arith, k)) (inr (omega arith)))))
with_each (suc n) f g (suc i) lt h =
    ap (λ v. AndValue v (with_nth (each n (λ j. f (suc j))) i (g (suc i)))) (sym (h 0 (omega arith) (inl (omega arith))))
    ∙ ap (λ vs. AndValue (g 0) vs) (with_each n (λ j. f (suc j)) (λ j. g (suc j)) i (omega (arith, lt))
    (λ j k d. h (suc j) (omega (arith, k)) (⊎_elim (λ (x : j < i). inl (omega (arith, x))) (λ (x : i < j). inr (omega (arith, x))) d)))

-- the words of one element lie within the array's, and behind those of the elements before
in_block : (i n j w : ℕ) → i < n → j < w → i * w + j < n * w
in_block i zero j w lt k = absurd (omega arith)
in_block i (suc n) j w lt k =
    ⊎_elim
    (λ (l : i < n). let x = in_block i n j w l k in let e : suc n * w ≡ n * w + w = grind arith in omega arith)
    (λ (l : n ≤ i). let d : i ≡ n = omega arith in let e : suc n * w ≡ n * w + w = grind arith in rw d (omega arith))
    (cases_lt i n)

later_block : (n i j w : ℕ) → n < i → n * w + w ≤ i * w + j
later_block n zero j w lt = absurd (omega arith)
later_block n (suc i) j w lt =
    let e : suc i * w ≡ i * w + w = grind arith in
    ⊎_elim
    (λ (l : n < i). let x = later_block n i j w l in omega arith)
    (λ (l : i ≤ n). let d : n ≡ i = omega arith in rw d (omega arith))
    (cases_lt n i)

-- A part along a path.

-- on the words of a value both agree, but for those of a part
abbrev pub AgreeBut : Slots → Slots → (s size offset words : ℕ) → Type 0
AgreeBut m m' s size offset words = (i : ℕ) → i < size → (i < offset) ⊎ (offset + words ≤ i) → m' (s + i) ≡ m (s + i)

pub with_path : (texts : Strings) (m m' : Slots) (s : ℕ) (path : List ℕ) (j k : Kind) (d : ℕ) → PathAt path j k d → AgreeBut m m' s (words_in j) d (words_in k)
    → with_part path (value_at texts m s j) (value_at texts m' (s + d) k) ≡ value_at texts m' s j
unfolding PathAt with_part value_at parts words_in
with_path texts m m' s [] j k d h a =
    let e : s + d ≡ s = omega (arith, h.1) in ap (λ x. value_at texts m' x k) e ∙ ap (λ x. value_at texts m' s x) (sym h.0)
with_path texts m m' s (n ∷ path) Ordinal k d h a = absurd h
with_path texts m m' s (n ∷ path) Longs k d h a = absurd h
with_path texts m m' s (n ∷ path) Texts k d h a = absurd h
with_path texts m m' s (n ∷ path) (Record ks) k d h a =
    let b = words_before ks n in
    let e : s + d ≡ (s + b) + h.1 = omega (arith, h.4) in
    let le = kind_within ks n h.0 h.2 in
    let inside = path_within path h.0 k h.1 h.3 in
    let inner : with_part path (value_at texts m (s + b) h.0) (value_at texts m' ((s + b) + h.1) k) ≡ value_at texts m' (s + b) h.0 =
    with_path texts m m' (s + b) path h.0 k h.1 h.3 (λ i lt o.
    ap m' (omega arith) ∙ a (b + i) (omega arith) (⊎_elim (λ x. inl (omega (arith, h.4))) (λ x. inr (omega (arith, h.4))) o) ∙ ap m (omega arith)) in
    ap (λ x. Many (with_nth (values_at texts m s ks) n (with_part path (nth (values_at texts m s ks) n) (value_at texts m' x k)))) e
    ∙ ap (λ v. Many (with_nth (values_at texts m s ks) n (with_part path v (value_at texts m' ((s + b) + h.1) k)))) (nth_value texts m s ks n h.0 h.2)
    ∙ ap (λ v. Many (with_nth (values_at texts m s ks) n v)) inner
    ∙ ap Many (with_value texts m m' s ks n h.0 h.2 (λ i lt o. a i lt (⊎_elim (λ x. inl (omega (arith, h.4))) (λ x. inr (omega (arith, h.4))) o)))
with_path texts m m' s (n ∷ path) (Array c part) k d h a =
    let w = words_in part in
    let e : s + d ≡ (s + n * w) + h.0 = omega (arith, h.3) in
    let inside = path_within path part k h.0 h.2 in
    let f : ℕ → Value = λ i. value_at texts m (s + i * w) part in
    let g : ℕ → Value = λ i. value_at texts m' (s + i * w) part in
    let inner : with_part path (f n) (value_at texts m' ((s + n * w) + h.0) k) ≡ g n = with_path texts m m' (s + n * w) path part k h.0 h.2 (λ i lt o.
    ap m' (omega arith) ∙ a (n * w + i) (in_block n c i w h.1 lt) (⊎_elim (λ x. inl (omega (arith, h.3))) (λ x. inr (omega (arith, h.3))) o) ∙ ap m (omega arith)) in
    ap (λ x. Many (with_nth (each c f) n (with_part path (nth (each c f) n) (value_at texts m' x k)))) e
    ∙ ap (λ v. Many (with_nth (each c f) n (with_part path v (value_at texts m' ((s + n * w) + h.0) k)))) (nth_each c f n h.1)
    ∙ ap (λ v. Many (with_nth (each c f) n v)) inner
    ∙ ap Many (with_each c f g n h.1 (λ i lt o. sym (value_same texts m m' (s + i * w) (s + i * w) part (λ j l.
    ap m (omega arith) ∙ sym (a (i * w + j) (in_block i c j w lt l) (⊎_elim
    (λ x. inl (let y = in_block i n j w x l in omega (arith, h.3)))
    (λ x. inr (let y = later_block n i j w x in omega (arith, h.3))) o)) ∙ ap m' (omega arith)))))

-- Words put in the slots of a part.

one_words : (k : Kind) → words_in_all (one k) ≡ words_in k
unfolding words_in_all one
one_words k = omega arith

module _ (texts : Strings) (all : Kinds) (old : List ℕ) (n : ℕ) (j k : Kind) (path : List ℕ) (d : ℕ) (v : Value) (words : List ℕ) (there : KindAt all n j)
    (at : PathAt path j k d) (shown : Show texts (one k) (value.one v) words) where
  abbrev b : ℕ
  b = words_before all n

  abbrev pub new : List ℕ
  new = put_words old (b + d) words

  pub size : length words ≡ words_in k
  size = shown.size ∙ one_words k

  -- the part lies among the variables' words
  pub part_within : (b + d) + words_in k ≤ words_in_all all
  part_within = let x = kind_within all n j there in let y = path_within path j k d at in omega (arith, x, y)

  pub part_other : (i : ℕ) → (i < b + d) ⊎ ((b + d) + words_in k ≤ i) → slots_of new i ≡ slots_of old i
  part_other i o =
      ⊎_elim (λ (x : i < b + d). put_below old (b + d) words i x) (λ x. put_beyond old (b + d) words i (let s = size in omega (arith, x, s))) o

  pub part_behind : (i : ℕ) → words_in_all all ≤ i → slots_of new i ≡ slots_of old i
  part_behind i le = let x = part_within in part_other i (inr (omega (arith, x, le)))

  part_small : (i : ℕ) → ((z : ℕ) → z < words_in_all all → slots_of old z < 65536) → i < words_in_all all → slots_of new i < 65536
  part_small i small lt =
      let s = size in
      ⊎_elim
      (λ (x : i < b + d). let e = part_other i (inl x) in let l = small i lt in omega (arith, e, l))
      (λ (g : b + d ≤ i). ⊎_elim
      (λ (x : i < (b + d) + words_in k).
      let is : (b + d) + (i - (b + d)) ≡ i = omega (arith, g) in
      let e = ap (λ z. slots_of new z) (sym is) ∙ put_here old (b + d) words (i - (b + d)) (omega (arith, g, x, s)) in
      let l = shown.small (i - (b + d)) in omega (arith, e, l))
      (λ (x : (b + d) + words_in k ≤ i). let e = part_other i (inr x) in let l = small i lt in omega (arith, e, l))
      (cases_lt i ((b + d) + words_in k)))
      (cases_lt i (b + d))

  first_value : nth (value.one v) 0 ≡ v
  unfolding nth value.one
  first_value = refl

  got : value_at texts (slots_of new) ((0 + b) + d) k ≡ v
  unfolding nth value.one
  got =
      let s = size in
      value_same texts (slots_of new) (slots_of words) ((0 + b) + d) 0 k (λ i lt.
      let e : ((0 + b) + d) + i ≡ (b + d) + i = omega arith in let f : i ≡ 0 + i = omega arith in
      ap (λ z. slots_of new z) e ∙ put_here old (b + d) words i (omega (arith, lt, s)) ∙ ap (λ z. slots_of words z) f)
      ∙ ap (λ vs. nth vs 0) (sym (the_value texts k (value.one v) words shown))

  pub part_lies : (variables : Values) → Lies texts all variables old → Lies texts all (with_nth variables n (with_part path (nth variables n) v)) new
  part_lies variables lies = record {
    worth =
        let m = slots_of old in
        let m' = slots_of new in
        let inner : with_part path (value_at texts m (0 + b) j) v ≡ value_at texts m' (0 + b) j =
        ap (λ x. with_part path (value_at texts m (0 + b) j) x) (sym got)
        ∙ with_path texts m m' (0 + b) path j k d at (λ i lt o. part_other ((0 + b) + i) (⊎_elim (λ (x : i < d). inl (omega (arith, x))) (λ (x : d + words_in k ≤ i). inr (omega (arith, x))) o)) in
        ap (λ vs. with_nth vs n (with_part path (nth vs n) v)) lies.worth
        ∙ ap (λ x. with_nth (values_at texts m 0 all) n (with_part path x v)) (nth_value texts m 0 all n j there)
        ∙ ap (λ x. with_nth (values_at texts m 0 all) n x) inner
        ∙ with_value texts m m' 0 all n j there (λ i lt o.
        let y = path_within path j k d at in
        part_other (0 + i) (⊎_elim (λ (x : i < b). inl (omega (arith, x))) (λ (x : b + words_in j ≤ i). inr (omega (arith, x, y))) o));
    small = λ i lt. part_small i lies.small lt;
  }
