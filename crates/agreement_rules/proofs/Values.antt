-- Values read out of words: where their parts lie.
use Rattle.std.proofs.Common.{◌≡◌, ℕ, zero, suc, ◌+◌, ◌*◌, ◌<◌, ◌≤◌, List, [], ◌∷◌, length, refl, sym, ap, ◌∙◌, ⊎_elim, arith}
use Rattle.std.specs.Prelude.{slice_index}
use Rattle.std.proofs.lemmas.Bool.{cases_lt}
use Rattle.mesa_types.specs.Typed.{Kind, Ordinal, Longs, Texts, Array, Record, Kinds, NoKinds, AndKind}
use Rattle.mesa_types.specs.Longs.{long_of}
use Rattle.mesa_types.specs.Shapes.{one, words_in, words_in_all, words_before, KindAt}
use Rattle.source_meaning.specs.Value.{Value, Word, Long, Text, Many, NoValues, AndValue, nth, parts, part_at}
use Rattle.source_meaning.specs.Value as value
use Rattle.machine_rules.specs.Words.{words_at}
use Rattle.agreement_rules.specs.Layout.{Strings, Slots, Small, slots_of, each, value_at, values_at, Show}
use Rattle.agreement_rules.specs.Operators.{PathAt}
use Rattle.agreement_rules.proofs.Memory.{read_long, read_slots}

each_same : (n : ℕ) (f g : ℕ → Value) → ((i : ℕ) → i < n → f i ≡ g i) → each n f ≡ each n g
unfolding each
each_same zero f g h = refl
each_same (suc n) f g h =
    ap (λ v. AndValue v (each n (λ i. f (suc i)))) (h 0 (omega arith))
    ∙ ap (λ vs. AndValue (g 0) vs) (each_same n (λ i. f (suc i)) (λ i. g (suc i)) (λ i lt. h (suc i) (omega arith)))

nth_each : (n : ℕ) (f : ℕ → Value) (i : ℕ) → i < n → nth (each n f) i ≡ f i
unfolding each nth
nth_each zero f i lt = absurd (omega arith)
nth_each (suc n) f zero lt = refl
nth_each (suc n) f (suc i) lt = nth_each n (λ j. f (suc j)) i (omega arith)

-- the words of an element end within the array's
element_ends : (i n w : ℕ) → i < n → i * w + w ≤ n * w
element_ends i zero w lt = absurd (omega arith)
element_ends i (suc n) w lt =
    let e : suc n * w ≡ n * w + w = grind arith in
    ⊎_elim (λ (l : i < n). let x = element_ends i n w l in omega arith) (λ (g : n ≤ i). let d : i ≡ n = omega arith in rw d (omega arith)) (cases_lt i n)

mutual
  unfolding value_at words_in

  -- the same words make the same value
  pub value_same : (texts : Strings) (m m' : Slots) (s s' : ℕ) (k : Kind) → ((i : ℕ) → i < words_in k → m (s + i) ≡ m' (s' + i))
      → value_at texts m s k ≡ value_at texts m' s' k
  value_same texts m m' s s' Ordinal h = ap Word (ap m (omega arith) ∙ h 0 (omega arith) ∙ ap m' (omega arith))
  value_same texts m m' s s' Longs h =
      let e : m s ≡ m' s' = ap m (omega arith) ∙ h 0 (omega arith) ∙ ap m' (omega arith) in
      ap (λ x. Long (long_of x (m (s + 1)))) e ∙ ap (λ y. Long (long_of (m' s') y)) (h 1 (omega arith))
  value_same texts m m' s s' Texts h =
      let e : m s ≡ m' s' = ap m (omega arith) ∙ h 0 (omega arith) ∙ ap m' (omega arith) in
      ap (λ x. Text (texts x (m (s + 1)))) e ∙ ap (λ y. Text (texts (m' s') y)) (h 1 (omega arith))
  value_same texts m m' s s' (Array n k) h =
      ap Many (each_same n (λ i. value_at texts m (s + i * words_in k) k) (λ i. value_at texts m' (s' + i * words_in k) k) (λ i lt.
      value_same texts m m' (s + i * words_in k) (s' + i * words_in k) k (λ j l.
      let x = element_ends i n (words_in k) lt in
      ap m (omega arith) ∙ h (i * words_in k + j) (omega arith) ∙ ap m' (omega arith))))
  value_same texts m m' s s' (Record ks) h = ap Many (values_same texts m m' s s' ks h)

  pub values_same : (texts : Strings) (m m' : Slots) (s s' : ℕ) (ks : Kinds) → ((i : ℕ) → i < words_in_all ks → m (s + i) ≡ m' (s' + i))
      → values_at texts m s ks ≡ values_at texts m' s' ks
  values_same texts m m' s s' NoKinds h = refl
  values_same texts m m' s s' (AndKind k ks) h =
      ap (λ v. AndValue v (values_at texts m (s + words_in k) ks)) (value_same texts m m' s s' k (λ i lt. h i (omega arith)))
      ∙ ap (λ vs. AndValue (value_at texts m' s' k) vs) (values_same texts m m' (s + words_in k) (s' + words_in k) ks (λ i lt.
      ap m (omega arith) ∙ h (words_in k + i) (omega arith) ∙ ap m' (omega arith)))

pub kind_within : (ks : Kinds) (n : ℕ) (k : Kind) → KindAt ks n k → words_before ks n + words_in k ≤ words_in_all ks
unfolding KindAt words_before words_in_all
kind_within NoKinds n k h = absurd h
kind_within (AndKind j ks) zero k h = let e = ap words_in h in omega arith
kind_within (AndKind j ks) (suc n) k h = let x = kind_within ks n k h in omega arith

pub nth_value : (texts : Strings) (m : Slots) (s : ℕ) (ks : Kinds) (n : ℕ) (k : Kind) → KindAt ks n k
    → nth (values_at texts m s ks) n ≡ value_at texts m (s + words_before ks n) k
unfolding KindAt words_before values_at nth
nth_value texts m s NoKinds n k h = absurd h
nth_value texts m s (AndKind j ks) zero k h =
    let e : s ≡ s + 0 = omega arith in ap (λ x. value_at texts m s x) h ∙ ap (λ x. value_at texts m x k) e
nth_value texts m s (AndKind j ks) (suc n) k h = nth_value texts m (s + words_in j) ks n k h ∙ ap (λ x. value_at texts m x k) (omega arith)

-- A part along a path.

pub path_within : (path : List ℕ) (j k : Kind) (d : ℕ) → PathAt path j k d → d + words_in k ≤ words_in j
unfolding PathAt words_in
path_within [] j k d h = let e = ap words_in h.0 in omega (arith, h.1)
path_within (n ∷ path) Ordinal k d h = absurd h
path_within (n ∷ path) Longs k d h = absurd h
path_within (n ∷ path) Texts k d h = absurd h
path_within (n ∷ path) (Record ks) k d h =
    let x = path_within path h.0 k h.1 h.3 in
    let y = kind_within ks n h.0 h.2 in omega (arith, h.4)
path_within (n ∷ path) (Array count part) k d h =
    let x = path_within path part k h.0 h.2 in
    let y = element_ends n count (words_in part) h.1 in omega (arith, h.3)

pub path_value : (texts : Strings) (m : Slots) (s : ℕ) (path : List ℕ) (j k : Kind) (d : ℕ) → PathAt path j k d
    → part_at path (value_at texts m s j) ≡ value_at texts m (s + d) k
unfolding PathAt part_at value_at parts
path_value texts m s [] j k d h = let e : s ≡ s + d = omega (arith, h.1) in ap (λ x. value_at texts m s x) h.0 ∙ ap (λ x. value_at texts m x k) e
path_value texts m s (n ∷ path) Ordinal k d h = absurd h
path_value texts m s (n ∷ path) Longs k d h = absurd h
path_value texts m s (n ∷ path) Texts k d h = absurd h
path_value texts m s (n ∷ path) (Record ks) k d h =
    let e : (s + words_before ks n) + h.1 ≡ s + d = omega (arith, h.4) in
    ap (λ v. part_at path v) (nth_value texts m s ks n h.0 h.2) ∙ path_value texts m (s + words_before ks n) path h.0 k h.1 h.3
    ∙ ap (λ x. value_at texts m x k) e
path_value texts m s (n ∷ path) (Array count part) k d h =
    let e : (s + n * words_in part) + h.0 ≡ s + d = omega (arith, h.3) in
    ap (λ v. part_at path v) (nth_each count (λ i. value_at texts m (s + i * words_in part) part) n h.1)
    ∙ path_value texts m (s + n * words_in part) path part k h.0 h.2 ∙ ap (λ x. value_at texts m x k) e

-- Words that were read.

pub small_words : (ws : List ℕ) → ((n : ℕ) → n < length ws → slots_of ws n < 65536) → Small (slots_of ws)
unfolding slots_of
small_words [] h zero = omega arith
small_words [] h (suc n) = omega arith
small_words (w ∷ ws) h zero = h 0 (omega arith)
small_words (w ∷ ws) h (suc n) = small_words ws (λ i lt. h (suc i) (omega arith)) n

pub read_shows : (texts : Strings) (words : List ℕ) (s : ℕ) (k : Kind) → ((i : ℕ) → i < words_in k → slots_of words (s + i) < 65536)
    → Show texts (one k) (value.one (value_at texts (slots_of words) s k)) (words_at words s (words_in k))
unfolding one value.one values_at words_in_all
read_shows texts words s k small = record {
  size = read_long words s (words_in k) ∙ omega arith;
  worth = ap (λ v. AndValue v NoValues) (value_same texts (slots_of words) (slots_of (words_at words s (words_in k))) s 0 k (λ i lt.
      sym (read_slots words s (words_in k) i lt) ∙ ap (λ j. slots_of (words_at words s (words_in k)) j) (omega arith)));
  small = small_words (words_at words s (words_in k)) (λ i lt.
      let l : i < words_in k = omega (arith, read_long words s (words_in k), lt) in
      let e = read_slots words s (words_in k) i l in
      let x = small i l in omega (arith, e, x));
}

pub two_show : (texts : Strings) (x y : ℕ) → x < 65536 → y < 65536 → Show texts (one Texts) (value.one (Text (texts x y))) (x ∷ y ∷ [])
unfolding one value.one values_at value_at words_in words_in_all slots_of
two_show texts x y lx ly = record { size = omega arith; worth = refl; small = small_words (x ∷ y ∷ []) (λ n lt. each_small n lt) }
  where
    each_small : (n : ℕ) → n < 2 → slice_index (x ∷ y ∷ []) n < 65536
    each_small zero lt = lx
    each_small (suc zero) lt = ly
    each_small (suc (suc n)) lt = absurd (omega arith)
