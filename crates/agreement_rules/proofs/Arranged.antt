-- Values in the order of the text come into the order of their places.
use Rattle.std.proofs.Common.{◌≡◌, ℕ, zero, suc, ◌+◌, ◌<◌, ◌≤◌, ◌⊎◌, List, [], ◌∷◌, ◌++◌, length, Bool, true, false, refl, sym, ap, ◌∙◌, subst, inl, inr, ⊎_elim, arith}
use Rattle.std.specs.Prelude.{Contains, nat_eq, if◌then◌else◌, take, drop}
use Rattle.std.proofs.lemmas.Bool.{cases_lt, eqb-true, eqb-false, eq-eqb}
use Rattle.std.proofs.lemmas.List.{take-append-drop}
use Rattle.mesa_types.specs.Typed.{Kind, Kinds, NoKinds, AndKind}
use Rattle.mesa_types.specs.Shapes.{words_in, words_in_all, count_in, KindAt}
use Rattle.mesa_types.specs.Sound.{AllDiffer, Placed, Arranged}
use Rattle.source_meaning.specs.Value.{Value, Values, NoValues, AndValue, find_place, arranged_from, arrange}
use Rattle.code_forms.specs.declared.instruction.Instruction.{Instruction}
use Rattle.machine_rules.specs.Words.{push}
use Rattle.code_rules.specs.OwnCode.{lift_code, total, size_for, size_after, without, rolls, arrange_from, arrange_code}
use Rattle.agreement_rules.specs.Layout.{Strings, Small, slots_of, value_at, values_at, Show}
use Rattle.agreement_rules.specs.Own.{Did, works_all, Given, Does}
use Rattle.agreement_rules.specs.Operators.{sizes_of, ValuesAreArranged}
use Rattle.agreement_rules.proofs.Memory.{slots_left, slots_right, append_nil, append_more, length_both, take_long, take_slots, drop_slots, no_slot, push_both}
use Rattle.agreement_rules.proofs.Values.{value_same, values_same, small_words}
use Rattle.agreement_rules.proofs.Leaves.{work}
use Rattle.agreement_rules.proofs.Intervals.{and_then, works_both}
use Rattle.agreement_rules.proofs.Rows.{lift_works, comes}

-- a value with its place, its kind and its words
record Entry (texts : Strings) : Type 0 where
  place : ℕ
  kind : Kind
  value : Value
  words : List ℕ
  size : length words ≡ words_in kind
  worth : value ≡ value_at texts (slots_of words) 0 kind
  small : Small (slots_of words)

abbrev places_of : {texts : Strings} → List (Entry texts) → List ℕ
places_of [] = []
places_of (e ∷ es) = e.place ∷ places_of es

abbrev lengths_of : {texts : Strings} → List (Entry texts) → List ℕ
lengths_of [] = []
lengths_of (e ∷ es) = length e.words ∷ lengths_of es

abbrev values_of : {texts : Strings} → List (Entry texts) → Values
values_of [] = NoValues
values_of (e ∷ es) = AndValue e.value (values_of es)

abbrev words_of : {texts : Strings} → List (Entry texts) → List ℕ
words_of [] = []
words_of (e ∷ es) = e.words ++ words_of es

abbrev Each : {texts : Strings} → (Entry texts → Type 0) → List (Entry texts) → Type 0
Each P [] = Unit {0}
Each P (e ∷ es) = P e × Each P es

-- no entry has this place
abbrev Free : {texts : Strings} → ℕ → List (Entry texts) → Type 0
Free q es = Each (λ e. e.place ≡ q → ⊥) es

abbrev Fresh : {texts : Strings} → List (Entry texts) → Type 0
Fresh [] = Unit {0}
Fresh (e ∷ es) = Free e.place es × Fresh es

abbrev Ranged : {texts : Strings} → (q n : ℕ) → List (Entry texts) → Type 0
Ranged q n es = Each (λ e. (q ≤ e.place) × (e.place < q + n)) es

-- the first entry of its place is taken out
data Out {texts : Strings} : List (Entry texts) → Entry texts → List (Entry texts) → Type 0 where
  here : {e : Entry texts} {es : List (Entry texts)} → Out (e ∷ es) e es
  later : {e f : Entry texts} {es rest : List (Entry texts)} → (f.place ≡ e.place → ⊥) → Out es e rest → Out (f ∷ es) e (f ∷ rest)

each_left : {texts : Strings} (P : Entry texts → Type 0) {es : List (Entry texts)} {e : Entry texts} {rest : List (Entry texts)}
    → Out es e rest → Each P es → P e × Each P rest
each_left P here h = h
each_left P (later d o) h = let x = each_left P o h.1 in (x.0, (h.0, x.1))

fresh_left : {texts : Strings} {es : List (Entry texts)} {e : Entry texts} {rest : List (Entry texts)}
    → Out es e rest → Fresh es → Fresh rest × Free e.place rest
fresh_left here h = (h.1, h.0)
fresh_left (later {e = e} {f = f} d o) h =
    let x = fresh_left o h.1 in
    let y = each_left (λ g. g.place ≡ f.place → ⊥) o h.0 in ((y.1, x.0), (d, x.1))

one_less : {texts : Strings} {es : List (Entry texts)} {e : Entry texts} {rest : List (Entry texts)} → Out es e rest → length es ≡ suc (length rest)
one_less here = refl
one_less (later d o) = ap suc (one_less o)

-- Places that differ and are below their number are all the numbers below it.

abbrev Found : {texts : Strings} → ℕ → List (Entry texts) → Type 0
Found {texts} q es = (e : Entry texts) × (rest : List (Entry texts)) × (e.place ≡ q) × Out es e rest

seek : {texts : Strings} (q : ℕ) (es : List (Entry texts)) → Found q es ⊎ Free q es
seek q [] = inr tt
seek {texts} q (e ∷ es) = by (nat_eq e.place q) refl (seek q es)
  where
    by : (b : Bool) → nat_eq e.place q ≡ b → Found q es ⊎ Free q es → Found q (e ∷ es) ⊎ Free q (e ∷ es)
    by true is x = inl (e, es, eqb-true e.place q is, here)
    by false is (inl x) = inl (x.0, e ∷ x.1, x.2, later (λ d. eqb-false e.place q is (d ∙ x.2)) x.3)
    by false is (inr x) = inr (eqb-false e.place q is, x)

past : {texts : Strings} (q n : ℕ) (es : List (Entry texts)) → Ranged q (suc n) es → Free q es → Ranged (suc q) n es
past q n [] r f = tt
past q n (e ∷ es) r f = ((above e.place q r.0.0 f.0, omega (arith, r.0.1)), past q n es r.1 f.1)
  where
    above : (p q : ℕ) → q ≤ p → (p ≡ q → ⊥) → suc q ≤ p
    above p q le d = ⊎_elim (λ (l : q < p). omega arith) (λ (g : p ≤ q). absurd (d (omega arith))) (cases_lt q p)

range_left : {texts : Strings} (q n : ℕ) {es : List (Entry texts)} {e : Entry texts} {rest : List (Entry texts)}
    → e.place ≡ q → Out es e rest → Fresh es → Ranged q (suc n) es → Ranged (suc q) n rest
range_left q n {rest = rest} at o f r = past q n rest (each_left (λ g. (q ≤ g.place) × (g.place < q + suc n)) o r).1 (subst (λ p. Free p rest) at (fresh_left o f).1)

few : {texts : Strings} (n q : ℕ) (es : List (Entry texts)) → Fresh es → Ranged q n es → length es ≤ n
few zero q [] f r = omega arith
few zero q (e ∷ es) f r = absurd (omega (arith, r.0.0, r.0.1))
few (suc n) q es f r = ⊎_elim
    (λ (x : Found q es). let y = few n (suc q) x.1 (fresh_left x.3 f).0 (range_left q n x.2 x.3 f r) in omega (arith, one_less x.3, y))
    (λ (x : Free q es). let y = few n (suc q) es f (past q n es r x) in omega (arith, y))
    (seek q es)

there : {texts : Strings} (q n : ℕ) (es : List (Entry texts)) → Fresh es → Ranged q (suc n) es → length es ≡ suc n → Found q es
there q n es f r e = ⊎_elim (λ (x : Found q es). x)
    (λ (x : Free q es). let y = few n (suc q) es f (past q n es r x) in absurd (omega (arith, e, y))) (seek q es)

-- What the code reads of the entries.

record Cut (texts : Strings) (q : ℕ) (es : List (Entry texts)) (e : Entry texts) (rest : List (Entry texts)) : Type 0 where
  before : List ℕ
  after : List ℕ
  all_words : words_of es ≡ before ++ (e.words ++ after)
  other_words : words_of rest ≡ before ++ after
  size : size_for q (places_of es) (lengths_of es) ≡ length e.words
  over : size_after q (places_of es) (lengths_of es) ≡ length after
  places : without q (places_of es) (places_of es) ≡ places_of rest
  sizes : without q (places_of es) (lengths_of es) ≡ lengths_of rest
  value : find_place (places_of es) (values_of es) q ≡ e.value

places_long : {texts : Strings} (es : List (Entry texts)) → length (places_of es) ≡ length es
places_long [] = refl
places_long (e ∷ es) = ap suc (places_long es)

total_words : {texts : Strings} (es : List (Entry texts)) → total (lengths_of es) ≡ length (words_of es)
total_words [] = refl
total_words (e ∷ es) = ap (λ n. length e.words + n) (total_words es) ∙ sym (length_both e.words (words_of es))

not_here : (p r q : ℕ) → (p ≡ r → ⊥) → r ≡ q → nat_eq p q ≡ false
not_here p r q d at = by (nat_eq p q) refl
  where
    by : (b : Bool) → nat_eq p q ≡ b → nat_eq p q ≡ false
    by true is = absurd (d (eqb-true p q is ∙ sym at))
    by false is = is

cut : {texts : Strings} (q : ℕ) {es : List (Entry texts)} {e : Entry texts} {rest : List (Entry texts)} → e.place ≡ q → Out es e rest → Cut texts q es e rest
unfolding find_place
cut q at (here {e = e} {es = es}) =
    let t : nat_eq e.place q ≡ true = eq-eqb e.place q at in
    record {
      before = [];
      after = words_of es;
      all_words = refl;
      other_words = refl;
      size = ap (λ (b : Bool). if b then length e.words else size_for q (places_of es) (lengths_of es)) t;
      over = ap (λ (b : Bool). if b then total (lengths_of es) else size_after q (places_of es) (lengths_of es)) t ∙ total_words es;
      places = ap (λ (b : Bool). if b then places_of es else e.place ∷ without q (places_of es) (places_of es)) t;
      sizes = ap (λ (b : Bool). if b then lengths_of es else length e.words ∷ without q (places_of es) (lengths_of es)) t;
      value = ap (λ (b : Bool). if b then e.value else find_place (places_of es) (values_of es) q) t;
    }
cut {texts} q at (later {e = e} {f = f} {es = es} {rest = rest} d o) =
    let t : nat_eq f.place q ≡ false = not_here f.place e.place q d at in
    let x : Cut texts q es e rest = cut q at o in
    record {
      before = f.words ++ x.before;
      after = x.after;
      all_words = ap (λ l. f.words ++ l) x.all_words ∙ sym (append_more f.words x.before (e.words ++ x.after));
      other_words = ap (λ l. f.words ++ l) x.other_words ∙ sym (append_more f.words x.before x.after);
      size = ap (λ (b : Bool). if b then length f.words else size_for q (places_of es) (lengths_of es)) t ∙ x.size;
      over = ap (λ (b : Bool). if b then total (lengths_of es) else size_after q (places_of es) (lengths_of es)) t ∙ x.over;
      places = ap (λ (b : Bool). if b then places_of es else f.place ∷ without q (places_of es) (places_of es)) t
          ∙ ap (λ l. f.place ∷ l) x.places;
      sizes = ap (λ (b : Bool). if b then lengths_of es else length f.words ∷ without q (places_of es) (lengths_of es)) t
          ∙ ap (λ l. length f.words ∷ l) x.sizes;
      value = ap (λ (b : Bool). if b then f.value else find_place (places_of es) (values_of es) q) t ∙ x.value;
    }

same_rolls : (q c : ℕ) {s s' a a' m m' : ℕ} {ps ps' ls ls' : List ℕ} → s ≡ s' → a ≡ a' → ps ≡ ps' → ls ≡ ls' → m ≡ m'
    → lift_code s a ++ rolls (suc q) c ps ls m ≡ lift_code s' a' ++ rolls (suc q) c ps' ls' m'
same_rolls q c size over places sizes moved = cc

-- the first roll, and those behind it
roll_code : {texts : Strings} (q c : ℕ) (moved : List ℕ) {es : List (Entry texts)} {e : Entry texts} {rest : List (Entry texts)} (x : Cut texts q es e rest)
    → rolls q (suc c) (places_of es) (lengths_of es) (length moved)
    ≡ lift_code (length e.words) (length (x.after ++ moved)) ++ rolls (suc q) c (places_of rest) (lengths_of rest) (length (moved ++ e.words))
roll_code q c moved {e = e} x =
    same_rolls q c x.size (ap (λ n. n + length moved) x.over ∙ sym (length_both x.after moved)) x.places x.sizes
    (ap (λ n. length moved + n) x.size ∙ sym (length_both moved e.words))

-- the others are found as before
found_still : {texts : Strings} (q r : ℕ) {es : List (Entry texts)} {e : Entry texts} {rest : List (Entry texts)} → e.place ≡ q → Out es e rest → q < r
    → find_place (places_of rest) (values_of rest) r ≡ find_place (places_of es) (values_of es) r
unfolding find_place
found_still q r at (here {e = e} {es = es}) lt =
    let t : nat_eq e.place r ≡ false = not_here e.place r r (λ d. absurd (omega (arith, d, at, lt))) refl in
    sym (ap (λ (b : Bool). if b then e.value else find_place (places_of es) (values_of es) r) t)
found_still q r at (later {e = e} {f = f} {es = es} {rest = rest} d o) lt =
    ap (λ v. if nat_eq f.place r then f.value else v) (found_still q r at o lt)

-- The entries that are left from place q on.

record Left (texts : Strings) (q c : ℕ) (all ks : Kinds) (places : List ℕ) (vs : Values) (es : List (Entry texts)) : Type 0 where
  fresh : Fresh es
  ranged : Ranged q c es
  many : length es ≡ c
  kinds : Each (λ e. KindAt all e.place e.kind) es
  count : count_in ks ≡ c
  behind : (i : ℕ) (k : Kind) → KindAt all (q + i) k → KindAt ks i k
  finds : (r : ℕ) → q ≤ r → find_place (places_of es) (values_of es) r ≡ find_place places vs r

record Taken (texts : Strings) (q c : ℕ) (all ks : Kinds) (k : Kind) (places : List ℕ) (vs : Values) (e : Entry texts) (rest : List (Entry texts)) : Type 0 where
  left : Left texts (suc q) c all ks places vs rest
  kind : k ≡ e.kind
  value : find_place places vs q ≡ e.value

taken : (texts : Strings) (q c : ℕ) (all ks : Kinds) (k : Kind) (places : List ℕ) (vs : Values) {es : List (Entry texts)} {e : Entry texts}
    {rest : List (Entry texts)} → Left texts q (suc c) all (AndKind k ks) places vs es → e.place ≡ q → Out es e rest
    → Taken texts q c all ks k places vs e rest
unfolding count_in KindAt
taken texts q c all ks k places vs {es = es} {e = e} {rest = rest} l at o =
    let kinds = each_left (λ g. KindAt all g.place g.kind) o l.kinds in
    let z : e.place ≡ q + 0 = omega (arith, at) in
    record {
      left = record {
        fresh = (fresh_left o l.fresh).0;
        ranged = range_left q c at o l.fresh l.ranged;
        many = omega (arith, one_less o, l.many);
        kinds = kinds.1;
        count = omega (arith, l.count);
        behind = λ i j h. l.behind (suc i) j (subst (λ n. KindAt all n j) (omega arith) h);
        finds = λ r le. found_still q r at o (omega (arith, le)) ∙ l.finds r (omega (arith, le));
      };
      kind = l.behind 0 e.kind (subst (λ n. KindAt all n e.kind) z kinds.0);
      value = sym (l.finds q (omega arith)) ∙ (cut q at o).value;
    }

-- Words of values that stand one after the other.

small_both : (a b : List ℕ) → Small (slots_of a) → Small (slots_of b) → Small (slots_of (a ++ b))
unfolding slots_of
small_both [] b sa sb n = sb n
small_both (x ∷ a) b sa sb zero = sa 0
small_both (x ∷ a) b sa sb (suc n) = small_both a b (λ m. sa (suc m)) sb n

no_values : (texts : Strings) → Show texts NoKinds NoValues []
unfolding values_at words_in_all
no_values texts = record { size = refl; worth = refl; small = λ n. let e = no_slot n in omega (arith, e) }

first_and : (texts : Strings) (k : Kind) (ks : Kinds) (v : Value) (vs : Values) (e : Entry texts) (ws : List ℕ) → k ≡ e.kind → v ≡ e.value
    → Show texts ks vs ws → Show texts (AndKind k ks) (AndValue v vs) (e.words ++ ws)
unfolding values_at words_in_all
first_and texts k ks v vs e ws same worth h =
    let n : length e.words ≡ words_in k = e.size ∙ sym (ap words_in same) in
    let both = length_both e.words ws in
    let front : value_at texts (slots_of e.words) 0 k ≡ value_at texts (slots_of (e.words ++ ws)) 0 k =
    value_same texts (slots_of e.words) (slots_of (e.words ++ ws)) 0 0 k (λ i lt. sym (slots_left e.words ws (0 + i) (omega (arith, n, lt)))) in
    let back : values_at texts (slots_of ws) 0 ks ≡ values_at texts (slots_of (e.words ++ ws)) (0 + words_in k) ks =
    values_same texts (slots_of ws) (slots_of (e.words ++ ws)) 0 (0 + words_in k) ks (λ i lt.
    let z : length e.words + i ≡ (0 + words_in k) + i = omega (arith, n) in
    ap (λ j. slots_of ws j) (omega arith) ∙ sym (slots_right e.words ws i) ∙ ap (λ j. slots_of (e.words ++ ws) j) z) in
    let first : v ≡ value_at texts (slots_of (e.words ++ ws)) 0 k =
    worth ∙ e.worth ∙ ap (λ j. value_at texts (slots_of e.words) 0 j) (sym same) ∙ front in
    record {
      size = omega (arith, both, n, h.size);
      worth = ap (λ x. AndValue x vs) first ∙ ap (λ us. AndValue (value_at texts (slots_of (e.words ++ ws)) 0 k) us) (h.worth ∙ back);
      small = small_both e.words ws e.small h.small;
    }

-- The code at work.

module _ (texts : Strings) (number : ℕ) (vs gs : List ℕ) where
  -- words come to the top, those that were brought there before below them
  record Brought (code : List Instruction) (ins moved : List ℕ) (ks : Kinds) (given : Values) : Type 0 where
    words : List ℕ
    show : Show texts ks given words
    does : (rest : List ℕ) → works_all texts number code (work (push ins rest) vs gs) ≡ Did (work (push (moved ++ words) rest) vs gs)

  one_roll : (a b c : List ℕ) (code : List Instruction) (rest : List ℕ)
      → works_all texts number (lift_code (length b) (length c) ++ code) (work (push (a ++ (b ++ c)) rest) vs gs)
      ≡ works_all texts number code (work (push (a ++ (c ++ b)) rest) vs gs)
  unfolding and_then
  one_roll a b c code rest =
      ap (λ l. works_all texts number (lift_code (length b) (length c) ++ code) (work l vs gs)) (push_both a (b ++ c) rest ∙ push_both b c (push a rest))
      ∙ works_both texts number (lift_code (length b) (length c)) code (work (push c (push b (push a rest))) vs gs)
      ∙ ap (λ w. and_then w (works_all texts number code)) (lift_works texts number vs gs b c (push a rest))
      ∙ ap (λ l. works_all texts number code (work l vs gs)) (sym (push_both a (c ++ b) rest ∙ push_both c b (push a rest)))

  rolled : (q : ℕ) (qs places : List ℕ) (given : Values) (all ks : Kinds) (es : List (Entry texts)) (moved : List ℕ)
      → Left texts q (length qs) all ks places given es
      → Brought (rolls q (length qs) (places_of es) (lengths_of es) (length moved)) (words_of es ++ moved) moved ks (arranged_from q qs places given)
  unfolding arranged_from count_in works_all
  rolled q [] places given all NoKinds [] moved l = record {
    words = [];
    show = no_values texts;
    does = λ rest. ap (λ l. Did (work (push l rest) vs gs)) (sym (append_nil moved));
  }
  rolled q [] places given all (AndKind k ks) es moved l = absurd (omega (arith, l.count))
  rolled q [] places given all NoKinds (e ∷ es) moved l = absurd (omega (arith, l.many))
  rolled q (x ∷ qs) places given all NoKinds es moved l = absurd (omega (arith, l.count))
  rolled q (x ∷ qs) places given all (AndKind k ks) es moved l =
      let f = there q (length qs) es l.fresh l.ranged l.many in
      let e = f.0 in
      let left = f.1 in
      let t : Taken texts q (length qs) all ks k places given e left = taken texts q (length qs) all ks k places given l f.2 f.3 in
      let c : Cut texts q es e left = cut q f.2 f.3 in
      let next = rolled (suc q) qs places given all ks left (moved ++ e.words) t.left in
      let code = rolls (suc q) (length qs) (places_of left) (lengths_of left) (length (moved ++ e.words)) in
      let after = c.after ++ moved in
      let ins : words_of es ++ moved ≡ c.before ++ (e.words ++ after) =
      ap (λ l. l ++ moved) c.all_words ∙ append_more c.before (e.words ++ c.after) moved ∙ ap (λ l. c.before ++ l) (append_more e.words c.after moved) in
      let outs : c.before ++ (after ++ e.words) ≡ words_of left ++ (moved ++ e.words) =
      ap (λ l. c.before ++ l) (append_more c.after moved e.words) ∙ sym (append_more c.before c.after (moved ++ e.words))
      ∙ ap (λ l. l ++ (moved ++ e.words)) (sym c.other_words) in
      record {
        words = e.words ++ next.words;
        show = first_and texts k ks (find_place places given q) (arranged_from (suc q) qs places given) e next.words t.kind t.value next.show;
        does = λ rest.
            ap (λ is. works_all texts number is (work (push (words_of es ++ moved) rest) vs gs)) (roll_code q (length qs) moved c)
            ∙ ap (λ l. works_all texts number (lift_code (length e.words) (length after) ++ code) (work (push l rest) vs gs)) ins
            ∙ one_roll c.before e.words after code rest
            ∙ ap (λ l. works_all texts number code (work (push l rest) vs gs)) outs
            ∙ next.does rest
            ∙ ap (λ l. Did (work (push l rest) vs gs)) (append_more moved e.words next.words);
      }

  -- those that lie in order at the beginning stay
  sorted : (q : ℕ) (qs places : List ℕ) (given : Values) (all ks : Kinds) (es : List (Entry texts)) → Left texts q (length qs) all ks places given es
      → Brought (arrange_from q (places_of es) (lengths_of es)) (words_of es) [] ks (arranged_from q qs places given)
  unfolding arranged_from count_in works_all
  sorted q [] places given all NoKinds [] l = record { words = []; show = no_values texts; does = λ rest. refl }
  sorted q [] places given all (AndKind k ks) es l = absurd (omega (arith, l.count))
  sorted q [] places given all NoKinds (e ∷ es) l = absurd (omega (arith, l.many))
  sorted q (x ∷ qs) places given all ks [] l = absurd (omega (arith, l.many))
  sorted q (x ∷ qs) places given all NoKinds (e ∷ es) l = absurd (omega (arith, l.count))
  sorted q (x ∷ qs) places given all (AndKind k ks) (e ∷ es) l =
      by (nat_eq e.place q) refl (λ left. sorted (suc q) qs places given all ks es left)
    where
      Goal : Bool → Type 0
      Goal b =
          Brought (if b then arrange_from (suc q) (places_of es) (lengths_of es) else rolls q (length (places_of (e ∷ es))) (places_of (e ∷ es)) (lengths_of (e ∷ es)) 0)
          (words_of (e ∷ es)) [] (AndKind k ks) (arranged_from q (x ∷ qs) places given)

      Later : Type 0
      Later = Left texts (suc q) (length qs) all ks places given es
          → Brought (arrange_from (suc q) (places_of es) (lengths_of es)) (words_of es) [] ks (arranged_from (suc q) qs places given)

      by : (b : Bool) → nat_eq e.place q ≡ b → Later → Goal b
      by true is later_ones =
          let t : Taken texts q (length qs) all ks k places given e es = taken texts q (length qs) all ks k places given l (eqb-true e.place q is) here in
          let next = later_ones t.left in
          record {
            words = e.words ++ next.words;
            show = first_and texts k ks (find_place places given q) (arranged_from (suc q) qs places given) e next.words t.kind t.value next.show;
            does = λ rest.
                ap (λ l. works_all texts number (arrange_from (suc q) (places_of es) (lengths_of es)) (work l vs gs)) (push_both e.words (words_of es) rest)
                ∙ next.does (push e.words rest) ∙ ap (λ l. Did (work l vs gs)) (sym (push_both e.words next.words rest));
          }
      by false is later_ones =
          let all_of = rolled q (x ∷ qs) places given all (AndKind k ks) (e ∷ es) [] l in
          let n : length (x ∷ qs) ≡ length (places_of (e ∷ es)) = sym l.many ∙ sym (places_long (e ∷ es)) in
          record {
            words = all_of.words;
            show = all_of.show;
            does = λ rest.
                ap (λ c. works_all texts number (rolls q c (places_of (e ∷ es)) (lengths_of (e ∷ es)) 0) (work (push (words_of (e ∷ es)) rest) vs gs)) (sym n)
                ∙ ap (λ l. works_all texts number (rolls q (length (x ∷ qs)) (places_of (e ∷ es)) (lengths_of (e ∷ es)) 0) (work (push l rest) vs gs)) (sym (append_nil (words_of (e ∷ es))))
                ∙ all_of.does rest;
          }

  does_as : (t : ℕ) {ps ps' ls ls' ws ws' : List ℕ} {ks : Kinds} {given : Values} (b : Brought (arrange_code ps' ls') ws' [] ks given)
      → ps ≡ ps' → ls ≡ ls' → ws ≡ ws' → Does texts number t vs gs (arrange_code ps ls) ws (Given b.words)
  does_as t {ps} {ps'} {ls} {ls'} {ws} {ws'} b places sizes words rest =
      let same : works_all texts number (arrange_code ps ls) (work (push ws rest) vs gs) ≡ works_all texts number (arrange_code ps' ls') (work (push ws' rest) vs gs) = cc in
      comes texts number t vs gs rest b.words (works_all texts number (arrange_code ps ls) (work (push ws rest) vs gs)) (same ∙ b.does rest)

-- Placed values as entries.

record Entries (texts : Strings) (ps : List ℕ) (js all : Kinds) (vs : Values) (ws : List ℕ) : Type 0 where
  entries : List (Entry texts)
  places : places_of entries ≡ ps
  lengths : lengths_of entries ≡ sizes_of js
  worth : values_of entries ≡ vs
  words : words_of entries ≡ ws
  kinds : Each (λ e. KindAt all e.place e.kind) entries
  many : length entries ≡ count_in js

small_slots : (ws us : List ℕ) (s : ℕ) → Small (slots_of ws) → ((n : ℕ) → n < length us → slots_of us n ≡ slots_of ws (s + n)) → Small (slots_of us)
small_slots ws us s h same = small_words us (λ n lt. let e = same n lt in let x = h (s + n) in omega (arith, e, x))

entries_of : (texts : Strings) (ps : List ℕ) (js all : Kinds) (vs : Values) (ws : List ℕ) → Placed ps js all → Show texts js vs ws → Entries texts ps js all vs ws
unfolding Placed values_at words_in_all count_in
entries_of texts [] NoKinds all vs [] p h =
    record { entries = []; places = refl; lengths = refl; worth = sym h.worth; words = refl; kinds = tt; many = refl }
entries_of texts [] NoKinds all vs (w ∷ ws) p h = absurd (omega (arith, h.size))
entries_of texts [] (AndKind j js) all vs ws p h = absurd p
entries_of texts (p ∷ ps) NoKinds all vs ws at h = absurd at
entries_of texts (p ∷ ps) (AndKind j js) all vs ws at h =
    let first = take (words_in j) ws in
    let others = drop (words_in j) ws in
    let whole : first ++ others ≡ ws = take-append-drop (words_in j) ws in
    let n : length first ≡ words_in j = take_long (words_in j) ws (omega (arith, h.size)) in
    let both : length first + length others ≡ length ws = sym (length_both first others) ∙ ap (λ (l : List ℕ). length l) whole in
    let front : (i : ℕ) → i < words_in j → slots_of first i ≡ slots_of ws i = λ i lt. take_slots (words_in j) ws i lt in
    let back : (i : ℕ) → slots_of others i ≡ slots_of ws (words_in j + i) = λ i. drop_slots (words_in j) ws i in
    let v = value_at texts (slots_of ws) 0 j in
    let us = values_at texts (slots_of ws) (0 + words_in j) js in
    let e : Entry texts = record {
      place = p;
      kind = j;
      value = v;
      words = first;
      size = n;
      worth = value_same texts (slots_of ws) (slots_of first) 0 0 j (λ i lt. sym (front (0 + i) (omega (arith, lt))));
      small = small_slots ws first 0 h.small (λ i lt. front i (omega (arith, n, lt)) ∙ ap (λ k. slots_of ws k) (omega arith));
    } in
    let shows : Show texts js us others = record {
      size = omega (arith, both, n, h.size);
      worth = values_same texts (slots_of ws) (slots_of others) (0 + words_in j) 0 js (λ i lt.
          ap (λ k. slots_of ws k) (omega arith) ∙ sym (back (0 + i)));
      small = small_slots ws others (words_in j) h.small (λ i lt. back i);
    } in
    let r = entries_of texts ps js all us others at.1 shows in
    record {
      entries = e ∷ r.entries;
      places = ap (λ l. p ∷ l) r.places;
      lengths = ap (λ m. m ∷ lengths_of r.entries) n ∙ ap (λ l. words_in j ∷ l) r.lengths;
      worth = ap (λ x. AndValue v x) r.worth ∙ sym h.worth;
      words = ap (λ l. first ++ l) r.words ∙ whole;
      kinds = (at.0, r.kinds);
      many = omega (arith, r.many);
    }

free_of : {texts : Strings} (p : ℕ) (es : List (Entry texts)) → (Contains (places_of es) p → ⊥) → Free p es
free_of p [] h = tt
free_of p (e ∷ es) h = ((λ d. h (0, omega arith, d)), free_of p es (λ c. h (suc c.0, omega (arith, c.1), c.2)))

fresh_of : {texts : Strings} (es : List (Entry texts)) → AllDiffer (places_of es) → Fresh es
unfolding AllDiffer
fresh_of [] d = tt
fresh_of (e ∷ es) d = (free_of e.place es d.0, fresh_of es d.1)

kind_below : (ks : Kinds) (n : ℕ) (k : Kind) → KindAt ks n k → n < count_in ks
unfolding KindAt count_in
kind_below NoKinds n k h = absurd h
kind_below (AndKind j ks) zero k h = omega arith
kind_below (AndKind j ks) (suc n) k h = let x = kind_below ks n k h in omega (arith, x)

ranged_of : {texts : Strings} (all : Kinds) (n : ℕ) (es : List (Entry texts)) → count_in all ≡ n → Each (λ e. KindAt all e.place e.kind) es → Ranged 0 n es
ranged_of all n [] c h = tt
ranged_of all n (e ∷ es) c h = ((omega arith, (let x = kind_below all e.place e.kind h.0 in omega (arith, c, x))), ranged_of all n es c h.1)

pub values_are_arranged : ValuesAreArranged
unfolding Arranged arrange works_all
values_are_arranged texts number t vs gs [] js all given ws a h =
    (ws, subst (λ ks. Show texts ks given ws) a h, λ rest. comes texts number t vs gs rest ws _ refl)
values_are_arranged texts number t vs gs (p ∷ ps) js all given ws a h =
    let qs = p ∷ ps in
    let s = entries_of texts qs js all given ws a.0 h in
    let n : length s.entries ≡ length qs = sym (places_long s.entries) ∙ ap (λ (l : List ℕ). length l) s.places in
    let c : count_in all ≡ length qs = sym a.2 ∙ sym s.many ∙ n in
    let left : Left texts 0 (length qs) all all qs given s.entries = record {
      fresh = fresh_of s.entries (subst (λ l. AllDiffer l) (sym s.places) a.1);
      ranged = ranged_of all (length qs) s.entries c s.kinds;
      many = n;
      kinds = s.kinds;
      count = c;
      behind = λ i k at. subst (λ m. KindAt all m k) (omega arith) at;
      finds = λ r le. ap (λ l. find_place l (values_of s.entries) r) s.places ∙ ap (λ l. find_place qs l r) s.worth;
    } in
    let b = sorted texts number vs gs 0 qs qs given all all s.entries left in
    (b.words, b.show, does_as texts number vs gs t b (sym s.places) (sym s.lengths) (sym s.words))
