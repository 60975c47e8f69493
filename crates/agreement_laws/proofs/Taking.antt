-- What is left of the words of a value when parts of it were taken out; and how a part lies among the words that are left.
use Rattle.std.proofs.Common.{◌≡◌, ℕ, suc, ◌+◌, ◌-◌, ◌<◌, ◌≤◌, ◌⊎◌, List, [], ◌∷◌, ◌++◌, length, Bool, true, false, refl, sym, ap, ◌∙◌, ⊎_elim, arith}
use Rattle.std.specs.Prelude.{◌&&◌, ◌||◌, nat_le, nat_lt, take, drop, if◌then◌else◌}
use Rattle.std.proofs.lemmas.Bool.{and_from, and_left, and_right, or_left, or_from, lt-ltb, le-ltb, le-leb, lt-leb}
use Rattle.std.proofs.lemmas.List.{take-append-drop}
use Rattle.mesa_types.specs.declared.typed_parts.Part.{Part}
use Rattle.machine_rules.specs.Words.{words_at}
use Rattle.code_rules.specs.CodeFor.{words_taken, taken_behind, words_over}
use Rattle.agreement_rules.specs.Layout.{slots_of}
use Rattle.agreement_rules.proofs.Memory.{length_both, take_long, take_slots, drop_slots, read_long, read_slots, same_list}

-- two parts have no word in common
abbrev pub Off : Part → Part → Type 0
Off p q = (p.offset + p.words ≤ q.offset) ⊎ (q.offset + q.words ≤ p.offset)

abbrev pub OffAll : Part → List Part → Type 0
OffAll p [] = Unit {0}
OffAll p (q ∷ qs) = Off p q × OffAll p qs

-- parts of so many words, no two of which have one in common
abbrev pub LieApart : (all : ℕ) → List Part → Type 0
LieApart all [] = Unit {0}
LieApart all (p ∷ ps) = (p.offset + p.words ≤ all) × OffAll p ps × LieApart all ps

abbrev within : Part → (place : ℕ) → Bool
within p z = nat_le p.offset z && nat_lt z (p.offset + p.words)

abbrev is_taken : List Part → (place : ℕ) → Bool
is_taken [] z = false
is_taken (p ∷ ps) z = within p z || is_taken ps z

-- of the words from a place on, those that are left
abbrev pub untaken : List Part → (place : ℕ) → List ℕ → List ℕ
untaken taken z [] = []
untaken taken z (w ∷ words) = if is_taken taken z then untaken taken (suc z) words else w ∷ untaken taken (suc z) words

-- Places in parts.

within_yes : (p : Part) (z : ℕ) → p.offset ≤ z → z < p.offset + p.words → within p z ≡ true
within_yes p z le lt = and_from (nat_le p.offset z) (nat_lt z (p.offset + p.words)) (le-leb p.offset z le) (lt-ltb z (p.offset + p.words) lt)

within_below : (p : Part) (z : ℕ) → z < p.offset → within p z ≡ false
within_below p z lt = and_left (nat_le p.offset z) (nat_lt z (p.offset + p.words)) (lt-leb p.offset z lt)

within_above : (p : Part) (z : ℕ) → p.offset + p.words ≤ z → within p z ≡ false
within_above p z le = and_right (nat_le p.offset z) (nat_lt z (p.offset + p.words)) (le-ltb z (p.offset + p.words) le)

not_taken : (p : Part) (t : List Part) (z : ℕ) → OffAll p t → p.offset ≤ z → z < p.offset + p.words → is_taken t z ≡ false
not_taken p [] z off le lt = refl
not_taken p (q ∷ t) z off le lt =
    or_from (within q z) (is_taken t z)
    (⊎_elim (λ (x : p.offset + p.words ≤ q.offset). within_below q z (omega (arith, x, lt))) (λ (x : q.offset + q.words ≤ p.offset). within_above q z (omega (arith, x, le))) off.0)
    (not_taken p t z off.1 le lt)

also_taken : (p : Part) (t : List Part) (z : ℕ) → within p z ≡ false → is_taken (p ∷ t) z ≡ is_taken t z
also_taken p t z e = ap (λ b. b || is_taken t z) e

-- Words that are left.

untaken_both : (t : List Part) (z : ℕ) (xs ys : List ℕ) → untaken t z (xs ++ ys) ≡ untaken t z xs ++ untaken t (z + length xs) ys
untaken_both t z [] ys = ap (λ k. untaken t k ys) (omega arith)
untaken_both t z (x ∷ xs) ys = by (is_taken t z) (untaken_both t (suc z) xs ys ∙ ap (λ k. untaken t (suc z) xs ++ untaken t k ys) (omega arith))
  where
    by : (b : Bool) → untaken t (suc z) (xs ++ ys) ≡ untaken t (suc z) xs ++ untaken t (z + length (x ∷ xs)) ys
        → (if b then untaken t (suc z) (xs ++ ys) else x ∷ untaken t (suc z) (xs ++ ys))
        ≡ (if b then untaken t (suc z) xs else x ∷ untaken t (suc z) xs) ++ untaken t (z + length (x ∷ xs)) ys
    by true h = h
    by false h = ap (λ l. x ∷ l) h

untaken_same : (t u : List Part) (z : ℕ) (xs : List ℕ) → ((i : ℕ) → z ≤ i → i < z + length xs → is_taken t i ≡ is_taken u i) → untaken t z xs ≡ untaken u z xs
untaken_same t u z [] h = refl
untaken_same t u z (x ∷ xs) h =
    ap (λ (b : Bool). if b then untaken t (suc z) xs else x ∷ untaken t (suc z) xs) (h z (omega arith) (omega arith))
    ∙ ap (λ l. if is_taken u z then l else x ∷ l) (untaken_same t u (suc z) xs (λ i le lt. h i (omega (arith, le)) (omega (arith, lt))))

untaken_gone : (t : List Part) (z : ℕ) (xs : List ℕ) → ((i : ℕ) → z ≤ i → i < z + length xs → is_taken t i ≡ true) → untaken t z xs ≡ []
untaken_gone t z [] h = refl
untaken_gone t z (x ∷ xs) h =
    ap (λ (b : Bool). if b then untaken t (suc z) xs else x ∷ untaken t (suc z) xs) (h z (omega arith) (omega arith))
    ∙ untaken_gone t (suc z) xs (λ i le lt. h i (omega (arith, le)) (omega (arith, lt)))

pub untaken_none : (z : ℕ) (xs : List ℕ) → untaken [] z xs ≡ xs
untaken_none z [] = refl
untaken_none z (x ∷ xs) = ap (λ l. x ∷ l) (untaken_none (suc z) xs)

untaken_kept : (t : List Part) (z : ℕ) (xs : List ℕ) → ((i : ℕ) → z ≤ i → i < z + length xs → is_taken t i ≡ false) → untaken t z xs ≡ xs
untaken_kept t z xs h = untaken_same t [] z xs h ∙ untaken_none z xs

-- around a part
three : (u : List Part) (p : Part) (z : ℕ) (xs ys zs : List ℕ) → z + length xs ≡ p.offset → length ys ≡ p.words
    → untaken u z (xs ++ (ys ++ zs)) ≡ untaken u z xs ++ (untaken u p.offset ys ++ untaken u (p.offset + p.words) zs)
three u p z xs ys zs at size =
    untaken_both u z xs (ys ++ zs) ∙ ap (λ k. untaken u z xs ++ untaken u k (ys ++ zs)) at
    ∙ ap (λ l. untaken u z xs ++ l) (untaken_both u p.offset ys zs ∙ ap (λ k. untaken u p.offset ys ++ untaken u (p.offset + k) zs) size)

-- where the words of a part stand among those that are left from a place on, and what is left without them
record Cut (t : List Part) (p : Part) (z : ℕ) (xs : List ℕ) : Type 0 where
  before : List ℕ
  part : List ℕ
  after : List ℕ
  last : List ℕ
  all_words : untaken t z xs ≡ before ++ (part ++ after)
  other_words : untaken (p ∷ t) z xs ≡ before ++ after
  is : part ≡ take p.words (drop (p.offset - z) xs)
  size : length part ≡ p.words
  behind : after ≡ untaken t (p.offset + p.words) last
  many : (p.offset + p.words) + length last ≡ z + length xs

cut : (t : List Part) (p : Part) (z : ℕ) (xs : List ℕ) → OffAll p t → z ≤ p.offset → p.offset + p.words ≤ z + length xs → Cut t p z xs
cut t p z xs off low high =
    let o = p.offset - z in
    let end = p.offset + p.words in
    let first = take o xs in
    let others = drop o xs in
    let mid = take p.words others in
    let last = drop p.words others in
    let e1 : first ++ others ≡ xs = take-append-drop o xs in
    let e2 : mid ++ last ≡ others = take-append-drop p.words others in
    let n1 : length first ≡ o = take_long o xs (omega (arith, low, high)) in
    let l1 : length first + length others ≡ length xs = sym (length_both first others) ∙ ap (λ (l : List ℕ). length l) e1 in
    let n2 : length mid ≡ p.words = take_long p.words others (omega (arith, low, high, n1, l1)) in
    let l2 : length mid + length last ≡ length others = sym (length_both mid last) ∙ ap (λ (l : List ℕ). length l) e2 in
    let at : z + length first ≡ p.offset = omega (arith, low, n1) in
    let all : first ++ (mid ++ last) ≡ xs = ap (λ l. first ++ l) e2 ∙ e1 in
    let kept : untaken t p.offset mid ≡ mid = untaken_kept t p.offset mid (λ i le lt. not_taken p t i off le (omega (arith, lt, n2))) in
    let gone : untaken (p ∷ t) p.offset mid ≡ [] =
    untaken_gone (p ∷ t) p.offset mid (λ i le lt. or_left (within p i) (is_taken t i) (within_yes p i le (omega (arith, lt, n2)))) in
    let before : untaken (p ∷ t) z first ≡ untaken t z first =
    untaken_same (p ∷ t) t z first (λ i le lt. also_taken p t i (within_below p i (omega (arith, lt, at)))) in
    let after : untaken (p ∷ t) end last ≡ untaken t end last = untaken_same (p ∷ t) t end last (λ i le lt. also_taken p t i (within_above p i le)) in
    record {
      before = untaken t z first;
      part = mid;
      after = untaken t end last;
      last = last;
      all_words = ap (λ l. untaken t z l) (sym all) ∙ three t p z first mid last at n2 ∙ ap (λ l. untaken t z first ++ (l ++ untaken t end last)) kept;
      other_words = ap (λ l. untaken (p ∷ t) z l) (sym all) ∙ three (p ∷ t) p z first mid last at n2
          ∙ ap (λ l. l ++ (untaken (p ∷ t) p.offset mid ++ untaken (p ∷ t) end last)) before
          ∙ ap (λ l. untaken t z first ++ (l ++ untaken (p ∷ t) end last)) gone ∙ ap (λ l. untaken t z first ++ l) after;
      is = refl;
      size = n2;
      behind = refl;
      many = omega (arith, low, n1, l1, n2, l2);
    }

-- How many are left.

fewer : (t : List Part) (p : Part) (z : ℕ) (xs : List ℕ) → Cut t p z xs → length (untaken (p ∷ t) z xs) + p.words ≡ length (untaken t z xs)
fewer t p z xs c =
    let a = ap (λ (l : List ℕ). length l) c.all_words in let b = ap (λ (l : List ℕ). length l) c.other_words in
    let d = length_both c.before (c.part ++ c.after) in let e = length_both c.part c.after in let f = length_both c.before c.after in
    let s = c.size in omega (arith, a, b, d, e, f, s)

pub untaken_long : (t : List Part) (xs : List ℕ) → LieApart (length xs) t → length (untaken t 0 xs) + words_taken t ≡ length xs
untaken_long [] xs h = let e = ap (λ (l : List ℕ). length l) (untaken_none 0 xs) in omega (arith, e)
untaken_long (q ∷ t) xs h =
    let low = h.0 in
    let x = fewer t q 0 xs (cut t q 0 xs h.1 (omega arith) (omega (arith, low))) in
    let y = untaken_long t xs h.2 in omega (arith, x, y)

behind_long : (p : Part) (t : List Part) (xs : List ℕ) (n : ℕ) → 0 < p.words → OffAll p t → LieApart n t → (p.offset + p.words) + length xs ≡ n
    → length (untaken t (p.offset + p.words) xs) + taken_behind p t ≡ length xs
behind_long p [] xs n some off h e = let l = ap (λ (l : List ℕ). length l) (untaken_none (p.offset + p.words) xs) in omega (arith, l)
behind_long p (q ∷ t) xs n some off h e =
    let z = p.offset + p.words in
    let more = behind_long p t xs n some off.1 h.2 e in
    ⊎_elim
    (λ (x : p.offset + p.words ≤ q.offset).
    let low = h.0 in
    let count : taken_behind p (q ∷ t) ≡ q.words + taken_behind p t =
    ap (λ (b : Bool). (if b then q.words else 0) + taken_behind p t) (lt-ltb p.offset q.offset (omega (arith, x, some))) in
    let y = fewer t q z xs (cut t q z xs h.1 x (omega (arith, low, e))) in omega (arith, count, y, more))
    (λ (x : q.offset + q.words ≤ p.offset).
    let count : taken_behind p (q ∷ t) ≡ 0 + taken_behind p t =
    ap (λ (b : Bool). (if b then q.words else 0) + taken_behind p t) (le-ltb p.offset q.offset (omega (arith, x))) in
    let y = ap (λ (l : List ℕ). length l) (untaken_same (q ∷ t) t z xs (λ i le lt. also_taken q t i (within_above q i (omega (arith, x, le))))) in
    omega (arith, count, y, more))
    off.0

-- A part is taken out.

pub record Taken (t : List Part) (p : Part) (words : List ℕ) : Type 0 where
  pub before : List ℕ
  pub part : List ℕ
  pub after : List ℕ
  pub all_words : untaken t 0 words ≡ before ++ (part ++ after)
  pub other_words : untaken (p ∷ t) 0 words ≡ before ++ after
  pub is : part ≡ words_at words p.offset p.words
  pub size : length part ≡ p.words
  pub over : words_over (length words) t p ≡ length after

pub take_out : (t : List Part) (p : Part) (words : List ℕ) → 0 < p.words → p.offset + p.words ≤ length words → OffAll p t → LieApart (length words) t → Taken t p words
take_out t p words some le off h =
    let c = cut t p 0 words off (omega arith) (omega (arith, le)) in
    let many = c.many in
    let long = behind_long p t c.last (length words) some off h (omega (arith, many)) in
    let after = ap (λ (l : List ℕ). length l) c.behind in
    let from : p.offset - 0 ≡ p.offset = omega arith in
    record {
      before = c.before;
      part = c.part;
      after = c.after;
      all_words = c.all_words;
      other_words = c.other_words;
      is = same_list c.part (words_at words p.offset p.words) (c.size ∙ sym (read_long words p.offset p.words)) (λ i lt.
          let size = c.size in
          let l : i < p.words = omega (arith, lt, size) in
          ap (λ us. slots_of us i) c.is ∙ take_slots p.words (drop (p.offset - 0) words) i l ∙ drop_slots (p.offset - 0) words i
          ∙ ap (λ k. slots_of words (k + i)) from ∙ sym (read_slots words p.offset p.words i l));
      size = c.size;
      over = omega (arith, many, long, after, le);
    }
