-- The parts of a record that an extractor has taken leave the part that it takes next in one piece.
use Rattle.std.proofs.Common.{◌≡◌, refl, sym, ap, ◌∙◌, subst, ℕ, zero, suc, ◌+◌, ◌-◌, ◌<◌, ◌≤◌, ◌⊎◌, inl, inr, ⊎_elim, List, [], ◌∷◌, Bool, true, false, nat_lt, nat_le, if◌then◌else◌, arith}
use Rattle.std.proofs.lemmas.Bool.{cases_lt, cases_eq, cases_order, lt-ltb, le-ltb, le-leb, lt-leb}
use Rattle.mesa_types.specs.declared.typed_parts.Part.{Part}
use Rattle.mesa_types.specs.Typed.{Kind, Kinds, NoKinds, AndKind}
use Rattle.mesa_types.specs.Shapes.{words_in, words_in_all, words_before, count_in, KindAt}
use Rattle.code_rules.specs.CodeFor.{words_taken, taken_behind, words_over}
use Rattle.code_rules.specs.Slots.{words_at}

pub before_none : (ks : Kinds) → words_before ks 0 ≡ 0
unfolding words_before
before_none NoKinds = refl
before_none (AndKind k ks) = refl

pub before_next : (ks : Kinds) (n : ℕ) → words_before ks (suc n) ≡ words_before ks n + words_at ks n
unfolding words_before
before_next NoKinds n = refl
before_next (AndKind k ks) zero = omega (arith, before_none ks)
before_next (AndKind k ks) (suc n) = omega (arith, before_next ks n)

pub before_all : (ks : Kinds) (n : ℕ) → words_before ks n ≤ words_in_all ks
unfolding words_before words_in_all
before_all NoKinds n = omega arith
before_all (AndKind k ks) zero = omega arith
before_all (AndKind k ks) (suc n) = omega (arith, before_all ks n)

kind_there : (ks : Kinds) (n : ℕ) (k : Kind) → KindAt ks n k → (words_in k ≡ words_at ks n) × (n < count_in ks)
unfolding KindAt count_in
kind_there NoKinds n k h = absurd h
kind_there (AndKind j ks) zero k h = (sym (ap words_in h), omega arith)
kind_there (AndKind j ks) (suc n) k h = let r = kind_there ks n k h in (r.0, omega (arith, r.1))

-- a part of a value of these kinds
pub record IsPart (ks : Kinds) (p : Part) : Type 0 where
  pub lies : p.offset ≡ words_before ks p.field
  pub words : p.words ≡ words_at ks p.field
  pub there : p.field < count_in ks

pub is_part : (ks : Kinds) (p : Part) (k : Kind) → KindAt ks p.field k → p.offset ≡ words_before ks p.field → p.words ≡ words_in k → IsPart ks p
is_part ks p k at lies words = let r = kind_there ks p.field k at in record { lies = lies; words = words ∙ r.0; there = r.1 }

-- parts that differ

abbrev pub NotAmong : ℕ → List Part → Type 0
NotAmong n [] = Unit {0}
NotAmong n (q ∷ qs) = (q.field ≡ n → ⊥) × NotAmong n qs

abbrev pub AreParts : Kinds → List Part → Type 0
AreParts ks [] = Unit {0}
AreParts ks (q ∷ qs) = IsPart ks q × NotAmong q.field qs × AreParts ks qs

-- the words of the parts below a field, and from one on

abbrev word_if : Bool → ℕ → ℕ
word_if true n = n
word_if false n = 0

abbrev below : ℕ → List Part → ℕ
below n [] = 0
below n (q ∷ qs) = word_if (nat_lt q.field n) q.words + below n qs

abbrev from : ℕ → List Part → ℕ
from n [] = 0
from n (q ∷ qs) = word_if (nat_le n q.field) q.words + from n qs

-- one part at a field

step_true : (q n : ℕ) → (q ≡ n → ⊥) → nat_lt q (suc n) ≡ nat_lt q n
step_true q n ne =
    ⊎_elim (λ lt. lt-ltb q (suc n) (omega (arith, lt)) ∙ sym (lt-ltb q n lt))
    (λ ge. ⊎_elim (λ e. absurd (ne e)) (λ o. ⊎_elim (λ lt. absurd (omega (arith, lt, ge))) (λ gt. le-ltb q (suc n) (omega (arith, gt)) ∙ sym (le-ltb q n ge))
    o) (cases_order q n))
    (cases_lt q n)

step_from : (q n : ℕ) → (q ≡ n → ⊥) → nat_le n q ≡ nat_le (suc n) q
step_from q n ne =
    ⊎_elim (λ lt. lt-leb n q lt ∙ sym (lt-leb (suc n) q (omega (arith, lt))))
    (λ ge. ⊎_elim (λ e. absurd (ne e)) (λ o. ⊎_elim (λ lt. absurd (omega (arith, lt, ge))) (λ gt. le-leb n q ge ∙ sym (le-leb (suc n) q gt)) o) (cases_order q n))
    (cases_lt q n)

below_same : (n : ℕ) (ps : List Part) → NotAmong n ps → below (suc n) ps ≡ below n ps
below_same n [] h = refl
below_same n (q ∷ qs) h = omega (arith, below_same n qs h.1, ap (λ b. word_if b q.words) (step_true q.field n h.0))

from_same : (n : ℕ) (ps : List Part) → NotAmong n ps → from n ps ≡ from (suc n) ps
from_same n [] h = refl
from_same n (q ∷ qs) h = omega (arith, from_same n qs h.1, ap (λ b. word_if b q.words) (step_from q.field n h.0))

module _ (ks : Kinds) where
  not_here : (n : ℕ) (q : Part) (qs : List Part) → q.field ≡ n → NotAmong q.field qs → NotAmong n qs
  not_here n q qs e h = subst (λ m. NotAmong m qs) e h

  below_next : (n : ℕ) (ps : List Part) → AreParts ks ps → below (suc n) ps ≤ below n ps + words_at ks n
  below_next n [] h = omega arith
  below_next n (q ∷ qs) h =
      ⊎_elim
      (λ e. omega (
        arith,
        below_same n qs (not_here n q qs e h.1),
        ap (λ b. word_if b q.words) (lt-ltb q.field (suc n) (omega (arith, e))),
        ap (λ b. word_if b q.words) (le-ltb q.field n (omega (arith, e))),
        (h.0).words,
        ap (words_at ks) e,
      ))
      (λ ne. omega (arith, below_next n qs h.2, ap (λ b. word_if b q.words) (step_true q.field n ne)))
      (cases_eq q.field n)

  from_next : (n : ℕ) (ps : List Part) → AreParts ks ps → from n ps ≤ from (suc n) ps + words_at ks n
  from_next n [] h = omega arith
  from_next n (q ∷ qs) h =
      ⊎_elim
      (λ e. omega (
        arith,
        from_same n qs (not_here n q qs e h.1),
        ap (λ b. word_if b q.words) (le-leb n q.field (omega (arith, e))),
        ap (λ b. word_if b q.words) (lt-leb (suc n) q.field (omega (arith, e))),
        (h.0).words,
        ap (words_at ks) e,
      ))
      (λ ne. omega (arith, from_next n qs h.2, ap (λ b. word_if b q.words) (step_from q.field n ne)))
      (cases_eq q.field n)

  below_zero : (ps : List Part) → below 0 ps ≡ 0
  below_zero [] = refl
  below_zero (q ∷ qs) = omega (arith, below_zero qs, ap (λ b. word_if b q.words) (le-ltb q.field 0 (omega arith)))

  below_fits : (n : ℕ) (ps : List Part) → AreParts ks ps → below n ps ≤ words_before ks n
  below_fits zero ps h = omega (arith, below_zero ps)
  below_fits (suc n) ps h = omega (arith, below_next n ps h, below_fits n ps h, before_next ks n)

  from_end : (ps : List Part) → AreParts ks ps → from (count_in ks) ps ≡ 0
  from_end [] h = refl
  from_end (q ∷ qs) h = omega (arith, from_end qs h.2, ap (λ b. word_if b q.words) (lt-leb (count_in ks) q.field (h.0).there))

  from_fits : (j n : ℕ) (ps : List Part) → AreParts ks ps → n + j ≡ count_in ks → from n ps + words_before ks n ≤ words_in_all ks
  from_fits zero n ps h e = omega (arith, ap (λ m. from m ps) {x = n} {y = count_in ks} (omega (arith, e)), from_end ps h, before_all ks n)
  from_fits (suc j) n ps h e = omega (arith, from_next n ps h, before_next ks n, from_fits j (suc n) ps h (omega (arith, e)))

  before_later : (j n : ℕ) → words_before ks (suc n) ≤ words_before ks (suc n + j)
  before_later zero n = omega (arith, ap (words_before ks) {x = suc n} {y = suc n + 0} (omega arith))
  before_later (suc j) n = omega (
    arith,
    before_later j n,
    before_next ks (suc n + j),
    ap (words_before ks) {x = suc n + suc j} {y = suc (suc n + j)}
        (omega arith),
  )

  before_less : (n m : ℕ) → n < m → words_before ks n + words_at ks n ≤ words_before ks m
  before_less n m lt =
      omega (arith, before_next ks n, before_later (m - suc n) n, ap (words_before ks) {x = suc n + (m - suc n)} {y = m} (omega (arith, lt)))

  -- the parts behind one
  behind_is : (p : Part) (ps : List Part) → IsPart ks p → 0 < p.words → AreParts ks ps → NotAmong p.field ps → taken_behind p ps ≡ from (suc p.field) ps
  behind_is p [] h some all new = refl
  behind_is p (q ∷ qs) h some all new =
      omega (
        arith,
        behind_is p qs h some all.2 new.1,
        ⊎_elim
            (λ lt. as_if (nat_lt p.offset q.offset) (nat_le (suc p.field) q.field) q.words
            (lt-ltb p.offset q.offset (omega (arith, some, h.lies, h.words, (all.0).lies, before_less p.field q.field lt)) ∙ sym
            (le-leb (suc p.field) q.field lt)))
            (λ ge. ⊎_elim (λ e. absurd (new.0 (sym e)))
            (λ o. ⊎_elim (λ lt. absurd (omega (arith, lt, ge)))
            (λ gt. as_if (nat_lt p.offset q.offset) (nat_le (suc p.field) q.field) q.words
            (le-ltb p.offset q.offset (omega (arith, h.lies, (all.0).lies, before_less q.field p.field gt)) ∙ sym
            (lt-leb (suc p.field) q.field (omega (arith, gt))))) o)
            (cases_order p.field q.field))
            (cases_lt p.field q.field),
      )
    where
      as_if : (x y : Bool) (n : ℕ) → x ≡ y → (if x then n else 0) ≡ word_if y n
      as_if true y n e = ap (λ b. word_if b n) e
      as_if false y n e = ap (λ b. word_if b n) e

  -- all parts but one
  taken_is : (n : ℕ) (ps : List Part) → NotAmong n ps → words_taken ps ≡ below n ps + from (suc n) ps
  taken_is n [] h = refl
  taken_is n (q ∷ qs) h =
      omega (
        arith,
        taken_is n qs h.1,
        ⊎_elim
            (λ lt. one (nat_lt q.field n) (nat_le (suc n) q.field) q.words (inl (lt-ltb q.field n lt, lt-leb (suc n) q.field (omega (arith, lt)))))
            (λ ge. ⊎_elim (λ e. absurd (h.0 e))
            (λ o. ⊎_elim (λ lt. absurd (omega (arith, lt, ge))) (λ gt. one (nat_lt q.field n) (nat_le (suc n) q.field) q.words
            (inr (le-ltb q.field n ge, le-leb (suc n) q.field gt))) o)
            (cases_order q.field n))
            (cases_lt q.field n),
      )
    where
      one : (x y : Bool) (n : ℕ) → ((x ≡ true) × (y ≡ false)) ⊎ ((x ≡ false) × (y ≡ true)) → n ≡ word_if x n + word_if y n
      one true false n h = omega arith
      one false true n h = omega arith
      one true true n (inl h) = cc h.1
      one true true n (inr h) = cc h.0
      one false false n (inl h) = cc h.0
      one false false n (inr h) = cc h.1

  -- the next part and what is over it are there
  pub part_fits : (p : Part) (taken : List Part) → IsPart ks p → 0 < p.words → AreParts ks taken → NotAmong p.field taken
      → p.words + words_over (words_in_all ks) taken p ≤ words_in_all ks - words_taken taken
  part_fits p taken h some all new =
      omega (
        arith,
        h.lies,
        h.words,
        behind_is p taken h some all new,
        taken_is p.field taken new,
        below_fits p.field taken all,
        from_fits (count_in ks - suc p.field) (suc p.field) taken all (omega (arith, h.there)),
        before_next ks p.field,
      )
