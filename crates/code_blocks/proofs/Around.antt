-- Which phrases are enabled at an offset.
use Rattle.std.proofs.Common.{◌≡◌, refl, ap, ◌∙◌, subst, ℕ, zero, suc, ◌+◌, ◌<◌, ◌≤◌, ◌⊎◌, inl, inr, ⊎_elim, List, [], ◌∷◌, ◌++◌, length, Bool, true, false, ◌&&◌, Some, length-append, nat_lt, nat_le, arith}
use Rattle.std.proofs.lemmas.Bool.{cases_lt, le-ltb, le-leb}
use Rattle.std.proofs.lemmas.Bool.Decides.{leb_tells}
use Rattle.std.specs.Prelude.{slice_get}
use Rattle.code_forms.specs.declared.module_code.Phrase.{Phrase}
use Rattle.code_rules.specs.Reading.{covers, and_if, phrases_before, phrases_around}
use Rattle.code_blocks.specs.Blocks.{ArmBlocks, NoArmBlock, AndArmBlock}
use Rattle.code_blocks.specs.Writing.{Env, Pending, own_phrase, unless_empty, phrase_from}
use Rattle.code_blocks.proofs.Lists.{From, In, from_parts}

-- Ranges that lie in an interval, none of them empty.

abbrev pub Inside : (a b : ℕ) → List Pending → Type 0
Inside a b [] = Unit {0}
Inside a b (q ∷ ps) = ((a ≤ q.from) × (q.from < q.upto) × (q.upto ≤ b)) × Inside a b ps

pub inside_both : (a b : ℕ) (ps qs : List Pending) → Inside a b ps → Inside a b qs → Inside a b (ps ++ qs)
inside_both a b [] qs g h = h
inside_both a b (q ∷ ps) qs g h = (g.0, inside_both a b ps qs g.1 h)

pub inside_wider : (a b c d : ℕ) (ps : List Pending) → c ≤ a → b ≤ d → Inside a b ps → Inside c d ps
inside_wider a b c d [] le1 le2 h = tt
inside_wider a b c d (q ∷ ps) le1 le2 h =
    ((omega (arith, le1, (h.0).0), (h.0).1, omega (arith, le2, (h.0).2)), inside_wider a b c d ps le1 le2 h.1)

pub inside_two : (a m n b : ℕ) (ps qs : List Pending) → Inside a m ps → Inside n b qs → m ≤ b → a ≤ n → Inside a b (ps ++ qs)
inside_two a m n b ps qs g h le1 le2 =
    inside_both a b ps qs (inside_wider a m a b ps (omega arith) le1 g) (inside_wider n b a b qs le2 (omega arith) h)

pub inside_own : (arms : ArmBlocks) (E : Env) (a b : ℕ) → a < b → Inside a b (own_phrase arms E a b)
inside_own NoArmBlock E a b lt = tt
inside_own (AndArmBlock labels slot words block arms) E a b lt = ((omega arith, lt, omega arith), tt)

pub inside_unless : (n a b : ℕ) (ps : List Pending) → ((m : ℕ) → n ≡ suc m → Inside a b ps) → Inside a b (unless_empty n ps)
inside_unless zero a b ps h = tt
inside_unless (suc n) a b ps h = h n refl

-- One phrase.

and_false : (b : Bool) → b && false ≡ false
and_false true = refl
and_false false = refl

not_before : (p : Phrase) (c : ℕ) → c < p.from → covers (Some p) c ≡ false
not_before p c lt = ⊎_elim (λ x. absurd (omega (arith, x.1, lt))) (λ x. ap (λ b. b && nat_lt c p.to) x.0) (leb_tells p.from c)

not_behind : (p : Phrase) (c : ℕ) → p.to ≤ c → covers (Some p) c ≡ false
not_behind p c le = ap (λ b. nat_le p.from c && b) (le-ltb c p.to le) ∙ and_false (nat_le p.from c)

covered : (p : Phrase) (c : ℕ) → p.from ≤ c → c < p.to → covers (Some p) c ≡ true
covered p c le lt = ap (λ b. b && nat_lt c p.to) (le-leb p.from c le) ∙ le-leb (suc c) p.to lt

-- Phrases of some numbers.

pub none_more : (table : List Phrase) (j n c : ℕ) → j ≤ n → ((k : ℕ) → j ≤ k → k < n → covers (slice_get table k) c ≡ false)
    → phrases_before table n c ≡ phrases_before table j c
none_more table j zero c le f = ap (λ k. phrases_before table k c) {x = 0} {y = j} (omega (arith, le))
none_more table j (suc n) c le f =
    ⊎_elim
    (λ lt. ap (λ b. and_if b n (phrases_before table n c)) (f n (omega (arith, lt)) (omega arith))
    ∙ none_more table j n c (omega (arith, lt)) (λ k x y. f k x (omega (arith, y))))
    (λ ge. ap (λ k. phrases_before table k c) {x = suc n} {y = j} (omega (arith, le, ge)))
    (cases_lt j (suc n))

pub one_more_here : (table : List Phrase) (j c : ℕ) (around : List ℕ) → covers (slice_get table j) c ≡ true → phrases_before table j c ≡ around
    → phrases_before table (suc j) c ≡ j ∷ around
one_more_here table j c around h g = ap (λ b. and_if b j (phrases_before table j c)) h ∙ ap (λ l. j ∷ l) g

-- The phrases of the table are those that were found, with their arms written somewhere.

abbrev pub AreWritten : List Phrase → List Pending → Type 0
AreWritten table found = (j : ℕ) (q : Pending) → slice_get found j ≡ Some q → (at : ℕ) × (slice_get table j ≡ Some (phrase_from q at))

module _ (table : List Phrase) (found : List Pending) (written : AreWritten table found) where
  -- the code from a up to b has these phrases, from number j on, and lies in those around
  pub record Spot (ps : List Pending) (j a b : ℕ) (around : List ℕ) : Type 0 where
    pub has : From (In found) j ps
    pub inside : j + length ps ≤ length table
    pub before : (c : ℕ) → a ≤ c → c < b → phrases_before table j c ≡ around
    pub later : (k c : ℕ) → j + length ps ≤ k → k < length table → a ≤ c → c < b → covers (slice_get table k) c ≡ false

  pub outside_one : (j c : ℕ) (q : Pending) → slice_get found j ≡ Some q → (c < q.from) ⊎ (q.upto ≤ c) → covers (slice_get table j) c ≡ false
  outside_one j c q e o =
      let w = written j q e in
      ap (λ p. covers p c) w.1 ∙ ⊎_elim (λ lt. not_before (phrase_from q w.0) c lt) (λ le. not_behind (phrase_from q w.0) c le) o

  outside : (ps : List Pending) (j a b c k : ℕ) → From (In found) j ps → Inside a b ps → (c < a) ⊎ (b ≤ c) → j ≤ k → k < j + length ps
      → covers (slice_get table k) c ≡ false
  outside [] j a b c k h i o le lt = absurd (omega (arith, le, lt))
  outside (q ∷ ps) j a b c k h i o le lt =
      ⊎_elim
      (λ x. outside ps (suc j) a b c k h.1 i.1 o (omega (arith, x)) (omega (arith, lt)))
      (λ x. let e : j ≡ k = omega (arith, le, x) in
      subst (λ n. covers (slice_get table n) c ≡ false) e
      (outside_one j c q h.0 (⊎_elim (λ y. inl (omega (arith, y, (i.0).0))) (λ y. inr (omega (arith, y, (i.0).2))) o)))
      (cases_lt j k)

  pub narrow : (ps : List Pending) (j a b c d : ℕ) (around : List ℕ) → Spot ps j a b around → a ≤ c → d ≤ b → Spot ps j c d around
  narrow ps j a b c d around h le1 le2 = record {
    has = h.has;
    inside = h.inside;
    before = λ o x y. h.before o (omega (arith, le1, x)) (omega (arith, le2, y));
    later = λ k o x y z t. h.later k o x y (omega (arith, le1, z)) (omega (arith, le2, t));
  }

  -- the parts of a construct
  pub split : (ps qs : List Pending) (j a m b : ℕ) (around : List ℕ) → Spot (ps ++ qs) j a b around → Inside a m ps → Inside m b qs → a ≤ m → m ≤ b
      → Spot ps j a m around × Spot qs (j + length ps) m b around
  split ps qs j a m b around h v w le1 le2 =
      let parts = from_parts (In found) j ps qs h.has in
      let all = length-append ps qs in
      let within = h.inside in (
        record {
          has = parts.0;
          inside = omega (arith, all, within);
          before = λ c x y. h.before c x (omega (arith, y, le2));
          later = λ k c x y z t. ⊎_elim
              (λ lt. outside qs (j + length ps) m b c k parts.1 w (inl t) x (omega (arith, lt, all)))
              (λ ge. h.later k c ge y z (omega (arith, t, le2)))
              (cases_lt k (j + length (ps ++ qs)));
        },
        record {
          has = parts.1;
          inside = omega (arith, all, within);
          before = λ c x y.
              none_more table j (j + length ps) c (omega arith) (λ k z t. outside ps j a m c k parts.0 v (inr x) z t)
              ∙ h.before c (omega (arith, x, le1)) y;
          later = λ k c x y z t. h.later k c (omega (arith, x, all)) y (omega (arith, z, le1)) t;
        },
      )

  -- where there are no phrases, those around are enabled
  pub bare : (j a b c : ℕ) (around : List ℕ) → Spot [] j a b around → a ≤ c → c < b → phrases_around table c ≡ around
  bare j a b c around h le lt =
      none_more table j (length table) c (omega (arith, h.inside)) (λ k x y. h.later k c (omega (arith, x)) y le lt) ∙ h.before c le lt

  -- inside a phrase over all of it
  pub enter : (q : Pending) (ps : List Pending) (j a b : ℕ) (around : List ℕ) → Spot (q ∷ ps) j a b around → q.from ≤ a → b ≤ q.upto
      → Spot ps (suc j) a b (j ∷ around)
  enter q ps j a b around h le1 le2 =
      let w = written j q (h.has).0 in
      record {
        has = (h.has).1;
        inside = omega (arith, h.inside);
        before = λ c x y. one_more_here table j c around
            (ap (λ p. covers p c) w.1 ∙ covered (phrase_from q w.0) c (omega (arith, le1, x)) (omega (arith, le2, y)))
            (h.before c x y);
        later = λ k c x y z t. h.later k c (omega (arith, x)) y z t;
      }
