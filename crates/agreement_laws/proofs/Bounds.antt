-- The start of a counted loop: what its code makes of the words of the two bounds, and that the hidden words then say the rounds.
use Rattle.std.proofs.Common.{◌≡◌, ℕ, zero, suc, ◌+◌, ◌-◌, ◌*◌, ◌<◌, ◌≤◌, ◌⊎◌, inl, inr, List, [], ◌∷◌, ◌++◌, Bool, true, false, not, refl, ap, ◌∙◌, subst, arith}
use Rattle.std.specs.Prelude.{◌&&◌, nat_eq, nat_lt, if◌then◌else◌}
use Rattle.std.proofs.lemmas.Bool.Decides.{nat_tests}
use Rattle.mesa_types.specs.declared.typed_parts.Base.{Base}
use Rattle.mesa_types.specs.declared.typed_parts.Base.TheVariants.{Signed, Unsigned}
use Rattle.mesa_types.specs.declared.typed_parts.Given.{Given}
use Rattle.mesa_types.specs.Operators.{wrap, shifted, unshifted, related, past, first_of, beyond, truth}
use Rattle.code_forms.specs.declared.instruction.Instruction.{Instruction}
use Rattle.code_forms.specs.declared.instruction.Instruction.TheVariants.{Lit, LoadL, StoreL, Add, Sub, Mul, Eq, Not}
use Rattle.source_meaning.specs.Meaning.{rounds_of}
use Rattle.machine_rules.specs.Words.{put_words, push}
use Rattle.machine_rules.specs.Working.{Work, works, leaves, stores_local}
use Rattle.code_rules.specs.Loops.{CountedIn, some_code, up_code, down_code, when, start_code}
use Rattle.code_rules.specs.OwnCode.{less}
use Rattle.agreement_rules.specs.Layout.{Strings, slots_of}
use Rattle.agreement_rules.specs.Own.{Done, Did, go_on, works_all}
use Rattle.agreement_rules.proofs.Arithmetic.{truth_not}
use Rattle.agreement_rules.proofs.Intervals.{and_then, works_both}
use Rattle.agreement_rules.proofs.Memory.{put_here, put_below, put_beyond}
use Rattle.agreement_laws.specs.Rounds.{WordsLeft, RoundsLeft}
use Rattle.agreement_laws.proofs.Counting.{two_read}
use Rattle.agreement_laws.proofs.Selects.{others_same, put_there}
use Rattle.agreement_laws.proofs.Stepping.{left_same}
use Rattle.agreement_laws.proofs.Tests.{one_read}

-- How many rounds there are.

-- the word of a bound, or of the next number or the one before where the interval is open there
abbrev pub after_if : (is_open : Bool) → ℕ → ℕ
after_if true x = wrap (x + 1)
after_if false x = x

abbrev pub before_if : (is_open : Bool) → ℕ → ℕ
before_if true y = wrap (y + 65535)
before_if false y = y

-- whether the interval takes a number, as a word
abbrev pub some_in : Base → (p q : Bool) → (x y : ℕ) → ℕ
some_in b p q x y = truth (nat_lt (first_of b p x) (beyond b q y))

first_number : (b : Base) (p : Bool) (x : ℕ) → x < 65536 → unshifted (first_of b p x) ≡ after_if p x
unfolding unshifted first_of past shifted wrap
first_number Signed true x lt = omega (arith, lt)
first_number Signed false x lt = omega (arith, lt)
first_number Unsigned true x lt = omega (arith, lt)
first_number Unsigned false x lt = omega (arith, lt)

last_number : (b : Base) (q : Bool) (y low : ℕ) → y < 65536 → low < beyond b q y → unshifted (beyond b q y - 1) ≡ before_if q y
unfolding unshifted beyond past shifted wrap
last_number Signed true y low lt some = omega (arith, lt, some)
last_number Signed false y low lt some = omega (arith, lt, some)
last_number Unsigned true y low lt some = omega (arith, lt, some)
last_number Unsigned false y low lt some = omega (arith, lt, some)

few_numbers : (b : Base) (p q : Bool) (x y : ℕ) → x < 65536 → y < 65536 → beyond b q y ≤ first_of b p x + 65536
unfolding first_of beyond past shifted
few_numbers Signed true true x y lx ly = omega (arith, lx, ly)
few_numbers Signed true false x y lx ly = omega (arith, lx, ly)
few_numbers Signed false true x y lx ly = omega (arith, lx, ly)
few_numbers Signed false false x y lx ly = omega (arith, lx, ly)
few_numbers Unsigned true true x y lx ly = omega (arith, lx, ly)
few_numbers Unsigned true false x y lx ly = omega (arith, lx, ly)
few_numbers Unsigned false true x y lx ly = omega (arith, lx, ly)
few_numbers Unsigned false false x y lx ly = omega (arith, lx, ly)

-- the number of the first round, going up or down
abbrev begin_at : (down : Bool) → (first past : ℕ) → ℕ
begin_at down first past = if down then unshifted (past - 1) else unshifted first

numbers_left : (down : Bool) (n first past : ℕ) → past - first ≡ n → past ≤ first + 65536
    → WordsLeft down n (begin_at down first past) (unshifted first) (unshifted (past - 1)) (truth (nat_lt first past))
unfolding truth unshifted wrap
numbers_left down zero first past e few = let d : nat_lt first past ≡ false = grind (arith, nat_tests) in by down (ap truth d)
  where
    by : (down : Bool) → truth (nat_lt first past) ≡ 0 → WordsLeft down zero (begin_at down first past) (unshifted first) (unshifted (past - 1)) (truth (nat_lt first past))
    by true e = e
    by false e = e
numbers_left false (suc more) first past e few =
    let d : nat_lt first past ≡ true = grind (arith, nat_tests) in
    (ap truth d, omega arith, refl, omega (arith, e), omega (arith, e, few))
numbers_left true (suc more) first past e few =
    let d : nat_lt first past ≡ true = grind (arith, nat_tests) in
    (ap truth d, omega arith, omega arith, refl, omega (arith, e), omega (arith, e, few))

-- where none is left nothing is said of the bounds
none_left : (down : Bool) (next other a b c d flag : ℕ) → WordsLeft down zero next a b flag → WordsLeft down zero other c d flag
none_left true next other a b c d flag h = h
none_left false next other a b c d flag h = h

words_left : (down : Bool) (b : Base) (p q : Bool) (x y n : ℕ) → x < 65536 → y < 65536 → beyond b q y - first_of b p x ≡ n
    → WordsLeft down n (begin_at down (first_of b p x) (beyond b q y)) (after_if p x) (before_if q y) (some_in b p q x y)
words_left down b p q x y zero lx ly e =
    let first = first_of b p x in let end = beyond b q y in
    none_left down (begin_at down first end) (begin_at down first end) (unshifted first) (unshifted (end - 1)) (after_if p x) (before_if q y) (some_in b p q x y)
    (numbers_left down zero first end e (few_numbers b p q x y lx ly))
words_left down b p q x y (suc more) lx ly e =
    let first = first_of b p x in let end = beyond b q y in
    subst (λ u. WordsLeft down (suc more) (begin_at down first end) u (before_if q y) (some_in b p q x y)) (first_number b p x lx)
    (subst (λ u. WordsLeft down (suc more) (begin_at down first end) (unshifted first) u (some_in b p q x y)) (last_number b q y first ly (omega (arith, e)))
    (numbers_left down (suc more) first end e (few_numbers b p q x y lx ly)))

-- the hidden words say the rounds of the interval
pub rounds_begin : (g : Given) (down : Bool) (b : Base) (p q : Bool) (z x y : ℕ) (m : ℕ → ℕ) → x < 65536 → y < 65536 → m z ≡ after_if p x → m (z + 1) ≡ before_if q y
    → m (z + 2) ≡ some_in b p q x y → RoundsLeft (CountedIn z g down) (rounds_of g down (first_of b p x) (beyond b q y)) m
unfolding rounds_of
rounds_begin g true b p q z x y m lx ly one two three =
    let first = first_of b p x in let end = beyond b q y in (
      refl,
      refl,
      left_same true (end - first) (unshifted (end - 1)) (m z) (m (z + 1)) (m (z + 2)) (after_if p x) (before_if q y) (some_in b p q x y) one two three
          (words_left true b p q x y (end - first) lx ly refl),
    )
rounds_begin g false b p q z x y m lx ly one two three =
    let first = first_of b p x in let end = beyond b q y in (
      refl,
      refl,
      left_same false (end - first) (unshifted first) (m z) (m (z + 1)) (m (z + 2)) (after_if p x) (before_if q y) (some_in b p q x y) one two three
          (words_left false b p q x y (end - first) lx ly refl),
    )

-- What the code makes of the words.

-- one is so and the other is not
but_not : (p q : Bool) → wrap (truth p * truth (nat_eq (truth q) 0)) ≡ truth (p && not q)
unfolding truth wrap
but_not true true = refl
but_not true false = refl
but_not false true = refl
but_not false false = refl

not_before : (m n : ℕ) → not (nat_lt n m) ≡ nat_lt m (suc n)
not_before m n = grind (arith, nat_tests)

less_after : (m n : ℕ) → nat_lt m n ≡ nat_lt (suc m) (suc n)
less_after m n = grind (arith, nat_tests)

-- one number is less than the other, and not next to it
less_between : (b : Base) (x y : ℕ) → x < 65536 → y < 65536
    → (nat_lt (shifted b x) (shifted b y) && not (nat_eq (wrap (y + (65536 - x))) 1)) ≡ nat_lt (suc (shifted b x)) (shifted b y)
unfolding shifted wrap
less_between Signed x y lx ly = grind (arith, nat_tests)
less_between Unsigned x y lx ly = grind (arith, nat_tests)

abbrev work : (ops vs gs : List ℕ) → Work
work ops vs gs = record { operands = ops; variables = vs; globals = gs }

module _ (texts : Strings) (number : ℕ) (vs gs : List ℕ) where
  less_works : (b : Base) (x y : ℕ) (ops : List ℕ) (is : List Instruction)
      → works_all texts number (less b ∷ is) (work (y ∷ x ∷ ops) vs gs) ≡ works_all texts number is (work (truth (nat_lt (shifted b x) (shifted b y)) ∷ ops) vs gs)
  unfolding works_all works go_on leaves related
  less_works Signed x y ops is = refl
  less_works Unsigned x y ops is = refl

  module _ (z x y : ℕ) (one : slots_of vs z ≡ x) (two : slots_of vs (z + 1) ≡ y) where
    loads_both : (is : List Instruction) → works_all texts number (LoadL z 2 ∷ is) (work [] vs gs) ≡ works_all texts number is (work (y ∷ x ∷ []) vs gs)
    unfolding works_all works go_on leaves
    loads_both is = ap (λ l. works_all texts number is (work (push l []) vs gs)) (two_read vs z x y one two)

    loads_back : (ops : List ℕ) (is : List Instruction)
        → works_all texts number (LoadL (z + 1) 1 ∷ LoadL z 1 ∷ is) (work ops vs gs) ≡ works_all texts number is (work (x ∷ y ∷ ops) vs gs)
    unfolding works_all works go_on leaves
    loads_back ops is =
        ap (λ l. works_all texts number (LoadL z 1 ∷ is) (work (push l ops) vs gs)) (one_read vs (z + 1) y two)
        ∙ ap (λ l. works_all texts number is (work (push l (y ∷ ops)) vs gs)) (one_read vs z x one)

    -- whether the interval takes a number
    some_works : (b : Base) (p q : Bool) → x < 65536 → y < 65536
        → works_all texts number (some_code z b p q) (work [] vs gs) ≡ Did (work (some_in b p q x y ∷ []) vs gs)
    unfolding works_all works go_on leaves first_of beyond past
    some_works b false false lx ly =
        loads_back [] (less b ∷ Not ∷ []) ∙ less_works b y x [] (Not ∷ [])
        ∙ ap (λ t. Did (work (t ∷ []) vs gs)) (truth_not (nat_lt (shifted b y) (shifted b x)) ∙ ap truth (not_before (shifted b x) (shifted b y)))
    some_works b false true lx ly = loads_both (less b ∷ []) ∙ less_works b x y [] []
    some_works b true false lx ly =
        loads_both (less b ∷ []) ∙ less_works b x y [] [] ∙ ap (λ t. Did (work (truth t ∷ []) vs gs)) (less_after (shifted b x) (shifted b y))
    some_works b true true lx ly =
        let l = nat_lt (shifted b x) (shifted b y) in
        let rest = Sub ∷ Lit 1 ∷ Eq ∷ Not ∷ Mul ∷ [] in
        loads_both (less b ∷ LoadL (z + 1) 1 ∷ LoadL z 1 ∷ rest) ∙ less_works b x y [] (LoadL (z + 1) 1 ∷ LoadL z 1 ∷ rest) ∙ loads_back (truth l ∷ []) rest
        ∙ ap (λ t. Did (work (t ∷ []) vs gs)) (but_not l (nat_eq (wrap (y + (65536 - x))) 1) ∙ ap truth (less_between b x y lx ly))

-- Words that are written, or not.

abbrev put_if : Bool → List ℕ → (z x : ℕ) → List ℕ
put_if true ws z x = put_words ws z (x ∷ [])
put_if false ws z x = ws

others_if : (p : Bool) (ws : List ℕ) (z x n : ℕ) → (n ≡ z → ⊥) → slots_of (put_if p ws z x) n ≡ slots_of ws n
others_if true ws z x n non = others_same ws z x n non
others_if false ws z x n non = refl

after_there : (p : Bool) (ws : List ℕ) (z x : ℕ) → slots_of ws z ≡ x → slots_of (put_if p ws z (wrap (x + 1))) z ≡ after_if p x
after_there true ws z x e = put_there ws z (wrap (x + 1))
after_there false ws z x e = e

before_there : (q : Bool) (ws : List ℕ) (z y : ℕ) → slots_of ws z ≡ y → slots_of (put_if q ws z (wrap (y + 65535))) z ≡ before_if q y
before_there true ws z y e = put_there ws z (wrap (y + 65535))
before_there false ws z y e = e

-- a slot outside of those of the loop
abbrev Outside : (z n : ℕ) → Type 0
Outside z n = (n < z) ⊎ (z + 3 ≤ n)

outside : (z k n : ℕ) → k < 3 → Outside z n → n ≡ z + k → ⊥
outside z k n lt (inl low) e = omega (arith, lt, low, e)
outside z k n lt (inr high) e = omega (arith, lt, high, e)

module _ (ws : List ℕ) (z x y : ℕ) where
  abbrev both_put : List ℕ
  both_put = put_words ws z (x ∷ y ∷ [])

  first_put : slots_of both_put z ≡ x
  unfolding slots_of
  first_put = ap (λ j. slots_of both_put j) (omega arith) ∙ put_here ws z (x ∷ y ∷ []) 0 (omega arith)

  last_put : slots_of both_put (z + 1) ≡ y
  unfolding slots_of
  last_put = put_here ws z (x ∷ y ∷ []) 1 (omega arith)

  others_put : (n : ℕ) → Outside z n → slots_of both_put n ≡ slots_of ws n
  others_put n (inl low) = put_below ws z (x ∷ y ∷ []) n low
  others_put n (inr high) = put_beyond ws z (x ∷ y ∷ []) n (omega (arith, high))

-- the words of the loop after its start; no other word of the frame is another
pub record Began (b : Base) (p q : Bool) (z x y : ℕ) (ws gs : List ℕ) (done : Done) : Type 0 where
  pub new : List ℕ
  pub is : done ≡ Did (work [] new gs)
  pub first : slots_of new z ≡ after_if p x
  pub last : slots_of new (z + 1) ≡ before_if q y
  pub flag : slots_of new (z + 2) ≡ some_in b p q x y
  pub others : (n : ℕ) → (n < z) ⊎ (z + 3 ≤ n) → slots_of new n ≡ slots_of ws n

module _ (texts : Strings) (number : ℕ) (gs : List ℕ) where
  after_works : (p : Bool) (vs : List ℕ) (z x : ℕ) → slots_of vs z ≡ x
      → works_all texts number (when p (up_code z)) (work [] vs gs) ≡ Did (work [] (put_if p vs z (wrap (x + 1))) gs)
  unfolding works_all works go_on leaves stores_local
  after_works true vs z x e = ap (λ l. works_all texts number (Lit 1 ∷ Add ∷ StoreL z 1 ∷ []) (work (push l []) vs gs)) (one_read vs z x e)
  after_works false vs z x e = refl

  before_works : (q : Bool) (vs : List ℕ) (z y : ℕ) → slots_of vs z ≡ y
      → works_all texts number (when q (down_code z)) (work [] vs gs) ≡ Did (work [] (put_if q vs z (wrap (y + 65535))) gs)
  unfolding works_all works go_on leaves stores_local
  before_works true vs z y e = ap (λ l. works_all texts number (Lit 1 ∷ Sub ∷ StoreL z 1 ∷ []) (work (push l []) vs gs)) (one_read vs z y e)
  before_works false vs z y e = refl

  stores_flag : (vs : List ℕ) (z t : ℕ) (is : List Instruction)
      → works_all texts number (StoreL z 1 ∷ is) (work (t ∷ []) vs gs) ≡ works_all texts number is (work [] (put_words vs z (t ∷ [])) gs)
  unfolding works_all works go_on stores_local
  stores_flag vs z t is = refl

  stores_both : (vs : List ℕ) (z x y : ℕ) (is : List Instruction)
      → works_all texts number (StoreL z 2 ∷ is) (work (y ∷ x ∷ []) vs gs) ≡ works_all texts number is (work [] (put_words vs z (x ∷ y ∷ [])) gs)
  unfolding works_all works go_on stores_local
  stores_both vs z x y is = refl

  pub start_works : (b : Base) (p q : Bool) (z x y : ℕ) (ws : List ℕ) → x < 65536 → y < 65536
      → Began b p q z x y ws gs (works_all texts number (start_code z b p q) (work (y ∷ x ∷ []) ws gs))
  unfolding and_then
  start_works b p q z x y ws lx ly =
      let vs = both_put ws z x y in
      let t = some_in b p q x y in
      let flagged = put_words vs (z + 2) (t ∷ []) in
      let opened = put_if p flagged z (wrap (x + 1)) in
      let one = others_same vs (z + 2) t z (λ e. omega (arith, e)) ∙ first_put ws z x y in
      let two =
      others_if p flagged z (wrap (x + 1)) (z + 1) (λ e. omega (arith, e)) ∙ others_same vs (z + 2) t (z + 1) (λ e. omega (arith, e))
      ∙ last_put ws z x y in
      let up = when p (up_code z) in
      let down = when q (down_code (z + 1)) in
      let rest = StoreL (z + 2) 1 ∷ (up ++ down) in
      record {
        new = put_if q opened (z + 1) (wrap (y + 65535));
        is =
            stores_both ws z x y (some_code z b p q ++ rest)
            ∙ works_both texts number (some_code z b p q) rest (work [] vs gs)
            ∙ ap (λ d. and_then d (works_all texts number rest)) (some_works texts number vs gs z x y (first_put ws z x y) (last_put ws z x y) b p q lx ly)
            ∙ stores_flag vs (z + 2) t (up ++ down)
            ∙ works_both texts number up down (work [] flagged gs)
            ∙ ap (λ d. and_then d (works_all texts number down)) (after_works p flagged z x one)
            ∙ before_works q opened (z + 1) y two;
        first = others_if q opened (z + 1) (wrap (y + 65535)) z (λ e. omega (arith, e)) ∙ after_there p flagged z x one;
        last = before_there q opened (z + 1) y two;
        flag =
            others_if q opened (z + 1) (wrap (y + 65535)) (z + 2) (λ e. omega (arith, e)) ∙ others_if p flagged z (wrap (x + 1)) (z + 2) (λ e. omega (arith, e))
            ∙ put_there vs (z + 2) t;
        others = λ n out.
            others_if q opened (z + 1) (wrap (y + 65535)) n (outside z 1 n (omega arith) out)
            ∙ others_if p flagged z (wrap (x + 1)) n (λ e. outside z 0 n (omega arith) out (omega (arith, e)))
            ∙ others_same vs (z + 2) t n (outside z 2 n (omega arith) out) ∙ others_put ws z x y n out;
      }
