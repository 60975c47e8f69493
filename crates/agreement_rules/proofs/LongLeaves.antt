-- Own code over LONG numbers, case by case, by what its instructions work. The two words of a number lead back to it, so each row goes as the one
-- of words beside it.
use Rattle.std.proofs.Common.{◌≡◌, ℕ, zero, suc, ◌+◌, ◌-◌, ◌*◌, ◌<◌, ◌≤◌, List, [], ◌∷◌, ◌++◌, Bool, true, false, refl, sym, ap, ◌∙◌, subst, arith}
use Rattle.std.specs.Prelude.{nat_eq, nat_lt}
use Rattle.std.proofs.lemmas.Bool.Decides.{nat_tests}
use Rattle.mesa_types.specs.declared.typed_parts.Base.{Base}
use Rattle.mesa_types.specs.declared.typed_parts.Base.TheVariants.{Signed, Unsigned}
use Rattle.mesa_types.specs.declared.typed_parts.Conversion.{Conversion}
use Rattle.mesa_types.specs.declared.typed_parts.Conversion.TheVariants as conversion
use Rattle.mesa_types.specs.declared.typed_parts.Operator.{Operator}
use Rattle.mesa_types.specs.declared.typed_parts.Operator.TheVariants as operator
use Rattle.mesa_types.specs.declared.typed_parts.Range.{Range}
use Rattle.mesa_base.specs.declared.relation.Relation.{Relation}
use Rattle.mesa_base.specs.declared.relation.Relation.TheVariants.{Equal, NotEqual, Less, AtMost, Greater, AtLeast}
use Rattle.mesa_types.specs.Operators.{OutOfBounds, DividedByZero, truth, fine_if, checked, by_divisor}
use Rattle.mesa_types.specs.Longs.{more_of, less_of, two_words, long_of, wrap_long, shifted_long, opposite_long, quotient_long, remainder_long, tried_long, related_long, extended, is_in_common, widened, is_word_of, narrowed, on_fine, converted}
use Rattle.mesa_types.proofs.LongLaws.{joined, cardinal_either_way}
use Rattle.code_forms.specs.declared.instruction.Instruction.TheVariants.{NegD, NarrowI, CheckD}
use Rattle.machine_rules.specs.Working.{Work, Works, leaves, leaves_long, leaves_long_tried, in_bounds, works}
use Rattle.code_rules.specs.OwnCode.{check_code, long_code, conversion_code, long_relation_code, long_operator_code}
use Rattle.agreement_rules.specs.Layout.{Strings}
use Rattle.agreement_rules.specs.Own.{Did, FaultAt, go_on, works_all, Outcome, Given, Raised, outcome, long_outcome, Kept, Comes, Does}
use Rattle.agreement_rules.specs.Operators.{words_for, outcome_by, IsTakenBy}
use Rattle.agreement_rules.proofs.Arithmetic.{truth_not, at_most}
use Rattle.agreement_rules.proofs.Leaves.{work, same_kept, gives, faults, checks}
use Rattle.agreement_rules.proofs.Intervals.{check_does}

-- What is made of numbers is made of the numbers of their words.

pub one_again : {A : Type 0} (f : ℕ → A) (x : ℕ) → f x ≡ f (long_of (more_of x) (less_of x))
one_again f x = ap f (sym (joined x))

pub two_again : {A : Type 0} (f : ℕ → ℕ → A) (x y : ℕ) → f x y ≡ f (long_of (more_of x) (less_of x)) (long_of (more_of y) (less_of y))
two_again f x y = ap (λ a. f a y) (sym (joined x)) ∙ ap (λ b. f (long_of (more_of x) (less_of x)) b) (sym (joined y))

pub gives_long : (t : ℕ) (rest vs now gs : List ℕ) (z : ℕ) (out : Outcome) → out ≡ Given (two_words z) → Kept t vs now
    → Comes t rest vs gs out (Did (work (less_of z ∷ more_of z ∷ rest) now gs))
unfolding Comes two_words
gives_long t rest vs now gs z out e k = subst (λ o. Comes t rest vs gs o (Did (work (less_of z ∷ more_of z ∷ rest) now gs))) (sym e) (refl, k, refl)

-- a number of LONG CARDINAL that both LONG types have is a word of INTEGER where it is one with its sign; another one is none

integer_of_common : (n : ℕ) → n < 4294967296 → is_in_common n ≡ true → is_word_of Signed (shifted_long Unsigned n) ≡ is_word_of Signed (shifted_long Signed n)
unfolding is_in_common shifted_long
integer_of_common n lt e = let l : n < 2147483648 = grind (arith, nat_tests) in ap (λ p. is_word_of Signed p) (omega (arith, l))

no_integer : (n : ℕ) → is_in_common n ≡ false → is_word_of Signed (shifted_long Unsigned n) ≡ false
unfolding is_in_common shifted_long is_word_of
no_integer n e = let l : 2147483648 ≤ n = grind (arith, nat_tests) in grind (arith, nat_tests)

at_once : (r : Range) (m : ℕ) → outcome (on_fine (fine_if false m) (checked r)) ≡ Raised OutOfBounds
unfolding fine_if on_fine outcome
at_once r m = refl

module _ (texts : Strings) (number t : ℕ) (rest vs gs : List ℕ) (out : Outcome) where
  -- a divisor
  divided : (ops : List ℕ) (y z : ℕ) → out ≡ long_outcome (by_divisor y z)
      → Comes t rest vs gs out (go_on (work ops vs gs) (leaves_long_tried (by_divisor y z) rest (work ops vs gs)) (works_all texts number []))
  unfolding by_divisor leaves_long_tried leaves_long leaves long_outcome go_on works_all
  divided ops zero z e = faults t rest vs vs gs ops DividedByZero out e (same_kept t vs)
  divided ops (suc y) z e = gives_long t rest vs vs gs z out e (same_kept t vs)

module _ (texts : Strings) (number t : ℕ) (vs gs : List ℕ) where
  pub long_does : (n : ℕ) → Does texts number t vs gs (long_code n) [] (Given (two_words n))
  unfolding works_all works go_on leaves
  long_does n rest = gives_long t rest vs vs gs n _ refl (same_kept t vs)

  pub long_negation_does : (x : ℕ) → Does texts number t vs gs (NegD ∷ []) (two_words x) (Given (two_words (opposite_long x)))
  unfolding works_all works go_on leaves leaves_long two_words
  long_negation_does x rest =
      gives_long t rest vs vs gs (opposite_long (long_of (more_of x) (less_of x))) _ (one_again (λ a. Given (two_words (opposite_long a))) x) (same_kept t vs)

  -- Relations.

  pub long_relation_does : (b : Base) (o : Relation) (x y : ℕ)
      → Does texts number t vs gs (long_relation_code b o) (two_words x ++ two_words y) (Given (truth (related_long o b x y) ∷ []))
  unfolding related_long works_all works go_on leaves two_words
  long_relation_does b Equal x y rest = gives t rest vs vs gs _ _ (two_again (λ p q. Given (truth (nat_eq p q) ∷ [])) x y) (same_kept t vs)
  long_relation_does b NotEqual x y rest =
      gives t rest vs vs gs _ _ (ap (λ z. Given (z ∷ [])) (sym (truth_not (nat_eq x y))) ∙ two_again (λ p q. Given (truth (nat_eq (truth (nat_eq p q)) 0) ∷ [])) x y) (same_kept t vs)
  long_relation_does Signed Less x y rest =
      gives t rest vs vs gs _ _ (two_again (λ p q. Given (truth (nat_lt (shifted_long Signed p) (shifted_long Signed q)) ∷ [])) x y) (same_kept t vs)
  long_relation_does Unsigned Less x y rest =
      gives t rest vs vs gs _ _ (two_again (λ p q. Given (truth (nat_lt (shifted_long Unsigned p) (shifted_long Unsigned q)) ∷ [])) x y) (same_kept t vs)
  long_relation_does Signed AtMost x y rest =
      gives t rest vs vs gs _ _ (ap (λ z. Given (z ∷ [])) (at_most (shifted_long Signed x) (shifted_long Signed y))
      ∙ two_again (λ p q. Given (truth (nat_eq (truth (nat_lt (shifted_long Signed q) (shifted_long Signed p))) 0) ∷ [])) x y) (same_kept t vs)
  long_relation_does Unsigned AtMost x y rest =
      gives t rest vs vs gs _ _ (ap (λ z. Given (z ∷ [])) (at_most (shifted_long Unsigned x) (shifted_long Unsigned y))
      ∙ two_again (λ p q. Given (truth (nat_eq (truth (nat_lt (shifted_long Unsigned q) (shifted_long Unsigned p))) 0) ∷ [])) x y) (same_kept t vs)
  long_relation_does Signed Greater x y rest =
      gives t rest vs vs gs _ _ (two_again (λ p q. Given (truth (nat_lt (shifted_long Signed q) (shifted_long Signed p)) ∷ [])) x y) (same_kept t vs)
  long_relation_does Unsigned Greater x y rest =
      gives t rest vs vs gs _ _ (two_again (λ p q. Given (truth (nat_lt (shifted_long Unsigned q) (shifted_long Unsigned p)) ∷ [])) x y) (same_kept t vs)
  long_relation_does Signed AtLeast x y rest =
      gives t rest vs vs gs _ _ (ap (λ z. Given (z ∷ [])) (at_most (shifted_long Signed y) (shifted_long Signed x))
      ∙ two_again (λ p q. Given (truth (nat_eq (truth (nat_lt (shifted_long Signed p) (shifted_long Signed q))) 0) ∷ [])) x y) (same_kept t vs)
  long_relation_does Unsigned AtLeast x y rest =
      gives t rest vs vs gs _ _ (ap (λ z. Given (z ∷ [])) (at_most (shifted_long Unsigned y) (shifted_long Unsigned x))
      ∙ two_again (λ p q. Given (truth (nat_eq (truth (nat_lt (shifted_long Unsigned p) (shifted_long Unsigned q))) 0) ∷ [])) x y) (same_kept t vs)

  -- Operators.

  pub long_operator_does : (o : Operator) (x y : ℕ)
      → Does texts number t vs gs (long_operator_code o) (two_words x ++ two_words y) (long_outcome (tried_long o x y))
  unfolding tried_long works_all works go_on leaves leaves_long long_outcome two_words
  long_operator_does operator.Add x y rest =
      let a = long_of (more_of x) (less_of x) in let b = long_of (more_of y) (less_of y) in
      gives_long t rest vs vs gs (wrap_long (a + b)) _ (two_again (λ p q. Given (two_words (wrap_long (p + q)))) x y) (same_kept t vs)
  long_operator_does operator.Subtract x y rest =
      let a = long_of (more_of x) (less_of x) in let b = long_of (more_of y) (less_of y) in
      gives_long t rest vs vs gs (wrap_long (a + (4294967296 - b))) _ (two_again (λ p q. Given (two_words (wrap_long (p + (4294967296 - q))))) x y) (same_kept t vs)
  long_operator_does operator.Multiply x y rest =
      let a = long_of (more_of x) (less_of x) in let b = long_of (more_of y) (less_of y) in
      gives_long t rest vs vs gs (wrap_long (a * b)) _ (two_again (λ p q. Given (two_words (wrap_long (p * q)))) x y) (same_kept t vs)
  long_operator_does (operator.Divide Signed) x y rest =
      let a = long_of (more_of x) (less_of x) in let b = long_of (more_of y) (less_of y) in
      divided texts number t rest vs gs _ (less_of y ∷ more_of y ∷ less_of x ∷ more_of x ∷ rest) b (quotient_long Signed a b) (two_again (λ p q. long_outcome (by_divisor q (quotient_long Signed p q))) x y)
  long_operator_does (operator.Divide Unsigned) x y rest =
      let a = long_of (more_of x) (less_of x) in let b = long_of (more_of y) (less_of y) in
      divided texts number t rest vs gs _ (less_of y ∷ more_of y ∷ less_of x ∷ more_of x ∷ rest) b (quotient_long Unsigned a b) (two_again (λ p q. long_outcome (by_divisor q (quotient_long Unsigned p q))) x y)
  long_operator_does (operator.Modulo Signed) x y rest =
      let a = long_of (more_of x) (less_of x) in let b = long_of (more_of y) (less_of y) in
      divided texts number t rest vs gs _ (less_of y ∷ more_of y ∷ less_of x ∷ more_of x ∷ rest) b (remainder_long Signed a b) (two_again (λ p q. long_outcome (by_divisor q (remainder_long Signed p q))) x y)
  long_operator_does (operator.Modulo Unsigned) x y rest =
      let a = long_of (more_of x) (less_of x) in let b = long_of (more_of y) (less_of y) in
      divided texts number t rest vs gs _ (less_of y ∷ more_of y ∷ less_of x ∷ more_of x ∷ rest) b (remainder_long Unsigned a b) (two_again (λ p q. long_outcome (by_divisor q (remainder_long Unsigned p q))) x y)
  long_operator_does (operator.AddToCharacter c) x y rest =
      let a = long_of (more_of x) (less_of x) in let b = long_of (more_of y) (less_of y) in
      gives_long t rest vs vs gs (wrap_long (a + b)) _ (two_again (λ p q. Given (two_words (wrap_long (p + q)))) x y) (same_kept t vs)
  long_operator_does (operator.SubtractFromCharacter c) x y rest =
      let a = long_of (more_of x) (less_of x) in let b = long_of (more_of y) (less_of y) in
      gives_long t rest vs vs gs (wrap_long (a + (4294967296 - b))) _ (two_again (λ p q. Given (two_words (wrap_long (p + (4294967296 - q))))) x y) (same_kept t vs)

  -- Conversions.

  -- a number that both LONG types have stays
  in_common : (n : ℕ) (rest : List ℕ)
      → Comes t rest vs gs (long_outcome (fine_if (is_in_common n) n)) (works_all texts number (CheckD ∷ []) (work (less_of n ∷ more_of n ∷ rest) vs gs))
  unfolding works_all works leaves fine_if long_outcome
  in_common n rest =
      checks texts number t rest vs gs (long_outcome (fine_if (is_in_common n) n)) (is_in_common (long_of (more_of n) (less_of n))) (work (less_of n ∷ more_of n ∷ rest) vs gs) []
      (λ e. gives_long t rest vs vs gs n _ (ap (λ z. long_outcome (fine_if z n)) (one_again is_in_common n ∙ e)) (same_kept t vs))
      (λ e. faults t rest vs vs gs _ OutOfBounds _ (ap (λ z. long_outcome (fine_if z n)) (one_again is_in_common n ∙ e)) (same_kept t vs))

  widening_does : (from to : Base) (x : ℕ)
      → Does texts number t vs gs (conversion_code (conversion.Widened from to)) (x ∷ []) (long_outcome (widened from to x))
  unfolding widened works_all works go_on leaves leaves_long long_outcome
  widening_does Signed Signed x rest = gives_long t rest vs vs gs (extended Signed x) _ refl (same_kept t vs)
  widening_does Signed Unsigned x rest = in_common (extended Signed x) rest
  widening_does Unsigned Signed x rest = gives_long t rest vs vs gs (extended Unsigned x) _ refl (same_kept t vs)
  widening_does Unsigned Unsigned x rest = gives_long t rest vs vs gs (extended Unsigned x) _ refl (same_kept t vs)

  -- the word is checked behind
  word_by : (b : Bool) (m : ℕ) (r : Range) (before : Work) (rest : List ℕ)
      → ((fault : Outcome) → fault ≡ Raised OutOfBounds → Comes t rest vs gs fault (FaultAt OutOfBounds before))
      → Comes t rest vs gs (outcome (on_fine (fine_if b m) (checked r))) (go_on before (in_bounds b (Works (work (m ∷ rest) vs gs))) (works_all texts number (check_code r)))
  unfolding go_on in_bounds fine_if on_fine outcome
  word_by true m r before rest bad = check_does texts number t vs gs r m rest
  word_by false m r before rest bad = bad _ refl

  -- a number of two words that is one word, by the test of the instruction
  narrow_by : (b : Bool) (n : ℕ) (r : Range) (out : Outcome) (rest : List ℕ) → out ≡ outcome (on_fine (fine_if b (less_of (long_of (more_of n) (less_of n)))) (checked r))
      → Comes t rest vs gs out (go_on (work (less_of n ∷ more_of n ∷ rest) vs gs) (in_bounds b (Works (work (less_of (long_of (more_of n) (less_of n)) ∷ rest) vs gs))) (works_all texts number (check_code r)))
  narrow_by b n r out rest e =
      let before = work (less_of n ∷ more_of n ∷ rest) vs gs in
      let m = less_of (long_of (more_of n) (less_of n)) in
      subst (λ o. Comes t rest vs gs o (go_on before (in_bounds b (Works (work (m ∷ rest) vs gs))) (works_all texts number (check_code r)))) (sym e)
      (word_by b m r before rest (λ fault f. faults t rest vs vs gs (less_of n ∷ more_of n ∷ rest) OutOfBounds fault f (same_kept t vs)))

  -- what is not in common is no word of INTEGER
  from_cardinal : (b : Bool) (n : ℕ) (r : Range) (rest : List ℕ) → is_in_common (long_of (more_of n) (less_of n)) ≡ b → n < 4294967296
      → Comes t rest vs gs (outcome (on_fine (narrowed Unsigned Signed n) (checked r)))
      (go_on (work (less_of n ∷ more_of n ∷ rest) vs gs) (in_bounds b (Works (work (less_of n ∷ more_of n ∷ rest) vs gs))) (works_all texts number (NarrowI ∷ check_code r)))
  unfolding go_on in_bounds works_all works leaves narrowed
  from_cardinal true n r rest e lt =
      narrow_by (is_word_of Signed (shifted_long Signed (long_of (more_of n) (less_of n)))) n r _ rest
      (ap (λ b. outcome (on_fine (fine_if b (less_of n)) (checked r))) (integer_of_common n lt (one_again is_in_common n ∙ e))
      ∙ one_again (λ m. outcome (on_fine (fine_if (is_word_of Signed (shifted_long Signed m)) (less_of m)) (checked r))) n)
  from_cardinal false n r rest e lt =
      faults t rest vs vs gs _ OutOfBounds _ (ap (λ b. outcome (on_fine (fine_if b (less_of n)) (checked r))) (no_integer n (one_again is_in_common n ∙ e)) ∙ at_once r (less_of n)) (same_kept t vs)

  narrowing_does : (from to : Base) (r : Range) (n : ℕ) → n < 4294967296
      → Does texts number t vs gs (conversion_code (conversion.Narrowed from to r)) (two_words n) (outcome (on_fine (narrowed from to n) (checked r)))
  unfolding narrowed works_all works leaves two_words
  narrowing_does Signed Signed r n lt rest =
      narrow_by (is_word_of Signed (shifted_long Signed (long_of (more_of n) (less_of n)))) n r _ rest
      (one_again (λ m. outcome (on_fine (fine_if (is_word_of Signed (shifted_long Signed m)) (less_of m)) (checked r))) n)
  narrowing_does Signed Unsigned r n lt rest =
      narrow_by (is_word_of Unsigned (shifted_long Signed (long_of (more_of n) (less_of n)))) n r _ rest
      (one_again (λ m. outcome (on_fine (fine_if (is_word_of Unsigned (shifted_long Signed m)) (less_of m)) (checked r))) n)
  narrowing_does Unsigned Signed r n lt rest = from_cardinal (is_in_common (long_of (more_of n) (less_of n))) n r rest refl lt
  narrowing_does Unsigned Unsigned r n lt rest =
      narrow_by (is_word_of Unsigned (shifted_long Signed (long_of (more_of n) (less_of n)))) n r _ rest
      (ap (λ b. outcome (on_fine (fine_if b (less_of n)) (checked r))) (cardinal_either_way n lt)
      ∙ one_again (λ m. outcome (on_fine (fine_if (is_word_of Unsigned (shifted_long Signed m)) (less_of m)) (checked r))) n)

  stays : (x : ℕ) (rest : List ℕ) → Comes t rest vs gs (long_outcome (converted conversion.Kept x)) (works_all texts number [] (work (less_of x ∷ more_of x ∷ rest) vs gs))
  unfolding works_all converted long_outcome
  stays x rest = gives_long t rest vs vs gs x _ refl (same_kept t vs)

  both_have : (x : ℕ) (rest : List ℕ)
      → Comes t rest vs gs (long_outcome (converted conversion.InCommon x)) (works_all texts number (CheckD ∷ []) (work (less_of x ∷ more_of x ∷ rest) vs gs))
  unfolding converted
  both_have x rest = in_common x rest

  pub conversion_does : (c : Conversion) (x : ℕ) → IsTakenBy c x → Does texts number t vs gs (conversion_code c) (words_for c x) (outcome_by c (converted c x))
  unfolding IsTakenBy words_for outcome_by converted two_words
  conversion_does conversion.Kept x lt rest = stays x rest
  conversion_does (conversion.Widened from to) x lt rest = widening_does from to x rest
  conversion_does (conversion.Narrowed from to r) x lt rest = narrowing_does from to r x lt rest
  conversion_does conversion.InCommon x lt rest = both_have x rest
