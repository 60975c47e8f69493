-- Own code of leaves and operators, case by case, by what its instructions work.
use Rattle.std.proofs.Common.{◌≡◌, ℕ, zero, suc, ◌+◌, ◌-◌, ◌%◌, ◌<◌, ◌≤◌, List, [], ◌∷◌, length, Bool, true, false, refl, sym, ap, ◌∙◌, subst, inr, ⊎_elim, arith}
use Rattle.std.specs.Prelude.{nat_eq, nat_lt}
use Rattle.mesa_types.specs.declared.typed_parts.Base.{Base}
use Rattle.mesa_types.specs.declared.typed_parts.Base.TheVariants.{Signed, Unsigned}
use Rattle.mesa_types.specs.declared.typed_parts.Operator.{Operator}
use Rattle.mesa_types.specs.declared.typed_parts.Operator.TheVariants as operator
use Rattle.mesa_types.specs.declared.typed_parts.Range.TheVariants.{From}
use Rattle.mesa_base.specs.declared.relation.Relation.{Relation}
use Rattle.mesa_base.specs.declared.relation.Relation.TheVariants.{Equal, NotEqual, Less, AtMost, Greater, AtLeast}
use Rattle.mesa_types.specs.Operators.{WordFault, OutOfBounds, DividedByZero, wrap, shifted, quotient, remainder, related, truth, fits, by_divisor, character, tried}
use Rattle.code_forms.specs.declared.instruction.Instruction.{Instruction}
use Rattle.code_forms.specs.declared.instruction.Instruction.TheVariants.{LoadL, Add, Sub, LessC, CheckC, Pop, Roll}
use Rattle.machine_rules.specs.Words.{words_at, put_words, push}
use Rattle.machine_rules.specs.Working.{Work, Works, leaves, stores_local, in_bounds, leaves_tried, works}
use Rattle.code_rules.specs.OwnCode.{relation_code, operator_code}
use Rattle.agreement_rules.specs.Layout.{Strings}
use Rattle.agreement_rules.specs.Own.{Did, FaultAt, go_on, works_all, Outcome, Given, Raised, outcome, Kept, Comes, Does}
use Rattle.agreement_rules.proofs.Memory.{put_below, put_beyond, read_back}
use Rattle.agreement_rules.proofs.Arithmetic.{fits_true, fits_false, in_character, no_character, no_character_by, truth_not, at_most, false_is_zero, true_is_more, less_no, less_yes}

abbrev pub work : (operands variables globals : List ℕ) → Work
work operands variables globals = record { operands = operands; variables = variables; globals = globals }

-- Ways to come to an outcome.

pub same_kept : (t : ℕ) (vs : List ℕ) → Kept t vs vs
same_kept t vs n d = refl

pub put_kept : (t : ℕ) (vs new : List ℕ) → length new ≤ 16 → Kept t vs (put_words vs t new)
put_kept t vs new le n d =
    ⊎_elim (λ (l : n < t). put_below vs t new n l) (λ (g : t + 16 ≤ n). put_beyond vs t new n (omega arith)) d

pub gives : (t : ℕ) (rest vs now gs : List ℕ) (z : ℕ) (out : Outcome) → out ≡ Given (z ∷ []) → Kept t vs now
    → Comes t rest vs gs out (Did (work (z ∷ rest) now gs))
unfolding Comes
gives t rest vs now gs z out e k = subst (λ o. Comes t rest vs gs o (Did (work (z ∷ rest) now gs))) (sym e) (refl, k, refl)

pub faults : (t : ℕ) (rest vs now gs ops : List ℕ) (fault : WordFault) (out : Outcome) → out ≡ Raised fault → Kept t vs now
    → Comes t rest vs gs out (FaultAt fault (work ops now gs))
unfolding Comes
faults t rest vs now gs ops fault out e k = subst (λ o. Comes t rest vs gs o (FaultAt fault (work ops now gs))) (sym e) (refl, k, refl)

module _ (texts : Strings) (number t : ℕ) (rest vs gs : List ℕ) (out : Outcome) where
  -- what a test of an instruction leads to
  pub tests : (b : Bool) (before w : Work) (is : List Instruction) → (b ≡ true → Comes t rest vs gs out (works_all texts number is w))
      → (b ≡ false → Comes t rest vs gs out (FaultAt OutOfBounds before)) → Comes t rest vs gs out (go_on before (in_bounds b (Works w)) (works_all texts number is))
  unfolding go_on in_bounds
  tests true before w is fine bad = fine refl
  tests false before w is fine bad = bad refl

  -- a check leaves all as it is
  pub checks : (b : Bool) (w : Work) (is : List Instruction) → (b ≡ true → Comes t rest vs gs out (works_all texts number is w))
      → (b ≡ false → Comes t rest vs gs out (FaultAt OutOfBounds w)) → Comes t rest vs gs out (go_on w (in_bounds b (Works w)) (works_all texts number is))
  checks b w is fine bad = tests b w w is fine bad

  -- words that were read
  pub loads : (found ws ops now : List ℕ) (is : List Instruction) → found ≡ ws → Comes t rest vs gs out (works_all texts number is (work (push ws ops) now gs))
      → Comes t rest vs gs out (works_all texts number is (work (push found ops) now gs))
  loads found ws ops now is e h = subst (λ l. Comes t rest vs gs out (works_all texts number is (work (push l ops) now gs))) (sym e) h

  -- a divisor
  pub divided : (ops : List ℕ) (y z : ℕ) → out ≡ outcome (by_divisor y z)
      → Comes t rest vs gs out (go_on (work ops vs gs) (leaves_tried (by_divisor y z) rest (work ops vs gs)) (works_all texts number []))
  unfolding by_divisor leaves_tried leaves outcome go_on works_all
  divided ops zero z e = faults t rest vs vs gs ops DividedByZero out e (same_kept t vs)
  divided ops (suc y) z e = gives t rest vs vs gs z out e (same_kept t vs)

two_back : (vs : List ℕ) (t x y : ℕ) → words_at (put_words vs t (x ∷ y ∷ [])) t 2 ≡ x ∷ y ∷ []
two_back vs t x y =
    let e : t ≡ t + 0 = omega arith in
    ap (λ s. words_at (put_words vs t (x ∷ y ∷ [])) s 2) e ∙ read_back vs t [] (x ∷ y ∷ []) []

module _ (texts : Strings) (number t : ℕ) (vs gs : List ℕ) where
  -- Relations.

  pub relation_does : (b : Base) (o : Relation) (x y : ℕ)
      → Does texts number t vs gs (relation_code b o) (x ∷ y ∷ []) (Given (truth (related o b x y) ∷ []))
  unfolding related works_all works go_on leaves
  relation_does b Equal x y rest = gives t rest vs vs gs _ _ refl (same_kept t vs)
  relation_does b NotEqual x y rest = gives t rest vs vs gs _ _ (ap (λ z. Given (z ∷ [])) (sym (truth_not (nat_eq x y)))) (same_kept t vs)
  relation_does Signed Less x y rest = gives t rest vs vs gs _ _ refl (same_kept t vs)
  relation_does Unsigned Less x y rest = gives t rest vs vs gs _ _ refl (same_kept t vs)
  relation_does Signed AtMost x y rest = gives t rest vs vs gs _ _ (ap (λ z. Given (z ∷ [])) (at_most (shifted Signed x) (shifted Signed y))) (same_kept t vs)
  relation_does Unsigned AtMost x y rest = gives t rest vs vs gs _ _ (ap (λ z. Given (z ∷ [])) (at_most (shifted Unsigned x) (shifted Unsigned y))) (same_kept t vs)
  relation_does Signed Greater x y rest = gives t rest vs vs gs _ _ refl (same_kept t vs)
  relation_does Unsigned Greater x y rest = gives t rest vs vs gs _ _ refl (same_kept t vs)
  relation_does Signed AtLeast x y rest = gives t rest vs vs gs _ _ (ap (λ z. Given (z ∷ [])) (at_most (shifted Signed y) (shifted Signed x))) (same_kept t vs)
  relation_does Unsigned AtLeast x y rest = gives t rest vs vs gs _ _ (ap (λ z. Given (z ∷ [])) (at_most (shifted Unsigned y) (shifted Unsigned x))) (same_kept t vs)

module _ (texts : Strings) (number t : ℕ) (vs gs : List ℕ) (x y : ℕ) (small_x : x < 65536) (small_y : y < 65536) where
  -- Characters.

  add_unsigned : Does texts number t vs gs (operator_code t (operator.AddToCharacter Unsigned)) (x ∷ y ∷ []) (outcome (tried (operator.AddToCharacter Unsigned) x y))
  unfolding tried shifted works_all works go_on leaves wrap
  add_unsigned rest =
      let p = x + (y + 32768) in
      let out = outcome (character p) in
      let z = wrap (y + x) in
      let fails : 33024 ≤ p → (ops : List ℕ) → Comes t rest vs gs out (FaultAt OutOfBounds (work ops vs gs)) = λ le ops. faults t rest vs vs gs ops OutOfBounds out (no_character p (inr le)) (same_kept t vs) in
      checks texts number t rest vs gs out (fits (From Unsigned 0 255) y) (work (y ∷ x ∷ rest) vs gs) (Roll 1 1 ∷ CheckC 0 255 ∷ Add ∷ CheckC 0 255 ∷ [])
      (λ e. let a = fits_true Unsigned 0 255 y e in
      checks texts number t rest vs gs out (fits (From Unsigned 0 255) x) (work (x ∷ y ∷ rest) vs gs) (Add ∷ CheckC 0 255 ∷ [])
      (λ f. let b = fits_true Unsigned 0 255 x f in
      checks texts number t rest vs gs out (fits (From Unsigned 0 255) z) (work (z ∷ rest) vs gs) []
      (λ g. let c = fits_true Unsigned 0 255 z g in
      gives t rest vs vs gs z out (in_character p z (omega arith) (omega arith) (omega arith)) (same_kept t vs))
      (λ g. let c = fits_false Unsigned 0 255 z g in fails (omega arith) _))
      (λ f. let b = fits_false Unsigned 0 255 x f in fails (omega arith) _))
      (λ e. let a = fits_false Unsigned 0 255 y e in fails (omega arith) _)

  add_signed : Does texts number t vs gs (operator_code t (operator.AddToCharacter Signed)) (x ∷ y ∷ []) (outcome (tried (operator.AddToCharacter Signed) x y))
  unfolding tried shifted works_all works go_on leaves wrap
  add_signed rest =
      let p = x + ((y + 32768) % 65536) in
      let out = outcome (character p) in
      let z = wrap (y + x) in
      let fails : (32768 ≤ p → 33024 ≤ p) → (ops : List ℕ) → Comes t rest vs gs out (FaultAt OutOfBounds (work ops vs gs)) = λ h ops. faults t rest vs vs gs ops OutOfBounds out (no_character_by p h) (same_kept t vs) in
      checks texts number t rest vs gs out (fits (From Signed 32768 255) y) (work (y ∷ x ∷ rest) vs gs) (Roll 1 1 ∷ CheckC 0 33023 ∷ Add ∷ CheckC 0 255 ∷ [])
      (λ e. let a = fits_true Signed 32768 255 y e in
      checks texts number t rest vs gs out (fits (From Unsigned 0 33023) x) (work (x ∷ y ∷ rest) vs gs) (Add ∷ CheckC 0 255 ∷ [])
      (λ f. let b = fits_true Unsigned 0 33023 x f in
      checks texts number t rest vs gs out (fits (From Unsigned 0 255) z) (work (z ∷ rest) vs gs) []
      (λ g. let c = fits_true Unsigned 0 255 z g in
      gives t rest vs vs gs z out (in_character p z (omega arith) (omega arith) (omega arith)) (same_kept t vs))
      (λ g. let c = fits_false Unsigned 0 255 z g in fails (λ le. omega arith) _))
      (λ f. let b = fits_false Unsigned 0 33023 x f in fails (λ le. omega arith) _))
      (λ e. let a = fits_false Signed 32768 255 y e in fails (λ le. omega arith) _)

  subtract_signed : Does texts number t vs gs (operator_code t (operator.SubtractFromCharacter Signed)) (x ∷ y ∷ []) (outcome (tried (operator.SubtractFromCharacter Signed) x y))
  unfolding tried shifted works_all works go_on leaves wrap
  subtract_signed rest =
      let p = x + 65536 - ((y + 32768) % 65536) in
      let out = outcome (character p) in
      let z = wrap (x + (65536 - y)) in
      let fails : (32768 ≤ p → 33024 ≤ p) → (ops : List ℕ) → Comes t rest vs gs out (FaultAt OutOfBounds (work ops vs gs)) = λ h ops. faults t rest vs vs gs ops OutOfBounds out (no_character_by p h) (same_kept t vs) in
      checks texts number t rest vs gs out (fits (From Signed 65281 32767) y) (work (y ∷ x ∷ rest) vs gs) (Roll 1 1 ∷ CheckC 0 33022 ∷ Roll 1 1 ∷ Sub ∷ CheckC 0 255 ∷ [])
      (λ e. let a = fits_true Signed 65281 32767 y e in
      checks texts number t rest vs gs out (fits (From Unsigned 0 33022) x) (work (x ∷ y ∷ rest) vs gs) (Roll 1 1 ∷ Sub ∷ CheckC 0 255 ∷ [])
      (λ f. let b = fits_true Unsigned 0 33022 x f in
      checks texts number t rest vs gs out (fits (From Unsigned 0 255) z) (work (z ∷ rest) vs gs) []
      (λ g. let c = fits_true Unsigned 0 255 z g in
      gives t rest vs vs gs z out (in_character p z (omega arith) (omega arith) (omega arith)) (same_kept t vs))
      (λ g. let c = fits_false Unsigned 0 255 z g in fails (λ le. omega arith) _))
      (λ f. let b = fits_false Unsigned 0 33022 x f in fails (λ le. omega arith) _))
      (λ e. let a = fits_false Signed 65281 32767 y e in fails (λ le. omega arith) _)

  subtract_unsigned : Does texts number t vs gs (operator_code t (operator.SubtractFromCharacter Unsigned)) (x ∷ y ∷ []) (outcome (tried (operator.SubtractFromCharacter Unsigned) x y))
  unfolding tried shifted works_all works go_on leaves wrap stores_local related
  subtract_unsigned rest =
      let p = x + 65536 - (y + 32768) in
      let out = outcome (character p) in
      let now = put_words vs t (x ∷ y ∷ []) in
      let z = wrap (x + (65536 - y)) in
      let less = nat_lt (x + 32768) (y + 32768) in
      let fails : (32768 ≤ p → 33024 ≤ p) → (ops : List ℕ) → Comes t rest vs gs out (FaultAt OutOfBounds (work ops now gs)) = λ h ops. faults t rest vs now gs ops OutOfBounds out (no_character_by p h) (put_kept t vs (x ∷ y ∷ []) (omega arith)) in
      loads texts number t rest vs gs out (words_at now t 2) (x ∷ y ∷ []) rest now (LessC ∷ CheckC 0 0 ∷ Pop 1 ∷ LoadL t 2 ∷ Sub ∷ CheckC 0 255 ∷ []) (two_back vs t x y)
      (checks texts number t rest vs gs out (fits (From Unsigned 0 0) (truth less)) (work (truth less ∷ rest) now gs) (Pop 1 ∷ LoadL t 2 ∷ Sub ∷ CheckC 0 255 ∷ [])
      (λ e. let a = fits_true Unsigned 0 0 (truth less) e in
      let le : y ≤ x = less_no x y (false_is_zero less a.1) in
      loads texts number t rest vs gs out (words_at now t 2) (x ∷ y ∷ []) rest now (Sub ∷ CheckC 0 255 ∷ []) (two_back vs t x y)
      (checks texts number t rest vs gs out (fits (From Unsigned 0 255) z) (work (z ∷ rest) now gs) []
      (λ g. let c = fits_true Unsigned 0 255 z g in
      gives t rest vs now gs z out (in_character p z (omega arith) (omega arith) (omega arith)) (put_kept t vs (x ∷ y ∷ []) (omega arith)))
      (λ g. let c = fits_false Unsigned 0 255 z g in fails (λ h. omega arith) _)))
      (λ e. let a = fits_false Unsigned 0 0 (truth less) e in
      let lt : x < y = less_yes x y (true_is_more less a) in fails (λ h. omega arith) _))

  pub operator_does : (o : Operator) → Does texts number t vs gs (operator_code t o) (x ∷ y ∷ []) (outcome (tried o x y))
  unfolding tried works_all works go_on leaves outcome
  operator_does operator.Add rest = gives t rest vs vs gs _ _ refl (same_kept t vs)
  operator_does operator.Subtract rest = gives t rest vs vs gs _ _ refl (same_kept t vs)
  operator_does operator.Multiply rest = gives t rest vs vs gs _ _ refl (same_kept t vs)
  operator_does (operator.Divide Signed) rest = divided texts number t rest vs gs _ (y ∷ x ∷ rest) y (quotient Signed x y) refl
  operator_does (operator.Divide Unsigned) rest = divided texts number t rest vs gs _ (y ∷ x ∷ rest) y (quotient Unsigned x y) refl
  operator_does (operator.Modulo Signed) rest = divided texts number t rest vs gs _ (y ∷ x ∷ rest) y (remainder Signed x y) refl
  operator_does (operator.Modulo Unsigned) rest = divided texts number t rest vs gs _ (y ∷ x ∷ rest) y (remainder Unsigned x y) refl
  operator_does (operator.AddToCharacter Signed) rest = add_signed rest
  operator_does (operator.AddToCharacter Unsigned) rest = add_unsigned rest
  operator_does (operator.SubtractFromCharacter Signed) rest = subtract_signed rest
  operator_does (operator.SubtractFromCharacter Unsigned) rest = subtract_unsigned rest
