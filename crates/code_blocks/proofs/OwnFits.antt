-- Own code fits: what is no variable's has operands in range wherever it stands; that of loops and tests needs their hidden words, that of
-- operators the scratch words.
use Rattle.std.proofs.Common.{ℕ, zero, suc, ◌+◌, ◌<◌, ◌≤◌, List, [], ◌∷◌, ◌++◌, length, Bool, true, false, nat_eq, arith}
use Rattle.std.specs.Prelude.{◌≢◌}
use Rattle.mesa_types.specs.declared.typed_parts.Base.{Base}
use Rattle.mesa_types.specs.declared.typed_parts.Base.TheVariants.{Signed, Unsigned}
use Rattle.mesa_types.specs.declared.typed_parts.Bases.{Bases}
use Rattle.mesa_types.specs.declared.typed_parts.Conversion.{Conversion}
use Rattle.mesa_types.specs.declared.typed_parts.Conversion.TheVariants.{Kept, Widened, Narrowed, InCommon}
use Rattle.mesa_types.specs.declared.typed_parts.Operator.{Operator}
use Rattle.mesa_types.specs.declared.typed_parts.Operator.TheVariants as operator
use Rattle.mesa_types.specs.declared.typed_parts.Range.{Range}
use Rattle.mesa_types.specs.declared.typed_parts.Range.TheVariants.{Every, From}
use Rattle.mesa_base.specs.declared.relation.Relation.{Relation}
use Rattle.mesa_base.specs.declared.relation.Relation.TheVariants.{Equal, NotEqual, Less, AtMost, Greater, AtLeast}
use Rattle.mesa_types.specs.Typed.{Interval, Between}
use Rattle.code_forms.specs.declared.instruction.Instruction.{Instruction}
use Rattle.code_forms.specs.declared.region.Region.{Region}
use Rattle.code_forms.specs.declared.region.Region.TheVariants.{Body}
use Rattle.code_forms.specs.Routine.{Routine}
use Rattle.code_rules.specs.Loops.{Counter, NoCounter, CountedIn, start_code, some_code, up_code, down_code, when, step_code}
use Rattle.code_rules.specs.OwnCode.{pop_code, lift_code, drop_code, field_code, check_code, widen_code, narrow_code, conversion_code, from_code, index_code, less, comparison, less_long, long_comparison, is_opposite, not_if, relation_code, long_relation_code, operator_code, long_operator_code, less_code, bound_code, within_code, long_less_code, long_bound_code, long_within_code, size_for, size_after, without, rolls, arrange_from, arrange_code}
use Rattle.code_blocks.specs.Translation.{within_of, long_within_of, start_of}
use Rattle.code_blocks.proofs.Fits.{FitsIn, AllFit, all_fit_both, all_fit_if}

module _ (r : Routine) (depth : ℕ) where
  abbrev Fit : List Instruction → Type 0
  Fit is = AllFit r depth is

  -- what has no operand to be in range
  pub any : (region : Region) → (0 < depth → region ≢ Body) → Unit {0}
  any region some = tt

  both : (is js : List Instruction) → Fit is → Fit js → Fit (is ++ js)
  both is js g h = all_fit_both r depth is js g h

  -- the operand stack

  pub pop_fits : (n : ℕ) → Fit (pop_code n)
  pop_fits zero = tt
  pop_fits (suc n) = (any, tt)

  pub lift_fits : (n k : ℕ) → Fit (lift_code n k)
  lift_fits n zero = tt
  lift_fits n (suc k) = (any, tt)

  drop_fits : (n k : ℕ) → Fit (drop_code n k)
  drop_fits zero k = tt
  drop_fits (suc n) k = both (lift_code (suc n) k) _ (lift_fits (suc n) k) (any, tt)

  pub field_fits : (before words after : ℕ) → Fit (field_code before words after)
  field_fits before words after = both (pop_code after) _ (pop_fits after) (drop_fits before words)

  pub check_fits : (range : Range) → Fit (check_code range)
  check_fits Every = tt
  check_fits (From Signed first last) = (any, tt)
  check_fits (From Unsigned first last) = (any, tt)

  widen_fits : (a b : Base) → Fit (widen_code a b)
  widen_fits Signed Signed = (any, tt)
  widen_fits Signed Unsigned = (any, (any, tt))
  widen_fits Unsigned Signed = (any, tt)
  widen_fits Unsigned Unsigned = (any, tt)

  narrow_fits : (a b : Base) → Fit (narrow_code a b)
  narrow_fits Signed Signed = (any, tt)
  narrow_fits Signed Unsigned = (any, tt)
  narrow_fits Unsigned Signed = (any, (any, tt))
  narrow_fits Unsigned Unsigned = (any, tt)

  pub conversion_fits : (c : Conversion) → Fit (conversion_code c)
  conversion_fits Kept = tt
  conversion_fits (Widened a b) = widen_fits a b
  conversion_fits (Narrowed a b range) = both (narrow_code a b) _ (narrow_fits a b) (check_fits range)
  conversion_fits InCommon = (any, tt)

  from_fits : (first : ℕ) → Fit (from_code first)
  from_fits zero = tt
  from_fits (suc n) = (any, (any, tt))

  pub index_fits : (range : Range) (first n words : ℕ) → Fit (index_code range first n words)
  index_fits range first n words = both (check_code range) _ (check_fits range) (both (from_code first) _ (from_fits first) (any, tt))

  less_fits : (b : Base) → FitsIn r depth (less b)
  less_fits Signed = any
  less_fits Unsigned = any

  pub comparison_fits : (b : Base) (o : Relation) → Fit (comparison b o)
  comparison_fits b Equal = (any, tt)
  comparison_fits b NotEqual = (any, tt)
  comparison_fits b Less = (less_fits b, tt)
  comparison_fits b AtMost = (any, (less_fits b, tt))
  comparison_fits b Greater = (any, (less_fits b, tt))
  comparison_fits b AtLeast = (less_fits b, tt)

  not_fits : (b : Bool) → Fit (not_if b)
  not_fits true = (any, tt)
  not_fits false = tt

  pub relation_fits : (b : Base) (o : Relation) → Fit (relation_code b o)
  relation_fits b o = both (comparison b o) _ (comparison_fits b o) (not_fits (is_opposite o))

  less_long_fits : (b : Base) → FitsIn r depth (less_long b)
  less_long_fits Signed = any
  less_long_fits Unsigned = any

  pub long_comparison_fits : (b : Base) (o : Relation) → Fit (long_comparison b o)
  long_comparison_fits b Equal = (any, tt)
  long_comparison_fits b NotEqual = (any, tt)
  long_comparison_fits b Less = (less_long_fits b, tt)
  long_comparison_fits b AtMost = (any, (less_long_fits b, tt))
  long_comparison_fits b Greater = (any, (less_long_fits b, tt))
  long_comparison_fits b AtLeast = (less_long_fits b, tt)

  pub long_relation_fits : (b : Base) (o : Relation) → Fit (long_relation_code b o)
  long_relation_fits b o = both (long_comparison b o) _ (long_comparison_fits b o) (not_fits (is_opposite o))

  pub long_operator_fits : (o : Operator) → Fit (long_operator_code o)
  long_operator_fits operator.Add = (any, tt)
  long_operator_fits operator.Subtract = (any, tt)
  long_operator_fits operator.Multiply = (any, tt)
  long_operator_fits (operator.Divide Signed) = (any, tt)
  long_operator_fits (operator.Divide Unsigned) = (any, tt)
  long_operator_fits (operator.Modulo Signed) = (any, tt)
  long_operator_fits (operator.Modulo Unsigned) = (any, tt)
  long_operator_fits (operator.AddToCharacter b) = (any, tt)
  long_operator_fits (operator.SubtractFromCharacter b) = (any, tt)

  rolls_fit : (q count : ℕ) (places sizes : List ℕ) (moved : ℕ) → Fit (rolls q count places sizes moved)
  rolls_fit q zero places sizes moved = tt
  rolls_fit q (suc count) places sizes moved =
      both (lift_code (size_for q places sizes) (size_after q places sizes + moved)) _ (lift_fits _ _)
      (rolls_fit (suc q) count (without q places places) (without q places sizes) (moved + size_for q places sizes))

  arranged_fit : (q : ℕ) (places sizes : List ℕ) → Fit (arrange_from q places sizes)
  arranged_fit q [] sizes = tt
  arranged_fit q (p ∷ ps) [] = tt
  arranged_fit q (p ∷ ps) (s ∷ sizes) =
      all_fit_if r depth (nat_eq p q) (arrange_from (suc q) ps sizes) (rolls q (length (p ∷ ps)) (p ∷ ps) (s ∷ sizes) 0) (arranged_fit (suc q) ps sizes)
      (rolls_fit q (length (p ∷ ps)) (p ∷ ps) (s ∷ sizes) 0)

  pub arrange_fits : (places sizes : List ℕ) → Fit (arrange_code places sizes)
  arrange_fits places sizes = arranged_fit 0 places sizes

  -- the scratch words from slot t on

  pub operator_fits : (t : ℕ) (o : Operator) → t + 16 ≤ r.frame → Fit (operator_code t o)
  operator_fits t operator.Add room = (any, tt)
  operator_fits t operator.Subtract room = (any, tt)
  operator_fits t operator.Multiply room = (any, tt)
  operator_fits t (operator.Divide Signed) room = (any, tt)
  operator_fits t (operator.Divide Unsigned) room = (any, tt)
  operator_fits t (operator.Modulo Signed) room = (any, tt)
  operator_fits t (operator.Modulo Unsigned) room = (any, tt)
  operator_fits t (operator.AddToCharacter Signed) room = (any, (any, (any, (any, (any, tt)))))
  operator_fits t (operator.AddToCharacter Unsigned) room = (any, (any, (any, (any, (any, tt)))))
  operator_fits t (operator.SubtractFromCharacter Signed) room = (any, (any, (any, (any, (any, (any, tt))))))
  operator_fits t (operator.SubtractFromCharacter Unsigned) room =
      let two : t + 2 ≤ r.frame = omega (arith, room) in
      (λ g some. two, (λ g some. two, (any, (any, (any, (λ g some. two, (any, (any, tt))))))))

  less_code_fits : (b : Base) (s : ℕ) (c : Base) (u : ℕ) → s + 1 ≤ r.frame → u + 1 ≤ r.frame → Fit (less_code b s c u)
  less_code_fits Signed s Signed u x y = (λ g some. x, (λ g some. y, (any, tt)))
  less_code_fits Unsigned s Unsigned u x y = (λ g some. x, (λ g some. y, (any, tt)))
  less_code_fits Signed s Unsigned u x y =
      (λ g some. x, (any, (any, (any, (λ g some. x, (λ g some. y, (any, (any, (any, (any, tt))))))))))
  less_code_fits Unsigned s Signed u x y =
      (λ g some. y, (any, (any, (any, (λ g some. x, (λ g some. y, (any, (any, tt))))))))

  bound_fits : (is_open : Bool) (b : Base) (s : ℕ) (c : Base) (u : ℕ) → s + 1 ≤ r.frame → u + 1 ≤ r.frame → Fit (bound_code is_open b s c u)
  bound_fits true b s c u x y = less_code_fits b s c u x y
  bound_fits false b s c u x y = both (less_code c u b s) _ (less_code_fits c u b s y x) (any, tt)

  within_fits : (t : ℕ) (bases : Bases) (p q : Bool) → t + 16 ≤ r.frame → Fit (within_code t bases p q)
  within_fits t bases p q room =
      let x : t + 1 ≤ r.frame = omega (arith, room) in
      let y : t + 1 + 1 ≤ r.frame = omega (arith, room) in
      let z : t + 2 + 1 ≤ r.frame = omega (arith, room) in (
        λ g some. omega (arith, room),
        both (bound_code p bases.first (t + 1) bases.number t) _ (bound_fits p bases.first (t + 1) bases.number t y x)
            (both (bound_code q bases.number t bases.last (t + 2)) _ (bound_fits q bases.number t bases.last (t + 2) x z) (any, tt)),
      )

  pub within_of_fits : (t : ℕ) (bases : Bases) (range : Interval) → t + 16 ≤ r.frame → Fit (within_of t bases range)
  within_of_fits t bases (Between x p y q) room = within_fits t bases p q room

  long_less_fits : (b : Base) (s : ℕ) (c : Base) (u : ℕ) → s + 2 ≤ r.frame → u + 2 ≤ r.frame → Fit (long_less_code b s c u)
  long_less_fits Signed s Signed u x y = (λ g some. x, (λ g some. y, (any, tt)))
  long_less_fits Unsigned s Unsigned u x y = (λ g some. x, (λ g some. y, (any, tt)))
  long_less_fits Signed s Unsigned u x y =
      (λ g some. x, (any, (any, (any, (any, (λ g some. x, (λ g some. y, (any, (any, (any, (any, tt)))))))))))
  long_less_fits Unsigned s Signed u x y =
      (λ g some. y, (any, (any, (any, (any, (λ g some. x, (λ g some. y, (any, (any, tt)))))))))

  long_bound_fits : (is_open : Bool) (b : Base) (s : ℕ) (c : Base) (u : ℕ) → s + 2 ≤ r.frame → u + 2 ≤ r.frame → Fit (long_bound_code is_open b s c u)
  long_bound_fits true b s c u x y = long_less_fits b s c u x y
  long_bound_fits false b s c u x y = both (long_less_code c u b s) _ (long_less_fits c u b s y x) (any, tt)

  long_within_fits : (t : ℕ) (bases : Bases) (p q : Bool) → t + 16 ≤ r.frame → Fit (long_within_code t bases p q)
  long_within_fits t bases p q room =
      let x : t + 2 ≤ r.frame = omega (arith, room) in
      let y : t + 2 + 2 ≤ r.frame = omega (arith, room) in
      let z : t + 4 + 2 ≤ r.frame = omega (arith, room) in (
        λ g some. omega (arith, room),
        both (long_bound_code p bases.first (t + 2) bases.number t) _ (long_bound_fits p bases.first (t + 2) bases.number t y x)
            (both (long_bound_code q bases.number t bases.last (t + 4)) _ (long_bound_fits q bases.number t bases.last (t + 4) x z) (any, tt)),
      )

  pub long_within_of_fits : (t : ℕ) (bases : Bases) (range : Interval) → t + 16 ≤ r.frame → Fit (long_within_of t bases range)
  long_within_of_fits t bases (Between x p y q) room = long_within_fits t bases p q room

  -- the three hidden words of a counted loop, from slot z on

  when_fits : (b : Bool) (is : List Instruction) → Fit is → Fit (when b is)
  when_fits true is h = h
  when_fits false is h = tt

  up_fits : (z : ℕ) → z + 1 ≤ r.frame → Fit (up_code z)
  up_fits z x = (λ g some. x, (any, (any, (λ g some. x, tt))))

  down_fits : (z : ℕ) → z + 1 ≤ r.frame → Fit (down_code z)
  down_fits z x = (λ g some. x, (any, (any, (λ g some. x, tt))))

  some_fits : (z : ℕ) (b : Base) (p q : Bool) → z + 3 ≤ r.frame → Fit (some_code z b p q)
  some_fits z b false false room = (λ g some. omega (arith, room), (λ g some. omega (arith, room), (less_fits b, (any, tt))))
  some_fits z b false true room = (λ g some. omega (arith, room), (less_fits b, tt))
  some_fits z b true false room = (λ g some. omega (arith, room), (less_fits b, tt))
  some_fits z b true true room =
      (λ g some. omega (arith, room), (less_fits b, (λ g some. omega (arith, room), (λ g some. omega (arith, room), (any, (any, (any, (any, (any, tt)))))))))

  start_fits : (z : ℕ) (b : Base) (p q : Bool) → z + 3 ≤ r.frame → Fit (start_code z b p q)
  start_fits z b p q room = (
    λ g some. omega (arith, room),
    both (some_code z b p q) _ (some_fits z b p q room) (
      λ g some. omega (arith, room),
      both (when p (up_code z)) _ (when_fits p (up_code z) (up_fits z (omega (arith, room))))
          (when_fits q (down_code (z + 1)) (down_fits (z + 1) (omega (arith, room)))),
    ),
  )

  pub start_of_fits : (z : ℕ) (b : Base) (range : Interval) → z + 3 ≤ r.frame → Fit (start_of z b range)
  start_of_fits z b (Between x p y q) room = start_fits z b p q room

  -- a loop that is counted has its words
  abbrev pub HasRoom : Counter → Type 0
  HasRoom NoCounter = Unit {0}
  HasRoom (CountedIn z g down) = z + 3 ≤ r.frame

  pub step_fits : (k : Counter) → HasRoom k → Fit (step_code k)
  step_fits NoCounter room = tt
  step_fits (CountedIn z g false) room =
      (λ g some. omega (arith, room), (any, (any, (λ g some. omega (arith, room), up_fits z (omega (arith, room))))))
  step_fits (CountedIn z g true) room =
      (λ g some. omega (arith, room), (any, (any, (λ g some. omega (arith, room), down_fits (z + 1) (omega (arith, room))))))
