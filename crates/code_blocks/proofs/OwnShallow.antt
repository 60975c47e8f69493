-- How many words own code adds to the operand stack while it runs.
use Rattle.std.proofs.Common.{◌≡◌, refl, ℕ, zero, suc, ◌+◌, ◌≤◌, List, [], ◌∷◌, ◌++◌, length, Bool, true, false, nat_eq, if◌then◌else◌, arith}
use Rattle.mesa_types.specs.declared.typed_parts.Base.{Base}
use Rattle.mesa_types.specs.declared.typed_parts.Base.TheVariants.{Signed, Unsigned}
use Rattle.mesa_types.specs.declared.typed_parts.Bases.{Bases}
use Rattle.mesa_types.specs.declared.typed_parts.Conversion.{Conversion}
use Rattle.mesa_types.specs.declared.typed_parts.Conversion.TheVariants.{Kept, Widened, Narrowed, InCommon}
use Rattle.mesa_types.specs.declared.typed_parts.Given.{Given}
use Rattle.mesa_types.specs.declared.typed_parts.Given.TheVariants.{NoVariable, GivenTo}
use Rattle.mesa_types.specs.declared.typed_parts.Home.{Home}
use Rattle.mesa_types.specs.declared.typed_parts.Home.TheVariants.{Global, Local}
use Rattle.mesa_types.specs.declared.typed_parts.Operator.{Operator}
use Rattle.mesa_types.specs.declared.typed_parts.Operator.TheVariants as operator
use Rattle.mesa_types.specs.declared.typed_parts.Range.{Range}
use Rattle.mesa_types.specs.declared.typed_parts.Range.TheVariants.{Every, From}
use Rattle.mesa_base.specs.declared.relation.Relation.{Relation}
use Rattle.mesa_base.specs.declared.relation.Relation.TheVariants.{Equal, NotEqual, Less, AtMost, Greater, AtLeast}
use Rattle.mesa_types.specs.Typed.{Interval, Between}
use Rattle.code_forms.specs.declared.instruction.Instruction.{Instruction}
use Rattle.code_forms.specs.declared.instruction.Instruction.TheVariants as i
use Rattle.code_rules.specs.Loops.{Counter, NoCounter, CountedIn, start_code, some_code, up_code, down_code, when, give_code, step_code}
use Rattle.code_rules.specs.OwnCode.{pop_code, lift_code, drop_code, field_code, check_code, widen_code, narrow_code, conversion_code, from_code, index_code, comparison, long_comparison, is_opposite, not_if, relation_code, long_relation_code, operator_code, long_operator_code, less_code, bound_code, within_code, long_less_code, long_bound_code, long_within_code, total, size_for, size_after, without, rolls, arrange_from, arrange_code}
use Rattle.code_rules.specs.Reading.{Coded}
use Rattle.code_rules.specs.Slots.{store, zero_code, copy_code, spread_code}
use Rattle.code_blocks.specs.Translation.{within_of, long_within_of, start_of}
use Rattle.code_blocks.proofs.ExtractRows.{lift_left}
use Rattle.code_blocks.proofs.FineCode.{after_fits, left_over}
use Rattle.code_blocks.proofs.Shallow.{OwnShallow, own_to, own_both, puts_in, puts_both, rises}
use Rattle.code_blocks.proofs.StatementDepths.{pop_left}

pub pop_puts : (n : ℕ) → puts_in (pop_code n) ≡ 0
pop_puts zero = refl
pop_puts (suc n) = refl

pub check_puts : (range : Range) → puts_in (check_code range) ≤ 1
check_puts Every = omega arith
check_puts (From Signed first last) = omega arith
check_puts (From Unsigned first last) = omega arith

widen_puts : (a b : Base) → puts_in (widen_code a b) ≤ 4
widen_puts Signed Signed = omega arith
widen_puts Signed Unsigned = omega arith
widen_puts Unsigned Signed = omega arith
widen_puts Unsigned Unsigned = omega arith

narrow_puts : (a b : Base) → puts_in (narrow_code a b) ≤ 3
narrow_puts Signed Signed = omega arith
narrow_puts Signed Unsigned = omega arith
narrow_puts Unsigned Signed = omega arith
narrow_puts Unsigned Unsigned = omega arith

pub conversion_puts : (c : Conversion) → puts_in (conversion_code c) ≤ 4
conversion_puts Kept = omega arith
conversion_puts (Widened a b) = widen_puts a b
conversion_puts (Narrowed a b range) = omega (arith, puts_both (narrow_code a b) (check_code range), narrow_puts a b, check_puts range)
conversion_puts InCommon = omega arith

from_puts : (first : ℕ) → puts_in (from_code first) ≤ 2
from_puts zero = omega arith
from_puts (suc n) = omega arith

pub index_puts : (range : Range) (first n words : ℕ) → puts_in (index_code range first n words) ≤ 4
index_puts range first n words =
    omega (arith, puts_both (check_code range) (from_code first ++ i.Index n words ∷ []), puts_both (from_code first) (i.Index n words ∷ []), check_puts range, from_puts first)

pub comparison_puts : (b : Base) (o : Relation) → puts_in (comparison b o) ≤ 3
comparison_puts Signed Equal = omega arith
comparison_puts Signed NotEqual = omega arith
comparison_puts Signed Less = omega arith
comparison_puts Signed AtMost = omega arith
comparison_puts Signed Greater = omega arith
comparison_puts Signed AtLeast = omega arith
comparison_puts Unsigned Equal = omega arith
comparison_puts Unsigned NotEqual = omega arith
comparison_puts Unsigned Less = omega arith
comparison_puts Unsigned AtMost = omega arith
comparison_puts Unsigned Greater = omega arith
comparison_puts Unsigned AtLeast = omega arith

not_puts : (b : Bool) → puts_in (not_if b) ≤ 1
not_puts true = omega arith
not_puts false = omega arith

pub relation_puts : (b : Base) (o : Relation) → puts_in (relation_code b o) ≤ 4
relation_puts b o = omega (arith, puts_both (comparison b o) (not_if (is_opposite o)), comparison_puts b o, not_puts (is_opposite o))

pub operator_puts : (t : ℕ) (o : Operator) → puts_in (operator_code t o) ≤ 8
operator_puts t operator.Add = omega arith
operator_puts t operator.Subtract = omega arith
operator_puts t operator.Multiply = omega arith
operator_puts t (operator.Divide Signed) = omega arith
operator_puts t (operator.Divide Unsigned) = omega arith
operator_puts t (operator.Modulo Signed) = omega arith
operator_puts t (operator.Modulo Unsigned) = omega arith
operator_puts t (operator.AddToCharacter Signed) = omega arith
operator_puts t (operator.AddToCharacter Unsigned) = omega arith
operator_puts t (operator.SubtractFromCharacter Signed) = omega arith
operator_puts t (operator.SubtractFromCharacter Unsigned) = omega arith

pub long_comparison_puts : (b : Base) (o : Relation) → puts_in (long_comparison b o) ≤ 5
long_comparison_puts Signed Equal = omega arith
long_comparison_puts Signed NotEqual = omega arith
long_comparison_puts Signed Less = omega arith
long_comparison_puts Signed AtMost = omega arith
long_comparison_puts Signed Greater = omega arith
long_comparison_puts Signed AtLeast = omega arith
long_comparison_puts Unsigned Equal = omega arith
long_comparison_puts Unsigned NotEqual = omega arith
long_comparison_puts Unsigned Less = omega arith
long_comparison_puts Unsigned AtMost = omega arith
long_comparison_puts Unsigned Greater = omega arith
long_comparison_puts Unsigned AtLeast = omega arith

pub long_relation_puts : (b : Base) (o : Relation) → puts_in (long_relation_code b o) ≤ 6
long_relation_puts b o = omega (arith, puts_both (long_comparison b o) (not_if (is_opposite o)), long_comparison_puts b o, not_puts (is_opposite o))

pub long_operator_puts : (o : Operator) → puts_in (long_operator_code o) ≤ 2
long_operator_puts operator.Add = omega arith
long_operator_puts operator.Subtract = omega arith
long_operator_puts operator.Multiply = omega arith
long_operator_puts (operator.Divide Signed) = omega arith
long_operator_puts (operator.Divide Unsigned) = omega arith
long_operator_puts (operator.Modulo Signed) = omega arith
long_operator_puts (operator.Modulo Unsigned) = omega arith
long_operator_puts (operator.AddToCharacter b) = omega arith
long_operator_puts (operator.SubtractFromCharacter b) = omega arith

less_code_puts : (b : Base) (s : ℕ) (c : Base) (u : ℕ) → puts_in (less_code b s c u) ≤ 10
less_code_puts Signed s Signed u = omega arith
less_code_puts Unsigned s Unsigned u = omega arith
less_code_puts Signed s Unsigned u = omega arith
less_code_puts Unsigned s Signed u = omega arith

bound_puts : (is_open : Bool) (b : Base) (s : ℕ) (c : Base) (u : ℕ) → puts_in (bound_code is_open b s c u) ≤ 11
bound_puts true b s c u = omega (arith, less_code_puts b s c u)
bound_puts false b s c u = omega (arith, puts_both (less_code c u b s) (i.Not ∷ []), less_code_puts c u b s)

within_puts : (t : ℕ) (bases : Bases) (p q : Bool) → puts_in (within_code t bases p q) ≤ 23
within_puts t bases p q =
    let x = bound_code p bases.first (t + 1) bases.number t in
    let y = bound_code q bases.number t bases.last (t + 2) in
    omega (arith, puts_both x (y ++ i.Mul ∷ []), puts_both y (i.Mul ∷ []), bound_puts p bases.first (t + 1) bases.number t, bound_puts q bases.number t bases.last (t + 2))

pub within_of_puts : (t : ℕ) (bases : Bases) (range : Interval) → puts_in (within_of t bases range) ≤ 23
within_of_puts t bases (Between x p y q) = within_puts t bases p q

long_less_puts : (b : Base) (s : ℕ) (c : Base) (u : ℕ) → puts_in (long_less_code b s c u) ≤ 14
long_less_puts Signed s Signed u = omega arith
long_less_puts Unsigned s Unsigned u = omega arith
long_less_puts Signed s Unsigned u = omega arith
long_less_puts Unsigned s Signed u = omega arith

long_bound_puts : (is_open : Bool) (b : Base) (s : ℕ) (c : Base) (u : ℕ) → puts_in (long_bound_code is_open b s c u) ≤ 15
long_bound_puts true b s c u = omega (arith, long_less_puts b s c u)
long_bound_puts false b s c u = omega (arith, puts_both (long_less_code c u b s) (i.Not ∷ []), long_less_puts c u b s)

long_within_puts : (t : ℕ) (bases : Bases) (p q : Bool) → puts_in (long_within_code t bases p q) ≤ 31
long_within_puts t bases p q =
    let x = long_bound_code p bases.first (t + 2) bases.number t in
    let y = long_bound_code q bases.number t bases.last (t + 4) in
    omega (arith, puts_both x (y ++ i.Mul ∷ []), puts_both y (i.Mul ∷ []), long_bound_puts p bases.first (t + 2) bases.number t, long_bound_puts q bases.number t bases.last (t + 4))

pub long_within_of_puts : (t : ℕ) (bases : Bases) (range : Interval) → puts_in (long_within_of t bases range) ≤ 31
long_within_of_puts t bases (Between x p y q) = long_within_puts t bases p q

-- loops

when_puts : (b : Bool) (is : List Instruction) → puts_in (when b is) ≤ puts_in is
when_puts true is = omega arith
when_puts false is = omega arith

some_puts : (z : ℕ) (b : Base) (p q : Bool) → puts_in (some_code z b p q) ≤ 10
some_puts z Signed false false = omega arith
some_puts z Signed false true = omega arith
some_puts z Signed true false = omega arith
some_puts z Signed true true = omega arith
some_puts z Unsigned false false = omega arith
some_puts z Unsigned false true = omega arith
some_puts z Unsigned true false = omega arith
some_puts z Unsigned true true = omega arith

start_puts : (z : ℕ) (b : Base) (p q : Bool) → puts_in (start_code z b p q) ≤ 16
start_puts z b p q =
    omega (
      arith,
      puts_both (some_code z b p q) (i.StoreL (z + 2) 1 ∷ (when p (up_code z) ++ when q (down_code (z + 1)))),
      puts_both (when p (up_code z)) (when q (down_code (z + 1))),
      some_puts z b p q,
      when_puts p (up_code z),
      when_puts q (down_code (z + 1)),
    )

pub start_of_puts : (z : ℕ) (b : Base) (range : Interval) → puts_in (start_of z b range) ≤ 16
start_of_puts z b (Between x p y q) = start_puts z b p q

store_puts : (P : Coded) (h : Home) (offset words : ℕ) → puts_in (store P h offset words ∷ []) ≡ 0
store_puts P (Local n) offset words = refl
store_puts P (Global n) offset words = refl

pub give_puts : (P : Coded) (g : Given) (slot : ℕ) → puts_in (give_code P g slot) ≤ 2
give_puts P NoVariable slot = omega arith
give_puts P (GivenTo h range) slot =
    omega (arith, puts_both (check_code range) (store P h 0 1 ∷ []), check_puts range, store_puts P h 0 1)

pub step_puts : (k : Counter) → puts_in (step_code k) ≤ 8
step_puts NoCounter = omega arith
step_puts (CountedIn z g false) = omega arith
step_puts (CountedIn z g true) = omega arith

-- variables

pub zero_puts : (P : Coded) (hs : List Home) (words : ℕ) → puts_in (zero_code P hs words) ≡ 0
zero_puts P [] words = refl
zero_puts P (Local n ∷ hs) words = omega (arith, zero_puts P hs words)
zero_puts P (Global n ∷ hs) words = omega (arith, zero_puts P hs words)

copy_shallow : (P : Coded) (first : Home) (hs : List Home) (words d most : ℕ) → d + words ≤ most → OwnShallow (copy_code P first hs words) d most
copy_shallow P first [] words d most le = tt
copy_shallow P (Local m) (Local n ∷ hs) words d most le =
    (omega (arith, le), (omega (arith, le), own_to (copy_code P (Local m) hs words) _ d most (omega arith) (copy_shallow P (Local m) hs words d most le)))
copy_shallow P (Local m) (Global n ∷ hs) words d most le =
    (omega (arith, le), (omega (arith, le), own_to (copy_code P (Local m) hs words) _ d most (omega arith) (copy_shallow P (Local m) hs words d most le)))
copy_shallow P (Global m) (Local n ∷ hs) words d most le =
    (omega (arith, le), (omega (arith, le), own_to (copy_code P (Global m) hs words) _ d most (omega arith) (copy_shallow P (Global m) hs words d most le)))
copy_shallow P (Global m) (Global n ∷ hs) words d most le =
    (omega (arith, le), (omega (arith, le), own_to (copy_code P (Global m) hs words) _ d most (omega arith) (copy_shallow P (Global m) hs words d most le)))

pub spread_shallow : (P : Coded) (hs : List Home) (words d most : ℕ) → d + words ≤ most → OwnShallow (spread_code P hs words) (d + words) most
spread_shallow P [] words d most le = rises (pop_code words) (d + words) most (omega (arith, le, pop_puts words))
spread_shallow P (Local n ∷ hs) words d most le =
    (le, own_to (copy_code P (Local n) hs words) _ d most (omega arith) (copy_shallow P (Local n) hs words d most le))
spread_shallow P (Global n ∷ hs) words d most le =
    (le, own_to (copy_code P (Global n) hs words) _ d most (omega arith) (copy_shallow P (Global n) hs words d most le))

-- values that are rolled into order: no more words than there are

pub lift_shallow : (n k m most : ℕ) → m ≤ most → OwnShallow (lift_code n k) m most
lift_shallow n zero m most le = tt
lift_shallow n (suc k) m most le = (le, tt)

drop_shallow : (n k m most : ℕ) → n + k ≤ m → m ≤ most → OwnShallow (drop_code n k) m most
drop_shallow zero k m most fits le = tt
drop_shallow (suc n) k m most fits le =
    own_both (lift_code (suc n) k) (i.Pop (suc n) ∷ []) m most (lift_shallow (suc n) k m most le) (omega (arith, lift_left (suc n) k m fits, le), tt)

-- of a value, so many words after so many
pub field_shallow : (before words after d most : ℕ) → d + before + words + after ≤ most
    → OwnShallow (field_code before words after) (d + before + words + after) most
field_shallow before words after d most le =
    own_both (pop_code after) (drop_code before words) (d + before + words + after) most
    (rises (pop_code after) (d + before + words + after) most (omega (arith, le, pop_puts after)))
    (own_to (drop_code before words) _ (d + before + words) most (pop_left after (d + before + words))
    (drop_shallow before words (d + before + words) most (omega arith) (omega (arith, le))))

rolls_shallow : (q count : ℕ) (places sizes : List ℕ) (moved m most : ℕ) → total sizes + moved ≤ m → m ≤ most
    → OwnShallow (rolls q count places sizes moved) m most
rolls_shallow q zero places sizes moved m most le most_is = tt
rolls_shallow q (suc count) places sizes moved m most le most_is =
    let n = size_for q places sizes in
    let k = size_after q places sizes + moved in
    own_both (lift_code n k) _ m most (lift_shallow n k m most most_is)
    (own_to (rolls (suc q) count (without q places places) (without q places sizes) (moved + n)) _ m most
    (lift_left n k m (omega (arith, le, after_fits q places sizes)))
    (rolls_shallow (suc q) count (without q places places) (without q places sizes) (moved + n) m most (omega (arith, le, left_over q places sizes)) most_is))

arranged : (q : ℕ) (places sizes : List ℕ) (m most : ℕ) → total sizes ≤ m → m ≤ most → OwnShallow (arrange_from q places sizes) m most
arranged q [] sizes m most le most_is = tt
arranged q (p ∷ ps) [] m most le most_is = tt
arranged q (p ∷ ps) (s ∷ sizes) m most le most_is = go (nat_eq p q) (arranged (suc q) ps sizes m most (omega (arith, le)) most_is)
  where
    go : (b : Bool) → OwnShallow (arrange_from (suc q) ps sizes) m most
        → OwnShallow (if b then arrange_from (suc q) ps sizes else rolls q (length (p ∷ ps)) (p ∷ ps) (s ∷ sizes) 0) m most
    go true e = e
    go false e = rolls_shallow q (length (p ∷ ps)) (p ∷ ps) (s ∷ sizes) 0 m most (omega (arith, le)) most_is

pub arrange_shallow : (places sizes : List ℕ) (m most : ℕ) → total sizes ≤ m → m ≤ most → OwnShallow (arrange_code places sizes) m most
arrange_shallow places sizes m most le most_is = arranged 0 places sizes m most le most_is
