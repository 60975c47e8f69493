-- Own code is low: its literals and bounds are words where those of the tree are, and it moves no more words than there are.
use Rattle.std.proofs.Common.{ℕ, zero, suc, ◌+◌, ◌<◌, ◌≤◌, List, [], ◌∷◌, length, Bool, true, false, nat_eq, arith}
use Rattle.mesa_types.specs.declared.typed_parts.Base.{Base}
use Rattle.mesa_types.specs.declared.typed_parts.Base.TheVariants.{Signed, Unsigned}
use Rattle.mesa_types.specs.declared.typed_parts.Bases.{Bases}
use Rattle.mesa_types.specs.declared.typed_parts.Callee.{Callee}
use Rattle.mesa_types.specs.declared.typed_parts.Callee.TheVariants.{OwnProcedure, LinkedProcedure}
use Rattle.mesa_types.specs.declared.typed_parts.Conversion.{Conversion}
use Rattle.mesa_types.specs.declared.typed_parts.Conversion.TheVariants.{Kept, Widened, Narrowed, InCommon}
use Rattle.mesa_types.specs.declared.typed_parts.Given.{Given}
use Rattle.mesa_types.specs.declared.typed_parts.Given.TheVariants.{NoVariable, GivenTo}
use Rattle.mesa_types.specs.declared.typed_parts.Home.{Home}
use Rattle.mesa_types.specs.declared.typed_parts.Home.TheVariants.{Global, Local}
use Rattle.mesa_types.specs.declared.typed_parts.Operator.{Operator}
use Rattle.mesa_types.specs.declared.typed_parts.Operator.TheVariants as operator
use Rattle.mesa_types.specs.declared.typed_parts.Raised.{Raised}
use Rattle.mesa_types.specs.declared.typed_parts.Raised.TheVariants.{OwnSignal, LinkedSignal, TheBoundsFault, TheZeroDivisor, TheUnnamed}
use Rattle.mesa_types.specs.declared.typed_parts.Range.{Range}
use Rattle.mesa_types.specs.declared.typed_parts.Range.TheVariants.{Every, From}
use Rattle.mesa_base.specs.declared.relation.Relation.{Relation}
use Rattle.mesa_base.specs.declared.relation.Relation.TheVariants.{Equal, NotEqual, Less, AtMost, Greater, AtLeast}
use Rattle.mesa_types.specs.declared.faces.Import.{Import}
use Rattle.mesa_types.specs.Sound.{Scope, IsCheck, RangeIn, Converts, ChecksKind, GivenIn}
use Rattle.mesa_types.specs.Typed.{Kind, Interval, Between}
use Rattle.mesa_types.proofs.LongLaws.{more_small, less_small}
use Rattle.code_forms.specs.declared.instruction.Instruction.{Instruction}
use Rattle.code_rules.specs.Links.{call_code, raise_code}
use Rattle.code_rules.specs.Loops.{Counter, NoCounter, CountedIn, start_code, some_code, up_code, down_code, when, give_code, step_code}
use Rattle.code_rules.specs.OwnCode.{pop_code, lift_code, drop_code, field_code, long_code, check_code, widen_code, narrow_code, conversion_code, from_code, index_code, less, comparison, less_long, long_comparison, is_opposite, not_if, relation_code, long_relation_code, operator_code, long_operator_code, less_code, bound_code, within_code, long_less_code, long_bound_code, long_within_code, total, size_for, size_after, without, rolls, arrange_from, arrange_code}
use Rattle.code_rules.specs.Reading.{Coded}
use Rattle.code_rules.specs.Slots.{load, store, load_within, store_within, clear, zero_code, copy_code, spread_code}
use Rattle.code_blocks.specs.Translation.{within_of, long_within_of, start_of}
use Rattle.code_blocks.proofs.FineCode.{after_fits, left_over}
use Rattle.code_ranges.proofs.Low.{IsLow, AllLow, all_low_both, all_low_if}

-- the operand stack

pub pop_low : (n : ℕ) → n ≤ 65535 → AllLow (pop_code n)
pop_low zero h = tt
pop_low (suc n) h = (h, tt)

pub lift_low : (n k : ℕ) → n ≤ 65535 → k ≤ 65535 → AllLow (lift_code n k)
lift_low n zero g h = tt
lift_low n (suc k) g h = ((g, h), tt)

drop_low : (n k : ℕ) → n ≤ 65535 → k ≤ 65535 → AllLow (drop_code n k)
drop_low zero k g h = tt
drop_low (suc n) k g h = all_low_both (lift_code (suc n) k) _ (lift_low (suc n) k g h) (g, tt)

pub field_low : (before words after : ℕ) → before ≤ 65535 → words ≤ 65535 → after ≤ 65535 → AllLow (field_code before words after)
field_low before words after f g h = all_low_both (pop_code after) _ (pop_low after h) (drop_low before words f g)

-- LONG numbers

pub long_low : (n : ℕ) → n < 4294967296 → AllLow (long_code n)
long_low n h = (omega (arith, more_small n h), (omega (arith, less_small n), tt))

-- checks and relations

pub check_low : (range : Range) → RangeIn range → AllLow (check_code range)
unfolding RangeIn IsCheck
check_low Every h = tt
check_low (From Signed first last) h = ((omega (arith, h.0), omega (arith, h.1)), tt)
check_low (From Unsigned first last) h = ((omega (arith, h.0), omega (arith, h.1)), tt)

pub range_is : (range : Range) → IsCheck range → RangeIn range
unfolding RangeIn IsCheck
range_is Every h = tt
range_is (From b first last) h = h

pub range_of : (range : Range) (k : Kind) → ChecksKind range k → RangeIn range
unfolding RangeIn ChecksKind
range_of Every k h = tt
range_of (From b first last) k h = h.0

widen_low : (a b : Base) → AllLow (widen_code a b)
widen_low Signed Signed = (tt, tt)
widen_low Signed Unsigned = (tt, (tt, tt))
widen_low Unsigned Signed = (tt, tt)
widen_low Unsigned Unsigned = (tt, tt)

narrow_low : (a b : Base) → AllLow (narrow_code a b)
narrow_low Signed Signed = (tt, tt)
narrow_low Signed Unsigned = (tt, tt)
narrow_low Unsigned Signed = (tt, (tt, tt))
narrow_low Unsigned Unsigned = (tt, tt)

pub conversion_low : (c : Conversion) (j k : Kind) → Converts c j k → AllLow (conversion_code c)
unfolding Converts
conversion_low Kept j k h = tt
conversion_low (Widened a b) j k h = widen_low a b
conversion_low (Narrowed a b range) j k h = all_low_both (narrow_code a b) _ (narrow_low a b) (check_low range h.0)
conversion_low InCommon j k h = (tt, tt)

from_low : (first : ℕ) → first ≤ 65535 → AllLow (from_code first)
from_low zero h = tt
from_low (suc n) h = (h, (tt, tt))

pub index_low : (range : Range) (first n words : ℕ) → RangeIn range → first ≤ 65535 → n ≤ 65535 → words ≤ 65535 → AllLow (index_code range first n words)
index_low range first n words r f g h =
    all_low_both (check_code range) _ (check_low range r) (all_low_both (from_code first) _ (from_low first f) ((g, h), tt))

less_low : (b : Base) → IsLow (less b)
less_low Signed = tt
less_low Unsigned = tt

pub comparison_low : (b : Base) (o : Relation) → AllLow (comparison b o)
comparison_low b Equal = (tt, tt)
comparison_low b NotEqual = (tt, tt)
comparison_low b Less = (less_low b, tt)
comparison_low b AtMost = ((omega arith, omega arith), (less_low b, tt))
comparison_low b Greater = ((omega arith, omega arith), (less_low b, tt))
comparison_low b AtLeast = (less_low b, tt)

not_low : (b : Bool) → AllLow (not_if b)
not_low true = (tt, tt)
not_low false = tt

pub relation_low : (b : Base) (o : Relation) → AllLow (relation_code b o)
relation_low b o = all_low_both (comparison b o) _ (comparison_low b o) (not_low (is_opposite o))

less_long_low : (b : Base) → IsLow (less_long b)
less_long_low Signed = tt
less_long_low Unsigned = tt

pub long_comparison_low : (b : Base) (o : Relation) → AllLow (long_comparison b o)
long_comparison_low b Equal = (tt, tt)
long_comparison_low b NotEqual = (tt, tt)
long_comparison_low b Less = (less_long_low b, tt)
long_comparison_low b AtMost = ((omega arith, omega arith), (less_long_low b, tt))
long_comparison_low b Greater = ((omega arith, omega arith), (less_long_low b, tt))
long_comparison_low b AtLeast = (less_long_low b, tt)

pub long_relation_low : (b : Base) (o : Relation) → AllLow (long_relation_code b o)
long_relation_low b o = all_low_both (long_comparison b o) _ (long_comparison_low b o) (not_low (is_opposite o))

-- values that are rolled into order: no more words than there are

rolls_low : (q count : ℕ) (places sizes : List ℕ) (moved : ℕ) → total sizes + moved ≤ 65535 → AllLow (rolls q count places sizes moved)
rolls_low q zero places sizes moved le = tt
rolls_low q (suc count) places sizes moved le =
    let n = size_for q places sizes in
    let k = size_after q places sizes + moved in
    all_low_both (lift_code n k) _ (lift_low n k (omega (arith, le, after_fits q places sizes)) (omega (arith, le, after_fits q places sizes)))
    (rolls_low (suc q) count (without q places places) (without q places sizes) (moved + n) (omega (arith, le, left_over q places sizes)))

arranged_low : (q : ℕ) (places sizes : List ℕ) → total sizes ≤ 65535 → AllLow (arrange_from q places sizes)
arranged_low q [] sizes le = tt
arranged_low q (p ∷ ps) [] le = tt
arranged_low q (p ∷ ps) (s ∷ sizes) le =
    all_low_if (nat_eq p q) (arrange_from (suc q) ps sizes) (rolls q (length (p ∷ ps)) (p ∷ ps) (s ∷ sizes) 0)
    (arranged_low (suc q) ps sizes (omega (arith, le))) (rolls_low q (length (p ∷ ps)) (p ∷ ps) (s ∷ sizes) 0 (omega (arith, le)))

pub arrange_low : (places sizes : List ℕ) → total sizes ≤ 65535 → AllLow (arrange_code places sizes)
arrange_low places sizes le = arranged_low 0 places sizes le

-- operators and intervals

pub operator_low : (t : ℕ) (o : Operator) → AllLow (operator_code t o)
operator_low t operator.Add = (tt, tt)
operator_low t operator.Subtract = (tt, tt)
operator_low t operator.Multiply = (tt, tt)
operator_low t (operator.Divide Signed) = (tt, tt)
operator_low t (operator.Divide Unsigned) = (tt, tt)
operator_low t (operator.Modulo Signed) = (tt, tt)
operator_low t (operator.Modulo Unsigned) = (tt, tt)
operator_low t (operator.AddToCharacter Signed) =
    ((omega arith, omega arith), ((omega arith, omega arith), ((omega arith, omega arith), (tt, ((omega arith, omega arith), tt)))))
operator_low t (operator.AddToCharacter Unsigned) =
    ((omega arith, omega arith), ((omega arith, omega arith), ((omega arith, omega arith), (tt, ((omega arith, omega arith), tt)))))
operator_low t (operator.SubtractFromCharacter Signed) =
    ((omega arith, omega arith), ((omega arith, omega arith), ((omega arith, omega arith), ((omega arith, omega arith), (tt, ((omega arith, omega arith), tt))))))
operator_low t (operator.SubtractFromCharacter Unsigned) =
    (tt, (tt, (tt, ((omega arith, omega arith), (omega arith, (tt, (tt, ((omega arith, omega arith), tt))))))))

pub long_operator_low : (o : Operator) → AllLow (long_operator_code o)
long_operator_low operator.Add = (tt, tt)
long_operator_low operator.Subtract = (tt, tt)
long_operator_low operator.Multiply = (tt, tt)
long_operator_low (operator.Divide Signed) = (tt, tt)
long_operator_low (operator.Divide Unsigned) = (tt, tt)
long_operator_low (operator.Modulo Signed) = (tt, tt)
long_operator_low (operator.Modulo Unsigned) = (tt, tt)
long_operator_low (operator.AddToCharacter b) = (tt, tt)
long_operator_low (operator.SubtractFromCharacter b) = (tt, tt)

less_code_low : (b : Base) (s : ℕ) (c : Base) (u : ℕ) → AllLow (less_code b s c u)
less_code_low Signed s Signed u = (tt, (tt, (tt, tt)))
less_code_low Unsigned s Unsigned u = (tt, (tt, (tt, tt)))
less_code_low Signed s Unsigned u = (tt, (omega arith, (tt, (tt, (tt, (tt, (tt, (tt, (tt, (tt, tt))))))))))
less_code_low Unsigned s Signed u = (tt, (omega arith, (tt, (tt, (tt, (tt, (tt, (tt, tt))))))))

bound_low : (is_open : Bool) (b : Base) (s : ℕ) (c : Base) (u : ℕ) → AllLow (bound_code is_open b s c u)
bound_low true b s c u = less_code_low b s c u
bound_low false b s c u = all_low_both (less_code c u b s) _ (less_code_low c u b s) (tt, tt)

within_low : (t : ℕ) (bases : Bases) (p q : Bool) → AllLow (within_code t bases p q)
within_low t bases p q = (
  tt,
  all_low_both (bound_code p bases.first (t + 1) bases.number t) _ (bound_low p bases.first (t + 1) bases.number t)
      (all_low_both (bound_code q bases.number t bases.last (t + 2)) _ (bound_low q bases.number t bases.last (t + 2)) (tt, tt)),
)

pub within_of_low : (t : ℕ) (bases : Bases) (range : Interval) → AllLow (within_of t bases range)
within_of_low t bases (Between x p y q) = within_low t bases p q

long_less_low : (b : Base) (s : ℕ) (c : Base) (u : ℕ) → AllLow (long_less_code b s c u)
long_less_low Signed s Signed u = (tt, (tt, (tt, tt)))
long_less_low Unsigned s Unsigned u = (tt, (tt, (tt, tt)))
long_less_low Signed s Unsigned u = (tt, (omega arith, (omega arith, (tt, (tt, (tt, (tt, (tt, (tt, (tt, (tt, tt)))))))))))
long_less_low Unsigned s Signed u = (tt, (omega arith, (omega arith, (tt, (tt, (tt, (tt, (tt, (tt, tt)))))))))

long_bound_low : (is_open : Bool) (b : Base) (s : ℕ) (c : Base) (u : ℕ) → AllLow (long_bound_code is_open b s c u)
long_bound_low true b s c u = long_less_low b s c u
long_bound_low false b s c u = all_low_both (long_less_code c u b s) _ (long_less_low c u b s) (tt, tt)

long_within_low : (t : ℕ) (bases : Bases) (p q : Bool) → AllLow (long_within_code t bases p q)
long_within_low t bases p q = (
  tt,
  all_low_both (long_bound_code p bases.first (t + 2) bases.number t) _ (long_bound_low p bases.first (t + 2) bases.number t)
      (all_low_both (long_bound_code q bases.number t bases.last (t + 4)) _ (long_bound_low q bases.number t bases.last (t + 4)) (tt, tt)),
)

pub long_within_of_low : (t : ℕ) (bases : Bases) (range : Interval) → AllLow (long_within_of t bases range)
long_within_of_low t bases (Between x p y q) = long_within_low t bases p q

-- counted loops

when_low : (b : Bool) (is : List Instruction) → AllLow is → AllLow (when b is)
when_low true is h = h
when_low false is h = tt

up_low : (z : ℕ) → AllLow (up_code z)
up_low z = (tt, (omega arith, (tt, (tt, tt))))

down_low : (z : ℕ) → AllLow (down_code z)
down_low z = (tt, (omega arith, (tt, (tt, tt))))

some_low : (z : ℕ) (b : Base) (p q : Bool) → AllLow (some_code z b p q)
some_low z b false false = (tt, (tt, (less_low b, (tt, tt))))
some_low z b false true = (tt, (less_low b, tt))
some_low z b true false = (tt, (less_low b, tt))
some_low z b true true = (tt, (less_low b, (tt, (tt, (tt, (omega arith, (tt, (tt, (tt, tt)))))))))

start_low : (z : ℕ) (b : Base) (p q : Bool) → AllLow (start_code z b p q)
start_low z b p q = (
  tt,
  all_low_both (some_code z b p q) _ (some_low z b p q) (
    tt,
    all_low_both (when p (up_code z)) _ (when_low p (up_code z) (up_low z)) (when_low q (down_code (z + 1)) (down_low (z + 1))),
  ),
)

pub start_of_low : (z : ℕ) (b : Base) (range : Interval) → AllLow (start_of z b range)
start_of_low z b (Between x p y q) = start_low z b p q

pub step_low : (k : Counter) → AllLow (step_code k)
step_low NoCounter = tt
step_low (CountedIn z g false) = (tt, (tt, (tt, (tt, up_low z))))
step_low (CountedIn z g true) = (tt, (tt, (tt, (tt, down_low (z + 1)))))

-- variables

module _ (P : Coded) where
  pub load_low : (h : Home) (offset words : ℕ) → IsLow (load P h offset words)
  load_low (Local n) offset words = tt
  load_low (Global n) offset words = tt

  pub store_low : (h : Home) (offset words : ℕ) → IsLow (store P h offset words)
  store_low (Local n) offset words = tt
  store_low (Global n) offset words = tt

  pub load_within_low : (h : Home) (words : ℕ) → IsLow (load_within P h words)
  load_within_low (Local n) words = tt
  load_within_low (Global n) words = tt

  pub store_within_low : (h : Home) (words : ℕ) → IsLow (store_within P h words)
  store_within_low (Local n) words = tt
  store_within_low (Global n) words = tt

  clear_low : (h : Home) (words : ℕ) → IsLow (clear P h words)
  clear_low (Local n) words = tt
  clear_low (Global n) words = tt

  pub zero_low : (hs : List Home) (words : ℕ) → AllLow (zero_code P hs words)
  zero_low [] words = tt
  zero_low (h ∷ hs) words = (clear_low h words, zero_low hs words)

  copy_low : (first : Home) (hs : List Home) (words : ℕ) → AllLow (copy_code P first hs words)
  copy_low first [] words = tt
  copy_low first (h ∷ hs) words = (load_low first 0 words, (store_low h 0 words, copy_low first hs words))

  pub spread_low : (hs : List Home) (words : ℕ) → words ≤ 65535 → AllLow (spread_code P hs words)
  spread_low [] words le = pop_low words le
  spread_low (h ∷ hs) words le = (store_low h 0 words, copy_low h hs words)

  pub give_low : (Γ : Scope) (g : Given) (slot : ℕ) → GivenIn Γ g → AllLow (give_code P g slot)
  unfolding GivenIn
  give_low Γ NoVariable slot h = tt
  give_low Γ (GivenTo v range) slot h = (tt, all_low_both (check_code range) _ (check_low range h.1) (store_low v 0 1, tt))

-- calls and raises

pub call_low : (imports : List Import) (c : Callee) → IsLow (call_code imports c)
call_low imports (OwnProcedure q) = tt
call_low imports (LinkedProcedure k n) = tt

pub raise_low : (imports : List Import) (x : Raised) → IsLow (raise_code imports x)
raise_low imports (OwnSignal n) = tt
raise_low imports (LinkedSignal k n) = tt
raise_low imports TheBoundsFault = tt
raise_low imports TheZeroDivisor = tt
raise_low imports TheUnnamed = tt
