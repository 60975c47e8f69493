-- Own code calls and raises nothing, and jumps nowhere.
use Rattle.std.proofs.Common.{◌≡◌, refl, ap, ◌∙◌, ℕ, zero, suc, ◌+◌, ◌-◌, List, [], ◌∷◌, ◌++◌, length, Bool, true, false, nat_eq, if◌then◌else◌}
use Rattle.mesa_types.specs.declared.typed_parts.Base.{Base}
use Rattle.mesa_types.specs.declared.typed_parts.Base.TheVariants.{Signed, Unsigned}
use Rattle.mesa_types.specs.declared.typed_parts.Bases.{Bases}
use Rattle.mesa_types.specs.declared.typed_parts.Conversion.{Conversion}
use Rattle.mesa_types.specs.declared.typed_parts.Conversion.TheVariants.{Kept, Widened, Narrowed, InCommon}
use Rattle.mesa_types.specs.declared.typed_parts.Given.{Given}
use Rattle.mesa_types.specs.declared.typed_parts.Given.TheVariants.{NoVariable, GivenTo}
use Rattle.mesa_types.specs.declared.typed_parts.Home.{Home}
use Rattle.mesa_types.specs.declared.typed_parts.Home.TheVariants.{Global, Local}
use Rattle.mesa_types.specs.declared.typed_parts.Operator.{Operator}
use Rattle.mesa_types.specs.declared.typed_parts.Operator.TheVariants as operator
use Rattle.mesa_types.specs.declared.typed_parts.Range.{Range}
use Rattle.mesa_types.specs.declared.typed_parts.Range.TheVariants.{Every, From}
use Rattle.mesa_base.specs.declared.relation.Relation.{Relation}
use Rattle.mesa_base.specs.declared.relation.Relation.TheVariants.{Equal, NotEqual, Less, AtMost, Greater, AtLeast}
use Rattle.code_forms.specs.declared.around.Moved.{Moved}
use Rattle.code_forms.specs.declared.instruction.Instruction.{Instruction}
use Rattle.code_forms.specs.declared.instruction.Instruction.TheVariants as i
use Rattle.code_forms.specs.Instructions.{Effect, Fixed, OfProcedure, OfSignal, OfLink, effect_of}
use Rattle.code_forms.specs.Depths.{depth_after}
use Rattle.code_forms.specs.Routine.{Routine, effect_words}
use Rattle.code_rules.specs.Laws.{left_by}
use Rattle.code_rules.specs.Loops.{Counter, NoCounter, CountedIn, start_code, some_code, up_code, down_code, when, give_code, step_code}
use Rattle.code_rules.specs.OwnCode.{pop_code, lift_code, drop_code, field_code, check_code, widen_code, narrow_code, conversion_code, from_code, index_code, less, comparison, less_long, long_comparison, is_opposite, not_if, relation_code, long_relation_code, operator_code, long_operator_code, less_code, bound_code, within_code, long_less_code, long_bound_code, long_within_code, size_for, size_after, without, rolls, arrange_from, arrange_code}
use Rattle.code_rules.specs.Reading.{Coded}
use Rattle.code_rules.specs.Slots.{load, store, load_within, store_within, clear, zero_code, copy_code, spread_code}
use Rattle.code_blocks.specs.Own.{alone, left_of, IsFixed, IsOwn, AreOwn}

effect_alone : (r : Routine) (x : Effect) → IsFixed x → effect_words alone x ≡ effect_words r x
effect_alone r (Fixed takes puts) h = refl
effect_alone r (OfProcedure n) h = absurd h
effect_alone r (OfSignal n) h = absurd h
effect_alone r (OfLink n) h = absurd h

-- what they do to the operand stack is the same in every module
pub alone_same : (r : Routine) (x : Instruction) (d : ℕ) → IsFixed (effect_of x) → depth_after alone x d ≡ depth_after r x d
alone_same r x d h = ap (λ (m : Moved). d - m.takes + m.puts) (effect_alone r (effect_of x) h)

-- own code calls and raises nothing, and jumps nowhere
pub own_fixed : (x : Instruction) → IsOwn x → IsFixed (effect_of x)
own_fixed (i.Lit word) h = h
own_fixed (i.Str literal) h = h
own_fixed (i.LoadL slot words) h = h
own_fixed (i.StoreL slot words) h = h
own_fixed (i.LoadG slot words) h = h
own_fixed (i.StoreG slot words) h = h
own_fixed (i.LoadLX slot extent words) h = h
own_fixed (i.StoreLX slot extent words) h = h
own_fixed (i.LoadGX slot extent words) h = h
own_fixed (i.StoreGX slot extent words) h = h
own_fixed (i.Index count size) h = h
own_fixed i.Add h = h
own_fixed i.Sub h = h
own_fixed i.Mul h = h
own_fixed i.Neg h = h
own_fixed i.DivI h = h
own_fixed i.ModI h = h
own_fixed i.DivC h = h
own_fixed i.ModC h = h
own_fixed i.Eq h = h
own_fixed i.LessI h = h
own_fixed i.LessC h = h
own_fixed i.Not h = h
own_fixed (i.CheckI least most) h = h
own_fixed (i.CheckC least most) h = h
own_fixed (i.Jump target) h = absurd h
own_fixed (i.JumpIf target) h = absurd h
own_fixed (i.JumpIfNot target) h = absurd h
own_fixed (i.JumpBack target) h = absurd h
own_fixed i.StrLen h = h
own_fixed i.StrAt h = h
own_fixed (i.Call procedure) h = h
own_fixed (i.CallLink link) h = h
own_fixed i.Return h = h
own_fixed (i.Raise signal) h = h
own_fixed (i.RaiseLink link) h = h
own_fixed (i.RaiseHost fault) h = h
own_fixed i.ArmEnd h = h
own_fixed (i.Resume words) h = h
own_fixed (i.Leave arms target) h = absurd h
own_fixed (i.LeaveReturn arms) h = absurd h
own_fixed (i.Pop words) h = h
own_fixed (i.Roll words over) h = h
own_fixed (i.ZeroL slot words) h = h
own_fixed (i.ZeroG slot words) h = h
own_fixed i.AddD h = h
own_fixed i.SubD h = h
own_fixed i.MulD h = h
own_fixed i.NegD h = h
own_fixed i.DivDI h = h
own_fixed i.ModDI h = h
own_fixed i.DivDC h = h
own_fixed i.ModDC h = h
own_fixed i.EqD h = h
own_fixed i.LessDI h = h
own_fixed i.LessDC h = h
own_fixed i.WidenI h = h
own_fixed i.WidenC h = h
own_fixed i.NarrowI h = h
own_fixed i.NarrowC h = h
own_fixed i.CheckD h = h

-- jumps take and put the same words in every module too
abbrev pub AreFixed : List Instruction → Type 0
AreFixed [] = Unit {0}
AreFixed (x ∷ is) = IsFixed (effect_of x) × AreFixed is

pub all_fixed : (is : List Instruction) → AreOwn is → AreFixed is
all_fixed [] h = tt
all_fixed (x ∷ is) h = (own_fixed x h.0, all_fixed is h.1)

pub own_both : (is js : List Instruction) → AreOwn is → AreOwn js → AreOwn (is ++ js)
own_both [] js g h = h
own_both (x ∷ is) js g h = (g.0, own_both is js g.1 h)

pub own_one : (x : Instruction) → IsOwn x → AreOwn (x ∷ [])
own_one x h = (h, tt)

pub own_if : (b : Bool) (is js : List Instruction) → AreOwn is → AreOwn js → AreOwn (if b then is else js)
own_if true is js g h = g
own_if false is js g h = h

pub pop_own : (n : ℕ) → AreOwn (pop_code n)
pop_own zero = tt
pop_own (suc n) = (tt, tt)

pub lift_own : (n k : ℕ) → AreOwn (lift_code n k)
lift_own n zero = tt
lift_own n (suc k) = (tt, tt)

drop_own : (n k : ℕ) → AreOwn (drop_code n k)
drop_own zero k = tt
drop_own (suc n) k = own_both (lift_code (suc n) k) _ (lift_own (suc n) k) (tt, tt)

pub field_own : (before words after : ℕ) → AreOwn (field_code before words after)
field_own before words after = own_both (pop_code after) _ (pop_own after) (drop_own before words)

pub check_own : (r : Range) → AreOwn (check_code r)
check_own Every = tt
check_own (From Signed first last) = (tt, tt)
check_own (From Unsigned first last) = (tt, tt)

widen_own : (a b : Base) → AreOwn (widen_code a b)
widen_own Signed Signed = (tt, tt)
widen_own Signed Unsigned = (tt, (tt, tt))
widen_own Unsigned Signed = (tt, tt)
widen_own Unsigned Unsigned = (tt, tt)

narrow_own : (a b : Base) → AreOwn (narrow_code a b)
narrow_own Signed Signed = (tt, tt)
narrow_own Signed Unsigned = (tt, tt)
narrow_own Unsigned Signed = (tt, (tt, tt))
narrow_own Unsigned Unsigned = (tt, tt)

pub conversion_own : (c : Conversion) → AreOwn (conversion_code c)
conversion_own Kept = tt
conversion_own (Widened a b) = widen_own a b
conversion_own (Narrowed a b r) = own_both (narrow_code a b) _ (narrow_own a b) (check_own r)
conversion_own InCommon = (tt, tt)

from_own : (first : ℕ) → AreOwn (from_code first)
from_own zero = tt
from_own (suc n) = (tt, (tt, tt))

pub index_own : (r : Range) (first n words : ℕ) → AreOwn (index_code r first n words)
index_own r first n words = own_both (check_code r) _ (check_own r) (own_both (from_code first) _ (from_own first) (tt, tt))

less_own : (b : Base) → IsOwn (less b)
less_own Signed = tt
less_own Unsigned = tt

pub comparison_own : (b : Base) (o : Relation) → AreOwn (comparison b o)
comparison_own b Equal = (tt, tt)
comparison_own b NotEqual = (tt, tt)
comparison_own b Less = (less_own b, tt)
comparison_own b AtMost = (tt, (less_own b, tt))
comparison_own b Greater = (tt, (less_own b, tt))
comparison_own b AtLeast = (less_own b, tt)

not_own : (b : Bool) → AreOwn (not_if b)
not_own true = (tt, tt)
not_own false = tt

pub relation_own : (b : Base) (o : Relation) → AreOwn (relation_code b o)
relation_own b o = own_both (comparison b o) _ (comparison_own b o) (not_own (is_opposite o))

less_long_own : (b : Base) → IsOwn (less_long b)
less_long_own Signed = tt
less_long_own Unsigned = tt

pub long_comparison_own : (b : Base) (o : Relation) → AreOwn (long_comparison b o)
long_comparison_own b Equal = (tt, tt)
long_comparison_own b NotEqual = (tt, tt)
long_comparison_own b Less = (less_long_own b, tt)
long_comparison_own b AtMost = (tt, (less_long_own b, tt))
long_comparison_own b Greater = (tt, (less_long_own b, tt))
long_comparison_own b AtLeast = (less_long_own b, tt)

pub long_relation_own : (b : Base) (o : Relation) → AreOwn (long_relation_code b o)
long_relation_own b o = own_both (long_comparison b o) _ (long_comparison_own b o) (not_own (is_opposite o))

pub long_operator_own : (o : Operator) → AreOwn (long_operator_code o)
long_operator_own operator.Add = (tt, tt)
long_operator_own operator.Subtract = (tt, tt)
long_operator_own operator.Multiply = (tt, tt)
long_operator_own (operator.Divide Signed) = (tt, tt)
long_operator_own (operator.Divide Unsigned) = (tt, tt)
long_operator_own (operator.Modulo Signed) = (tt, tt)
long_operator_own (operator.Modulo Unsigned) = (tt, tt)
long_operator_own (operator.AddToCharacter b) = (tt, tt)
long_operator_own (operator.SubtractFromCharacter b) = (tt, tt)

pub operator_own : (t : ℕ) (o : Operator) → AreOwn (operator_code t o)
operator_own t operator.Add = (tt, tt)
operator_own t operator.Subtract = (tt, tt)
operator_own t operator.Multiply = (tt, tt)
operator_own t (operator.Divide Signed) = (tt, tt)
operator_own t (operator.Divide Unsigned) = (tt, tt)
operator_own t (operator.Modulo Signed) = (tt, tt)
operator_own t (operator.Modulo Unsigned) = (tt, tt)
operator_own t (operator.AddToCharacter Signed) = (tt, (tt, (tt, (tt, (tt, tt)))))
operator_own t (operator.AddToCharacter Unsigned) = (tt, (tt, (tt, (tt, (tt, tt)))))
operator_own t (operator.SubtractFromCharacter Signed) = (tt, (tt, (tt, (tt, (tt, (tt, tt))))))
operator_own t (operator.SubtractFromCharacter Unsigned) = (tt, (tt, (tt, (tt, (tt, (tt, (tt, (tt, tt))))))))

plainly_less_own : (b : Base) (s : ℕ) (c : Base) (u : ℕ) → AreOwn (less_code b s c u)
plainly_less_own Signed s Signed u = (tt, (tt, (tt, tt)))
plainly_less_own Unsigned s Unsigned u = (tt, (tt, (tt, tt)))
plainly_less_own Signed s Unsigned u = (tt, (tt, (tt, (tt, (tt, (tt, (tt, (tt, (tt, (tt, tt))))))))))
plainly_less_own Unsigned s Signed u = (tt, (tt, (tt, (tt, (tt, (tt, (tt, (tt, tt))))))))

bound_own : (is_open : Bool) (b : Base) (s : ℕ) (c : Base) (u : ℕ) → AreOwn (bound_code is_open b s c u)
bound_own true b s c u = plainly_less_own b s c u
bound_own false b s c u = own_both (less_code c u b s) _ (plainly_less_own c u b s) (tt, tt)

pub within_own : (t : ℕ) (bases : Bases) (p q : Bool) → AreOwn (within_code t bases p q)
within_own t bases p q = (
  tt,
  own_both (bound_code p bases.first (t + 1) bases.number t) _ (bound_own p bases.first (t + 1) bases.number t)
      (own_both (bound_code q bases.number t bases.last (t + 2)) _ (bound_own q bases.number t bases.last (t + 2)) (tt, tt)),
)

long_less_own : (b : Base) (s : ℕ) (c : Base) (u : ℕ) → AreOwn (long_less_code b s c u)
long_less_own Signed s Signed u = (tt, (tt, (tt, tt)))
long_less_own Unsigned s Unsigned u = (tt, (tt, (tt, tt)))
long_less_own Signed s Unsigned u = (tt, (tt, (tt, (tt, (tt, (tt, (tt, (tt, (tt, (tt, (tt, tt)))))))))))
long_less_own Unsigned s Signed u = (tt, (tt, (tt, (tt, (tt, (tt, (tt, (tt, (tt, tt)))))))))

long_bound_own : (is_open : Bool) (b : Base) (s : ℕ) (c : Base) (u : ℕ) → AreOwn (long_bound_code is_open b s c u)
long_bound_own true b s c u = long_less_own b s c u
long_bound_own false b s c u = own_both (long_less_code c u b s) _ (long_less_own c u b s) (tt, tt)

pub long_within_own : (t : ℕ) (bases : Bases) (p q : Bool) → AreOwn (long_within_code t bases p q)
long_within_own t bases p q = (
  tt,
  own_both (long_bound_code p bases.first (t + 2) bases.number t) _ (long_bound_own p bases.first (t + 2) bases.number t)
      (own_both (long_bound_code q bases.number t bases.last (t + 4)) _ (long_bound_own q bases.number t bases.last (t + 4)) (tt, tt)),
)

rolls_own : (q count : ℕ) (places sizes : List ℕ) (moved : ℕ) → AreOwn (rolls q count places sizes moved)
rolls_own q zero places sizes moved = tt
rolls_own q (suc count) places sizes moved =
    own_both (lift_code (size_for q places sizes) (size_after q places sizes + moved)) _ (lift_own _ _)
    (rolls_own (suc q) count (without q places places) (without q places sizes) (moved + size_for q places sizes))

arranged_own : (q : ℕ) (places sizes : List ℕ) → AreOwn (arrange_from q places sizes)
arranged_own q [] sizes = tt
arranged_own q (p ∷ ps) [] = tt
arranged_own q (p ∷ ps) (s ∷ sizes) =
    own_if (nat_eq p q) (arrange_from (suc q) ps sizes) (rolls q (length (p ∷ ps)) (p ∷ ps) (s ∷ sizes) 0) (arranged_own (suc q) ps sizes)
    (rolls_own q (length (p ∷ ps)) (p ∷ ps) (s ∷ sizes) 0)

pub arrange_own : (places sizes : List ℕ) → AreOwn (arrange_code places sizes)
arrange_own places sizes = arranged_own 0 places sizes

-- variables

pub load_own : (P : Coded) (h : Home) (offset words : ℕ) → IsOwn (load P h offset words)
load_own P (Local n) offset words = tt
load_own P (Global n) offset words = tt

pub store_own : (P : Coded) (h : Home) (offset words : ℕ) → IsOwn (store P h offset words)
store_own P (Local n) offset words = tt
store_own P (Global n) offset words = tt

pub load_within_own : (P : Coded) (h : Home) (words : ℕ) → IsOwn (load_within P h words)
load_within_own P (Local n) words = tt
load_within_own P (Global n) words = tt

pub store_within_own : (P : Coded) (h : Home) (words : ℕ) → IsOwn (store_within P h words)
store_within_own P (Local n) words = tt
store_within_own P (Global n) words = tt

clear_own : (P : Coded) (h : Home) (words : ℕ) → IsOwn (clear P h words)
clear_own P (Local n) words = tt
clear_own P (Global n) words = tt

pub zero_own : (P : Coded) (hs : List Home) (words : ℕ) → AreOwn (zero_code P hs words)
zero_own P [] words = tt
zero_own P (h ∷ hs) words = (clear_own P h words, zero_own P hs words)

copy_own : (P : Coded) (first : Home) (hs : List Home) (words : ℕ) → AreOwn (copy_code P first hs words)
copy_own P first [] words = tt
copy_own P first (h ∷ hs) words = (load_own P first 0 words, (store_own P h 0 words, copy_own P first hs words))

pub spread_own : (P : Coded) (hs : List Home) (words : ℕ) → AreOwn (spread_code P hs words)
spread_own P [] words = pop_own words
spread_own P (h ∷ hs) words = (store_own P h 0 words, copy_own P h hs words)

-- loops

when_own : (b : Bool) (is : List Instruction) → AreOwn is → AreOwn (when b is)
when_own true is h = h
when_own false is h = tt

some_own : (z : ℕ) (b : Base) (p q : Bool) → AreOwn (some_code z b p q)
some_own z b false false = (tt, (tt, (less_own b, (tt, tt))))
some_own z b false true = (tt, (less_own b, tt))
some_own z b true false = (tt, (less_own b, tt))
some_own z b true true = (tt, (less_own b, (tt, (tt, (tt, (tt, (tt, (tt, (tt, tt)))))))))

pub start_own : (z : ℕ) (b : Base) (p q : Bool) → AreOwn (start_code z b p q)
start_own z b p q = (
  tt,
  own_both (some_code z b p q) _ (some_own z b p q) (
    tt,
    own_both (when p (up_code z)) _ (when_own p (up_code z) (tt, (tt, (tt, (tt, tt)))))
        (when_own q (down_code (z + 1)) (tt, (tt, (tt, (tt, tt))))),
  ),
)

pub give_own : (P : Coded) (g : Given) (slot : ℕ) → AreOwn (give_code P g slot)
give_own P NoVariable slot = tt
give_own P (GivenTo h r) slot = (tt, own_both (check_code r) _ (check_own r) (store_own P h 0 1, tt))

pub step_own : (k : Counter) → AreOwn (step_code k)
step_own NoCounter = tt
step_own (CountedIn z g false) = (tt, (tt, (tt, (tt, (tt, (tt, (tt, (tt, tt))))))))
step_own (CountedIn z g true) = (tt, (tt, (tt, (tt, (tt, (tt, (tt, (tt, tt))))))))

-- own code does to the operand stack what it does in any procedure
pub left_same : (P : Coded) (is : List Instruction) (d : ℕ) → AreOwn is → left_of is d ≡ left_by P is d
left_same P [] d h = refl
left_same P (x ∷ is) d h =
    ap (left_of is) (alone_same P.routine x d (own_fixed x h.0)) ∙ left_same P is (depth_after P.routine x d) h.1

pub left_both : (is js : List Instruction) (d : ℕ) → left_of (is ++ js) d ≡ left_of js (left_of is d)
left_both [] js d = refl
left_both (x ∷ is) js d = left_both is js (depth_after alone x d)
