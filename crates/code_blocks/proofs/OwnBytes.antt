-- How many bytes own code has at most.
use Rattle.std.proofs.Common.{◌≡◌, refl, ℕ, zero, suc, ◌+◌, ◌*◌, ◌≤◌, List, [], ◌∷◌, ◌++◌, length, Bool, true, false, nat_eq, if◌then◌else◌, arith}
use Rattle.mesa_types.specs.declared.typed_parts.Base.{Base}
use Rattle.mesa_types.specs.declared.typed_parts.Base.TheVariants.{Signed, Unsigned}
use Rattle.mesa_types.specs.declared.typed_parts.Bases.{Bases}
use Rattle.mesa_types.specs.declared.typed_parts.Conversion.{Conversion}
use Rattle.mesa_types.specs.declared.typed_parts.Conversion.TheVariants.{Kept, Widened, Narrowed, InCommon}
use Rattle.mesa_types.specs.declared.typed_parts.Given.{Given}
use Rattle.mesa_types.specs.declared.typed_parts.Given.TheVariants.{NoVariable, GivenTo}
use Rattle.mesa_types.specs.declared.typed_parts.Home.{Home}
use Rattle.mesa_types.specs.declared.typed_parts.Home.TheVariants.{Global, Local}
use Rattle.mesa_types.specs.declared.typed_parts.Operator.{Operator}
use Rattle.mesa_types.specs.declared.typed_parts.Operator.TheVariants as operator
use Rattle.mesa_types.specs.declared.typed_parts.Range.{Range}
use Rattle.mesa_types.specs.declared.typed_parts.Range.TheVariants.{Every, From}
use Rattle.mesa_base.specs.declared.relation.Relation.{Relation}
use Rattle.mesa_base.specs.declared.relation.Relation.TheVariants.{Equal, NotEqual, Less, AtMost, Greater, AtLeast}
use Rattle.mesa_types.specs.Nodes.{check_nodes, given_nodes}
use Rattle.code_forms.specs.declared.instruction.Instruction.{Instruction}
use Rattle.code_forms.specs.declared.instruction.Instruction.TheVariants as i
use Rattle.code_forms.specs.Instructions.{bytes_of}
use Rattle.code_rules.specs.Loops.{Counter, NoCounter, CountedIn, start_code, some_code, up_code, down_code, when, give_code, step_code}
use Rattle.code_rules.specs.OwnCode.{pop_code, lift_code, drop_code, field_code, check_code, widen_code, narrow_code, conversion_code, from_code, index_code, less, comparison, less_long, long_comparison, is_opposite, not_if, jump_where, relation_code, long_relation_code, operator_code, long_operator_code, less_code, bound_code, within_code, long_less_code, long_bound_code, long_within_code, size_for, size_after, without, rolls, arrange_from, arrange_code}
use Rattle.code_rules.specs.Reading.{Coded}
use Rattle.code_rules.specs.Slots.{load, store, load_within, store_within, clear, zero_code, copy_code, spread_code}
use Rattle.code_blocks.specs.Own.{bytes_in}
use Rattle.code_blocks.proofs.Bytes.{in_joined}

-- the bytes of two parts
both : (is js : List Instruction) (m n : ℕ) → bytes_in is ≤ m → bytes_in js ≤ n → bytes_in (is ++ js) ≤ m + n
both is js m n g h = omega (arith, in_joined is js, g, h)

pub pop_bytes : (n : ℕ) → bytes_in (pop_code n) ≤ 3
pop_bytes zero = omega arith
pop_bytes (suc n) = omega arith

pub lift_bytes : (n k : ℕ) → bytes_in (lift_code n k) ≤ 5
lift_bytes n zero = omega arith
lift_bytes n (suc k) = omega arith

drop_bytes : (n k : ℕ) → bytes_in (drop_code n k) ≤ 8
drop_bytes zero k = omega arith
drop_bytes (suc n) k = both (lift_code (suc n) k) _ 5 3 (lift_bytes (suc n) k) (omega arith)

pub field_bytes : (before words after : ℕ) → bytes_in (field_code before words after) ≤ 11
field_bytes before words after = both (pop_code after) _ 3 8 (pop_bytes after) (drop_bytes before words)

pub check_bytes : (r : Range) → bytes_in (check_code r) ≤ 5 * check_nodes r
unfolding check_nodes
check_bytes Every = omega arith
check_bytes (From Signed first last) = omega arith
check_bytes (From Unsigned first last) = omega arith

widen_bytes : (a b : Base) → bytes_in (widen_code a b) ≤ 2
widen_bytes Signed Signed = omega arith
widen_bytes Signed Unsigned = omega arith
widen_bytes Unsigned Signed = omega arith
widen_bytes Unsigned Unsigned = omega arith

narrow_bytes : (a b : Base) → bytes_in (narrow_code a b) ≤ 2
narrow_bytes Signed Signed = omega arith
narrow_bytes Signed Unsigned = omega arith
narrow_bytes Unsigned Signed = omega arith
narrow_bytes Unsigned Unsigned = omega arith

range_bytes : (r : Range) → bytes_in (check_code r) ≤ 5
range_bytes Every = omega arith
range_bytes (From Signed first last) = omega arith
range_bytes (From Unsigned first last) = omega arith

pub conversion_bytes : (c : Conversion) → bytes_in (conversion_code c) ≤ 7
conversion_bytes Kept = omega arith
conversion_bytes (Widened a b) = omega (arith, widen_bytes a b)
conversion_bytes (Narrowed a b r) = both (narrow_code a b) _ 2 5 (narrow_bytes a b) (range_bytes r)
conversion_bytes InCommon = omega arith

from_bytes : (first : ℕ) → bytes_in (from_code first) ≤ 4
from_bytes zero = omega arith
from_bytes (suc n) = omega arith

pub index_bytes : (r : Range) (first n words : ℕ) → bytes_in (index_code r first n words) ≤ 5 * check_nodes r + 9
index_bytes r first n words = both (check_code r) _ (5 * check_nodes r) 9 (check_bytes r) (both (from_code first) _ 4 5 (from_bytes first) (omega arith))

less_bytes : (b : Base) → bytes_of (less b) ≡ 1
less_bytes Signed = refl
less_bytes Unsigned = refl

pub comparison_bytes : (b : Base) (o : Relation) → bytes_in (comparison b o) ≤ 6
comparison_bytes b Equal = omega arith
comparison_bytes b NotEqual = omega arith
comparison_bytes b Less = omega (arith, less_bytes b)
comparison_bytes b AtMost = omega (arith, less_bytes b)
comparison_bytes b Greater = omega (arith, less_bytes b)
comparison_bytes b AtLeast = omega (arith, less_bytes b)

not_bytes : (b : Bool) → bytes_in (not_if b) ≤ 1
not_bytes true = omega arith
not_bytes false = omega arith

pub relation_bytes : (b : Base) (o : Relation) → bytes_in (relation_code b o) ≤ 7
relation_bytes b o = both (comparison b o) _ 6 1 (comparison_bytes b o) (not_bytes (is_opposite o))

less_long_bytes : (b : Base) → bytes_of (less_long b) ≡ 1
less_long_bytes Signed = refl
less_long_bytes Unsigned = refl

pub long_comparison_bytes : (b : Base) (o : Relation) → bytes_in (long_comparison b o) ≤ 6
long_comparison_bytes b Equal = omega arith
long_comparison_bytes b NotEqual = omega arith
long_comparison_bytes b Less = omega (arith, less_long_bytes b)
long_comparison_bytes b AtMost = omega (arith, less_long_bytes b)
long_comparison_bytes b Greater = omega (arith, less_long_bytes b)
long_comparison_bytes b AtLeast = omega (arith, less_long_bytes b)

pub long_relation_bytes : (b : Base) (o : Relation) → bytes_in (long_relation_code b o) ≤ 7
long_relation_bytes b o = both (long_comparison b o) _ 6 1 (long_comparison_bytes b o) (not_bytes (is_opposite o))

pub where_bytes : (sense : Bool) (target : ℕ) → bytes_of (jump_where sense target) ≡ 5
where_bytes true target = refl
where_bytes false target = refl

pub operator_bytes : (t : ℕ) (o : Operator) → bytes_in (operator_code t o) ≤ 30
operator_bytes t operator.Add = omega arith
operator_bytes t operator.Subtract = omega arith
operator_bytes t operator.Multiply = omega arith
operator_bytes t (operator.Divide Signed) = omega arith
operator_bytes t (operator.Divide Unsigned) = omega arith
operator_bytes t (operator.Modulo Signed) = omega arith
operator_bytes t (operator.Modulo Unsigned) = omega arith
operator_bytes t (operator.AddToCharacter Signed) = omega arith
operator_bytes t (operator.AddToCharacter Unsigned) = omega arith
operator_bytes t (operator.SubtractFromCharacter Signed) = omega arith
operator_bytes t (operator.SubtractFromCharacter Unsigned) = omega arith

pub long_operator_bytes : (o : Operator) → bytes_in (long_operator_code o) ≤ 1
long_operator_bytes operator.Add = omega arith
long_operator_bytes operator.Subtract = omega arith
long_operator_bytes operator.Multiply = omega arith
long_operator_bytes (operator.Divide Signed) = omega arith
long_operator_bytes (operator.Divide Unsigned) = omega arith
long_operator_bytes (operator.Modulo Signed) = omega arith
long_operator_bytes (operator.Modulo Unsigned) = omega arith
long_operator_bytes (operator.AddToCharacter b) = omega arith
long_operator_bytes (operator.SubtractFromCharacter b) = omega arith

plainly_less_bytes : (b : Base) (s : ℕ) (c : Base) (u : ℕ) → bytes_in (less_code b s c u) ≤ 24
plainly_less_bytes Signed s Signed u = omega arith
plainly_less_bytes Unsigned s Unsigned u = omega arith
plainly_less_bytes Signed s Unsigned u = omega arith
plainly_less_bytes Unsigned s Signed u = omega arith

bound_bytes : (is_open : Bool) (b : Base) (s : ℕ) (c : Base) (u : ℕ) → bytes_in (bound_code is_open b s c u) ≤ 25
bound_bytes true b s c u = omega (arith, plainly_less_bytes b s c u)
bound_bytes false b s c u = both (less_code c u b s) _ 24 1 (plainly_less_bytes c u b s) (omega arith)

pub within_bytes : (t : ℕ) (bases : Bases) (p q : Bool) → bytes_in (within_code t bases p q) ≤ 56
within_bytes t bases p q =
    let first = bound_code p bases.first (t + 1) bases.number t in
    let last = bound_code q bases.number t bases.last (t + 2) in
    let tail = last ++ i.Mul ∷ [] in
    omega (
      arith,
      both first tail 25 26 (bound_bytes p bases.first (t + 1) bases.number t)
          (both last (i.Mul ∷ []) 25 1 (bound_bytes q bases.number t bases.last (t + 2)) (omega arith)),
    )

long_less_bytes : (b : Base) (s : ℕ) (c : Base) (u : ℕ) → bytes_in (long_less_code b s c u) ≤ 27
long_less_bytes Signed s Signed u = omega arith
long_less_bytes Unsigned s Unsigned u = omega arith
long_less_bytes Signed s Unsigned u = omega arith
long_less_bytes Unsigned s Signed u = omega arith

long_bound_bytes : (is_open : Bool) (b : Base) (s : ℕ) (c : Base) (u : ℕ) → bytes_in (long_bound_code is_open b s c u) ≤ 28
long_bound_bytes true b s c u = omega (arith, long_less_bytes b s c u)
long_bound_bytes false b s c u = both (long_less_code c u b s) _ 27 1 (long_less_bytes c u b s) (omega arith)

pub long_within_bytes : (t : ℕ) (bases : Bases) (p q : Bool) → bytes_in (long_within_code t bases p q) ≤ 62
long_within_bytes t bases p q =
    let first = long_bound_code p bases.first (t + 2) bases.number t in
    let last = long_bound_code q bases.number t bases.last (t + 4) in
    let tail = last ++ i.Mul ∷ [] in
    omega (
      arith,
      both first tail 28 29 (long_bound_bytes p bases.first (t + 2) bases.number t)
          (both last (i.Mul ∷ []) 28 1 (long_bound_bytes q bases.number t bases.last (t + 4)) (omega arith)),
    )

rolls_bytes : (q count : ℕ) (places sizes : List ℕ) (moved : ℕ) → bytes_in (rolls q count places sizes moved) ≤ 5 * count
rolls_bytes q zero places sizes moved = omega arith
rolls_bytes q (suc count) places sizes moved =
    omega (
      arith,
      both (lift_code (size_for q places sizes) (size_after q places sizes + moved))
          (rolls (suc q) count (without q places places) (without q places sizes) (moved + size_for q places sizes)) 5 (5 * count)
          (lift_bytes (size_for q places sizes) (size_after q places sizes + moved))
          (rolls_bytes (suc q) count (without q places places) (without q places sizes) (moved + size_for q places sizes)),
    )

arranged_bytes : (q : ℕ) (places sizes : List ℕ) → bytes_in (arrange_from q places sizes) ≤ 5 * length places
arranged_bytes q [] sizes = omega arith
arranged_bytes q (p ∷ ps) [] = omega arith
arranged_bytes q (p ∷ ps) (s ∷ sizes) = go (arranged_bytes (suc q) ps sizes) (nat_eq p q)
  where
    go : bytes_in (arrange_from (suc q) ps sizes) ≤ 5 * length ps → (b : Bool)
        → bytes_in (if b then arrange_from (suc q) ps sizes else rolls q (length (p ∷ ps)) (p ∷ ps) (s ∷ sizes) 0) ≤ 5 * length (p ∷ ps)
    go h true = omega (arith, h)
    go h false = rolls_bytes q (length (p ∷ ps)) (p ∷ ps) (s ∷ sizes) 0

pub arrange_bytes : (places sizes : List ℕ) → bytes_in (arrange_code places sizes) ≤ 5 * length places
arrange_bytes places sizes = arranged_bytes 0 places sizes

-- variables

pub load_bytes : (P : Coded) (h : Home) (offset words : ℕ) → bytes_of (load P h offset words) ≡ 5
load_bytes P (Local n) offset words = refl
load_bytes P (Global n) offset words = refl

pub store_bytes : (P : Coded) (h : Home) (offset words : ℕ) → bytes_of (store P h offset words) ≡ 5
store_bytes P (Local n) offset words = refl
store_bytes P (Global n) offset words = refl

pub load_within_bytes : (P : Coded) (h : Home) (words : ℕ) → bytes_of (load_within P h words) ≡ 7
load_within_bytes P (Local n) words = refl
load_within_bytes P (Global n) words = refl

pub store_within_bytes : (P : Coded) (h : Home) (words : ℕ) → bytes_of (store_within P h words) ≡ 7
store_within_bytes P (Local n) words = refl
store_within_bytes P (Global n) words = refl

clear_bytes : (P : Coded) (h : Home) (words : ℕ) → bytes_of (clear P h words) ≡ 5
clear_bytes P (Local n) words = refl
clear_bytes P (Global n) words = refl

pub zero_bytes : (P : Coded) (hs : List Home) (words : ℕ) → bytes_in (zero_code P hs words) ≤ 5 * length hs
zero_bytes P [] words = omega arith
zero_bytes P (h ∷ hs) words = omega (arith, clear_bytes P h words, zero_bytes P hs words)

copy_bytes : (P : Coded) (first : Home) (hs : List Home) (words : ℕ) → bytes_in (copy_code P first hs words) ≤ 10 * length hs
copy_bytes P first [] words = omega arith
copy_bytes P first (h ∷ hs) words = omega (arith, load_bytes P first 0 words, store_bytes P h 0 words, copy_bytes P first hs words)

pub spread_bytes : (P : Coded) (hs : List Home) (words : ℕ) → bytes_in (spread_code P hs words) ≤ 10 * length hs + 3
spread_bytes P [] words = omega (arith, pop_bytes words)
spread_bytes P (h ∷ hs) words = omega (arith, store_bytes P h 0 words, copy_bytes P h hs words)

-- loops

when_bytes : (b : Bool) (is : List Instruction) (n : ℕ) → bytes_in is ≤ n → bytes_in (when b is) ≤ n
when_bytes true is n h = h
when_bytes false is n h = omega arith

some_code_bytes : (z : ℕ) (b : Base) (p q : Bool) → bytes_in (some_code z b p q) ≤ 23
some_code_bytes z b false false = omega (arith, less_bytes b)
some_code_bytes z b false true = omega (arith, less_bytes b)
some_code_bytes z b true false = omega (arith, less_bytes b)
some_code_bytes z b true true = omega (arith, less_bytes b)

pub start_bytes : (z : ℕ) (b : Base) (p q : Bool) → bytes_in (start_code z b p q) ≤ 61
start_bytes z b p q =
    let ups = when p (up_code z) in
    let downs = when q (down_code (z + 1)) in
    let moves = both ups downs 14 14 (when_bytes p (up_code z) 14 (omega arith)) (when_bytes q (down_code (z + 1)) 14 (omega arith)) in
    omega (arith, both (some_code z b p q) (i.StoreL (z + 2) 1 ∷ (ups ++ downs)) 23 33 (some_code_bytes z b p q) (omega (arith, moves)))

pub give_bytes : (P : Coded) (g : Given) (slot : ℕ) → bytes_in (give_code P g slot) ≤ 15 * given_nodes g
unfolding given_nodes
give_bytes P NoVariable slot = omega arith
give_bytes P (GivenTo h r) slot =
    omega (arith, both (check_code r) (store P h 0 1 ∷ []) (5 * check_nodes r) 5 (check_bytes r) (omega (arith, store_bytes P h 0 1)))

pub step_bytes : (k : Counter) → bytes_in (step_code k) ≤ 26
step_bytes NoCounter = omega arith
step_bytes (CountedIn z g false) = omega arith
step_bytes (CountedIn z g true) = omega arith
