-- Own code finds the words that it takes.
use Rattle.std.proofs.Common.{◌≡◌, refl, ap, ◌∙◌, ℕ, zero, suc, ◌+◌, ◌-◌, ◌≤◌, List, [], ◌∷◌, ◌++◌, length, Bool, true, false, nat_eq, if◌then◌else◌, arith}
use Rattle.mesa_types.specs.declared.typed_parts.Base.{Base}
use Rattle.mesa_types.specs.declared.typed_parts.Base.TheVariants.{Signed, Unsigned}
use Rattle.mesa_types.specs.declared.typed_parts.Bases.{Bases}
use Rattle.mesa_types.specs.declared.typed_parts.Conversion.{Conversion}
use Rattle.mesa_types.specs.declared.typed_parts.Conversion.TheVariants.{Kept, Widened, Narrowed, InCommon}
use Rattle.mesa_types.specs.declared.typed_parts.Given.{Given}
use Rattle.mesa_types.specs.declared.typed_parts.Given.TheVariants.{NoVariable, GivenTo}
use Rattle.mesa_types.specs.declared.typed_parts.Home.{Home}
use Rattle.mesa_types.specs.declared.typed_parts.Home.TheVariants.{Global, Local}
use Rattle.mesa_types.specs.declared.typed_parts.Operator.{Operator}
use Rattle.mesa_types.specs.declared.typed_parts.Operator.TheVariants as operator
use Rattle.mesa_types.specs.declared.typed_parts.Range.{Range}
use Rattle.mesa_types.specs.declared.typed_parts.Range.TheVariants.{Every, From}
use Rattle.mesa_base.specs.declared.relation.Relation.{Relation}
use Rattle.mesa_base.specs.declared.relation.Relation.TheVariants.{Equal, NotEqual, Less, AtMost, Greater, AtLeast}
use Rattle.mesa_types.specs.Typed.{Exprs, Interval, Between}
use Rattle.mesa_types.specs.Counts.{words_given, words_before}
use Rattle.code_forms.specs.declared.instruction.Instruction.{Instruction}
use Rattle.code_forms.specs.declared.instruction.Instruction.TheVariants as i
use Rattle.code_rules.specs.Loops.{Counter, NoCounter, CountedIn, start_code, some_code, up_code, down_code, when, give_code, step_code}
use Rattle.code_rules.specs.OwnCode.{pop_code, lift_code, drop_code, long_code, field_code, check_code, widen_code, narrow_code, conversion_code, from_code, index_code, less, comparison, less_long, long_comparison, is_opposite, not_if, relation_code, long_relation_code, operator_code, long_operator_code, less_code, bound_code, within_code, long_less_code, long_bound_code, long_within_code, total, size_for, size_after, without, rolls, arrange_from, arrange_code}
use Rattle.code_rules.specs.Reading.{Coded}
use Rattle.code_rules.specs.Slots.{load, store, load_within, store_within, zero_code, copy_code, spread_code, sizes}
use Rattle.code_blocks.specs.Own.{left_of}
use Rattle.code_blocks.specs.Translation.{within_of, long_within_of, start_of}
use Rattle.code_blocks.proofs.ExtractRows.{lift_left, check_left}
use Rattle.code_blocks.proofs.Fine.{Fine, AllFine, fine_at, fine_both}
use Rattle.code_blocks.proofs.StatementDepths.{pop_left}
use Rattle.code_blocks.proofs.Own.{left_both}
use Rattle.code_blocks.proofs.Values.{none, comparison_left, long_comparison_left, total_given}

-- one code behind another that leaves so many words
behind : (is js : List Instruction) (d n : ℕ) → AllFine is d → left_of is d ≡ n → AllFine js n → AllFine (is ++ js) d
behind is js d n g e h = fine_both is js d g (fine_at js e h)

pub pop_fine : (n d : ℕ) → n ≤ d → AllFine (pop_code n) d
pop_fine zero d h = tt
pop_fine (suc n) d h = (h, tt)

pub lift_fine : (n k d : ℕ) → n + k ≤ d → AllFine (lift_code n k) d
lift_fine n zero d h = tt
lift_fine n (suc k) d h = (h, tt)

drop_fine : (n k d : ℕ) → n + k ≤ d → AllFine (drop_code n k) d
drop_fine zero k d h = tt
drop_fine (suc n) k d h = behind (lift_code (suc n) k) _ d d (lift_fine (suc n) k d h) (lift_left (suc n) k d h) (omega (arith, h), tt)

pub field_fine : (before words after d : ℕ) → AllFine (field_code before words after) (d + before + words + after)
field_fine before words after d =
    behind (pop_code after) (drop_code before words) (d + before + words + after) (d + before + words) (pop_fine after (d + before + words + after) (omega arith))
    (pop_left after (d + before + words)) (drop_fine before words (d + before + words) (omega arith))

pub check_fine : (r : Range) (d : ℕ) → 1 ≤ d → AllFine (check_code r) d
check_fine Every d h = tt
check_fine (From Signed first last) d h = (h, tt)
check_fine (From Unsigned first last) d h = (h, tt)

pub long_fine : (n d : ℕ) → AllFine (long_code n) d
long_fine n d = (omega arith, (omega arith, tt))

widen_fine : (a b : Base) (d : ℕ) → 1 ≤ d → AllFine (widen_code a b) d
widen_fine Signed Signed d h = (h, tt)
widen_fine Signed Unsigned d h = (h, (omega arith, tt))
widen_fine Unsigned Signed d h = (h, tt)
widen_fine Unsigned Unsigned d h = (h, tt)

narrow_fine : (a b : Base) (d : ℕ) → 2 ≤ d → AllFine (narrow_code a b) d
narrow_fine Signed Signed d h = (h, tt)
narrow_fine Signed Unsigned d h = (h, tt)
narrow_fine Unsigned Signed d h = (h, (omega arith, tt))
narrow_fine Unsigned Unsigned d h = (h, tt)

narrow_left : (a b : Base) (d : ℕ) → 2 ≤ d → left_of (narrow_code a b) d ≡ d - 1
narrow_left Signed Signed d h = omega (arith, h)
narrow_left Signed Unsigned d h = omega (arith, h)
narrow_left Unsigned Signed d h = omega (arith, h)
narrow_left Unsigned Unsigned d h = omega (arith, h)

pub conversion_fine : (c : Conversion) (d : ℕ) → words_before c ≤ d → AllFine (conversion_code c) d
unfolding words_before
conversion_fine Kept d h = tt
conversion_fine (Widened a b) d h = widen_fine a b d h
conversion_fine (Narrowed a b r) d h =
    behind (narrow_code a b) (check_code r) d (d - 1) (narrow_fine a b d h) (narrow_left a b d h) (check_fine r (d - 1) (omega (arith, h)))
conversion_fine InCommon d h = (h, tt)

from_fine : (first d : ℕ) → 1 ≤ d → AllFine (from_code first) d
from_fine zero d h = tt
from_fine (suc n) d h = (omega arith, (omega (arith, h), tt))

from_left : (first d : ℕ) → 1 ≤ d → left_of (from_code first) d ≡ d
from_left zero d h = refl
from_left (suc n) d h = omega (arith, h)

pub index_fine : (r : Range) (first n words d : ℕ) → AllFine (index_code r first n words) (d + 2)
index_fine r first n words d =
    behind (check_code r) _ (d + 2) (d + 2) (check_fine r (d + 2) (omega arith)) (check_left r (d + 2) (omega arith))
    (behind (from_code first) _ (d + 2) (d + 2) (from_fine first (d + 2) (omega arith)) (from_left first (d + 2) (omega arith)) (omega arith, tt))

less_fine : (b : Base) (d : ℕ) → 2 ≤ d → Fine (less b) d
less_fine Signed d h = h
less_fine Unsigned d h = h

pub comparison_fine : (b : Base) (o : Relation) (d : ℕ) → AllFine (comparison b o) (d + 2)
comparison_fine b Equal d = (omega arith, tt)
comparison_fine b NotEqual d = (omega arith, tt)
comparison_fine b Less d = (less_fine b (d + 2) (omega arith), tt)
comparison_fine b AtMost d = (omega arith, (less_fine b _ (omega arith), tt))
comparison_fine b Greater d = (omega arith, (less_fine b _ (omega arith), tt))
comparison_fine b AtLeast d = (less_fine b (d + 2) (omega arith), tt)

not_fine : (b : Bool) (d : ℕ) → 1 ≤ d → AllFine (not_if b) d
not_fine true d h = (h, tt)
not_fine false d h = tt

less_long_fine : (b : Base) (d : ℕ) → 4 ≤ d → Fine (less_long b) d
less_long_fine Signed d h = h
less_long_fine Unsigned d h = h

pub long_comparison_fine : (b : Base) (o : Relation) (d : ℕ) → AllFine (long_comparison b o) (d + 4)
long_comparison_fine b Equal d = (omega arith, tt)
long_comparison_fine b NotEqual d = (omega arith, tt)
long_comparison_fine b Less d = (less_long_fine b (d + 4) (omega arith), tt)
long_comparison_fine b AtMost d = (omega arith, (less_long_fine b _ (omega arith), tt))
long_comparison_fine b Greater d = (omega arith, (less_long_fine b _ (omega arith), tt))
long_comparison_fine b AtLeast d = (less_long_fine b (d + 4) (omega arith), tt)

pub long_operator_fine : (o : Operator) (d : ℕ) → AllFine (long_operator_code o) (d + 4)
long_operator_fine operator.Add d = (omega arith, tt)
long_operator_fine operator.Subtract d = (omega arith, tt)
long_operator_fine operator.Multiply d = (omega arith, tt)
long_operator_fine (operator.Divide Signed) d = (omega arith, tt)
long_operator_fine (operator.Divide Unsigned) d = (omega arith, tt)
long_operator_fine (operator.Modulo Signed) d = (omega arith, tt)
long_operator_fine (operator.Modulo Unsigned) d = (omega arith, tt)
long_operator_fine (operator.AddToCharacter b) d = (omega arith, tt)
long_operator_fine (operator.SubtractFromCharacter b) d = (omega arith, tt)

pub operator_fine : (t : ℕ) (o : Operator) (d : ℕ) → AllFine (operator_code t o) (d + 2)
operator_fine t operator.Add d = (omega arith, tt)
operator_fine t operator.Subtract d = (omega arith, tt)
operator_fine t operator.Multiply d = (omega arith, tt)
operator_fine t (operator.Divide Signed) d = (omega arith, tt)
operator_fine t (operator.Divide Unsigned) d = (omega arith, tt)
operator_fine t (operator.Modulo Signed) d = (omega arith, tt)
operator_fine t (operator.Modulo Unsigned) d = (omega arith, tt)
operator_fine t (operator.AddToCharacter Signed) d = (omega arith, (omega arith, (omega arith, (omega arith, (omega arith, tt)))))
operator_fine t (operator.AddToCharacter Unsigned) d = (omega arith, (omega arith, (omega arith, (omega arith, (omega arith, tt)))))
operator_fine t (operator.SubtractFromCharacter Signed) d =
    (omega arith, (omega arith, (omega arith, (omega arith, (omega arith, (omega arith, tt))))))
operator_fine t (operator.SubtractFromCharacter Unsigned) d =
    (omega arith, (omega arith, (omega arith, (omega arith, (omega arith, (omega arith, (omega arith, (omega arith, tt))))))))

-- an interval

plainly_less_fine : (b : Base) (s : ℕ) (c : Base) (u d : ℕ) → AllFine (less_code b s c u) d
plainly_less_fine Signed s Signed u d = (omega arith, (omega arith, (omega arith, tt)))
plainly_less_fine Unsigned s Unsigned u d = (omega arith, (omega arith, (omega arith, tt)))
plainly_less_fine Signed s Unsigned u d =
    (omega arith, (omega arith, (omega arith, (omega arith, (omega arith, (omega arith, (omega arith, (omega arith, (omega arith, (omega arith, tt))))))))))
plainly_less_fine Unsigned s Signed u d =
    (omega arith, (omega arith, (omega arith, (omega arith, (omega arith, (omega arith, (omega arith, (omega arith, tt))))))))

plainly_less_left : (b : Base) (s : ℕ) (c : Base) (u d : ℕ) → left_of (less_code b s c u) d ≡ d + 1
plainly_less_left Signed s Signed u d = omega arith
plainly_less_left Signed s Unsigned u d = omega arith
plainly_less_left Unsigned s Signed u d = omega arith
plainly_less_left Unsigned s Unsigned u d = omega arith

bound_fine : (is_open : Bool) (b : Base) (s : ℕ) (c : Base) (u d : ℕ) → AllFine (bound_code is_open b s c u) d
bound_fine true b s c u d = plainly_less_fine b s c u d
bound_fine false b s c u d =
    behind (less_code c u b s) _ d (d + 1) (plainly_less_fine c u b s d) (plainly_less_left c u b s d) (omega arith, tt)

bound_left : (is_open : Bool) (b : Base) (s : ℕ) (c : Base) (u d : ℕ) → left_of (bound_code is_open b s c u) d ≡ d + 1
bound_left true b s c u d = plainly_less_left b s c u d
bound_left false b s c u d = left_both (less_code c u b s) (i.Not ∷ []) d ∙ ap (λ n. n - 1 + 1) (plainly_less_left c u b s d) ∙ omega arith

within_fine : (t : ℕ) (bases : Bases) (p q : Bool) (d : ℕ) → AllFine (within_code t bases p q) (d + 3)
within_fine t bases p q d =
    let rest = bound_code q bases.number t bases.last (t + 2) ++ i.Mul ∷ [] in (
      omega arith,
      fine_at (bound_code p bases.first (t + 1) bases.number t ++ rest) {n = d} (omega arith)
          (behind (bound_code p bases.first (t + 1) bases.number t) rest d (d + 1) (bound_fine p bases.first (t + 1) bases.number t d)
          (bound_left p bases.first (t + 1) bases.number t d)
          (behind (bound_code q bases.number t bases.last (t + 2)) (i.Mul ∷ []) (d + 1) (d + 1 + 1) (bound_fine q bases.number t bases.last (t + 2) (d + 1))
          (bound_left q bases.number t bases.last (t + 2) (d + 1)) (omega arith, tt))),
    )

pub within_of_fine : (t : ℕ) (bases : Bases) (range : Interval) (d : ℕ) → AllFine (within_of t bases range) (d + 3)
within_of_fine t bases (Between x p y q) d = within_fine t bases p q d

long_less_fine : (b : Base) (s : ℕ) (c : Base) (u d : ℕ) → AllFine (long_less_code b s c u) d
long_less_fine Signed s Signed u d = (omega arith, (omega arith, (omega arith, tt)))
long_less_fine Unsigned s Unsigned u d = (omega arith, (omega arith, (omega arith, tt)))
long_less_fine Signed s Unsigned u d =
    (omega arith, (omega arith, (omega arith, (omega arith, (omega arith, (omega arith, (omega arith, (omega arith, (omega arith, (omega arith, (omega arith, tt)))))))))))
long_less_fine Unsigned s Signed u d =
    (omega arith, (omega arith, (omega arith, (omega arith, (omega arith, (omega arith, (omega arith, (omega arith, (omega arith, tt)))))))))

long_less_left : (b : Base) (s : ℕ) (c : Base) (u d : ℕ) → left_of (long_less_code b s c u) d ≡ d + 1
long_less_left Signed s Signed u d = omega arith
long_less_left Signed s Unsigned u d = omega arith
long_less_left Unsigned s Signed u d = omega arith
long_less_left Unsigned s Unsigned u d = omega arith

long_bound_fine : (is_open : Bool) (b : Base) (s : ℕ) (c : Base) (u d : ℕ) → AllFine (long_bound_code is_open b s c u) d
long_bound_fine true b s c u d = long_less_fine b s c u d
long_bound_fine false b s c u d =
    behind (long_less_code c u b s) _ d (d + 1) (long_less_fine c u b s d) (long_less_left c u b s d) (omega arith, tt)

long_bound_left : (is_open : Bool) (b : Base) (s : ℕ) (c : Base) (u d : ℕ) → left_of (long_bound_code is_open b s c u) d ≡ d + 1
long_bound_left true b s c u d = long_less_left b s c u d
long_bound_left false b s c u d =
    left_both (long_less_code c u b s) (i.Not ∷ []) d ∙ ap (λ n. n - 1 + 1) (long_less_left c u b s d) ∙ omega arith

long_within_fine : (t : ℕ) (bases : Bases) (p q : Bool) (d : ℕ) → AllFine (long_within_code t bases p q) (d + 6)
long_within_fine t bases p q d =
    let rest = long_bound_code q bases.number t bases.last (t + 4) ++ i.Mul ∷ [] in (
      omega arith,
      fine_at (long_bound_code p bases.first (t + 2) bases.number t ++ rest) {n = d} (omega arith)
          (behind (long_bound_code p bases.first (t + 2) bases.number t) rest d (d + 1) (long_bound_fine p bases.first (t + 2) bases.number t d)
          (long_bound_left p bases.first (t + 2) bases.number t d)
          (behind (long_bound_code q bases.number t bases.last (t + 4)) (i.Mul ∷ []) (d + 1) (d + 1 + 1)
          (long_bound_fine q bases.number t bases.last (t + 4) (d + 1)) (long_bound_left q bases.number t bases.last (t + 4) (d + 1)) (omega arith, tt))),
    )

pub long_within_of_fine : (t : ℕ) (bases : Bases) (range : Interval) (d : ℕ) → AllFine (long_within_of t bases range) (d + 6)
long_within_of_fine t bases (Between x p y q) d = long_within_fine t bases p q d

-- keyed lists

pub after_fits : (q : ℕ) (places ws : List ℕ) → size_for q places ws + size_after q places ws ≤ total ws
after_fits q [] ws = omega arith
after_fits q (p ∷ ps) [] = omega arith
after_fits q (p ∷ ps) (w ∷ ws) = go (nat_eq p q) (after_fits q ps ws)
  where
    go : (b : Bool) → size_for q ps ws + size_after q ps ws ≤ total ws
        → (if b then w else size_for q ps ws) + (if b then total ws else size_after q ps ws) ≤ w + total ws
    go true h = omega arith
    go false h = omega (h, arith)

pub left_over : (q : ℕ) (places ws : List ℕ) → total (without q places ws) + size_for q places ws ≤ total ws
left_over q [] ws = omega arith
left_over q (p ∷ ps) [] = omega arith
left_over q (p ∷ ps) (w ∷ ws) = go (nat_eq p q) (left_over q ps ws)
  where
    go : (b : Bool) → total (without q ps ws) + size_for q ps ws ≤ total ws
        → total (if b then ws else w ∷ without q ps ws) + (if b then w else size_for q ps ws) ≤ w + total ws
    go true h = omega arith
    go false h = omega (h, arith)

rolls_fine : (q count : ℕ) (places ws : List ℕ) (moved d : ℕ) → total ws + moved ≤ d → AllFine (rolls q count places ws moved) d
rolls_fine q zero places ws moved d h = tt
rolls_fine q (suc count) places ws moved d h =
    let words = size_for q places ws in
    let over = size_after q places ws + moved in
    let fits : words + over ≤ d = omega (h, after_fits q places ws, arith) in
    behind (lift_code words over) (rolls (suc q) count (without q places places) (without q places ws) (moved + words)) d d
    (lift_fine words over d fits) (lift_left words over d fits)
    (rolls_fine (suc q) count (without q places places) (without q places ws) (moved + words) d (omega (h, left_over q places ws, arith)))

arranged_fine : (q : ℕ) (places ws : List ℕ) (d : ℕ) → total ws ≤ d → AllFine (arrange_from q places ws) d
arranged_fine q [] ws d h = tt
arranged_fine q (p ∷ ps) [] d h = tt
arranged_fine q (p ∷ ps) (w ∷ ws) d h = go (nat_eq p q) (arranged_fine (suc q) ps ws d (omega (h, arith)))
  where
    go : (b : Bool) → AllFine (arrange_from (suc q) ps ws) d
        → AllFine (if b then arrange_from (suc q) ps ws else rolls q (length (p ∷ ps)) (p ∷ ps) (w ∷ ws) 0) d
    go true e = e
    go false e = rolls_fine q (length (p ∷ ps)) (p ∷ ps) (w ∷ ws) 0 d (omega (h, arith))

pub arrange_fine : (places : List ℕ) (es : Exprs) (d : ℕ) → words_given es ≤ d → AllFine (arrange_code places (sizes es)) d
arrange_fine places es d h = arranged_fine 0 places (sizes es) d (omega (h, total_given es, arith))

-- loops

when_fine : (b : Bool) (is : List Instruction) (d : ℕ) → AllFine is d → AllFine (when b is) d
when_fine true is d h = h
when_fine false is d h = tt

when_left : (b : Bool) (is : List Instruction) (d : ℕ) → left_of is d ≡ d → left_of (when b is) d ≡ d
when_left true is d h = h
when_left false is d h = refl

some_fine : (z : ℕ) (b : Base) (p q : Bool) (d : ℕ) → AllFine (some_code z b p q) d
some_fine z Signed false false d = (omega arith, (omega arith, (omega arith, (omega arith, tt))))
some_fine z Signed false true d = (omega arith, (omega arith, tt))
some_fine z Signed true false d = (omega arith, (omega arith, tt))
some_fine z Signed true true d = (omega arith, (omega arith, (omega arith, (omega arith, (omega arith, (omega arith, (omega arith, (omega arith, (omega arith, tt)))))))))
some_fine z Unsigned false false d = (omega arith, (omega arith, (omega arith, (omega arith, tt))))
some_fine z Unsigned false true d = (omega arith, (omega arith, tt))
some_fine z Unsigned true false d = (omega arith, (omega arith, tt))
some_fine z Unsigned true true d = (omega arith, (omega arith, (omega arith, (omega arith, (omega arith, (omega arith, (omega arith, (omega arith, (omega arith, tt)))))))))

some_left : (z : ℕ) (b : Base) (p q : Bool) (d : ℕ) → left_of (some_code z b p q) d ≡ d + 1
some_left z Signed false false d = omega arith
some_left z Signed false true d = omega arith
some_left z Signed true false d = omega arith
some_left z Signed true true d = omega arith
some_left z Unsigned false false d = omega arith
some_left z Unsigned false true d = omega arith
some_left z Unsigned true false d = omega arith
some_left z Unsigned true true d = omega arith

start_fine : (z : ℕ) (b : Base) (p q : Bool) (d : ℕ) → AllFine (start_code z b p q) (d + 2)
start_fine z b p q d =
    let ups = when p (up_code z) in
    let downs = when q (down_code (z + 1)) in (
      omega arith,
      fine_at (some_code z b p q ++ i.StoreL (z + 2) 1 ∷ (ups ++ downs)) {n = d} (omega arith)
          (behind (some_code z b p q) (i.StoreL (z + 2) 1 ∷ (ups ++ downs)) d (d + 1) (some_fine z b p q d) (some_left z b p q d) (
            omega arith,
            fine_at (ups ++ downs) {n = d} (omega arith)
                (behind ups downs d d (when_fine p (up_code z) d (omega arith, (omega arith, (omega arith, (omega arith, tt))))) (when_left p (up_code z) d (omega arith))
                (when_fine q (down_code (z + 1)) d (omega arith, (omega arith, (omega arith, (omega arith, tt)))))),
          )),
    )

pub start_of_fine : (z : ℕ) (b : Base) (range : Interval) (d : ℕ) → AllFine (start_of z b range) (d + 2)
start_of_fine z b (Between x p y q) d = start_fine z b p q d

-- variables

pub load_fine : (P : Coded) (h : Home) (offset words d : ℕ) → AllFine (load P h offset words ∷ []) d
load_fine P (Local n) offset words d = (omega arith, tt)
load_fine P (Global n) offset words d = (omega arith, tt)

pub store_fine : (P : Coded) (h : Home) (offset words d : ℕ) → words ≤ d → AllFine (store P h offset words ∷ []) d
store_fine P (Local n) offset words d e = (e, tt)
store_fine P (Global n) offset words d e = (e, tt)

pub load_within_fine : (P : Coded) (h : Home) (words d : ℕ) → 1 ≤ d → AllFine (load_within P h words ∷ []) d
load_within_fine P (Local n) words d e = (e, tt)
load_within_fine P (Global n) words d e = (e, tt)

pub store_within_fine : (P : Coded) (h : Home) (words d : ℕ) → words + 1 ≤ d → AllFine (store_within P h words ∷ []) d
store_within_fine P (Local n) words d e = (e, tt)
store_within_fine P (Global n) words d e = (e, tt)

pub zero_fine : (P : Coded) (hs : List Home) (words d : ℕ) → AllFine (zero_code P hs words) d
zero_fine P [] words d = tt
zero_fine P (Local n ∷ hs) words d = (omega arith, zero_fine P hs words _)
zero_fine P (Global n ∷ hs) words d = (omega arith, zero_fine P hs words _)

copy_fine : (P : Coded) (first : Home) (hs : List Home) (words d : ℕ) → AllFine (copy_code P first hs words) d
copy_fine P first [] words d = tt
copy_fine P (Local m) (Local n ∷ hs) words d = (omega arith, (omega arith, copy_fine P (Local m) hs words _))
copy_fine P (Local m) (Global n ∷ hs) words d = (omega arith, (omega arith, copy_fine P (Local m) hs words _))
copy_fine P (Global m) (Local n ∷ hs) words d = (omega arith, (omega arith, copy_fine P (Global m) hs words _))
copy_fine P (Global m) (Global n ∷ hs) words d = (omega arith, (omega arith, copy_fine P (Global m) hs words _))

pub spread_fine : (P : Coded) (hs : List Home) (words d : ℕ) → words ≤ d → AllFine (spread_code P hs words) d
spread_fine P [] words d e = pop_fine words d e
spread_fine P (Local n ∷ hs) words d e = (e, copy_fine P (Local n) hs words _)
spread_fine P (Global n ∷ hs) words d e = (e, copy_fine P (Global n) hs words _)

-- the rounds of a counted loop

pub give_fine : (P : Coded) (g : Given) (slot d : ℕ) → AllFine (give_code P g slot) d
give_fine P NoVariable slot d = tt
give_fine P (GivenTo h r) slot d = (
  omega arith,
  behind (check_code r) (store P h 0 1 ∷ []) (d - 0 + 1) (d - 0 + 1) (check_fine r (d - 0 + 1) (omega arith)) (check_left r (d - 0 + 1) (omega arith))
      (store_fine P h 0 1 (d - 0 + 1) (omega arith)),
)

pub step_fine : (k : Counter) (d : ℕ) → AllFine (step_code k) d
step_fine NoCounter d = tt
step_fine (CountedIn z g false) d = (omega arith, (omega arith, (omega arith, (omega arith, (omega arith, (omega arith, (omega arith, (omega arith, tt))))))))
step_fine (CountedIn z g true) d = (omega arith, (omega arith, (omega arith, (omega arith, (omega arith, (omega arith, (omega arith, (omega arith, tt))))))))

pub relation_fine : (b : Base) (o : Relation) (d : ℕ) → AllFine (relation_code b o) (d + 2)
relation_fine b o d =
    behind (comparison b o) (not_if (is_opposite o)) (d + 2) (d + 1) (comparison_fine b o d) (comparison_left none b o d) (not_fine (is_opposite o) (d + 1) (omega arith))

pub long_relation_fine : (b : Base) (o : Relation) (d : ℕ) → AllFine (long_relation_code b o) (d + 4)
long_relation_fine b o d =
    behind (long_comparison b o) (not_if (is_opposite o)) (d + 4) (d + 1) (long_comparison_fine b o d) (long_comparison_left none b o d)
    (not_fine (is_opposite o) (d + 1) (omega arith))
