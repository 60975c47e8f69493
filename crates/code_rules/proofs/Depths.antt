-- Own code takes and puts as many words as its row says.
use Rattle.std.proofs.Common.{◌≡◌, refl, ◌∙◌, ap, subst, ℕ, zero, suc, ◌+◌, ◌-◌, ◌≤◌, List, [], ◌∷◌, ◌++◌, length, Bool, true, false, nat_eq, if◌then◌else◌, arith}
use Rattle.mesa_types.specs.declared.typed_parts.Base.{Base}
use Rattle.mesa_types.specs.declared.typed_parts.Base.TheVariants.{Signed, Unsigned}
use Rattle.mesa_types.specs.declared.typed_parts.Bases.{Bases}
use Rattle.mesa_types.specs.declared.typed_parts.Conversion.{Conversion}
use Rattle.mesa_types.specs.declared.typed_parts.Conversion.TheVariants.{Kept, Widened, Narrowed, InCommon}
use Rattle.mesa_types.specs.declared.typed_parts.Given.{Given}
use Rattle.mesa_types.specs.declared.typed_parts.Given.TheVariants.{NoVariable, GivenTo}
use Rattle.mesa_types.specs.declared.typed_parts.Home.{Home}
use Rattle.mesa_types.specs.declared.typed_parts.Home.TheVariants.{Global, Local}
use Rattle.mesa_types.specs.declared.typed_parts.Operator.{Operator}
use Rattle.mesa_types.specs.declared.typed_parts.Operator.TheVariants as operator
use Rattle.mesa_types.specs.declared.typed_parts.Range.{Range}
use Rattle.mesa_types.specs.declared.typed_parts.Range.TheVariants.{Every, From}
use Rattle.mesa_base.specs.declared.relation.Relation.{Relation}
use Rattle.mesa_base.specs.declared.relation.Relation.TheVariants.{Equal, NotEqual, Less, AtMost, Greater, AtLeast}
use Rattle.mesa_types.specs.Counts.{words_before, words_after}
use Rattle.mesa_types.specs.Operators.{differ}
use Rattle.code_forms.specs.declared.instruction.Instruction.{Instruction}
use Rattle.code_rules.specs.Laws.{left_by, OwnCodeKeepsWords}
use Rattle.code_rules.specs.Loops.{Counter, NoCounter, CountedIn, start_code, some_code, up_code, down_code, when, give_code, count_code, step_code}
use Rattle.code_rules.specs.OwnCode.{pop_code, lift_code, drop_code, field_code, long_code, check_code, widen_code, narrow_code, conversion_code, from_code, index_code, comparison, long_comparison, is_opposite, not_if, jump_where, relation_code, long_relation_code, relation_jump, long_relation_jump, operator_code, long_operator_code, less_code, bound_code, within_code, long_less_code, long_bound_code, long_within_code, total, size_for, size_after, without, rolls, arrange_from}
use Rattle.code_rules.specs.Reading.{Coded}
use Rattle.code_rules.specs.Slots.{zero_code, copy_code, spread_code}

-- one code behind another
joined : (P : Coded) (is js : List Instruction) (d : ℕ) → left_by P (is ++ js) d ≡ left_by P js (left_by P is d)
joined P [] js d = refl
joined P (i ∷ is) js d = joined P is js _

-- from d words to e, and from there to f
via : (P : Coded) (is js : List Instruction) (d : ℕ) {e f : ℕ} → left_by P is d ≡ e → left_by P js e ≡ f → left_by P (is ++ js) d ≡ f
via P is js d p q = joined P is js d ∙ (ap (left_by P js) p ∙ q)

pop : (P : Coded) (n d : ℕ) → left_by P (pop_code n) (d + n) ≡ d
pop P zero d = omega arith
pop P (suc n) d = omega arith

lift : (P : Coded) (n k d : ℕ) → n + k ≤ d → left_by P (lift_code n k) d ≡ d
lift P n zero d h = refl
lift P n (suc k) d h = omega (h, arith)

drop : (P : Coded) (n k d : ℕ) → left_by P (drop_code n k) (d + n + k) ≡ d + k
drop P zero k d = omega arith
drop P (suc n) k d = via P (lift_code (suc n) k) _ (d + suc n + k) (lift P (suc n) k (d + suc n + k) (omega arith)) (omega arith)

field : (P : Coded) (before words after d : ℕ) → left_by P (field_code before words after) (d + before + words + after) ≡ d + words
field P before words after d = via P (pop_code after) _ (d + before + words + after) (pop P after (d + before + words)) (drop P before words d)

check : (P : Coded) (r : Range) (d : ℕ) → left_by P (check_code r) (d + 1) ≡ d + 1
check P Every d = refl
check P (From Signed first last) d = omega arith
check P (From Unsigned first last) d = omega arith

long : (P : Coded) (n d : ℕ) → left_by P (long_code n) d ≡ d + 2
long P n d = omega arith

widened : (P : Coded) (a b : Base) (d : ℕ) → left_by P (widen_code a b) (d + 1) ≡ d + 2
widened P Signed Signed d = omega arith
widened P Signed Unsigned d = omega arith
widened P Unsigned Signed d = omega arith
widened P Unsigned Unsigned d = omega arith

narrowed : (P : Coded) (a b : Base) (d : ℕ) → left_by P (narrow_code a b) (d + 2) ≡ d + 1
narrowed P Signed Signed d = omega arith
narrowed P Signed Unsigned d = omega arith
narrowed P Unsigned Signed d = omega arith
narrowed P Unsigned Unsigned d = omega arith

conversion : (P : Coded) (c : Conversion) (d : ℕ) → left_by P (conversion_code c) (d + words_before c) ≡ d + words_after c
unfolding words_before words_after
conversion P Kept d = refl
conversion P (Widened a b) d = widened P a b d
conversion P (Narrowed a b r) d = via P (narrow_code a b) _ (d + 2) (narrowed P a b d) (check P r d)
conversion P InCommon d = omega arith

from : (P : Coded) (first d : ℕ) → left_by P (from_code first) (d + 2) ≡ d + 2
from P zero d = refl
from P (suc n) d = omega arith

check_top : (P : Coded) (r : Range) (d : ℕ) → left_by P (check_code r) (d + 2) ≡ d + 2
check_top P r d = subst (λ e. left_by P (check_code r) e ≡ e) {x = d + 1 + 1} {y = d + 2} (omega arith) (check P r (d + 1))

index : (P : Coded) (r : Range) (first n words d : ℕ) → left_by P (index_code r first n words) (d + 2) ≡ d + 1
index P r first n words d = via P (check_code r) _ (d + 2) (check_top P r d) (via P (from_code first) _ (d + 2) (from P first d) (omega arith))

comparisons : (P : Coded) (b : Base) (o : Relation) (d : ℕ) → left_by P (comparison b o) (d + 2) ≡ d + 1
comparisons P Signed Equal d = omega arith
comparisons P Signed NotEqual d = omega arith
comparisons P Signed Less d = omega arith
comparisons P Signed AtMost d = omega arith
comparisons P Signed Greater d = omega arith
comparisons P Signed AtLeast d = omega arith
comparisons P Unsigned Equal d = omega arith
comparisons P Unsigned NotEqual d = omega arith
comparisons P Unsigned Less d = omega arith
comparisons P Unsigned AtMost d = omega arith
comparisons P Unsigned Greater d = omega arith
comparisons P Unsigned AtLeast d = omega arith

turned : (P : Coded) (b : Bool) (d : ℕ) → left_by P (not_if b) (d + 1) ≡ d + 1
turned P true d = omega arith
turned P false d = refl

jumped : (P : Coded) (b : Bool) (target d : ℕ) → left_by P (jump_where b target ∷ []) (d + 1) ≡ d
jumped P true target d = omega arith
jumped P false target d = omega arith

relation : (P : Coded) (b : Base) (o : Relation) (d : ℕ) → left_by P (relation_code b o) (d + 2) ≡ d + 1
relation P b o d = via P (comparison b o) _ (d + 2) (comparisons P b o d) (turned P (is_opposite o) d)

relation_jumps : (P : Coded) (b : Base) (o : Relation) (sense : Bool) (target d : ℕ) → left_by P (relation_jump b o sense target) (d + 2) ≡ d
relation_jumps P b o sense target d =
    via P (comparison b o) _ (d + 2) (comparisons P b o d) (jumped P (differ (is_opposite o) sense) target d)

long_comparisons : (P : Coded) (b : Base) (o : Relation) (d : ℕ) → left_by P (long_comparison b o) (d + 4) ≡ d + 1
long_comparisons P Signed Equal d = omega arith
long_comparisons P Signed NotEqual d = omega arith
long_comparisons P Signed Less d = omega arith
long_comparisons P Signed AtMost d = omega arith
long_comparisons P Signed Greater d = omega arith
long_comparisons P Signed AtLeast d = omega arith
long_comparisons P Unsigned Equal d = omega arith
long_comparisons P Unsigned NotEqual d = omega arith
long_comparisons P Unsigned Less d = omega arith
long_comparisons P Unsigned AtMost d = omega arith
long_comparisons P Unsigned Greater d = omega arith
long_comparisons P Unsigned AtLeast d = omega arith

long_relation : (P : Coded) (b : Base) (o : Relation) (d : ℕ) → left_by P (long_relation_code b o) (d + 4) ≡ d + 1
long_relation P b o d = via P (long_comparison b o) _ (d + 4) (long_comparisons P b o d) (turned P (is_opposite o) d)

long_relation_jumps : (P : Coded) (b : Base) (o : Relation) (sense : Bool) (target d : ℕ) → left_by P (long_relation_jump b o sense target) (d + 4) ≡ d
long_relation_jumps P b o sense target d =
    via P (long_comparison b o) _ (d + 4) (long_comparisons P b o d) (jumped P (differ (is_opposite o) sense) target d)

operators : (P : Coded) (t : ℕ) (o : Operator) (d : ℕ) → left_by P (operator_code t o) (d + 2) ≡ d + 1
operators P t operator.Add d = omega arith
operators P t operator.Subtract d = omega arith
operators P t operator.Multiply d = omega arith
operators P t (operator.Divide Signed) d = omega arith
operators P t (operator.Divide Unsigned) d = omega arith
operators P t (operator.Modulo Signed) d = omega arith
operators P t (operator.Modulo Unsigned) d = omega arith
operators P t (operator.AddToCharacter Signed) d = omega arith
operators P t (operator.AddToCharacter Unsigned) d = omega arith
operators P t (operator.SubtractFromCharacter Signed) d = omega arith
operators P t (operator.SubtractFromCharacter Unsigned) d = omega arith

long_operators : (P : Coded) (o : Operator) (d : ℕ) → left_by P (long_operator_code o) (d + 4) ≡ d + 2
long_operators P operator.Add d = omega arith
long_operators P operator.Subtract d = omega arith
long_operators P operator.Multiply d = omega arith
long_operators P (operator.Divide Signed) d = omega arith
long_operators P (operator.Divide Unsigned) d = omega arith
long_operators P (operator.Modulo Signed) d = omega arith
long_operators P (operator.Modulo Unsigned) d = omega arith
long_operators P (operator.AddToCharacter b) d = omega arith
long_operators P (operator.SubtractFromCharacter b) d = omega arith

-- an interval

less_puts : (P : Coded) (b : Base) (s : ℕ) (c : Base) (u d : ℕ) → left_by P (less_code b s c u) d ≡ d + 1
less_puts P Signed s Signed u d = omega arith
less_puts P Signed s Unsigned u d = omega arith
less_puts P Unsigned s Signed u d = omega arith
less_puts P Unsigned s Unsigned u d = omega arith

bound_puts : (P : Coded) (is_open : Bool) (b : Base) (s : ℕ) (c : Base) (u d : ℕ) → left_by P (bound_code is_open b s c u) d ≡ d + 1
bound_puts P true b s c u d = less_puts P b s c u d
bound_puts P false b s c u d = via P (less_code c u b s) _ d (less_puts P c u b s d) (omega arith)

within : (P : Coded) (t : ℕ) (bases : Bases) (p q : Bool) (d : ℕ) → left_by P (within_code t bases p q) (d + 3) ≡ d + 1
within P t bases p q d =
    via P (bound_code p bases.first (t + 1) bases.number t) _ (d + 3 - 3 + 0) (bound_puts P p bases.first (t + 1) bases.number t (d + 3 - 3 + 0))
    (via P (bound_code q bases.number t bases.last (t + 2)) _ _ (bound_puts P q bases.number t bases.last (t + 2) _) (omega arith))

long_less_puts : (P : Coded) (b : Base) (s : ℕ) (c : Base) (u d : ℕ) → left_by P (long_less_code b s c u) d ≡ d + 1
long_less_puts P Signed s Signed u d = omega arith
long_less_puts P Signed s Unsigned u d = omega arith
long_less_puts P Unsigned s Signed u d = omega arith
long_less_puts P Unsigned s Unsigned u d = omega arith

long_bound_puts : (P : Coded) (is_open : Bool) (b : Base) (s : ℕ) (c : Base) (u d : ℕ) → left_by P (long_bound_code is_open b s c u) d ≡ d + 1
long_bound_puts P true b s c u d = long_less_puts P b s c u d
long_bound_puts P false b s c u d = via P (long_less_code c u b s) _ d (long_less_puts P c u b s d) (omega arith)

long_within : (P : Coded) (t : ℕ) (bases : Bases) (p q : Bool) (d : ℕ) → left_by P (long_within_code t bases p q) (d + 6) ≡ d + 1
long_within P t bases p q d =
    via P (long_bound_code p bases.first (t + 2) bases.number t) _ (d + 6 - 6 + 0) (long_bound_puts P p bases.first (t + 2) bases.number t (d + 6 - 6 + 0))
    (via P (long_bound_code q bases.number t bases.last (t + 4)) _ _ (long_bound_puts P q bases.number t bases.last (t + 4) _) (omega arith))

-- keyed lists

fits : (q : ℕ) (places sizes : List ℕ) → size_for q places sizes + size_after q places sizes ≤ total sizes
fits q [] sizes = omega arith
fits q (p ∷ ps) [] = omega arith
fits q (p ∷ ps) (s ∷ sizes) = go (nat_eq p q) (fits q ps sizes)
  where
    go : (b : Bool) → size_for q ps sizes + size_after q ps sizes ≤ total sizes
        → (if b then s else size_for q ps sizes) + (if b then total sizes else size_after q ps sizes) ≤ s + total sizes
    go true h = omega arith
    go false h = omega (h, arith)

left_over : (q : ℕ) (places sizes : List ℕ) → total (without q places sizes) + size_for q places sizes ≤ total sizes
left_over q [] sizes = omega arith
left_over q (p ∷ ps) [] = omega arith
left_over q (p ∷ ps) (s ∷ sizes) = go (nat_eq p q) (left_over q ps sizes)
  where
    go : (b : Bool) → total (without q ps sizes) + size_for q ps sizes ≤ total sizes
        → total (if b then sizes else s ∷ without q ps sizes) + (if b then s else size_for q ps sizes) ≤ s + total sizes
    go true h = omega arith
    go false h = omega (h, arith)

rolled : (P : Coded) (q count : ℕ) (places sizes : List ℕ) (moved d : ℕ) → total sizes + moved ≤ d
    → left_by P (rolls q count places sizes moved) d ≡ d
rolled P q zero places sizes moved d h = refl
rolled P q (suc count) places sizes moved d h =
    via P (lift_code (size_for q places sizes) (size_after q places sizes + moved)) _ d
    (lift P (size_for q places sizes) (size_after q places sizes + moved) d (omega (h, fits q places sizes, arith)))
    (rolled P (suc q) count (without q places places) (without q places sizes) (moved + size_for q places sizes) d
    (omega (h, left_over q places sizes, arith)))

arranged_from : (P : Coded) (q : ℕ) (places sizes : List ℕ) (d : ℕ) → total sizes ≤ d → left_by P (arrange_from q places sizes) d ≡ d
arranged_from P q [] sizes d h = refl
arranged_from P q (p ∷ ps) [] d h = refl
arranged_from P q (p ∷ ps) (s ∷ sizes) d h = go (nat_eq p q) (arranged_from P (suc q) ps sizes d (omega (h, arith)))
  where
    go : (b : Bool) → left_by P (arrange_from (suc q) ps sizes) d ≡ d
        → left_by P (if b then arrange_from (suc q) ps sizes else rolls q (length (p ∷ ps)) (p ∷ ps) (s ∷ sizes) 0) d ≡ d
    go true e = e
    go false e = rolled P q (length (p ∷ ps)) (p ∷ ps) (s ∷ sizes) 0 d (omega (h, arith))

-- variables

cleared : (P : Coded) (hs : List Home) (words d : ℕ) → left_by P (zero_code P hs words) d ≡ d
cleared P [] words d = refl
cleared P (Local n ∷ hs) words d = ap (left_by P (zero_code P hs words)) (omega arith) ∙ cleared P hs words d
cleared P (Global n ∷ hs) words d = ap (left_by P (zero_code P hs words)) (omega arith) ∙ cleared P hs words d

copied : (P : Coded) (first : Home) (hs : List Home) (words d : ℕ) → left_by P (copy_code P first hs words) d ≡ d
copied P first [] words d = refl
copied P (Local m) (Local n ∷ hs) words d = ap (left_by P (copy_code P (Local m) hs words)) (omega arith) ∙ copied P (Local m) hs words d
copied P (Local m) (Global n ∷ hs) words d = ap (left_by P (copy_code P (Local m) hs words)) (omega arith) ∙ copied P (Local m) hs words d
copied P (Global m) (Local n ∷ hs) words d = ap (left_by P (copy_code P (Global m) hs words)) (omega arith) ∙ copied P (Global m) hs words d
copied P (Global m) (Global n ∷ hs) words d = ap (left_by P (copy_code P (Global m) hs words)) (omega arith) ∙ copied P (Global m) hs words d

spreads : (P : Coded) (hs : List Home) (words d : ℕ) → left_by P (spread_code P hs words) (d + words) ≡ d
spreads P [] words d = pop P words d
spreads P (Local n ∷ hs) words d = ap (left_by P (copy_code P (Local n) hs words)) {y = d} (omega arith) ∙ copied P (Local n) hs words d
spreads P (Global n ∷ hs) words d = ap (left_by P (copy_code P (Global n) hs words)) {y = d} (omega arith) ∙ copied P (Global n) hs words d

-- loops

ups : (P : Coded) (z d : ℕ) → left_by P (up_code z) d ≡ d
ups P z d = omega arith

downs : (P : Coded) (z d : ℕ) → left_by P (down_code z) d ≡ d
downs P z d = omega arith

whens : (P : Coded) (b : Bool) (is : List Instruction) (d : ℕ) → left_by P is d ≡ d → left_by P (when b is) d ≡ d
whens P true is d h = h
whens P false is d h = refl

somes : (P : Coded) (z : ℕ) (b : Base) (p q : Bool) (d : ℕ) → left_by P (some_code z b p q) d ≡ d + 1
somes P z Signed false false d = omega arith
somes P z Signed false true d = omega arith
somes P z Signed true false d = omega arith
somes P z Signed true true d = omega arith
somes P z Unsigned false false d = omega arith
somes P z Unsigned false true d = omega arith
somes P z Unsigned true false d = omega arith
somes P z Unsigned true true d = omega arith

started : (P : Coded) (z : ℕ) (b : Base) (p q : Bool) (d : ℕ) → left_by P (start_code z b p q) (d + 2) ≡ d
started P z b p q d =
    via P (some_code z b p q) _ (d + 2 - 2 + 0) {e = d + 1} (somes P z b p q (d + 2 - 2 + 0) ∙ omega arith)
    (ap (left_by P (when p (up_code z) ++ when q (down_code (z + 1)))) {y = d} (omega arith)
    ∙ via P (when p (up_code z)) _ d (whens P p (up_code z) d (ups P z d)) (whens P q (down_code (z + 1)) d (downs P (z + 1) d)))

given : (P : Coded) (g : Given) (z d : ℕ) → left_by P (give_code P g z) d ≡ d
given P NoVariable z d = refl
given P (GivenTo (Local n) r) z d = via P (check_code r) _ (d - 0 + 1) (check P r (d - 0)) (omega arith)
given P (GivenTo (Global n) r) z d = via P (check_code r) _ (d - 0 + 1) (check P r (d - 0)) (omega arith)

counted : (P : Coded) (k : Counter) (target d : ℕ) → left_by P (count_code P k target) d ≡ d
counted P NoCounter target d = refl
counted P (CountedIn z g down) target d = ap (left_by P (give_code P g _)) {y = d} (omega arith) ∙ given P g _ d

stepped : (P : Coded) (k : Counter) (d : ℕ) → left_by P (step_code k) d ≡ d
stepped P NoCounter d = refl
stepped P (CountedIn z g false) d = omega arith
stepped P (CountedIn z g true) d = omega arith

pub own_code_keeps_words : OwnCodeKeepsWords
own_code_keeps_words = record {
  field = field;
  check = check;
  long = long;
  conversion = conversion;
  index = index;
  relation = relation;
  relation_jump = relation_jumps;
  long_relation = long_relation;
  long_relation_jump = long_relation_jumps;
  long_operator = long_operators;
  operator = operators;
  within = within;
  long_within = long_within;
  arranged = λ P places sizes d. arranged_from P 0 places sizes (d + total sizes) (omega arith);
  cleared = cleared;
  spread = spreads;
  started = started;
  counted = counted;
  stepped = stepped;
}
