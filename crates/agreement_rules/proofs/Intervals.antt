-- Own code of the other leaves, of checks and indexes, and of intervals with their scratch words.
use Rattle.std.proofs.Common.{◌≡◌, ℕ, zero, suc, ◌+◌, ◌-◌, ◌*◌, ◌<◌, List, [], ◌∷◌, ◌++◌, length, Bool, true, false, not, refl, sym, ap, ◌∙◌, subst, arith}
use Rattle.std.specs.Prelude.{◌&&◌, ◌||◌, nat_eq, nat_lt, nat_le, slice_get, Option, Some, None}
use Rattle.std.proofs.lemmas.Bool.Decides.{nat_tests}
use Rattle.mesa_types.specs.declared.typed_parts.Base.{Base}
use Rattle.mesa_types.specs.declared.typed_parts.Base.TheVariants.{Signed, Unsigned}
use Rattle.mesa_types.specs.declared.typed_parts.Bases.{Bases}
use Rattle.mesa_types.specs.declared.typed_parts.Range.{Range}
use Rattle.mesa_types.specs.declared.typed_parts.Range.TheVariants.{Every, From}
use Rattle.mesa_types.specs.Operators.{OutOfBounds, wrap, shifted, past, first_of, beyond, lies_in, related, truth, is_true, fits, fine_if, checked, element, indexed, fine_or, byte_at, opposite}
use Rattle.code_forms.specs.declared.instruction.Instruction.{Instruction}
use Rattle.code_forms.specs.declared.instruction.Instruction.TheVariants.{Lit, StoreL, Index, Mul, Neg, Not, StrLen, StrAt}
use Rattle.machine_rules.specs.Words.{words_at, put_words, push}
use Rattle.machine_rules.specs.Working.{Work, Worked, Works, Faults, Touches, leaves, stores_local, in_bounds, leaves_tried, works}
use Rattle.code_rules.specs.OwnCode.{check_code, from_code, index_code, less_code, bound_code, within_code}
use Rattle.agreement_rules.specs.Layout.{Strings, slots_of}
use Rattle.agreement_rules.specs.Own.{Done, Did, FaultAt, Strays, go_on, works_all, Given, outcome, Comes, Does}
use Rattle.agreement_rules.specs.Operators.{offset_of}
use Rattle.agreement_rules.proofs.Memory.{put_here, read_slots, read_long, same_list}
use Rattle.agreement_rules.proofs.Arithmetic.{truth_not, zero_is_false}
use Rattle.agreement_rules.proofs.Leaves.{work, same_kept, put_kept, gives, faults, tests, checks}

-- One list after the other.

unfoldable pub and_then : Done → (Work → Done) → Done
and_then (Did w) k = k w
and_then (FaultAt fault w) k = FaultAt fault w
and_then Strays k = Strays

after_one : (texts : Strings) (number : ℕ) (is js : List Instruction) (before : Work) (y : Worked)
    → ((w : Work) → works_all texts number (is ++ js) w ≡ and_then (works_all texts number is w) (works_all texts number js))
    → go_on before y (works_all texts number (is ++ js)) ≡ and_then (go_on before y (works_all texts number is)) (works_all texts number js)
unfolding go_on and_then
after_one texts number is js before (Works w) h = h w
after_one texts number is js before (Faults fault) h = refl
after_one texts number is js before Touches h = refl

pub works_both : (texts : Strings) (number : ℕ) (is js : List Instruction) (w : Work)
    → works_all texts number (is ++ js) w ≡ and_then (works_all texts number is w) (works_all texts number js)
unfolding works_all and_then
works_both texts number [] js w = refl
works_both texts number (i ∷ is) js w = after_one texts number is js w (works texts number i w) (λ v. works_both texts number is js v)

-- Tests as words.

pub neither : (n l : Bool) → truth (nat_eq (wrap (truth (nat_eq (truth n) 0) * truth (nat_eq (truth l) 0))) 0) ≡ truth (n || l)
unfolding truth wrap
neither true true = refl
neither true false = refl
neither false true = refl
neither false false = refl

pub but_not : (n l : Bool) → wrap (truth (nat_eq (truth n) 0) * truth l) ≡ truth (not n && l)
unfolding truth wrap
but_not true true = refl
but_not true false = refl
but_not false true = refl
but_not false false = refl

pub both : (p q : Bool) → wrap (truth p * truth q) ≡ truth (p && q)
unfolding truth wrap
both true true = refl
both true false = refl
both false true = refl
both false false = refl

signed_less : (x y : ℕ) → x < 65536 → y < 65536
    → (nat_lt (shifted Signed x) (shifted Signed 0) || nat_lt (shifted Unsigned x) (shifted Unsigned y)) ≡ nat_lt (shifted Signed x) (shifted Unsigned y)
unfolding shifted
signed_less x y a b = grind (arith, nat_tests)

unsigned_less : (x y : ℕ) → x < 65536 → y < 65536
    → (not (nat_lt (shifted Signed y) (shifted Signed 0)) && nat_lt (shifted Unsigned x) (shifted Unsigned y)) ≡ nat_lt (shifted Unsigned x) (shifted Signed y)
unfolding shifted
unsigned_less x y a b = grind (arith, nat_tests)

pub behind_it : (p q : ℕ) → nat_lt p q ≡ nat_le (suc p) q
behind_it p q = grind (arith, nat_tests)

pub not_before : (p q : ℕ) → not (nat_lt q p) ≡ nat_le p q
not_before p q = grind (arith, nat_tests)

-- Scratch words, one by one.

one_read : (vs : List ℕ) (s x : ℕ) → slots_of vs s ≡ x → words_at vs s 1 ≡ x ∷ []
unfolding slots_of
one_read vs s x e =
    same_list _ _ (read_long vs s 1) (λ n lt.
    let z : n ≡ 0 = omega (arith, read_long vs s 1, lt) in
    let r = read_slots vs s 1 0 (omega arith) in
    let d : s + 0 ≡ s = omega arith in
    ap (λ j. slots_of (words_at vs s 1) j) z ∙ r ∙ ap (λ j. slots_of vs j) d ∙ e ∙ ap (λ j. slots_of (x ∷ []) j) (sym z))

module _ (texts : Strings) (number : ℕ) (vs gs : List ℕ) where
  -- the two words are those of the slots
  less_works : (b : Base) (s x : ℕ) (c : Base) (u y : ℕ) (ops : List ℕ) → words_at vs s 1 ≡ x ∷ [] → words_at vs u 1 ≡ y ∷ [] → x < 65536 → y < 65536
      → works_all texts number (less_code b s c u) (work ops vs gs) ≡ Did (work (truth (nat_lt (shifted b x) (shifted c y)) ∷ ops) vs gs)
  unfolding works_all works go_on leaves related
  less_works Signed s x Signed u y ops e d lx ly = rw e (rw d refl)
  less_works Unsigned s x Unsigned u y ops e d lx ly = rw e (rw d refl)
  less_works Signed s x Unsigned u y ops e d lx ly = rw e (rw d (rw e (
      ap (λ z. Did (work (z ∷ ops) vs gs)) (neither (nat_lt (shifted Signed x) (shifted Signed 0)) (nat_lt (shifted Unsigned x) (shifted Unsigned y)) ∙ ap truth (signed_less x y lx ly)))))
  less_works Unsigned s x Signed u y ops e d lx ly = rw d (rw e (rw d (
      ap (λ z. Did (work (z ∷ ops) vs gs)) (but_not (nat_lt (shifted Signed y) (shifted Signed 0)) (nat_lt (shifted Unsigned x) (shifted Unsigned y)) ∙ ap truth (unsigned_less x y lx ly)))))

  pub not_works : (p : Bool) (ops : List ℕ) → works_all texts number (Not ∷ []) (work (truth p ∷ ops) vs gs) ≡ Did (work (truth (not p) ∷ ops) vs gs)
  unfolding works_all works go_on leaves
  not_works p ops = ap (λ z. Did (work (z ∷ ops) vs gs)) (truth_not p)

  -- the word in slot u lies behind that in slot s, or at it where the interval is not open there
  bound_works : (is_open : Bool) (b : Base) (s x : ℕ) (c : Base) (u y : ℕ) (ops : List ℕ) → words_at vs s 1 ≡ x ∷ [] → words_at vs u 1 ≡ y ∷ [] → x < 65536 → y < 65536
      → works_all texts number (bound_code is_open b s c u) (work ops vs gs) ≡ Did (work (truth (nat_le (past is_open (shifted b x)) (shifted c y)) ∷ ops) vs gs)
  unfolding past and_then
  bound_works true b s x c u y ops e d lx ly =
      less_works b s x c u y ops e d lx ly ∙ ap (λ z. Did (work (truth z ∷ ops) vs gs)) (behind_it (shifted b x) (shifted c y))
  bound_works false b s x c u y ops e d lx ly =
      works_both texts number (less_code c u b s) (Not ∷ []) (work ops vs gs)
      ∙ ap (λ w. and_then w (works_all texts number (Not ∷ []))) (less_works c u y b s x ops d e ly lx)
      ∙ not_works (nat_lt (shifted c y) (shifted b x)) ops
      ∙ ap (λ z. Did (work (truth z ∷ ops) vs gs)) (not_before (shifted b x) (shifted c y))

three : (vs : List ℕ) (t x y z : ℕ) → (slots_of (put_words vs t (x ∷ y ∷ z ∷ [])) t ≡ x)
    × (slots_of (put_words vs t (x ∷ y ∷ z ∷ [])) (t + 1) ≡ y) × (slots_of (put_words vs t (x ∷ y ∷ z ∷ [])) (t + 2) ≡ z)
unfolding slots_of
three vs t x y z =
    let e : t ≡ t + 0 = omega arith in
    let now = put_words vs t (x ∷ y ∷ z ∷ []) in
    (ap (λ j. slots_of now j) e ∙ put_here vs t (x ∷ y ∷ z ∷ []) 0 (omega arith), put_here vs t (x ∷ y ∷ z ∷ []) 1 (omega arith), put_here vs t (x ∷ y ∷ z ∷ []) 2 (omega arith))

wraps : (x : ℕ) → x < 65536 → x ≡ wrap (x + (65536 - 0))
unfolding wrap
wraps x lt = omega arith

pub last_is : (is_open : Bool) (p q : ℕ) → nat_le (past is_open p) q ≡ nat_lt p (past (not is_open) q)
unfolding past
last_is true p q = grind (arith, nat_tests)
last_is false p q = grind (arith, nat_tests)

module _ (texts : Strings) (number t : ℕ) (vs gs : List ℕ) where
  pub mul_works : (x y : ℕ) (ops now : List ℕ) → works_all texts number (Mul ∷ []) (work (y ∷ x ∷ ops) now gs) ≡ Did (work (wrap (x * y) ∷ ops) now gs)
  unfolding works_all works go_on leaves
  mul_works x y ops now = refl

  stores_three : (x y z : ℕ) (ops : List ℕ) (is : List Instruction)
      → works_all texts number (StoreL t 3 ∷ is) (work (push (x ∷ y ∷ z ∷ []) ops) vs gs) ≡ works_all texts number is (work ops (put_words vs t (x ∷ y ∷ z ∷ [])) gs)
  unfolding works_all works go_on stores_local
  stores_three x y z ops is = refl

  pub within_does : (b : Bases) (p q : Bool) (x y z : ℕ) → x < 65536 → y < 65536 → z < 65536
      → Does texts number t vs gs (within_code t b p q) (x ∷ y ∷ z ∷ []) (Given (truth (lies_in b x p y q z) ∷ []))
  unfolding lies_in first_of beyond and_then
  within_does b p q x y z lx ly lz rest =
      let now = put_words vs t (x ∷ y ∷ z ∷ []) in
      let s = three vs t x y z in
      let first = nat_le (past p (shifted b.first y)) (shifted b.number x) in
      let last = nat_le (past q (shifted b.number x)) (shifted b.last z) in
      let below = bound_code p b.first (t + 1) b.number t in
      let above = bound_code q b.number t b.last (t + 2) in
      let e0 = one_read now t x s.0 in
      let e1 = one_read now (t + 1) y s.1 in
      let e2 = one_read now (t + 2) z s.2 in
      let k1 = works_both texts number below (above ++ Mul ∷ []) (work rest now gs)
      ∙ ap (λ w. and_then w (works_all texts number (above ++ Mul ∷ []))) (bound_works texts number now gs p b.first (t + 1) y b.number t x rest e1 e0 ly lx) in
      let k2 = works_both texts number above (Mul ∷ []) (work (truth first ∷ rest) now gs)
      ∙ ap (λ w. and_then w (works_all texts number (Mul ∷ []))) (bound_works texts number now gs q b.number t x b.last (t + 2) z (truth first ∷ rest) e0 e2 lx lz) in
      let k3 = mul_works (truth first) (truth last) rest now ∙ ap (λ w. Did (work (w ∷ rest) now gs))
      (both first last ∙ ap (λ l. truth (first && l)) (last_is q (shifted b.number x) (shifted b.last z))) in
      subst (λ w. Comes t rest vs gs (Given (truth (first && nat_lt (shifted b.number x) (past (not q) (shifted b.last z))) ∷ [])) w)
      (sym (stores_three x y z rest (below ++ (above ++ Mul ∷ [])) ∙ k1 ∙ k2 ∙ k3))
      (gives t rest vs now gs _ _ refl (put_kept t vs (x ∷ y ∷ z ∷ []) (omega arith)))

  -- Leaves.

  pub number_does : (n : ℕ) → Does texts number t vs gs (Lit n ∷ []) [] (Given (n ∷ []))
  unfolding works_all works go_on leaves
  number_does n rest = gives t rest vs vs gs n _ refl (same_kept t vs)

  pub negation_does : (x : ℕ) → Does texts number t vs gs (Neg ∷ []) (x ∷ []) (Given (opposite x ∷ []))
  unfolding works_all works go_on leaves
  negation_does x rest = gives t rest vs vs gs (opposite x) _ refl (same_kept t vs)

  pub complement_does : (x : ℕ) → Does texts number t vs gs (Not ∷ []) (x ∷ []) (Given (truth (not (is_true x)) ∷ []))
  unfolding works_all works go_on leaves
  complement_does x rest = gives t rest vs vs gs _ _ (ap (λ z. Given (z ∷ [])) (sym (zero_is_false x))) (same_kept t vs)

  pub length_does : (m k : ℕ) → Does texts number t vs gs (StrLen ∷ []) (m ∷ k ∷ []) (Given (length (texts m k) ∷ []))
  unfolding works_all works go_on leaves
  length_does m k rest = gives t rest vs vs gs (length (texts m k)) _ refl (same_kept t vs)

  byte_by : (found : Option ℕ) (ops rest : List ℕ)
      → Comes t rest vs gs (outcome (fine_or found)) (go_on (work ops vs gs) (leaves_tried (fine_or found) rest (work ops vs gs)) (works_all texts number []))
  unfolding fine_or leaves_tried leaves outcome go_on works_all
  byte_by None ops rest = faults t rest vs vs gs ops OutOfBounds _ refl (same_kept t vs)
  byte_by (Some x) ops rest = gives t rest vs vs gs x _ refl (same_kept t vs)

  pub byte_does : (m k n : ℕ) → Does texts number t vs gs (StrAt ∷ []) (m ∷ k ∷ n ∷ []) (outcome (byte_at (texts m k) n))
  unfolding works_all works go_on byte_at
  byte_does m k n rest = byte_by (slice_get (texts m k) n) (n ∷ k ∷ m ∷ rest) rest

  -- Checks and indexes.

  pub check_does : (r : Range) (x : ℕ) → Does texts number t vs gs (check_code r) (x ∷ []) (outcome (checked r x))
  unfolding works_all works go_on leaves checked fits fine_if outcome
  check_does Every x rest = gives t rest vs vs gs x _ refl (same_kept t vs)
  check_does (From Signed first last) x rest =
      checks texts number t rest vs gs (outcome (checked (From Signed first last) x)) (fits (From Signed first last) x) (work (x ∷ rest) vs gs) []
      (λ e. gives t rest vs vs gs x _ (ap (λ z. outcome (fine_if z x)) e) (same_kept t vs))
      (λ e. faults t rest vs vs gs _ OutOfBounds _ (ap (λ z. outcome (fine_if z x)) e) (same_kept t vs))
  check_does (From Unsigned first last) x rest =
      checks texts number t rest vs gs (outcome (checked (From Unsigned first last) x)) (fits (From Unsigned first last) x) (work (x ∷ rest) vs gs) []
      (λ e. gives t rest vs vs gs x _ (ap (λ z. outcome (fine_if z x)) e) (same_kept t vs))
      (λ e. faults t rest vs vs gs _ OutOfBounds _ (ap (λ z. outcome (fine_if z x)) e) (same_kept t vs))

  -- the element counts from the first word
  from_works : (first n words o x : ℕ) (ops : List ℕ) → x < 65536
      → works_all texts number (from_code first ++ Index n words ∷ []) (work (x ∷ o ∷ ops) vs gs)
      ≡ go_on (work (element first x ∷ o ∷ ops) vs gs) (in_bounds (nat_lt (element first x) n) (Works (work (wrap (o + element first x * words) ∷ ops) vs gs))) (works_all texts number [])
  unfolding works_all works go_on leaves element
  from_works zero n words o x ops lt = let e : x ≡ wrap (x + (65536 - 0)) = wraps x lt in
      ap (λ z. go_on (work (z ∷ o ∷ ops) vs gs) (in_bounds (nat_lt z n) (Works (work (wrap (o + z * words) ∷ ops) vs gs))) (works_all texts number [])) e
  from_works (suc first) n words o x ops lt = refl

  index_from : (b : Bool) (first n words o x : ℕ) (ops : List ℕ) → x < 65536
      → Comes t ops vs gs (offset_of o words (fine_if (b && nat_lt (element first x) n) (element first x)))
      (go_on (work (x ∷ o ∷ ops) vs gs) (in_bounds b (Works (work (x ∷ o ∷ ops) vs gs))) (works_all texts number (from_code first ++ Index n words ∷ [])))
  unfolding go_on in_bounds fine_if offset_of works_all
  index_from false first n words o x ops lt = faults t ops vs vs gs _ OutOfBounds _ refl (same_kept t vs)
  index_from true first n words o x ops lt =
      subst (λ w. Comes t ops vs gs (offset_of o words (fine_if (nat_lt (element first x) n) (element first x))) w) (sym (from_works first n words o x ops lt))
      (tests texts number t ops vs gs (offset_of o words (fine_if (nat_lt (element first x) n) (element first x))) (nat_lt (element first x) n) (work (element first x ∷ o ∷ ops) vs gs) (work (wrap (o + element first x * words) ∷ ops) vs gs) []
      (λ e. gives t ops vs vs gs _ _ (ap (λ z. offset_of o words (fine_if z (element first x))) e) (same_kept t vs))
      (λ e. faults t ops vs vs gs _ OutOfBounds _ (ap (λ z. offset_of o words (fine_if z (element first x))) e) (same_kept t vs)))

  pub index_does : (r : Range) (first n words o x : ℕ) → x < 65536
      → Does texts number t vs gs (index_code r first n words) (o ∷ x ∷ []) (offset_of o words (indexed r first n x))
  unfolding indexed fits in_bounds go_on works_all works leaves
  index_does Every first n words o x lt rest = index_from true first n words o x rest lt
  index_does (From Signed a b) first n words o x lt rest = index_from (fits (From Signed a b) x) first n words o x rest lt
  index_does (From Unsigned a b) first n words o x lt rest = index_from (fits (From Unsigned a b) x) first n words o x rest lt
