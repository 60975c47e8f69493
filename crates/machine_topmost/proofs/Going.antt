-- What an instruction of the topmost activation leaves as it was, and where it goes on.
use Rattle.std.proofs.Common.{◌≡◌, ℕ, ◌+◌, ◌-◌, ◌≤◌, ◌⊎◌, inl, inr, List, ◌++◌, Bool, true, false, IsTrue, length, replicate, Some, refl, subst, ◌∙◌, nat_eq, nat_le, arith}
use Rattle.std.specs.Prelude.{slice_set, if◌then◌else◌}
use Rattle.std.proofs.lemmas.Bool.{eqb-false, leb-true}
use Rattle.std.proofs.lemmas.List.{length-append}
use Rattle.std.proofs.Math.ListN.{length-set, length-replicate}
use Rattle.mesa_types.specs.Longs.{two_words}
use Rattle.mesa_types.specs.Operators.{Tried, Fine, Faulty, OutOfBounds, DividedByZero}
use Rattle.code_forms.specs.declared.instruction.Instruction.{Instruction}
use Rattle.code_forms.specs.declared.instruction.Instruction.TheVariants.{Lit, Str, LoadL, StoreL, LoadG, StoreG, LoadLX, StoreLX, LoadGX, StoreGX, Index, Add, Sub, Mul, Neg, DivI, ModI, DivC, ModC, Eq, LessI, LessC, Not, CheckI, CheckC, Jump, JumpIf, JumpIfNot, JumpBack, StrLen, StrAt, Pop, Roll, ZeroL, ZeroG, AddD, SubD, MulD, NegD, DivDI, ModDI, DivDC, ModDC, EqD, LessDI, LessDC, WidenI, WidenC, NarrowI, NarrowC, CheckD}
use Rattle.code_forms.specs.Depths.{depth_after, forward_target, backward_target}
use Rattle.code_forms.specs.Routine.{Routine, moves, goes_on}
use Rattle.machine_topmost.specs.declared.registers.Why.{Why}
use Rattle.machine_topmost.specs.declared.registers.Why.TheVariants.{BoundsFault, ZeroDivisor}
use Rattle.machine_topmost.specs.Flat.{Flat, Flowed, Went, Paused, part, with_part, stepped_to, behind, over, over_tried, over_long, over_long_tried, operand, place, jumps_back, flat, operates, operates_long}
use Rattle.machine_topmost.specs.Fits.{Fits, FitsOperator}
use Rattle.machine_topmost.proofs.Copied.{length-part, length-with_part}

pub went : (x u : Flat) → Went x ≡ Went u → x ≡ u
went x u h = cc

pub paused_not : (why : Why) (u : Flat) → Paused why ≡ Went u → ⊥
paused_not why u h = cc

-- what went did not fault
pub went_within : (b : Bool) (why : Why) (x : Flowed) (u : Flat) → (if b then x else Paused why) ≡ Went u → (b ≡ true) × (x ≡ Went u)
went_within true why x u h = (refl, h)
went_within false why x u h = absurd (paused_not why u h)

pub went_past : (b : Bool) (why : Why) (x : Flowed) (u : Flat) → (if b then Paused why else x) ≡ Went u → (b ≡ false) × (x ≡ Went u)
went_past true why x u h = absurd (paused_not why u h)
went_past false why x u h = (refl, h)

pub went_tried : (takes : ℕ) (tried : Tried) (s u : Flat) → over_tried takes tried s ≡ Went u → (word : ℕ) × (over takes word s ≡ Went u)
unfolding over_tried
went_tried takes (Fine word) s u h = (word, h)
went_tried takes (Faulty OutOfBounds) s u h = absurd (paused_not BoundsFault u h)
went_tried takes (Faulty DividedByZero) s u h = absurd (paused_not ZeroDivisor u h)

pub went_long_tried : (takes : ℕ) (tried : Tried) (s u : Flat) → over_long_tried takes tried s ≡ Went u → (n : ℕ) × (over_long takes n s ≡ Went u)
unfolding over_long_tried
went_long_tried takes (Fine n) s u h = (n, h)
went_long_tried takes (Faulty OutOfBounds) s u h = absurd (paused_not BoundsFault u h)
went_long_tried takes (Faulty DividedByZero) s u h = absurd (paused_not ZeroDivisor u h)

length-brought : (region words : List ℕ) (at from count : ℕ) → at + count ≤ length region → from + count ≤ length words → length (with_part region at (part words from count)) ≡ length region
length-brought region words at from count room source =
    let same = length-part words from count source in length-with_part region at (part words from count) (omega (arith, same))

length-cleared : (region : List ℕ) (at count : ℕ) → at + count ≤ length region → length (with_part region at (replicate count 0)) ≡ length region
length-cleared region at count room =
    let same : length {A = ℕ} (replicate count 0) ≡ count = length-replicate count 0 in length-with_part region at (replicate count 0) (omega (arith, same))

-- where an instruction goes on: behind it, or at its target, for a turn where that is not behind it
pub data Way (routine : Routine) (i : Instruction) (target : ℕ) (s u : Flat) : Type 0 where
  on : IsTrue (goes_on routine i) → u.registers.entry ≡ s.registers.entry + 1 → u.turns ≡ s.turns → Way routine i target s u
  forward : (offset : ℕ) → forward_target i ≡ Some offset → u.registers.entry ≡ target → u.turns ≡ s.turns → Way routine i target s u
  back : (offset : ℕ) → backward_target i ≡ Some offset → u.registers.entry ≡ target → u.turns + 1 ≡ s.turns → Way routine i target s u

pub record Goes (routine : Routine) (i : Instruction) (target : ℕ) (s u : Flat) : Type 0 where
  pub same_top : u.registers.top ≡ s.registers.top
  pub same_slots : u.registers.slots ≡ s.registers.slots
  pub same_region : length u.region ≡ length s.region
  pub same_globals : length u.globals ≡ length s.globals
  pub deep : (floor depth : ℕ) → s.registers.sp ≡ floor + depth → (moves routine i).takes ≤ depth → u.registers.sp ≡ floor + depth_after routine i depth
  pub way : Way routine i target s u

module _ (texts : ℕ → ℕ → List ℕ) (number : ℕ) (routine : Routine) (target : ℕ) (s : Flat) where
  abbrev Here : Instruction → Flat → Type 0
  Here i u = Goes routine i target s u

  abbrev Deep : Instruction → ℕ → Type 0
  Deep i sp = (floor depth : ℕ) → s.registers.sp ≡ floor + depth → (moves routine i).takes ≤ depth → sp ≡ floor + depth_after routine i depth

  goes_behind : (i : Instruction) (u : Flat) (region globals : List ℕ) (sp : ℕ) → length region ≡ length s.region → length globals ≡ length s.globals → IsTrue (goes_on routine i) → Deep i sp
      → Went (record { region = region; globals = globals; registers = behind sp s.registers; turns = s.turns }) ≡ Went u → Here i u
  goes_behind i u region globals sp same_region same_globals goes deep h = subst (λ t. Here i t) (went _ u h) (record {
    same_top = refl;
    same_slots = refl;
    same_region = same_region;
    same_globals = same_globals;
    deep = deep;
    way = on goes refl refl;
  })

  goes_over : (i : Instruction) (u : Flat) (takes word : ℕ) → IsTrue (goes_on routine i) → Deep i (s.registers.sp - takes + 1) → over takes word s ≡ Went u → Here i u
  goes_over i u takes word goes deep h = goes_behind i u _ _ _ (length-set s.region (place takes s) word) refl goes deep h

  goes_tried : (i : Instruction) (u : Flat) (takes : ℕ) (tried : Tried) → IsTrue (goes_on routine i) → Deep i (s.registers.sp - takes + 1) → over_tried takes tried s ≡ Went u → Here i u
  goes_tried i u takes tried goes deep h = let w = went_tried takes tried s u h in goes_over i u takes w.0 goes deep w.1

  goes_over_long : (i : Instruction) (u : Flat) (takes n : ℕ) → IsTrue (goes_on routine i) → Deep i (s.registers.sp - takes + 2) → s.registers.sp - takes + 2 ≤ length s.region → over_long takes n s ≡ Went u → Here i u
  unfolding two_words
  goes_over_long i u takes n goes deep room h = goes_behind i u _ _ _ (length-with_part s.region (place takes s) (two_words n) room) refl goes deep h

  goes_long_tried : (i : Instruction) (u : Flat) (takes : ℕ) (tried : Tried) → IsTrue (goes_on routine i) → Deep i (s.registers.sp - takes + 2) → s.registers.sp - takes + 2 ≤ length s.region
      → over_long_tried takes tried s ≡ Went u → Here i u
  goes_long_tried i u takes tried goes deep room h = let w = went_long_tried takes tried s u h in goes_over_long i u takes w.0 goes deep room w.1

  -- a forward jump, which may be passed
  turned : (i : Instruction) (u : Flat) (offset sp entry : ℕ) → forward_target i ≡ Some offset → Deep i sp → ((IsTrue (goes_on routine i)) × (entry ≡ s.registers.entry + 1)) ⊎ (entry ≡ target)
      → Went (record { region = s.region; globals = s.globals; registers = stepped_to sp entry s.registers; turns = s.turns }) ≡ Went u → Here i u
  turned i u offset sp entry is deep (inl at) h = subst (λ t. Here i t) (went _ u h) (record {
    same_top = refl;
    same_slots = refl;
    same_region = refl;
    same_globals = refl;
    deep = deep;
    way = on at.0 at.1 refl;
  })
  turned i u offset sp entry is deep (inr at) h = subst (λ t. Here i t) (went _ u h) (record {
    same_top = refl;
    same_slots = refl;
    same_region = refl;
    same_globals = refl;
    deep = deep;
    way = forward offset is at refl;
  })

  -- either way
  passes : (b : Bool) → (IsTrue true × ((if b then s.registers.entry + 1 else target) ≡ s.registers.entry + 1)) ⊎ ((if b then s.registers.entry + 1 else target) ≡ target)
  passes true = inl (refl, refl)
  passes false = inr refl

  passes_not : (b : Bool) → (IsTrue true × ((if b then target else s.registers.entry + 1) ≡ s.registers.entry + 1)) ⊎ ((if b then target else s.registers.entry + 1) ≡ target)
  passes_not true = inr refl
  passes_not false = inl (refl, refl)

  goes_back : (i : Instruction) (u : Flat) (offset : ℕ) → backward_target i ≡ Some offset → Deep i s.registers.sp → jumps_back target s ≡ Went u → Here i u
  goes_back i u offset is deep h =
      let w = went_past _ _ _ u h in
      let some : s.turns - 1 + 1 ≡ s.turns = let z = eqb-false s.turns 0 w.0 in omega arith in
      subst (λ t. Here i t) (went _ u w.1) (record {
        same_top = refl;
        same_slots = refl;
        same_region = refl;
        same_globals = refl;
        deep = deep;
        way = back offset is refl some;
      })

  long_goes : (i : Instruction) (u : Flat) → FitsOperator i (length s.region) s.registers → operates_long i s ≡ Went u → Here i u
  unfolding operates_long FitsOperator
  long_goes AddD u f h = goes_over_long AddD u 4 _ refl (λ floor depth at enough. omega arith) (omega (arith, f.0, f.1)) h
  long_goes SubD u f h = goes_over_long SubD u 4 _ refl (λ floor depth at enough. omega arith) (omega (arith, f.0, f.1)) h
  long_goes MulD u f h = goes_over_long MulD u 4 _ refl (λ floor depth at enough. omega arith) (omega (arith, f.0, f.1)) h
  long_goes NegD u f h = goes_over_long NegD u 2 _ refl (λ floor depth at enough. omega arith) (omega (arith, f.0, f.1)) h
  long_goes DivDI u f h = goes_long_tried DivDI u 4 _ refl (λ floor depth at enough. omega arith) (omega (arith, f.0, f.1)) h
  long_goes ModDI u f h = goes_long_tried ModDI u 4 _ refl (λ floor depth at enough. omega arith) (omega (arith, f.0, f.1)) h
  long_goes DivDC u f h = goes_long_tried DivDC u 4 _ refl (λ floor depth at enough. omega arith) (omega (arith, f.0, f.1)) h
  long_goes ModDC u f h = goes_long_tried ModDC u 4 _ refl (λ floor depth at enough. omega arith) (omega (arith, f.0, f.1)) h
  long_goes EqD u f h = goes_over EqD u 4 _ refl (λ floor depth at enough. omega arith) h
  long_goes LessDI u f h = goes_over LessDI u 4 _ refl (λ floor depth at enough. omega arith) h
  long_goes LessDC u f h = goes_over LessDC u 4 _ refl (λ floor depth at enough. omega arith) h
  long_goes WidenI u f h = goes_over_long WidenI u 1 _ refl (λ floor depth at enough. omega arith) (omega (arith, f.0.0, f.1)) h
  long_goes WidenC u f h = goes_over_long WidenC u 1 _ refl (λ floor depth at enough. omega arith) (omega (arith, f.0.0, f.1)) h
  long_goes NarrowI u f h = goes_over NarrowI u 2 _ refl (λ floor depth at enough. omega arith) (went_within _ _ _ u h).1
  long_goes NarrowC u f h = goes_over NarrowC u 2 _ refl (λ floor depth at enough. omega arith) (went_within _ _ _ u h).1
  long_goes CheckD u f h = goes_behind CheckD u _ _ s.registers.sp refl refl refl (λ floor depth at enough. omega arith) (went_within _ _ _ u h).1
  long_goes _ u f h = absurd (paused_not _ u h)

  operator_goes : (i : Instruction) (u : Flat) → FitsOperator i (length s.region) s.registers → operates texts i s ≡ Went u → Here i u
  unfolding operates FitsOperator
  operator_goes (Index c z) u f h = goes_over (Index c z) u 2 _ refl (λ floor depth at enough. omega arith) (went_within _ _ _ u h).1
  operator_goes Add u f h = goes_over Add u 2 _ refl (λ floor depth at enough. omega arith) h
  operator_goes Sub u f h = goes_over Sub u 2 _ refl (λ floor depth at enough. omega arith) h
  operator_goes Mul u f h = goes_over Mul u 2 _ refl (λ floor depth at enough. omega arith) h
  operator_goes Neg u f h = goes_over Neg u 1 _ refl (λ floor depth at enough. omega arith) h
  operator_goes DivI u f h = goes_tried DivI u 2 _ refl (λ floor depth at enough. omega arith) h
  operator_goes ModI u f h = goes_tried ModI u 2 _ refl (λ floor depth at enough. omega arith) h
  operator_goes DivC u f h = goes_tried DivC u 2 _ refl (λ floor depth at enough. omega arith) h
  operator_goes ModC u f h = goes_tried ModC u 2 _ refl (λ floor depth at enough. omega arith) h
  operator_goes Eq u f h = goes_over Eq u 2 _ refl (λ floor depth at enough. omega arith) h
  operator_goes LessI u f h = goes_over LessI u 2 _ refl (λ floor depth at enough. omega arith) h
  operator_goes LessC u f h = goes_over LessC u 2 _ refl (λ floor depth at enough. omega arith) h
  operator_goes Not u f h = goes_over Not u 1 _ refl (λ floor depth at enough. omega arith) h
  operator_goes (CheckI a b) u f h = goes_behind (CheckI a b) u _ _ s.registers.sp refl refl refl (λ floor depth at enough. omega arith) (went_within _ _ _ u h).1
  operator_goes (CheckC a b) u f h = goes_behind (CheckC a b) u _ _ s.registers.sp refl refl refl (λ floor depth at enough. omega arith) (went_within _ _ _ u h).1
  operator_goes StrLen u f h = goes_over StrLen u 2 _ refl (λ floor depth at enough. omega arith) h
  operator_goes StrAt u f h = goes_tried StrAt u 3 _ refl (λ floor depth at enough. omega arith) h
  operator_goes i u f h = long_goes i u f h

  within : (o n e : ℕ) → nat_le (o + n) e ≡ true → o + n ≤ e
  within o n e h = leb-true (o + n) e h

  pub goes : (i : Instruction) (u : Flat) → Fits i (length s.region) (length s.globals) s.registers → flat texts number i target s ≡ Went u → Here i u
  unfolding flat Fits
  goes (Lit w) u f h = goes_behind (Lit w) u _ _ (s.registers.sp + 1) (length-set s.region _ w) refl refl (λ floor depth at enough. omega arith) h
  goes (Str k) u f h =
      goes_behind (Str k) u _ _ (s.registers.sp + 2) (length-set (slice_set s.region s.registers.sp (number + 1)) _ k ∙ length-set s.region _ (number + 1)) refl refl (λ floor depth at enough. omega arith) h
  goes (LoadL x n) u f h =
      goes_behind (LoadL x n) u _ _ (s.registers.sp + n) (length-brought s.region s.region _ _ n f.1 (omega (arith, f.0, f.1))) refl refl (λ floor depth at enough. omega arith) h
  goes (StoreL x n) u f h =
      goes_behind (StoreL x n) u _ _ (place n s) (length-brought s.region s.region _ _ n (omega (arith, f.0.0, f.0.1, f.1)) (omega (arith, f.0.0, f.0.1))) refl refl (λ floor depth at enough. omega arith) h
  goes (LoadG x n) u f h = goes_behind (LoadG x n) u _ _ (s.registers.sp + n) (length-brought s.region s.globals _ _ n f.1 f.0) refl refl (λ floor depth at enough. omega arith) h
  goes (StoreG x n) u f h =
      goes_behind (StoreG x n) u _ _ (place n s) refl (length-brought s.globals s.region _ _ n f.1 (omega (arith, f.0.0, f.0.1))) refl (λ floor depth at enough. omega arith) h
  goes (LoadLX x e n) u f h =
      let w = went_within _ _ _ u h in
      let o : operand 1 s + n ≤ e = within (operand 1 s) n e w.0 in
      goes_behind (LoadLX x e n) u _ _ (place 1 s + n) (length-brought s.region s.region _ _ n f.2 (omega (arith, f.0.0, f.0.1, f.1, o))) refl refl (λ floor depth at enough. omega arith) w.1
  goes (StoreLX x e n) u f h =
      let w = went_within _ _ _ u h in
      let o : operand (n + 1) s + n ≤ e = within (operand (n + 1) s) n e w.0 in
      goes_behind (StoreLX x e n) u _ _ (place (n + 1) s) (length-brought s.region s.region _ _ n (omega (arith, f.0.0, f.0.1, f.1, o)) (omega (arith, f.0.0, f.0.1))) refl refl (λ floor depth at enough. omega arith) w.1
  goes (LoadGX x e n) u f h =
      let w = went_within _ _ _ u h in
      let o : operand 1 s + n ≤ e = within (operand 1 s) n e w.0 in
      goes_behind (LoadGX x e n) u _ _ (place 1 s + n) (length-brought s.region s.globals _ _ n f.2 (omega (arith, f.1, o))) refl refl (λ floor depth at enough. omega arith) w.1
  goes (StoreGX x e n) u f h =
      let w = went_within _ _ _ u h in
      let o : operand (n + 1) s + n ≤ e = within (operand (n + 1) s) n e w.0 in
      goes_behind (StoreGX x e n) u _ _ (place (n + 1) s) refl (length-brought s.globals s.region _ _ n (omega (arith, f.1, o)) (omega (arith, f.0.0, f.0.1))) refl (λ floor depth at enough. omega arith) w.1
  goes (Pop n) u f h = goes_behind (Pop n) u _ _ (place n s) refl refl refl (λ floor depth at enough. omega arith) h
  goes (Roll n k) u f h =
      let one = length-part s.region (s.registers.sp - k) k (omega (arith, f.0, f.1)) in
      let other = length-part s.region (s.registers.sp - (n + k)) n (omega (arith, f.0, f.1)) in
      let both = length-append (part s.region (s.registers.sp - k) k) (part s.region (s.registers.sp - (n + k)) n) in
      goes_behind (Roll n k) u _ _ s.registers.sp (length-with_part s.region (place (n + k) s) (part s.region (place k s) k ++ part s.region (place (n + k) s) n) (omega (arith, f.0, f.1, one, other, both))) refl refl (λ floor depth at enough. omega arith) h
  goes (ZeroL x n) u f h = goes_behind (ZeroL x n) u _ _ s.registers.sp (length-cleared s.region _ n (omega (arith, f.0, f.1))) refl refl (λ floor depth at enough. omega arith) h
  goes (ZeroG x n) u f h = goes_behind (ZeroG x n) u _ _ s.registers.sp refl (length-cleared s.globals x n f) refl (λ floor depth at enough. omega arith) h
  goes (Jump offset) u f h = turned (Jump offset) u offset s.registers.sp target refl (λ floor depth at enough. omega arith) (inr refl) h
  goes (JumpIf offset) u f h = turned (JumpIf offset) u offset (place 1 s) _ refl (λ floor depth at enough. omega arith) (passes (nat_eq (operand 1 s) 0)) h
  goes (JumpIfNot offset) u f h = turned (JumpIfNot offset) u offset (place 1 s) _ refl (λ floor depth at enough. omega arith) (passes_not (nat_eq (operand 1 s) 0)) h
  goes (JumpBack offset) u f h = goes_back (JumpBack offset) u offset refl (λ floor depth at enough. omega arith) h
  goes i u f h = operator_goes i u f h
