-- An instruction of the topmost activation changes the variables of its frame and what stands from the floor on, and nothing below.
use Rattle.std.proofs.Common.{◌≡◌, ⊎_elim, ℕ, ◌+◌, ◌-◌, ◌<◌, ◌≤◌, List, [], ◌∷◌, length, replicate, refl, ap, subst, ◌∙◌, arith}
use Rattle.std.specs.Prelude.{slice_set}
use Rattle.std.proofs.lemmas.Bool.{leb-true}
use Rattle.std.proofs.Math.ListN.{length-set, length-replicate}
use Rattle.object_files.specs.mesa_types.specs.Longs.{two_words}
use Rattle.object_files.specs.mesa_types.specs.Operators.{Tried}
use Rattle.code_forms.specs.declared.instruction.Instruction.{Instruction}
use Rattle.code_forms.specs.declared.instruction.Instruction.TheVariants.{Lit, Str, LoadL, StoreL, LoadG, StoreG, LoadLX, StoreLX, LoadGX, StoreGX, Index, Add, Sub, Mul, Neg, DivI, ModI, DivC, ModC, Eq, LessI, LessC, Not, CheckI, CheckC, Jump, JumpIf, JumpIfNot, JumpBack, StrLen, StrAt, Pop, Roll, ZeroL, ZeroG, AddD, SubD, MulD, NegD, DivDI, ModDI, DivDC, ModDC, EqD, LessDI, LessDC, WidenI, WidenC, NarrowI, NarrowC, CheckD}
use Rattle.code_forms.specs.declared.region.Region.{Region}
use Rattle.code_forms.specs.Operands.{OperandsFit}
use Rattle.code_forms.specs.Routine.{Routine, moves}
use Rattle.machine_topmost.specs.Flat.{Flat, Went, part, with_part, over, over_tried, over_long, over_long_tried, operand, flat, operates, operates_long}
use Rattle.machine_topmost.proofs.Copied.{length-part}
use Rattle.machine_topmost.proofs.Going.{went, paused_not, went_within, went_past, went_tried, went_long_tried}
use Rattle.machine_topmost.proofs.Parts.{part_before, part_past, set_is_replaced}
use Rattle.machine_activations.proofs.Keeping.{SameBut}

module _ (texts : ℕ → ℕ → List ℕ) (number : ℕ) (routine : Routine) (around : Region) (floor depth : ℕ) (s : Flat) (deep : s.registers.sp ≡ floor + depth)
    (apart : s.registers.slots + routine.frame ≤ floor) (full : s.registers.sp ≤ length s.region) where
  abbrev Same : Flat → Type 0
  Same u = SameBut s.region u.region s.registers.slots routine.frame floor

  abbrev sp : ℕ
  sp = s.registers.sp

  unchanged : (region : List ℕ) → region ≡ s.region → SameBut s.region region s.registers.slots routine.frame floor
  unchanged region e p n l side = ap (λ r. part r p n) e

  -- words that stand from the floor on
  behind : (at : ℕ) (new : List ℕ) → floor ≤ at → at ≤ length s.region → SameBut s.region (with_part s.region at new) s.registers.slots routine.frame floor
  behind at new above there p n l side = part_before s.region at new p n there (omega (arith, above, l))

  -- words of the frame
  stored : (slot : ℕ) (new : List ℕ) → slot + length new ≤ routine.frame → SameBut s.region (with_part s.region (s.registers.slots + slot) new) s.registers.slots routine.frame floor
  stored slot new inside p n l side = ⊎_elim
      (λ (b : p + n ≤ s.registers.slots). part_before s.region (s.registers.slots + slot) new p n (omega (arith, deep, apart, full, inside)) (omega (arith, b)))
      (λ (b : s.registers.slots + routine.frame ≤ p). part_past s.region (s.registers.slots + slot) new p n (omega (arith, deep, apart, full, inside)) (omega (arith, b, inside)))
      side

  set_behind : (at word : ℕ) → floor ≤ at → at < length s.region → SameBut s.region (slice_set s.region at word) s.registers.slots routine.frame floor
  set_behind at word above there p n l side =
      ap (λ r. part r p n) (set_is_replaced s.region at word there) ∙ behind at (word ∷ []) above (omega (arith, there)) p n l side

  over_same : (u : Flat) (takes word : ℕ) → 1 ≤ takes → floor + takes ≤ sp → over takes word s ≡ Went u → Same u
  over_same u takes word some there h = subst Same (went _ u h) (set_behind (sp - takes) word (omega (arith, there)) (omega (arith, some, there, full)))

  tried_same : (u : Flat) (takes : ℕ) (tried : Tried) → 1 ≤ takes → floor + takes ≤ sp → over_tried takes tried s ≡ Went u → Same u
  tried_same u takes tried some there h = let w = went_tried takes tried s u h in over_same u takes w.0 some there w.1

  over_long_same : (u : Flat) (takes n : ℕ) → floor + takes ≤ sp → over_long takes n s ≡ Went u → Same u
  over_long_same u takes n there h = subst Same (went _ u h) (behind (sp - takes) (two_words n) (omega (arith, there)) (omega (arith, full)))

  long_tried_same : (u : Flat) (takes : ℕ) (tried : Tried) → floor + takes ≤ sp → over_long_tried takes tried s ≡ Went u → Same u
  long_tried_same u takes tried there h = let w = went_long_tried takes tried s u h in over_long_same u takes w.0 there w.1

  long_same : (i : Instruction) (u : Flat) → (moves routine i).takes ≤ depth → operates_long i s ≡ Went u → Same u
  unfolding operates_long
  long_same AddD u enough h = over_long_same u 4 _ (omega (arith, deep, enough)) h
  long_same SubD u enough h = over_long_same u 4 _ (omega (arith, deep, enough)) h
  long_same MulD u enough h = over_long_same u 4 _ (omega (arith, deep, enough)) h
  long_same NegD u enough h = over_long_same u 2 _ (omega (arith, deep, enough)) h
  long_same DivDI u enough h = long_tried_same u 4 _ (omega (arith, deep, enough)) h
  long_same ModDI u enough h = long_tried_same u 4 _ (omega (arith, deep, enough)) h
  long_same DivDC u enough h = long_tried_same u 4 _ (omega (arith, deep, enough)) h
  long_same ModDC u enough h = long_tried_same u 4 _ (omega (arith, deep, enough)) h
  long_same EqD u enough h = over_same u 4 _ (omega arith) (omega (arith, deep, enough)) h
  long_same LessDI u enough h = over_same u 4 _ (omega arith) (omega (arith, deep, enough)) h
  long_same LessDC u enough h = over_same u 4 _ (omega arith) (omega (arith, deep, enough)) h
  long_same WidenI u enough h = over_long_same u 1 _ (omega (arith, deep, enough)) h
  long_same WidenC u enough h = over_long_same u 1 _ (omega (arith, deep, enough)) h
  long_same NarrowI u enough h = over_same u 2 _ (omega arith) (omega (arith, deep, enough)) (went_within _ _ _ u h).1
  long_same NarrowC u enough h = over_same u 2 _ (omega arith) (omega (arith, deep, enough)) (went_within _ _ _ u h).1
  long_same CheckD u enough h = subst Same (went _ u (went_within _ _ _ u h).1) (unchanged s.region refl)
  long_same _ u enough h = absurd (paused_not _ u h)

  operator_same : (i : Instruction) (u : Flat) → (moves routine i).takes ≤ depth → operates texts i s ≡ Went u → Same u
  unfolding operates
  operator_same (Index c z) u enough h = over_same u 2 _ (omega arith) (omega (arith, deep, enough)) (went_within _ _ _ u h).1
  operator_same Add u enough h = over_same u 2 _ (omega arith) (omega (arith, deep, enough)) h
  operator_same Sub u enough h = over_same u 2 _ (omega arith) (omega (arith, deep, enough)) h
  operator_same Mul u enough h = over_same u 2 _ (omega arith) (omega (arith, deep, enough)) h
  operator_same Neg u enough h = over_same u 1 _ (omega arith) (omega (arith, deep, enough)) h
  operator_same DivI u enough h = tried_same u 2 _ (omega arith) (omega (arith, deep, enough)) h
  operator_same ModI u enough h = tried_same u 2 _ (omega arith) (omega (arith, deep, enough)) h
  operator_same DivC u enough h = tried_same u 2 _ (omega arith) (omega (arith, deep, enough)) h
  operator_same ModC u enough h = tried_same u 2 _ (omega arith) (omega (arith, deep, enough)) h
  operator_same Eq u enough h = over_same u 2 _ (omega arith) (omega (arith, deep, enough)) h
  operator_same LessI u enough h = over_same u 2 _ (omega arith) (omega (arith, deep, enough)) h
  operator_same LessC u enough h = over_same u 2 _ (omega arith) (omega (arith, deep, enough)) h
  operator_same Not u enough h = over_same u 1 _ (omega arith) (omega (arith, deep, enough)) h
  operator_same (CheckI a b) u enough h = subst Same (went _ u (went_within _ _ _ u h).1) (unchanged s.region refl)
  operator_same (CheckC a b) u enough h = subst Same (went _ u (went_within _ _ _ u h).1) (unchanged s.region refl)
  operator_same StrLen u enough h = over_same u 2 _ (omega arith) (omega (arith, deep, enough)) h
  operator_same StrAt u enough h = tried_same u 3 _ (omega arith) (omega (arith, deep, enough)) h
  operator_same i u enough h = long_same i u enough h

  pub same_outside : (i : Instruction) (target : ℕ) (u : Flat) → (moves routine i).takes ≤ depth → s.registers.sp + (moves routine i).puts ≤ length s.region + (moves routine i).takes → OperandsFit routine around i
      → flat texts number i target s ≡ Went u → Same u
  unfolding flat
  same_outside (Lit w) target u enough room own h = subst Same (went _ u h) (set_behind sp w (omega (arith, deep)) (omega (arith, room)))
  same_outside (Str k) target u enough room own h =
      let long = length-set s.region sp (number + 1) in
      let first = set_behind sp (number + 1) (omega (arith, deep)) (omega (arith, room)) in
      let second : SameBut (slice_set s.region sp (number + 1)) (slice_set (slice_set s.region sp (number + 1)) (sp + 1) k) s.registers.slots routine.frame floor =
      λ p n l side. ap (λ r. part r p n) (set_is_replaced (slice_set s.region sp (number + 1)) (sp + 1) k (omega (arith, room, long)))
      ∙ part_before (slice_set s.region sp (number + 1)) (sp + 1) (k ∷ []) p n (omega (arith, room, long)) (omega (arith, deep, l)) in
      subst Same (went _ u h) (λ p n l side. second p n l side ∙ first p n l side)
  same_outside (LoadL x n) target u enough room own h = subst Same (went _ u h) (behind sp _ (omega (arith, deep)) full)
  same_outside (StoreL x n) target u enough room own h =
      let size = length-part s.region (sp - n) n (omega (arith, deep, enough, full)) in
      subst Same (went _ u h) (stored x (part s.region (sp - n) n) (omega (arith, size, own)))
  same_outside (LoadG x n) target u enough room own h = subst Same (went _ u h) (behind sp _ (omega (arith, deep)) full)
  same_outside (StoreG x n) target u enough room own h = subst Same (went _ u h) (unchanged s.region refl)
  same_outside (LoadLX x e n) target u enough room own h =
      subst Same (went _ u (went_within _ _ _ u h).1) (behind (sp - 1) _ (omega (arith, deep, enough)) (omega (arith, full)))
  same_outside (StoreLX x e n) target u enough room own h =
      let w = went_within _ _ _ u h in
      let inside : operand (n + 1) s + n ≤ e = leb-true (operand (n + 1) s + n) e w.0 in
      let size = length-part s.region (sp - n) n (omega (arith, deep, enough, full)) in
      let up : s.registers.slots + (x + operand (n + 1) s) ≡ s.registers.slots + x + operand (n + 1) s = omega arith in
      subst Same (went _ u w.1) (subst (λ k. SameBut s.region (with_part s.region k (part s.region (sp - n) n)) s.registers.slots routine.frame floor) up
      (stored (x + operand (n + 1) s) (part s.region (sp - n) n) (omega (arith, size, own.0, inside))))
  same_outside (LoadGX x e n) target u enough room own h =
      subst Same (went _ u (went_within _ _ _ u h).1) (behind (sp - 1) _ (omega (arith, deep, enough)) (omega (arith, full)))
  same_outside (StoreGX x e n) target u enough room own h = subst Same (went _ u (went_within _ _ _ u h).1) (unchanged s.region refl)
  same_outside (Pop n) target u enough room own h = subst Same (went _ u h) (unchanged s.region refl)
  same_outside (Roll n k) target u enough room own h = subst Same (went _ u h) (behind (sp - (n + k)) _ (omega (arith, deep, enough)) (omega (arith, full)))
  same_outside (ZeroL x n) target u enough room own h =
      let size : length {A = ℕ} (replicate n 0) ≡ n = length-replicate n 0 in
      subst Same (went _ u h) (stored x (replicate n 0) (omega (arith, size, own)))
  same_outside (ZeroG x n) target u enough room own h = subst Same (went _ u h) (unchanged s.region refl)
  same_outside (Jump offset) target u enough room own h = subst Same (went _ u h) (unchanged s.region refl)
  same_outside (JumpIf offset) target u enough room own h = subst Same (went _ u h) (unchanged s.region refl)
  same_outside (JumpIfNot offset) target u enough room own h = subst Same (went _ u h) (unchanged s.region refl)
  same_outside (JumpBack offset) target u enough room own h = subst Same (went _ u (went_past _ _ _ u h).1) (unchanged s.region refl)
  same_outside i target u enough room own h = operator_same i u enough h
