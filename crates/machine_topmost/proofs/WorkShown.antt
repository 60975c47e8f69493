-- Each instruction that works on one activation alone makes of the region what the machine's definition makes of the operands, the
-- variables and the globals that the region shows.
use Rattle.std.proofs.Common.{◌≡◌, ℕ, ◌+◌, ◌-◌, ◌*◌, ◌≤◌, List, [], ◌∷◌, ◌++◌, Bool, true, false, length, replicate, nat_eq, nat_lt, nat_le, refl, sym, ap, ◌∙◌, add-one, arith}
use Rattle.std.proofs.lemmas.Bool.{leb-true}
use Rattle.std.proofs.lemmas.List.{length-append}
use Rattle.std.proofs.Math.ListN.{length-replicate}
use Rattle.mesa_types.specs.declared.typed_parts.Base.TheVariants.{Signed, Unsigned}
use Rattle.mesa_types.specs.declared.typed_parts.Range.TheVariants.{From}
use Rattle.mesa_base.specs.declared.relation.Relation.TheVariants.{Less}
use Rattle.mesa_types.specs.Longs.{less_of, wrap_long, shifted_long, opposite_long, quotient_long, remainder_long, related_long, extended, is_in_common, is_word_of}
use Rattle.mesa_types.specs.Operators.{Tried, wrap, opposite, quotient, remainder, related, truth, fits, by_divisor, byte_at}
use Rattle.code_forms.specs.declared.instruction.Instruction.{Instruction}
use Rattle.code_forms.specs.declared.instruction.Instruction.TheVariants.{Lit, Str, LoadL, StoreL, LoadG, StoreG, LoadLX, StoreLX, LoadGX, StoreGX, Index, Add, Sub, Mul, Neg, DivI, ModI, DivC, ModC, Eq, LessI, LessC, Not, CheckI, CheckC, Jump, JumpIf, JumpIfNot, JumpBack, StrLen, StrAt, Pop, Roll, ZeroL, ZeroG, AddD, SubD, MulD, NegD, DivDI, ModDI, DivDC, ModDC, EqD, LessDI, LessDC, WidenI, WidenC, NarrowI, NarrowC, CheckD}
use Rattle.code_forms.specs.declared.region.Region.{Region}
use Rattle.code_forms.specs.Operands.{OperandsFit}
use Rattle.code_forms.specs.Routine.{Routine, moves}
use Rattle.machine_rules.specs.Words.{words_at, push, popped, under, on_top, on_two, on_long, on_two_longs}
use Rattle.machine_rules.specs.Working.{Work, leaves as leaves_work, stores_local, stores_global, in_bounds as in_bounds_work, leaves_tried, leaves_long, leaves_long_tried, works}
use Rattle.machine_topmost.specs.Flat.{Flat, Flowed, part, with_part, leaves, leaves_globals, over, over_long, over_long_tried, in_bounds, operand, long_operand, flat, operates, operates_long}
use Rattle.machine_topmost.specs.Fits.{Fits}
use Rattle.machine_topmost.specs.Shown.{work_shown, worked_shown, jumps_within}
use Rattle.machine_topmost.proofs.Copied.{length-part}
use Rattle.machine_topmost.proofs.Parts.{part_inside, set_is_replaced, two_set, words_are_part, put_is_replaced}
use Rattle.machine_topmost.proofs.Showing.{operands_to, under_shown, popped_shown, top_shown, two_shown, four_shown, push_both, bounded, behind_shown, stored_shown, over_shown, tried_shown, over_long_shown, long_tried_shown, shown, variables as variables_shown}

module _ (texts : ℕ → ℕ → List ℕ) (number : ℕ) (routine : Routine) (around : Region) (floor depth : ℕ) (s : Flat) (deep : s.registers.sp ≡ floor + depth)
    (apart : s.registers.slots + routine.frame ≤ floor) (full : s.registers.sp ≤ length s.region) (all : length s.globals ≡ routine.globals) where
  abbrev sp : ℕ
  sp = s.registers.sp

  abbrev operands : ℕ → List ℕ
  operands k = operands_to s.region floor k

  abbrev now : Work
  now = work_shown routine.frame floor s

  abbrev So : Instruction → Flowed → Type 0
  So i flowed = works texts number i now ≡ worked_shown routine.frame floor flowed

  -- an operator over the two topmost words, over the topmost one
  over_two : (f : ℕ → ℕ → ℕ) → floor + 2 ≤ sp → on_two (operands sp) (λ x y rest. leaves_work (f x y ∷ rest) now) ≡ worked_shown routine.frame floor (over 2 (f (operand 2 s) (operand 1 s)) s)
  unfolding leaves_work
  over_two f there =
      ap (λ o. on_two o (λ x y rest. leaves_work (f x y ∷ rest) now)) (two_shown s.region floor sp there full)
      ∙ sym (over_shown routine.frame floor s apart full 2 (f (operand 2 s) (operand 1 s)) (omega arith) there)

  over_one : (f : ℕ → ℕ) → floor + 1 ≤ sp → on_top (operands sp) (λ x rest. leaves_work (f x ∷ rest) now) ≡ worked_shown routine.frame floor (over 1 (f (operand 1 s)) s)
  unfolding leaves_work
  over_one f there =
      ap (λ o. on_top o (λ x rest. leaves_work (f x ∷ rest) now)) (top_shown s.region floor sp (sp - 1) (omega arith) (omega arith) full)
      ∙ sym (over_shown routine.frame floor s apart full 1 (f (operand 1 s)) (omega arith) there)

  -- an operator over two LONG numbers, over the topmost one, and over the topmost word
  over_longs : (f : ℕ → ℕ → ℕ) → floor + 4 ≤ sp → on_two_longs (operands sp) (λ x y rest. leaves_long (f x y) rest now) ≡ worked_shown routine.frame floor (over_long 4 (f (long_operand 3 s) (long_operand 1 s)) s)
  unfolding leaves_work leaves_long
  over_longs f there =
      ap (λ o. on_two_longs o (λ x y rest. leaves_long (f x y) rest now)) (four_shown s.region floor sp there full)
      ∙ sym (over_long_shown routine.frame floor s apart full 4 (f (long_operand 3 s) (long_operand 1 s)) there)

  tried_longs : (f : ℕ → ℕ → Tried) → floor + 4 ≤ sp
      → on_two_longs (operands sp) (λ x y rest. leaves_long_tried (f x y) rest now) ≡ worked_shown routine.frame floor (over_long_tried 4 (f (long_operand 3 s) (long_operand 1 s)) s)
  tried_longs f there =
      ap (λ o. on_two_longs o (λ x y rest. leaves_long_tried (f x y) rest now)) (four_shown s.region floor sp there full)
      ∙ long_tried_shown routine.frame floor s apart full 4 (f (long_operand 3 s) (long_operand 1 s)) there

  word_of_longs : (f : ℕ → ℕ → ℕ) → floor + 4 ≤ sp → on_two_longs (operands sp) (λ x y rest. leaves_work (f x y ∷ rest) now) ≡ worked_shown routine.frame floor (over 4 (f (long_operand 3 s) (long_operand 1 s)) s)
  unfolding leaves_work
  word_of_longs f there =
      ap (λ o. on_two_longs o (λ x y rest. leaves_work (f x y ∷ rest) now)) (four_shown s.region floor sp there full)
      ∙ sym (over_shown routine.frame floor s apart full 4 (f (long_operand 3 s) (long_operand 1 s)) (omega arith) there)

  over_one_long : (f : ℕ → ℕ) → floor + 2 ≤ sp → on_long (operands sp) (λ x rest. leaves_long (f x) rest now) ≡ worked_shown routine.frame floor (over_long 2 (f (long_operand 1 s)) s)
  unfolding leaves_work leaves_long
  over_one_long f there =
      ap (λ o. on_long o (λ x rest. leaves_long (f x) rest now)) (two_shown s.region floor sp there full)
      ∙ sym (over_long_shown routine.frame floor s apart full 2 (f (long_operand 1 s)) there)

  over_word_long : (f : ℕ → ℕ) → floor + 1 ≤ sp → on_top (operands sp) (λ x rest. leaves_long (f x) rest now) ≡ worked_shown routine.frame floor (over_long 1 (f (operand 1 s)) s)
  unfolding leaves_work leaves_long
  over_word_long f there =
      ap (λ o. on_top o (λ x rest. leaves_long (f x) rest now)) (top_shown s.region floor sp (sp - 1) (omega arith) (omega arith) full)
      ∙ sym (over_long_shown routine.frame floor s apart full 1 (f (operand 1 s)) there)

  narrowed : (test : ℕ → Bool) (f : ℕ → ℕ) → floor + 2 ≤ sp
      → on_long (operands sp) (λ x rest. in_bounds_work (test x) (leaves_work (f x ∷ rest) now)) ≡ worked_shown routine.frame floor (in_bounds (test (long_operand 1 s)) (over 2 (f (long_operand 1 s)) s))
  unfolding leaves_work
  narrowed test f there =
      ap (λ o. on_long o (λ x rest. in_bounds_work (test x) (leaves_work (f x ∷ rest) now))) (two_shown s.region floor sp there full)
      ∙ bounded routine.frame floor (test (long_operand 1 s)) _ (over 2 (f (long_operand 1 s)) s) (λ h. sym (over_shown routine.frame floor s apart full 2 (f (long_operand 1 s)) (omega arith) there))

  looked_long : (test : ℕ → Bool) → floor + 2 ≤ sp
      → on_long (operands sp) (λ x rest. in_bounds_work (test x) (leaves_work (operands sp) now)) ≡ worked_shown routine.frame floor (in_bounds (test (long_operand 1 s)) (leaves s.region sp s))
  unfolding leaves_work
  looked_long test there =
      ap (λ o. on_long o (λ x rest. in_bounds_work (test x) (leaves_work (operands sp) now))) (two_shown s.region floor sp there full)
      ∙ bounded routine.frame floor (test (long_operand 1 s)) (leaves_work (operands sp) now) (leaves s.region sp s) (λ h. refl)

  -- the topmost operand is looked at, and stays
  looked : (test : ℕ → Bool) → floor + 1 ≤ sp → on_top (operands sp) (λ x rest. in_bounds_work (test x) (leaves_work (x ∷ rest) now)) ≡ worked_shown routine.frame floor (in_bounds (test (operand 1 s)) (leaves s.region sp s))
  unfolding leaves_work
  looked test there =
      let top = top_shown s.region floor sp (sp - 1) (omega arith) (omega arith) full in
      ap (λ o. on_top o (λ x rest. in_bounds_work (test x) (leaves_work (x ∷ rest) now))) top
      ∙ bounded routine.frame floor (test (operand 1 s)) (leaves_work (operand 1 s ∷ operands (sp - 1)) now) (leaves s.region sp s) (λ h. ap (λ o. leaves_work o now) (sym top))

  three_shown : floor + 3 ≤ sp → operands (sp - 1) ≡ operand 2 s ∷ operand 3 s ∷ operands (sp - 3)
  three_shown there =
      top_shown s.region floor (sp - 1) (sp - 2) (omega arith) (omega arith) (omega arith)
      ∙ ap (λ rest. operand 2 s ∷ rest) (top_shown s.region floor (sp - 2) (sp - 3) (omega arith) (omega arith) (omega arith))

  -- words of the frame that are loaded
  loaded : (slot n : ℕ) → slot + n ≤ routine.frame → floor ≤ length s.region → words_at (variables_shown routine.frame floor s apart full) slot n ≡ part s.region (s.registers.slots + slot) n
  loaded slot n inside there =
      let size = length-part s.region s.registers.slots routine.frame (omega arith) in
      words_are_part (part s.region s.registers.slots routine.frame) slot n (omega (arith, size)) ∙ part_inside s.region s.registers.slots routine.frame slot n inside

  load_works : (at slot n : ℕ) → floor ≤ at → at ≤ sp → slot + n ≤ routine.frame
      → leaves_work (push (words_at (variables_shown routine.frame floor s apart full) slot n) (operands at)) now ≡ worked_shown routine.frame floor (leaves (with_part s.region at (part s.region (s.registers.slots + slot) n)) (at + n) s)
  unfolding leaves_work
  load_works at slot n above below inside =
      let size = length-part s.region (s.registers.slots + slot) n (omega arith) in
      ap (λ w. leaves_work (push w (operands at)) now) (loaded slot n inside (omega arith))
      ∙ sym (behind_shown routine.frame floor s apart full at (part s.region (s.registers.slots + slot) n) (at + n) above (omega arith) (omega (arith, size)))

  load_global_works : (at slot n : ℕ) → floor ≤ at → at ≤ sp → slot + n ≤ routine.globals
      → leaves_work (push (words_at s.globals slot n) (operands at)) now ≡ worked_shown routine.frame floor (leaves (with_part s.region at (part s.globals slot n)) (at + n) s)
  unfolding leaves_work
  load_global_works at slot n above below inside =
      let size = length-part s.globals slot n (omega arith) in
      ap (λ w. leaves_work (push w (operands at)) now) (words_are_part s.globals slot n (omega arith))
      ∙ sym (behind_shown routine.frame floor s apart full at (part s.globals slot n) (at + n) above (omega arith) (omega (arith, size)))

  store_works : (at slot n : ℕ) → floor + n ≤ sp → floor ≤ at → slot + n ≤ routine.frame
      → stores_local slot (popped n (operands sp)) (operands at) now ≡ worked_shown routine.frame floor (leaves (with_part s.region (s.registers.slots + slot) (part s.region (sp - n) n)) at s)
  unfolding stores_local
  store_works at slot n there above inside =
      let size = length-part s.region (sp - n) n (omega arith) in
      ap (λ w. stores_local slot w (operands at) now) (popped_shown s.region floor sp n there full)
      ∙ sym (stored_shown routine.frame floor s apart full slot (part s.region (sp - n) n) at (omega (arith, size)) (omega arith))

  store_global_works : (at slot n : ℕ) → floor + n ≤ sp → slot + n ≤ routine.globals
      → stores_global slot (popped n (operands sp)) (operands at) now ≡ worked_shown routine.frame floor (leaves_globals (with_part s.globals slot (part s.region (sp - n) n)) at s)
  unfolding stores_global
  store_global_works at slot n there inside =
      ap (λ w. stores_global slot w (operands at) now) (popped_shown s.region floor sp n there full)
      ∙ ap (λ g. shown routine.frame floor s apart full (operands at) (variables_shown routine.frame floor s apart full) g) (put_is_replaced s.globals slot (part s.region (sp - n) n) (omega arith))

  -- the offset under so many words
  offset_shown : (n : ℕ) → floor + (n + 1) ≤ sp → under n (operands sp) ≡ operand (n + 1) s ∷ operands (sp - (n + 1))
  offset_shown n there =
      under_shown s.region floor sp n (omega arith) full ∙ top_shown s.region floor (sp - n) (sp - (n + 1)) (omega arith) (omega arith) (omega arith)

  within : (o n e : ℕ) → nat_le (o + n) e ≡ true → o + n ≤ e
  within o n e h = leb-true (o + n) e h

  pub works_so : (i : Instruction) → jumps_within i ≡ false → (moves routine i).takes ≤ depth → OperandsFit routine around i → Fits i (length s.region) (length s.globals) s.registers → (target : ℕ) → So i (flat texts number i target s)
  unfolding works flat operates operates_long leaves_work stores_local stores_global Fits
  works_so (Lit w) j enough own f target =
      sym (ap (λ r. worked_shown routine.frame floor (leaves r (sp + 1) s)) (set_is_replaced s.region sp w (omega arith))
      ∙ behind_shown routine.frame floor s apart full sp (w ∷ []) (sp + 1) (omega arith) full refl)
  works_so (Str k) j enough own f target =
      ap (λ m. leaves_work (k ∷ m ∷ operands sp) now) (sym (add-one number))
      ∙ sym (ap (λ r. worked_shown routine.frame floor (leaves r (sp + 2) s)) (two_set s.region sp (number + 1) k f)
      ∙ behind_shown routine.frame floor s apart full sp ((number + 1) ∷ k ∷ []) (sp + 2) (omega arith) full refl)
  works_so (LoadL x n) j enough own f target = load_works sp x n (omega arith) (omega arith) own
  works_so (StoreL x n) j enough own f target =
      ap (λ o. stores_local x (popped n (operands sp)) o now) (under_shown s.region floor sp n (omega arith) full) ∙ store_works (sp - n) x n (omega arith) (omega arith) own
  works_so (LoadG x n) j enough own f target = load_global_works sp x n (omega arith) (omega arith) own
  works_so (StoreG x n) j enough own f target =
      ap (λ o. stores_global x (popped n (operands sp)) o now) (under_shown s.region floor sp n (omega arith) full) ∙ store_global_works (sp - n) x n (omega arith) own
  works_so (LoadLX x e n) j enough own f target =
      ap (λ o. on_top o (λ o rest. in_bounds_work (nat_le (o + n) e) (leaves_work (push (words_at now.variables (x + o) n) rest) now))) (top_shown s.region floor sp (sp - 1) (omega arith) (omega arith) full)
      ∙ bounded routine.frame floor (nat_le (operand 1 s + n) e) _ _ (λ h. (
      let inside : operand 1 s + n ≤ e = within (operand 1 s) n e h in
      let same : s.registers.slots + (x + operand 1 s) ≡ s.registers.slots + x + operand 1 s = omega arith in
      load_works (sp - 1) (x + operand 1 s) n (omega arith) (omega arith) (omega (arith, own.0, inside))
      ∙ ap (λ k. worked_shown routine.frame floor (leaves (with_part s.region (sp - 1) (part s.region k n)) (sp - 1 + n) s)) same))
  works_so (StoreLX x e n) j enough own f target =
      ap (λ o. on_top o (λ o rest. in_bounds_work (nat_le (o + n) e) (stores_local (x + o) (popped n (operands sp)) rest now))) (offset_shown n (omega arith))
      ∙ bounded routine.frame floor (nat_le (operand (n + 1) s + n) e) _ _ (λ h. (
      let inside : operand (n + 1) s + n ≤ e = within (operand (n + 1) s) n e h in
      let same : s.registers.slots + (x + operand (n + 1) s) ≡ s.registers.slots + x + operand (n + 1) s = omega arith in
      store_works (sp - (n + 1)) (x + operand (n + 1) s) n (omega arith) (omega arith) (omega (arith, own.0, inside))
      ∙ ap (λ k. worked_shown routine.frame floor (leaves (with_part s.region k (part s.region (sp - n) n)) (sp - (n + 1)) s)) same))
  works_so (LoadGX x e n) j enough own f target =
      ap (λ o. on_top o (λ o rest. in_bounds_work (nat_le (o + n) e) (leaves_work (push (words_at now.globals (x + o) n) rest) now))) (top_shown s.region floor sp (sp - 1) (omega arith) (omega arith) full)
      ∙ bounded routine.frame floor (nat_le (operand 1 s + n) e) _ _ (λ h. (
      let inside : operand 1 s + n ≤ e = within (operand 1 s) n e h in
      load_global_works (sp - 1) (x + operand 1 s) n (omega arith) (omega arith) (omega (arith, own.0, inside))))
  works_so (StoreGX x e n) j enough own f target =
      ap (λ o. on_top o (λ o rest. in_bounds_work (nat_le (o + n) e) (stores_global (x + o) (popped n (operands sp)) rest now))) (offset_shown n (omega arith))
      ∙ bounded routine.frame floor (nat_le (operand (n + 1) s + n) e) _ _ (λ h. (
      let inside : operand (n + 1) s + n ≤ e = within (operand (n + 1) s) n e h in
      store_global_works (sp - (n + 1)) (x + operand (n + 1) s) n (omega arith) (omega (arith, own.0, inside))))
  works_so (Pop n) j enough own f target = ap (λ o. leaves_work o now) (under_shown s.region floor sp n (omega arith) full)
  works_so (Roll n k) j enough own f target =
      let same : sp - k - n ≡ sp - (n + k) = omega arith in
      let one = length-part s.region (sp - k) k (omega arith) in
      let other = length-part s.region (sp - (n + k)) n (omega arith) in
      let both = length-append (part s.region (sp - k) k) (part s.region (sp - (n + k)) n) in
      ap (λ o. leaves_work (push (popped n o) (push (popped k (operands sp)) (under n o))) now) (under_shown s.region floor sp k (omega arith) full)
      ∙ ap (λ w. leaves_work (push w (push (popped k (operands sp)) (under n (operands (sp - k))))) now) (popped_shown s.region floor (sp - k) n (omega arith) (omega arith))
      ∙ ap (λ w. leaves_work (push (part s.region (sp - k - n) n) (push w (under n (operands (sp - k))))) now) (popped_shown s.region floor sp k (omega arith) full)
      ∙ ap (λ o. leaves_work (push (part s.region (sp - k - n) n) (push (part s.region (sp - k) k) o)) now) (under_shown s.region floor (sp - k) n (omega arith) (omega arith))
      ∙ ap (λ m. leaves_work (push (part s.region m n) (push (part s.region (sp - k) k) (operands m))) now) same
      ∙ ap (λ o. leaves_work o now) (push_both (part s.region (sp - k) k) (part s.region (sp - (n + k)) n) (operands (sp - (n + k))))
      ∙ sym (behind_shown routine.frame floor s apart full (sp - (n + k)) (part s.region (sp - k) k ++ part s.region (sp - (n + k)) n) sp (omega arith) (omega arith) (omega (arith, one, other, both)))
  works_so (ZeroL x n) j enough own f target =
      let size : length {A = ℕ} (replicate n 0) ≡ n = length-replicate n 0 in
      sym (stored_shown routine.frame floor s apart full x (replicate n 0) sp (omega (arith, size)) (omega arith))
  works_so (ZeroG x n) j enough own f target =
      ap (λ g. shown routine.frame floor s apart full (operands sp) (variables_shown routine.frame floor s apart full) g) (put_is_replaced s.globals x (replicate n 0) (omega arith))
  works_so (Index c z) j enough own f target =
      ap (λ o. on_two o (λ o i rest. in_bounds_work (nat_lt i c) (leaves_work (wrap (o + i * z) ∷ rest) now))) (two_shown s.region floor sp (omega arith) full)
      ∙ bounded routine.frame floor (nat_lt (operand 1 s) c) _ (over 2 (wrap (operand 2 s + operand 1 s * z)) s)
      (λ h. sym (over_shown routine.frame floor s apart full 2 (wrap (operand 2 s + operand 1 s * z)) (omega arith) (omega arith)))
  works_so Add j enough own f target = over_two (λ x y. wrap (x + y)) (omega arith)
  works_so Sub j enough own f target = over_two (λ x y. wrap (x + (65536 - y))) (omega arith)
  works_so Mul j enough own f target = over_two (λ x y. wrap (x * y)) (omega arith)
  works_so Neg j enough own f target = over_one (λ x. opposite x) (omega arith)
  works_so DivI j enough own f target =
      ap (λ o. on_two o (λ x y rest. leaves_tried (by_divisor y (quotient Signed x y)) rest now)) (two_shown s.region floor sp (omega arith) full)
      ∙ tried_shown routine.frame floor s apart full 2 (by_divisor (operand 1 s) (quotient Signed (operand 2 s) (operand 1 s))) (omega arith) (omega arith)
  works_so ModI j enough own f target =
      ap (λ o. on_two o (λ x y rest. leaves_tried (by_divisor y (remainder Signed x y)) rest now)) (two_shown s.region floor sp (omega arith) full)
      ∙ tried_shown routine.frame floor s apart full 2 (by_divisor (operand 1 s) (remainder Signed (operand 2 s) (operand 1 s))) (omega arith) (omega arith)
  works_so DivC j enough own f target =
      ap (λ o. on_two o (λ x y rest. leaves_tried (by_divisor y (quotient Unsigned x y)) rest now)) (two_shown s.region floor sp (omega arith) full)
      ∙ tried_shown routine.frame floor s apart full 2 (by_divisor (operand 1 s) (quotient Unsigned (operand 2 s) (operand 1 s))) (omega arith) (omega arith)
  works_so ModC j enough own f target =
      ap (λ o. on_two o (λ x y rest. leaves_tried (by_divisor y (remainder Unsigned x y)) rest now)) (two_shown s.region floor sp (omega arith) full)
      ∙ tried_shown routine.frame floor s apart full 2 (by_divisor (operand 1 s) (remainder Unsigned (operand 2 s) (operand 1 s))) (omega arith) (omega arith)
  works_so Eq j enough own f target = over_two (λ x y. truth (nat_eq x y)) (omega arith)
  works_so LessI j enough own f target = over_two (λ x y. truth (related Less Signed x y)) (omega arith)
  works_so LessC j enough own f target = over_two (λ x y. truth (related Less Unsigned x y)) (omega arith)
  works_so Not j enough own f target = over_one (λ x. truth (nat_eq x 0)) (omega arith)
  works_so (CheckI a b) j enough own f target = looked (λ x. fits (From Signed a b) x) (omega arith)
  works_so (CheckC a b) j enough own f target = looked (λ x. fits (From Unsigned a b) x) (omega arith)
  works_so StrLen j enough own f target = over_two (λ m k. length (texts m k)) (omega arith)
  works_so StrAt j enough own f target =
      ap (λ o. on_top o (λ i below. on_two below (λ m k rest. leaves_tried (byte_at (texts m k) i) rest now))) (top_shown s.region floor sp (sp - 1) (omega arith) (omega arith) full)
      ∙ ap (λ o. on_two o (λ m k rest. leaves_tried (byte_at (texts m k) (operand 1 s)) rest now)) (three_shown (omega arith))
      ∙ tried_shown routine.frame floor s apart full 3 (byte_at (texts (operand 3 s) (operand 2 s)) (operand 1 s)) (omega arith) (omega arith)
  works_so AddD j enough own f target = over_longs (λ x y. wrap_long (x + y)) (omega arith)
  works_so SubD j enough own f target = over_longs (λ x y. wrap_long (x + (4294967296 - y))) (omega arith)
  works_so MulD j enough own f target = over_longs (λ x y. wrap_long (x * y)) (omega arith)
  works_so NegD j enough own f target = over_one_long (λ x. opposite_long x) (omega arith)
  works_so DivDI j enough own f target = tried_longs (λ x y. by_divisor y (quotient_long Signed x y)) (omega arith)
  works_so ModDI j enough own f target = tried_longs (λ x y. by_divisor y (remainder_long Signed x y)) (omega arith)
  works_so DivDC j enough own f target = tried_longs (λ x y. by_divisor y (quotient_long Unsigned x y)) (omega arith)
  works_so ModDC j enough own f target = tried_longs (λ x y. by_divisor y (remainder_long Unsigned x y)) (omega arith)
  works_so EqD j enough own f target = word_of_longs (λ x y. truth (nat_eq x y)) (omega arith)
  works_so LessDI j enough own f target = word_of_longs (λ x y. truth (related_long Less Signed x y)) (omega arith)
  works_so LessDC j enough own f target = word_of_longs (λ x y. truth (related_long Less Unsigned x y)) (omega arith)
  works_so WidenI j enough own f target = over_word_long (λ x. extended Signed x) (omega arith)
  works_so WidenC j enough own f target = over_word_long (λ x. extended Unsigned x) (omega arith)
  works_so NarrowI j enough own f target = narrowed (λ x. is_word_of Signed (shifted_long Signed x)) (λ x. less_of x) (omega arith)
  works_so NarrowC j enough own f target = narrowed (λ x. is_word_of Unsigned (shifted_long Signed x)) (λ x. less_of x) (omega arith)
  works_so CheckD j enough own f target = looked_long (λ x. is_in_common x) (omega arith)
  works_so (Jump target') j enough own f target = cc
  works_so (JumpIf target') j enough own f target = cc
  works_so (JumpIfNot target') j enough own f target = cc
  works_so (JumpBack target') j enough own f target = cc
  works_so _ j enough own f target = refl
