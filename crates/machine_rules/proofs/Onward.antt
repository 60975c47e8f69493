-- An instruction that works on one activation alone goes on.
use Rattle.std.specs.Prelude.{◌≡◌, ℕ, List, [], ◌∷◌, Bool, true, false, refl}
use Rattle.std.proofs.lemmas.Bool.{true≢false}
use Rattle.object_files.specs.mesa_types.specs.Operators.{Tried, Fine, Faulty}
use Rattle.machine_rules.specs.Words.{on_top, on_two, under}
use Rattle.std.proofs.Common.{◌⊎◌, inl, inr}
use Rattle.code_forms.specs.declared.instruction.Instruction.{Instruction}
use Rattle.code_forms.specs.declared.instruction.Instruction.TheVariants.{Lit, Str, LoadL, StoreL, LoadG, StoreG, LoadLX, StoreLX, LoadGX, StoreGX, Index, Add, Sub, Mul, Neg, DivI, ModI, DivC, ModC, Eq, LessI, LessC, Not, CheckI, CheckC, Jump, JumpIf, JumpIfNot, JumpBack, StrLen, StrAt, Call, CallLink, Return, Raise, RaiseLink, RaiseHost, ArmEnd, Resume, Leave, LeaveReturn, Pop, Roll, ZeroL, ZeroG, AddD, SubD, MulD, NegD, DivDI, ModDI, DivDC, ModDC, EqD, LessDI, LessDC, WidenI, WidenC, NarrowI, NarrowC, CheckD}
use Rattle.code_forms.specs.Routine.{Routine, goes_on}
use Rattle.machine_rules.specs.Working.{Work, Worked, Works, Faults, Touches, leaves, stores_local, stores_global, in_bounds, leaves_tried, leaves_long, leaves_long_tried, works}

pub works_or_touches : (texts : ℕ → ℕ → List ℕ) (number : ℕ) (r : Routine) (i : Instruction) (w : Work)
    → (goes_on r i ≡ true) ⊎ (works texts number i w ≡ Touches)
unfolding works
works_or_touches texts number r (Lit x) w = inl refl
works_or_touches texts number r (Str x) w = inl refl
works_or_touches texts number r (LoadL x y) w = inl refl
works_or_touches texts number r (StoreL x y) w = inl refl
works_or_touches texts number r (LoadG x y) w = inl refl
works_or_touches texts number r (StoreG x y) w = inl refl
works_or_touches texts number r (LoadLX x y z) w = inl refl
works_or_touches texts number r (StoreLX x y z) w = inl refl
works_or_touches texts number r (LoadGX x y z) w = inl refl
works_or_touches texts number r (StoreGX x y z) w = inl refl
works_or_touches texts number r (Index x y) w = inl refl
works_or_touches texts number r Add w = inl refl
works_or_touches texts number r Sub w = inl refl
works_or_touches texts number r Mul w = inl refl
works_or_touches texts number r Neg w = inl refl
works_or_touches texts number r DivI w = inl refl
works_or_touches texts number r ModI w = inl refl
works_or_touches texts number r DivC w = inl refl
works_or_touches texts number r ModC w = inl refl
works_or_touches texts number r Eq w = inl refl
works_or_touches texts number r LessI w = inl refl
works_or_touches texts number r LessC w = inl refl
works_or_touches texts number r Not w = inl refl
works_or_touches texts number r (CheckI x y) w = inl refl
works_or_touches texts number r (CheckC x y) w = inl refl
works_or_touches texts number r StrLen w = inl refl
works_or_touches texts number r StrAt w = inl refl
works_or_touches texts number r (Pop x) w = inl refl
works_or_touches texts number r (Roll x y) w = inl refl
works_or_touches texts number r (ZeroL x y) w = inl refl
works_or_touches texts number r (ZeroG x y) w = inl refl
works_or_touches texts number r AddD w = inl refl
works_or_touches texts number r SubD w = inl refl
works_or_touches texts number r MulD w = inl refl
works_or_touches texts number r NegD w = inl refl
works_or_touches texts number r DivDI w = inl refl
works_or_touches texts number r ModDI w = inl refl
works_or_touches texts number r DivDC w = inl refl
works_or_touches texts number r ModDC w = inl refl
works_or_touches texts number r EqD w = inl refl
works_or_touches texts number r LessDI w = inl refl
works_or_touches texts number r LessDC w = inl refl
works_or_touches texts number r WidenI w = inl refl
works_or_touches texts number r WidenC w = inl refl
works_or_touches texts number r NarrowI w = inl refl
works_or_touches texts number r NarrowC w = inl refl
works_or_touches texts number r CheckD w = inl refl
works_or_touches texts number r (Jump x) w = inr refl
works_or_touches texts number r (JumpIf x) w = inr refl
works_or_touches texts number r (JumpIfNot x) w = inr refl
works_or_touches texts number r (JumpBack x) w = inr refl
works_or_touches texts number r (Call x) w = inr refl
works_or_touches texts number r (CallLink x) w = inr refl
works_or_touches texts number r Return w = inr refl
works_or_touches texts number r (Raise x) w = inr refl
works_or_touches texts number r (RaiseLink x) w = inr refl
works_or_touches texts number r (RaiseHost x) w = inr refl
works_or_touches texts number r ArmEnd w = inr refl
works_or_touches texts number r (Resume x) w = inr refl
works_or_touches texts number r (Leave x y) w = inr refl
works_or_touches texts number r (LeaveReturn x) w = inr refl

-- Whether the instruction touches more than one activation.

abbrev pub touches : Instruction → Bool
touches (Jump x) = true
touches (JumpIf x) = true
touches (JumpIfNot x) = true
touches (JumpBack x) = true
touches (Call x) = true
touches (CallLink x) = true
touches Return = true
touches (Raise x) = true
touches (RaiseLink x) = true
touches (RaiseHost x) = true
touches ArmEnd = true
touches (Resume x) = true
touches (Leave x y) = true
touches (LeaveReturn x) = true
touches _ = false

abbrev pub is_touch : Worked → Bool
is_touch (Works w) = false
is_touch (Faults fault) = false
is_touch Touches = true

no_top : (operands : List ℕ) (k : ℕ → List ℕ → Worked) → ((x : ℕ) (rest : List ℕ) → is_touch (k x rest) ≡ false) → is_touch (on_top operands k) ≡ false
no_top [] k h = h 0 []
no_top (x ∷ rest) k h = h x rest

no_bounds : (b : Bool) (x : Worked) → is_touch x ≡ false → is_touch (in_bounds b x) ≡ false
unfolding in_bounds
no_bounds true x e = e
no_bounds false x e = refl

no_tried : (t : Tried) (operands : List ℕ) (w : Work) → is_touch (leaves_tried t operands w) ≡ false
unfolding leaves_tried leaves
no_tried (Fine x) operands w = refl
no_tried (Faulty fault) operands w = refl

no_two : (operands : List ℕ) (k : ℕ → ℕ → List ℕ → Worked) → ((x y : ℕ) (rest : List ℕ) → is_touch (k x y rest) ≡ false) → is_touch (on_two operands k) ≡ false
no_two operands k h = no_top operands _ (λ y rest. no_top rest _ (λ x more. h x y more))

no_four : (operands : List ℕ) (k : ℕ → ℕ → ℕ → ℕ → List ℕ → Worked) → ((a b c d : ℕ) (rest : List ℕ) → is_touch (k a b c d rest) ≡ false)
    → is_touch (on_two operands (λ c d rest. on_two rest (λ a b more. k a b c d more))) ≡ false
no_four operands k h = no_two operands _ (λ c d rest. no_two rest _ (λ a b more. h a b c d more))

no_long_tried : (t : Tried) (operands : List ℕ) (w : Work) → is_touch (leaves_long_tried t operands w) ≡ false
unfolding leaves_long_tried leaves_long leaves
no_long_tried (Fine n) operands w = refl
no_long_tried (Faulty fault) operands w = refl

pub no_touch : (texts : ℕ → ℕ → List ℕ) (number : ℕ) (i : Instruction) (w : Work) → touches i ≡ false → is_touch (works texts number i w) ≡ false
unfolding works leaves stores_local stores_global leaves_long
no_touch texts number (Lit x) w e = refl
no_touch texts number (Str x) w e = refl
no_touch texts number (LoadL x y) w e = refl
no_touch texts number (StoreL x y) w e = refl
no_touch texts number (LoadG x y) w e = refl
no_touch texts number (StoreG x y) w e = refl
no_touch texts number (LoadLX x y z) w e = no_top w.operands _ (λ x rest. no_bounds _ _ refl)
no_touch texts number (StoreLX x y z) w e = no_top (under z w.operands) _ (λ x rest. no_bounds _ _ refl)
no_touch texts number (LoadGX x y z) w e = no_top w.operands _ (λ x rest. no_bounds _ _ refl)
no_touch texts number (StoreGX x y z) w e = no_top (under z w.operands) _ (λ x rest. no_bounds _ _ refl)
no_touch texts number (Index x y) w e = no_top w.operands _ (λ y rest. no_top rest _ (λ x more. no_bounds _ _ refl))
no_touch texts number Add w e = no_top w.operands _ (λ y rest. no_top rest _ (λ x more. refl))
no_touch texts number Sub w e = no_top w.operands _ (λ y rest. no_top rest _ (λ x more. refl))
no_touch texts number Mul w e = no_top w.operands _ (λ y rest. no_top rest _ (λ x more. refl))
no_touch texts number Neg w e = no_top w.operands _ (λ x rest. refl)
no_touch texts number DivI w e = no_top w.operands _ (λ y rest. no_top rest _ (λ x more. no_tried _ more w))
no_touch texts number ModI w e = no_top w.operands _ (λ y rest. no_top rest _ (λ x more. no_tried _ more w))
no_touch texts number DivC w e = no_top w.operands _ (λ y rest. no_top rest _ (λ x more. no_tried _ more w))
no_touch texts number ModC w e = no_top w.operands _ (λ y rest. no_top rest _ (λ x more. no_tried _ more w))
no_touch texts number Eq w e = no_top w.operands _ (λ y rest. no_top rest _ (λ x more. refl))
no_touch texts number LessI w e = no_top w.operands _ (λ y rest. no_top rest _ (λ x more. refl))
no_touch texts number LessC w e = no_top w.operands _ (λ y rest. no_top rest _ (λ x more. refl))
no_touch texts number Not w e = no_top w.operands _ (λ x rest. refl)
no_touch texts number (CheckI x y) w e = no_top w.operands _ (λ x rest. no_bounds _ _ refl)
no_touch texts number (CheckC x y) w e = no_top w.operands _ (λ x rest. no_bounds _ _ refl)
no_touch texts number StrLen w e = no_top w.operands _ (λ y rest. no_top rest _ (λ x more. refl))
no_touch texts number StrAt w e = no_top w.operands _ (λ i rest. no_top rest _ (λ y more. no_top more _ (λ x last. no_tried _ last w)))
no_touch texts number (Pop x) w e = refl
no_touch texts number (Roll x y) w e = refl
no_touch texts number (ZeroL x y) w e = refl
no_touch texts number (ZeroG x y) w e = refl
no_touch texts number AddD w e = no_four w.operands _ (λ a b c d rest. refl)
no_touch texts number SubD w e = no_four w.operands _ (λ a b c d rest. refl)
no_touch texts number MulD w e = no_four w.operands _ (λ a b c d rest. refl)
no_touch texts number NegD w e = no_two w.operands _ (λ a b rest. refl)
no_touch texts number DivDI w e = no_four w.operands _ (λ a b c d rest. no_long_tried _ rest w)
no_touch texts number ModDI w e = no_four w.operands _ (λ a b c d rest. no_long_tried _ rest w)
no_touch texts number DivDC w e = no_four w.operands _ (λ a b c d rest. no_long_tried _ rest w)
no_touch texts number ModDC w e = no_four w.operands _ (λ a b c d rest. no_long_tried _ rest w)
no_touch texts number EqD w e = no_four w.operands _ (λ a b c d rest. refl)
no_touch texts number LessDI w e = no_four w.operands _ (λ a b c d rest. refl)
no_touch texts number LessDC w e = no_four w.operands _ (λ a b c d rest. refl)
no_touch texts number WidenI w e = no_top w.operands _ (λ x rest. refl)
no_touch texts number WidenC w e = no_top w.operands _ (λ x rest. refl)
no_touch texts number NarrowI w e = no_two w.operands _ (λ a b rest. no_bounds _ _ refl)
no_touch texts number NarrowC w e = no_two w.operands _ (λ a b rest. no_bounds _ _ refl)
no_touch texts number CheckD w e = no_two w.operands _ (λ a b rest. no_bounds _ _ refl)
no_touch texts number _ w e = absurd (true≢false e)
