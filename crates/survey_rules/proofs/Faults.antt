-- Which signal an instruction raises that works on one activation alone.
use Rattle.std.proofs.Common.{◌≡◌, ℕ, zero, suc, List, [], ◌∷◌, Bool, true, false, Option, Some, None, refl, sym, subst}
use Rattle.mesa_types.specs.Operators.{WordFault, OutOfBounds, DividedByZero, Tried, Fine, Faulty, fine_or, by_divisor, byte_at}
use Rattle.code_forms.specs.declared.instruction.Instruction.{Instruction}
use Rattle.code_forms.specs.declared.instruction.Instruction.TheVariants.{LoadLX, StoreLX, LoadGX, StoreGX, Index, Add, Sub, Mul, Neg, DivI, ModI, DivC, ModC, Eq, LessI, LessC, Not, CheckI, CheckC, StrLen, StrAt, AddD, SubD, MulD, NegD, DivDI, ModDI, DivDC, ModDC, EqD, LessDI, LessDC, WidenI, WidenC, NarrowI, NarrowC, CheckD}
use Rattle.object_files.specs.declared.image.Image.{Image}
use Rattle.machine_rules.specs.Words.{on_top, on_two, under}
use Rattle.machine_rules.specs.Working.{Work, Worked, Works, Faults, Touches, leaves, stores_local, stores_global, in_bounds, leaves_tried, leaves_long, leaves_long_tried, works}
use Rattle.machine_rules.specs.Steps.{fault_signal}
use Rattle.survey_rules.specs.Escapes.{MayPassBounds, MayDivide, MayRaise, bounds, divides}

-- this is raised, if anything
abbrev pub Only : WordFault → Worked → Type 0
Only fault (Works w) = Unit {0}
Only fault (Faults other) = other ≡ fault
Only fault Touches = Unit {0}

abbrev pub Never : Worked → Type 0
Never (Works w) = Unit {0}
Never (Faults fault) = ⊥
Never Touches = Unit {0}

abbrev pub OnlyTried : WordFault → Tried → Type 0
OnlyTried fault (Fine x) = Unit {0}
OnlyTried fault (Faulty other) = other ≡ fault

top_only : (fault : WordFault) (operands : List ℕ) (k : ℕ → List ℕ → Worked) → ((x : ℕ) (rest : List ℕ) → Only fault (k x rest)) → Only fault (on_top operands k)
top_only fault [] k h = h 0 []
top_only fault (x ∷ rest) k h = h x rest

top_never : (operands : List ℕ) (k : ℕ → List ℕ → Worked) → ((x : ℕ) (rest : List ℕ) → Never (k x rest)) → Never (on_top operands k)
top_never [] k h = h 0 []
top_never (x ∷ rest) k h = h x rest

-- with the two words of a LONG number, and with those of two of them
two_only : (fault : WordFault) (operands : List ℕ) (k : ℕ → ℕ → List ℕ → Worked) → ((x y : ℕ) (rest : List ℕ) → Only fault (k x y rest)) → Only fault (on_two operands k)
two_only fault operands k h = top_only fault operands _ (λ y rest. top_only fault rest _ (λ x more. h x y more))

two_never : (operands : List ℕ) (k : ℕ → ℕ → List ℕ → Worked) → ((x y : ℕ) (rest : List ℕ) → Never (k x y rest)) → Never (on_two operands k)
two_never operands k h = top_never operands _ (λ y rest. top_never rest _ (λ x more. h x y more))

four_only : (fault : WordFault) (operands : List ℕ) (k : ℕ → ℕ → ℕ → ℕ → List ℕ → Worked) → ((a b c d : ℕ) (rest : List ℕ) → Only fault (k a b c d rest))
    → Only fault (on_two operands (λ c d rest. on_two rest (λ a b more. k a b c d more)))
four_only fault operands k h = two_only fault operands _ (λ c d rest. two_only fault rest _ (λ a b more. h a b c d more))

four_never : (operands : List ℕ) (k : ℕ → ℕ → ℕ → ℕ → List ℕ → Worked) → ((a b c d : ℕ) (rest : List ℕ) → Never (k a b c d rest))
    → Never (on_two operands (λ c d rest. on_two rest (λ a b more. k a b c d more)))
four_never operands k h = two_never operands _ (λ c d rest. two_never rest _ (λ a b more. h a b c d more))

bounds_only : (b : Bool) (x : Worked) → Never x → Only OutOfBounds (in_bounds b x)
unfolding in_bounds
bounds_only true (Works w) n = tt
bounds_only true (Faults fault) n = absurd n
bounds_only true Touches n = tt
bounds_only false x n = refl

tried_only : (fault : WordFault) (t : Tried) (operands : List ℕ) (w : Work) → OnlyTried fault t → Only fault (leaves_tried t operands w)
unfolding leaves_tried leaves
tried_only fault (Fine x) operands w o = tt
tried_only fault (Faulty other) operands w o = o

long_tried_only : (fault : WordFault) (t : Tried) (operands : List ℕ) (w : Work) → OnlyTried fault t → Only fault (leaves_long_tried t operands w)
unfolding leaves_long_tried leaves_long leaves
long_tried_only fault (Fine x) operands w o = tt
long_tried_only fault (Faulty other) operands w o = o

divisor_only : (y n : ℕ) → OnlyTried DividedByZero (by_divisor y n)
unfolding by_divisor
divisor_only zero n = refl
divisor_only (suc y) n = tt

fine_only : (o : Option ℕ) → OnlyTried OutOfBounds (fine_or o)
unfolding fine_or
fine_only None = refl
fine_only (Some b) = tt

byte_only : (text : List ℕ) (i : ℕ) → OnlyTried OutOfBounds (byte_at text i)
unfolding byte_at
byte_only text i = fine_only _

-- what each instruction raises
abbrev pub Raises : Instruction → Worked → Type 0
Raises (LoadLX slot extent words) x = Only OutOfBounds x
Raises (StoreLX slot extent words) x = Only OutOfBounds x
Raises (LoadGX slot extent words) x = Only OutOfBounds x
Raises (StoreGX slot extent words) x = Only OutOfBounds x
Raises (Index count size) x = Only OutOfBounds x
Raises (CheckI least most) x = Only OutOfBounds x
Raises (CheckC least most) x = Only OutOfBounds x
Raises StrAt x = Only OutOfBounds x
Raises NarrowI x = Only OutOfBounds x
Raises NarrowC x = Only OutOfBounds x
Raises CheckD x = Only OutOfBounds x
Raises DivI x = Only DividedByZero x
Raises ModI x = Only DividedByZero x
Raises DivC x = Only DividedByZero x
Raises ModC x = Only DividedByZero x
Raises DivDI x = Only DividedByZero x
Raises ModDI x = Only DividedByZero x
Raises DivDC x = Only DividedByZero x
Raises ModDC x = Only DividedByZero x
Raises _ x = Never x

raises : (texts : ℕ → ℕ → List ℕ) (number : ℕ) (i : Instruction) (w : Work) → Raises i (works texts number i w)
unfolding works leaves leaves_long stores_local stores_global
raises texts number (LoadLX x y z) w = top_only OutOfBounds w.operands _ (λ x rest. bounds_only _ _ tt)
raises texts number (StoreLX x y z) w = top_only OutOfBounds (under z w.operands) _ (λ x rest. bounds_only _ _ tt)
raises texts number (LoadGX x y z) w = top_only OutOfBounds w.operands _ (λ x rest. bounds_only _ _ tt)
raises texts number (StoreGX x y z) w = top_only OutOfBounds (under z w.operands) _ (λ x rest. bounds_only _ _ tt)
raises texts number (Index x y) w = top_only OutOfBounds w.operands _ (λ y rest. top_only OutOfBounds rest _ (λ x more. bounds_only _ _ tt))
raises texts number Add w = top_never w.operands _ (λ y rest. top_never rest _ (λ x more. tt))
raises texts number Sub w = top_never w.operands _ (λ y rest. top_never rest _ (λ x more. tt))
raises texts number Mul w = top_never w.operands _ (λ y rest. top_never rest _ (λ x more. tt))
raises texts number Neg w = top_never w.operands _ (λ x rest. tt)
raises texts number DivI w = top_only DividedByZero w.operands _ (λ y rest. top_only DividedByZero rest _ (λ x more. tried_only DividedByZero _ more w (divisor_only y _)))
raises texts number ModI w = top_only DividedByZero w.operands _ (λ y rest. top_only DividedByZero rest _ (λ x more. tried_only DividedByZero _ more w (divisor_only y _)))
raises texts number DivC w = top_only DividedByZero w.operands _ (λ y rest. top_only DividedByZero rest _ (λ x more. tried_only DividedByZero _ more w (divisor_only y _)))
raises texts number ModC w = top_only DividedByZero w.operands _ (λ y rest. top_only DividedByZero rest _ (λ x more. tried_only DividedByZero _ more w (divisor_only y _)))
raises texts number Eq w = top_never w.operands _ (λ y rest. top_never rest _ (λ x more. tt))
raises texts number LessI w = top_never w.operands _ (λ y rest. top_never rest _ (λ x more. tt))
raises texts number LessC w = top_never w.operands _ (λ y rest. top_never rest _ (λ x more. tt))
raises texts number Not w = top_never w.operands _ (λ x rest. tt)
raises texts number (CheckI x y) w = top_only OutOfBounds w.operands _ (λ x rest. bounds_only _ _ tt)
raises texts number (CheckC x y) w = top_only OutOfBounds w.operands _ (λ x rest. bounds_only _ _ tt)
raises texts number StrLen w = top_never w.operands _ (λ y rest. top_never rest _ (λ x more. tt))
raises texts number StrAt w = top_only OutOfBounds w.operands _ (λ i rest. top_only OutOfBounds rest _ (λ y more. top_only OutOfBounds more _ (λ x last. tried_only OutOfBounds _ last w (byte_only _ i))))
raises texts number AddD w = four_never w.operands _ (λ a b c d rest. tt)
raises texts number SubD w = four_never w.operands _ (λ a b c d rest. tt)
raises texts number MulD w = four_never w.operands _ (λ a b c d rest. tt)
raises texts number NegD w = two_never w.operands _ (λ a b rest. tt)
raises texts number DivDI w = four_only DividedByZero w.operands _ (λ a b c d rest. long_tried_only DividedByZero _ rest w (divisor_only _ _))
raises texts number ModDI w = four_only DividedByZero w.operands _ (λ a b c d rest. long_tried_only DividedByZero _ rest w (divisor_only _ _))
raises texts number DivDC w = four_only DividedByZero w.operands _ (λ a b c d rest. long_tried_only DividedByZero _ rest w (divisor_only _ _))
raises texts number ModDC w = four_only DividedByZero w.operands _ (λ a b c d rest. long_tried_only DividedByZero _ rest w (divisor_only _ _))
raises texts number EqD w = four_never w.operands _ (λ a b c d rest. tt)
raises texts number LessDI w = four_never w.operands _ (λ a b c d rest. tt)
raises texts number LessDC w = four_never w.operands _ (λ a b c d rest. tt)
raises texts number WidenI w = top_never w.operands _ (λ x rest. tt)
raises texts number WidenC w = top_never w.operands _ (λ x rest. tt)
raises texts number NarrowI w = two_only OutOfBounds w.operands _ (λ a b rest. bounds_only _ _ tt)
raises texts number NarrowC w = two_only OutOfBounds w.operands _ (λ a b rest. bounds_only _ _ tt)
raises texts number CheckD w = two_only OutOfBounds w.operands _ (λ a b rest. bounds_only _ _ tt)
raises texts number _ w = tt

bounds_by : (image : Image) (j : ℕ) (i : Instruction) (fault : WordFault) → fault ≡ OutOfBounds → MayPassBounds i → MayRaise image j i (fault_signal fault)
unfolding fault_signal
bounds_by image j i fault e may = subst (λ f. MayRaise image j i (fault_signal f)) (sym e) (bounds i may)

divides_by : (image : Image) (j : ℕ) (i : Instruction) (fault : WordFault) → fault ≡ DividedByZero → MayDivide i → MayRaise image j i (fault_signal fault)
unfolding fault_signal
divides_by image j i fault e may = subst (λ f. MayRaise image j i (fault_signal f)) (sym e) (divides i may)

raised_if : (image : Image) (j : ℕ) (i : Instruction) (fault : WordFault) → Raises i (Faults fault) → MayRaise image j i (fault_signal fault)
raised_if image j (LoadLX x y z) fault e = bounds_by image j (LoadLX x y z) fault e tt
raised_if image j (StoreLX x y z) fault e = bounds_by image j (StoreLX x y z) fault e tt
raised_if image j (LoadGX x y z) fault e = bounds_by image j (LoadGX x y z) fault e tt
raised_if image j (StoreGX x y z) fault e = bounds_by image j (StoreGX x y z) fault e tt
raised_if image j (Index x y) fault e = bounds_by image j (Index x y) fault e tt
raised_if image j (CheckI x y) fault e = bounds_by image j (CheckI x y) fault e tt
raised_if image j (CheckC x y) fault e = bounds_by image j (CheckC x y) fault e tt
raised_if image j StrAt fault e = bounds_by image j StrAt fault e tt
raised_if image j NarrowI fault e = bounds_by image j NarrowI fault e tt
raised_if image j NarrowC fault e = bounds_by image j NarrowC fault e tt
raised_if image j CheckD fault e = bounds_by image j CheckD fault e tt
raised_if image j DivI fault e = divides_by image j DivI fault e tt
raised_if image j ModI fault e = divides_by image j ModI fault e tt
raised_if image j DivC fault e = divides_by image j DivC fault e tt
raised_if image j ModC fault e = divides_by image j ModC fault e tt
raised_if image j DivDI fault e = divides_by image j DivDI fault e tt
raised_if image j ModDI fault e = divides_by image j ModDI fault e tt
raised_if image j DivDC fault e = divides_by image j DivDC fault e tt
raised_if image j ModDC fault e = divides_by image j ModDC fault e tt
raised_if image j _ fault e = absurd e

-- the fault of an instruction is one that it may raise
pub fault_raised : (texts : ℕ → ℕ → List ℕ) (number : ℕ) (i : Instruction) (w : Work) (fault : WordFault) → works texts number i w ≡ Faults fault
    → (image : Image) (j : ℕ) → MayRaise image j i (fault_signal fault)
fault_raised texts number i w fault e image j = raised_if image j i fault (subst (λ x. Raises i x) e (raises texts number i w))
