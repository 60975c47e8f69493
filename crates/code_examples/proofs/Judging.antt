-- Operands, decided; and the code of a module judged: it is valid, or it has this first fault.
use Rattle.std.proofs.Common.{◌≡◌, ℕ, ◌+◌, ◌<◌, ◌≤◌, ◌⊎◌, inl, inr, List, length, Option, Some, None, All, refl, sym, subst, ◌∙◌}
use Rattle.std.specs.Prelude.{slice_get}
use Rattle.std.proofs.lemmas.Option.{same_Some, none-some}
use Rattle.code_forms.specs.declared.bad_code.BadCode.{BadCode}
use Rattle.code_forms.specs.declared.bad_code.CodeFault.{CodeFault}
use Rattle.code_forms.specs.declared.bad_code.CodeFault.TheVariants.{BadJump, StackDiffers, BadOperand, CatchRange}
use Rattle.code_forms.specs.declared.instruction.Instruction.{Instruction}
use Rattle.code_forms.specs.declared.instruction.Instruction.TheVariants.{Str, LoadL, StoreL, LoadG, StoreG, LoadLX, StoreLX, LoadGX, StoreGX, Call, CallLink, Return, Raise, RaiseLink, RaiseHost, ArmEnd, Resume, Leave, LeaveReturn, ZeroL, ZeroG}
use Rattle.code_forms.specs.declared.module_code.Arm.{Arm}
use Rattle.code_forms.specs.declared.module_code.CodeKind.{CodeKind}
use Rattle.code_forms.specs.declared.module_code.CodeKind.TheVariants.{Procedure, Signal, Error}
use Rattle.code_forms.specs.declared.module_code.CodeLink.{CodeLink}
use Rattle.code_forms.specs.declared.module_code.CodeProcedure.{CodeProcedure}
use Rattle.code_forms.specs.declared.module_code.CodeSignal.{CodeSignal}
use Rattle.code_forms.specs.declared.module_code.Label.{Label}
use Rattle.code_forms.specs.declared.module_code.Label.TheVariants as l
use Rattle.code_forms.specs.declared.region.Region.{Region}
use Rattle.code_forms.specs.declared.region.Region.TheVariants.{Body}
use Rattle.code_forms.specs.Jumps.{JumpsRightly}
use Rattle.code_forms.specs.Depths.{StackIsRight}
use Rattle.code_forms.specs.Operands.{IsCalled, IsRaised, CalledLink, RaisedLink, OperandsFit, SignalTakes, LinkTakes, LabelTakes, ArmFits, OperandsAreRight}
use Rattle.code_forms.specs.Phrases.{PhrasesFill}
use Rattle.code_forms.specs.Regions.{region_at, arm_of}
use Rattle.code_forms.specs.Routine.{Routine, Spot, routine_with}
use Rattle.code_forms.specs.Valid.{SpotIsRight, SpotsAreRight, RoutineIsValid, FaultAt, bad_jump, stack_differs, bad_operand, FirstFault, in_phrases, in_code, AreValid, IsFirstFaultOf}
use Rattle.code_examples.proofs.Decisions.{dec_by, dec_and, dec_or, dec_if, dec_not, dec_le, dec_lt, dec_eq, dec_all, dec_there, Search, all, first, searched}
use Rattle.code_examples.proofs.Depths.{Depth, depth_at, dec_jumps, dec_stack}
use Rattle.code_examples.proofs.Phrases.{dec_region, Filling, fills, fails, filling}

pub no_way : ⊥ → ⊥
no_way h = h

abbrev dec_called : (k : CodeKind) → Dec (IsCalled k)
dec_called Procedure = yes tt
dec_called Signal = no no_way
dec_called Error = no no_way

abbrev dec_raised : (k : CodeKind) → Dec (IsRaised k)
dec_raised Procedure = no no_way
dec_raised Signal = yes tt
dec_raised Error = yes tt

abbrev dec_called_link : (o : Option CodeLink) → Dec (CalledLink o)
dec_called_link None = no no_way
dec_called_link (Some link) = dec_called link.kind

abbrev dec_raised_link : (o : Option CodeLink) → Dec (RaisedLink o)
dec_raised_link None = no no_way
dec_raised_link (Some link) = dec_raised link.kind

abbrev dec_operands : (r : Routine) (region : Region) (i : Instruction) → Dec (OperandsFit r region i)
dec_operands r region (Str k) = dec_and (dec_le 1 k) (dec_le k r.strings)
dec_operands r region (LoadL s n) = dec_le (s + n) r.frame
dec_operands r region (StoreL s n) = dec_le (s + n) r.frame
dec_operands r region (LoadG s n) = dec_le (s + n) r.globals
dec_operands r region (StoreG s n) = dec_le (s + n) r.globals
dec_operands r region (LoadLX s x n) = dec_and (dec_le (s + x) r.frame) (dec_le n x)
dec_operands r region (StoreLX s x n) = dec_and (dec_le (s + x) r.frame) (dec_le n x)
dec_operands r region (LoadGX s x n) = dec_and (dec_le (s + x) r.globals) (dec_le n x)
dec_operands r region (StoreGX s x n) = dec_and (dec_le (s + x) r.globals) (dec_le n x)
dec_operands r region (ZeroL s n) = dec_le (s + n) r.frame
dec_operands r region (ZeroG s n) = dec_le (s + n) r.globals
dec_operands r region (Call p) = dec_and (dec_lt 0 p) (dec_lt p (length r.procedures))
dec_operands r region (CallLink k) = dec_called_link (slice_get r.links k)
dec_operands r region (Raise k) = dec_lt k (length r.signals)
dec_operands r region (RaiseLink k) = dec_raised_link (slice_get r.links k)
dec_operands r region (RaiseHost fault) = dec_le fault 2
dec_operands r region Return = dec_region region Body
dec_operands r region ArmEnd = dec_not (dec_region region Body)
dec_operands r region (Resume n) = dec_not (dec_region region Body)
dec_operands r region (Leave k target) = dec_not (dec_region region Body)
dec_operands r region (LeaveReturn k) = dec_not (dec_region region Body)
dec_operands r region _ = yes tt

abbrev dec_signal_takes : (words : ℕ) (o : Option CodeSignal) → Dec (SignalTakes words o)
dec_signal_takes words None = no no_way
dec_signal_takes words (Some s) = dec_eq s.args words

abbrev dec_link_takes : (words : ℕ) (o : Option CodeLink) → Dec (LinkTakes words o)
dec_link_takes words None = no no_way
dec_link_takes words (Some link) = dec_eq link.args words

abbrev dec_label : (r : Routine) (words : ℕ) (label : Label) → Dec (LabelTakes r words label)
dec_label r words l.Any = no no_way
dec_label r words l.Unwind = no no_way
dec_label r words (l.Own k) = dec_signal_takes words (slice_get r.signals k)
dec_label r words (l.Link k) = dec_link_takes words (slice_get r.links k)
dec_label r words l.BoundsFault = no no_way
dec_label r words l.ZeroDivisor = no no_way

pub arm_by : (r : Routine) (arm : Arm) → (arm.slot + arm.words ≤ r.frame) × ((arm.words ≡ 0) ⊎ All (LabelTakes r arm.words) arm.labels) → ArmFits r arm
arm_by r arm h = record { slots = h.0; words = h.1 }

pub arm_parts : (r : Routine) (arm : Arm) → ArmFits r arm → (arm.slot + arm.words ≤ r.frame) × ((arm.words ≡ 0) ⊎ All (LabelTakes r arm.words) arm.labels)
arm_parts r arm h = (h.slots, h.words)

abbrev dec_arm : (r : Routine) (arm : Arm) → Dec (ArmFits r arm)
dec_arm r arm = dec_by (arm_by r arm) (arm_parts r arm)
    (dec_and (dec_le (arm.slot + arm.words) r.frame) (dec_or (dec_eq arm.words 0) (dec_all (LabelTakes r arm.words) (dec_label r arm.words) arm.labels)))

abbrev ArmThere : Routine → Spot → Type 0
ArmThere r spot = (arm : Arm) → arm_of r.phrases (region_at r.phrases spot.at) ≡ Some arm → arm.start ≡ spot.at → ArmFits r arm

pub operands_by : (r : Routine) (spot : Spot) → OperandsFit r (region_at r.phrases spot.at) spot.instruction × ArmThere r spot → OperandsAreRight r spot
operands_by r spot h = record { own = h.0; arm = h.1 }

pub operands_parts : (r : Routine) (spot : Spot) → OperandsAreRight r spot → OperandsFit r (region_at r.phrases spot.at) spot.instruction × ArmThere r spot
operands_parts r spot h = (h.own, h.arm)

abbrev dec_right : (r : Routine) (spot : Spot) → Dec (OperandsAreRight r spot)
dec_right r spot = dec_by (operands_by r spot) (operands_parts r spot) (dec_and
    (dec_operands r (region_at r.phrases spot.at) spot.instruction)
    (dec_there (λ (arm : Arm). arm.start ≡ spot.at → ArmFits r arm)
    (λ arm. dec_if (dec_eq arm.start spot.at) (dec_arm r arm)) (arm_of r.phrases (region_at r.phrases spot.at))))

-- an instruction is right, or has this fault
abbrev RightAt : Routine → ℕ → Type 0
RightAt r i = (spot : Spot) → slice_get r.code i ≡ Some spot → SpotIsRight r i spot

pub record WrongAt (r : Routine) (i : ℕ) : Type 0 where
  pub spot : Spot
  pub is : slice_get r.code i ≡ Some spot
  pub fault : CodeFault
  pub wrong : FaultAt r i spot fault

pub no_spot : (r : Routine) (i : ℕ) → slice_get r.code i ≡ None → RightAt r i
no_spot r i e s is = absurd (none-some s (sym e ∙ is))

pub that_spot : (r : Routine) (i : ℕ) (s : Spot) → slice_get r.code i ≡ Some s → SpotIsRight r i s → RightAt r i
that_spot r i s e h t is = subst (λ x. SpotIsRight r i x) (same_Some s t (sym e ∙ is)) h

pub spot_right : (r : Routine) (i : ℕ) (s : Spot) (d : Depth r i) → JumpsRightly r s.at s.instruction → StackIsRight r i s d.depth → OperandsAreRight r s
    → SpotIsRight r i s
spot_right r i s d jump stack operands = record { jump = jump; depth = d.depth; settled = d.settled; stack = stack; operands = operands }

abbrev wrong_at : (r : Routine) (i : ℕ) (s : Spot) → slice_get r.code i ≡ Some s → (fault : CodeFault) → FaultAt r i s fault → WrongAt r i
wrong_at r i s e fault w = record { spot = s; is = e; fault = fault; wrong = w }

abbrev judged_spot : (r : Routine) (i : ℕ) (s : Spot) → slice_get r.code i ≡ Some s → (d : Depth r i)
    → Dec (JumpsRightly r s.at s.instruction) → Dec (StackIsRight r i s d.depth) → Dec (OperandsAreRight r s) → RightAt r i ⊎ WrongAt r i
judged_spot r i s e d (no j) stack operands = inr (wrong_at r i s e (BadJump s.at) (bad_jump j))
judged_spot r i s e d (yes j) (no k) operands = inr (wrong_at r i s e (StackDiffers s.at) (stack_differs d.depth j d.settled k))
judged_spot r i s e d (yes j) (yes k) (no o) = inr (wrong_at r i s e (BadOperand s.at) (bad_operand d.depth j d.settled k o))
judged_spot r i s e d (yes j) (yes k) (yes o) = inl (that_spot r i s e (spot_right r i s d j k o))

abbrev spot_by : (r : Routine) (i : ℕ) (o : Option Spot) → slice_get r.code i ≡ o → RightAt r i ⊎ WrongAt r i
spot_by r i None e = inl (no_spot r i e)
spot_by r i (Some s) e = judged_spot r i s e (depth_at r i) (dec_jumps r s.at s.instruction) (dec_stack r i s (depth_at r i).depth) (dec_right r s)

abbrev spot_at : (r : Routine) (i : ℕ) → RightAt r i ⊎ WrongAt r i
spot_at r i = spot_by r i (slice_get r.code i) refl

-- a procedure is valid, or has this first fault
pub data Judged (r : Routine) : Type 0 where
  right : RoutineIsValid r → Judged r
  wrong : (fault : CodeFault) → FirstFault r fault → Judged r

pub spots_right : (r : Routine) (count : ℕ) → ((i : ℕ) → i < count → RightAt r i) → SpotsAreRight r count
spots_right r count f i s l e = f i l s e

pub routine_right : (r : Routine) → PhrasesFill r.code r.phrases → ((i : ℕ) → i < length r.code → RightAt r i) → RoutineIsValid r
routine_right r p f = record { phrases = p; spots = spots_right r (length r.code) f }

pub routine_wrong : (r : Routine) → PhrasesFill r.code r.phrases → (i : ℕ) → ((j : ℕ) → j < i → RightAt r j) → (w : WrongAt r i) → FirstFault r w.fault
routine_wrong r p i f w = in_code i w.spot w.fault p w.is (spots_right r i f) w.wrong

abbrev judged_code : (r : Routine) → PhrasesFill r.code r.phrases → Search (RightAt r) (WrongAt r) (length r.code) → Judged r
judged_code r p (all f) = right (routine_right r p f)
judged_code r p (first i l f w) = wrong w.fault (routine_wrong r p i f w)

abbrev judged_phrases : (r : Routine) → Filling r.code r.phrases → Judged r
judged_phrases r (fails from bad) = wrong (CatchRange from) (in_phrases from bad)
judged_phrases r (fills p) = judged_code r p (searched (RightAt r) (WrongAt r) (spot_at r) (length r.code))

abbrev judged_routine : (r : Routine) → Judged r
judged_routine r = judged_phrases r (filling r.code r.phrases)

-- what a module has besides the code of its procedures, and these
pub record Parts : Type 0 where
  pub globals : ℕ
  pub strings : List (List ℕ)
  pub signals : List CodeSignal
  pub links : List CodeLink
  pub procedures : List CodeProcedure

abbrev pub PartsAreValid : Parts → Type 0
PartsAreValid m = AreValid m.globals (length m.strings) m.signals m.links m.procedures (length m.procedures)

abbrev pub PartsHaveFirst : Parts → BadCode → Type 0
PartsHaveFirst m = IsFirstFaultOf m.globals (length m.strings) m.signals m.links m.procedures

abbrev routine_of : Parts → CodeProcedure → Routine
routine_of m p = routine_with m.globals (length m.strings) m.signals m.links m.procedures p

abbrev RightProcedure : Parts → ℕ → Type 0
RightProcedure m n = (p : CodeProcedure) → slice_get m.procedures n ≡ Some p → RoutineIsValid (routine_of m p)

pub record WrongProcedure (m : Parts) (n : ℕ) : Type 0 where
  pub procedure : CodeProcedure
  pub is : slice_get m.procedures n ≡ Some procedure
  pub fault : CodeFault
  pub wrong : FirstFault (routine_of m procedure) fault

pub no_procedure : (m : Parts) (n : ℕ) → slice_get m.procedures n ≡ None → RightProcedure m n
no_procedure m n e p is = absurd (none-some p (sym e ∙ is))

pub that_procedure : (m : Parts) (n : ℕ) (p : CodeProcedure) → slice_get m.procedures n ≡ Some p → RoutineIsValid (routine_of m p) → RightProcedure m n
that_procedure m n p e h q is = subst (λ x. RoutineIsValid (routine_of m x)) (same_Some p q (sym e ∙ is)) h

abbrev judged_procedure : (m : Parts) (n : ℕ) (p : CodeProcedure) → slice_get m.procedures n ≡ Some p → Judged (routine_of m p)
    → RightProcedure m n ⊎ WrongProcedure m n
judged_procedure m n p e (right h) = inl (that_procedure m n p e h)
judged_procedure m n p e (wrong fault h) = inr (record { procedure = p; is = e; fault = fault; wrong = h })

abbrev procedure_by : (m : Parts) (n : ℕ) (o : Option CodeProcedure) → slice_get m.procedures n ≡ o → RightProcedure m n ⊎ WrongProcedure m n
procedure_by m n None e = inl (no_procedure m n e)
procedure_by m n (Some p) e = judged_procedure m n p e (judged_routine (routine_of m p))

abbrev procedure_at : (m : Parts) (n : ℕ) → RightProcedure m n ⊎ WrongProcedure m n
procedure_at m n = procedure_by m n (slice_get m.procedures n) refl

-- the code of a module is valid, or has this first fault
pub data Verdict (m : Parts) : Type 0 where
  valid : PartsAreValid m → Verdict m
  faulty : (bad : BadCode) → PartsHaveFirst m bad → Verdict m

pub procedures_right : (m : Parts) (count : ℕ) → ((n : ℕ) → n < count → RightProcedure m n)
    → AreValid m.globals (length m.strings) m.signals m.links m.procedures count
procedures_right m count f n p l e = f n l p e

abbrev bad_in : ℕ → CodeFault → BadCode
bad_in procedure fault = record { procedure = procedure; fault = fault }

pub parts_fail : (m : Parts) (n : ℕ) → ((k : ℕ) → k < n → RightProcedure m k) → (w : WrongProcedure m n) → PartsHaveFirst m (bad_in n w.fault)
parts_fail m n f w = record { procedure = w.procedure; is = w.is; before = procedures_right m n f; fault = w.wrong }

abbrev verdict_by : (m : Parts) → Search (RightProcedure m) (WrongProcedure m) (length m.procedures) → Verdict m
verdict_by m (all f) = valid (procedures_right m (length m.procedures) f)
verdict_by m (first n l f w) = faulty (bad_in n w.fault) (parts_fail m n f w)

abbrev pub verdict : (m : Parts) → Verdict m
verdict m = verdict_by m (searched (RightProcedure m) (WrongProcedure m) (procedure_at m) (length m.procedures))

abbrev said : (m : Parts) → Verdict m → Option BadCode
said m (valid h) = None
said m (faulty bad h) = Some bad

-- the first fault of a module, or none where its code is valid
abbrev pub fault_of : Parts → Option BadCode
fault_of m = said m (verdict m)

pub said_valid : (m : Parts) (v : Verdict m) → said m v ≡ None → PartsAreValid m
said_valid m (valid h) e = h
said_valid m (faulty bad h) e = absurd (none-some bad (sym e))

pub said_faulty : (m : Parts) (v : Verdict m) (bad : BadCode) → said m v ≡ Some bad → PartsHaveFirst m bad
said_faulty m (valid h) bad e = absurd (none-some bad e)
said_faulty m (faulty b h) bad e = subst (λ x. PartsHaveFirst m x) (same_Some b bad e) h

pub valid_where_none : (m : Parts) → fault_of m ≡ None → PartsAreValid m
valid_where_none m e = said_valid m (verdict m) e

pub first_fault_where_some : (m : Parts) (bad : BadCode) → fault_of m ≡ Some bad → PartsHaveFirst m bad
first_fault_where_some m bad e = said_faulty m (verdict m) bad e
