-- Whence each activation comes: that its offset is reached, who called it or which signal its arm is run for, and where a jump goes.
use Rattle.std.proofs.Common.{◌≡◌, ⊎_elim, ℕ, ◌+◌, List, [], ◌∷◌, length, true, Some, sym, subst, arith}
use Rattle.std.specs.Prelude.{Contains, position, slice_get}
use Rattle.code_forms.specs.declared.instruction.Instruction.{Instruction}
use Rattle.code_forms.specs.declared.module_code.CodeProcedure.{CodeProcedure}
use Rattle.code_forms.specs.declared.module_code.ModuleCode.{ModuleCode}
use Rattle.object_files.specs.declared.image.Image.{Image}
use Rattle.signaller.specs.declared.place.Place.{Place}
use Rattle.signaller.specs.declared.search.Search.{Search}
use Rattle.signaller.specs.declared.signal_id.SignalId.{SignalId}
use Rattle.signaller.specs.Search.{arms_of, arms_before, beyond, search_from, fits_signal}
use Rattle.machine_rules.specs.declared.end.End.TheVariants.{Uncaught}
use Rattle.machine_rules.specs.State.{Target, Why, ForRaise, ForJump, Role, Frame, InArm, State, Runs, Seeks, Leaves, Ending, Ended, Stepped, Goes, Stops}
use Rattle.machine_rules.specs.LookUps.{procedure_of, links_of, instruction_under}
use Rattle.machine_rules.specs.Activations.{activation_at}
use Rattle.machine_rules.proofs.Standing.{Bare, bares, at_more, at_cases, at_within}
use Rattle.survey_rules.specs.Escapes.{IsCode, Calls, IsRun, Comes, Escapes}
use Rattle.survey_rules.specs.Reached.{Reached}
use Rattle.survey_rules.proofs.Living.{Alive}

abbrev pub Reaches : Image → Bare → Type 0
Reaches image a = (m : ModuleCode) (p : CodeProcedure) → IsCode image a.instance a.procedure m p → Reached m p a.offset

-- it stands at a call for which this procedure of this instance is run
pub record RunsBy (image : Image) (b : Bare) (instance procedure : ℕ) : Type 0 where
  pub i : Instruction
  pub is : instruction_under image b ≡ Some i
  pub called : ℕ
  pub calls : Calls image b.instance i instance called
  pub run : IsRun b.instance instance called procedure

-- the lowest frame is of a body that CONTROL names
abbrev pub Started : Image → (instance procedure : ℕ) → List Bare → Type 0
Started image j n [] = (n ≡ 0) × Contains image.control j
Started image j n (b ∷ B) = RunsBy image b j n

-- the arm is the first that fits the signal, at a phrase where this comes
pub record ForSignal (image : Image) (instance procedure number : ℕ) (signal : SignalId) (after : Search) : Type 0 where
  pub p : CodeProcedure
  pub is : procedure_of image instance procedure ≡ Some p
  pub place : Place
  pub number_is : number ≡ arms_before p.phrases place.phrase + place.arm
  pub first : position (fits_signal (links_of image instance) signal) (arms_of (slice_get p.phrases place.phrase)) ≡ Some place.arm
  pub rest : after ≡ search_from (beyond true p.phrases place.phrase)
  pub comes : Comes image signal instance procedure (Some place.phrase)

abbrev pub AimsReached : Image → List Bare → Target → Type 0
AimsReached image B t = (b : Bare) → activation_at B t.place ≡ Some b → (offset : ℕ) → t.goal ≡ Some offset → Reaches image (record b { offset = offset })

-- a search that a jump goes on with, of the topmost activation, begins with a phrase in whose range an offset is reached
abbrev pub AsksAlive : Image → List Bare → Search → Type 0
AsksAlive image [] search = Unit {0}
AsksAlive image (b ∷ B) search =
    (m : ModuleCode) (p : CodeProcedure) → IsCode image b.instance b.procedure m p → (k : ℕ) → search.phrase ≡ Some k → Alive m p k

abbrev pub WhyFrom : Image → (instance procedure number : ℕ) → Why → List Bare → Type 0
WhyFrom image j n number (ForRaise signal args after) B = ForSignal image j n number signal after
WhyFrom image j n number (ForJump target after) B = AimsReached image B target × AsksAlive image B after

abbrev pub RoleFrom : Image → (instance procedure : ℕ) → Role (Unit {0}) → List Bare → Type 0
RoleFrom image j n (Frame v) B = Started image j n B
RoleFrom image j n (InArm own number why) B = WhyFrom image j n number why B

pub record From (image : Image) (a : Bare) (B : List Bare) : Type 0 where
  pub reaches : Reaches image a
  pub role : RoleFrom image a.instance a.procedure a.role B

abbrev pub Trace : Image → List Bare → Type 0
Trace image [] = Unit {0}
Trace image (a ∷ B) = From image a B × Trace image B

-- the instances that are still to be started are of CONTROL
abbrev pub Named : Image → List ℕ → Type 0
Named image [] = Unit {0}
Named image (j ∷ rest) = Contains image.control j × Named image rest

abbrev pub SeeksComing : Image → SignalId → List Bare → (place : ℕ) → Search → Type 0
SeeksComing image signal B q search = (b : Bare) → activation_at B q ≡ Some b → Comes image signal b.instance b.procedure search.phrase

abbrev pub Traced : Image → State → Type 0
Traced image (Runs S m) = Trace image (bares S) × Named image m.control
Traced image (Seeks signal args q search S m) = Trace image (bares S) × Named image m.control × SeeksComing image signal (bares S) q search
Traced image (Leaves t search S m) = Trace image (bares S) × Named image m.control × AimsReached image (bares S) t × AsksAlive image (bares S) search

abbrev pub EndsSo : Image → Ending → Type 0
EndsSo image (Ended (Uncaught signal)) = Escapes image signal
EndsSo image _ = Unit {0}

abbrev pub Follows : Image → Stepped → Type 0
Follows image (Goes s) = Traced image s
Follows image (Stops end m) = EndsSo image end

-- what is under the activation at a place
pub record Under (image : Image) (B : List Bare) (q : ℕ) (b : Bare) : Type 0 where
  pub below : List Bare
  pub from : From image b below
  pub long : length below ≡ q
  pub stay : (k : ℕ) (c : Bare) → activation_at below k ≡ Some c → activation_at B k ≡ Some c

pub under : (image : Image) (B : List Bare) (q : ℕ) (b : Bare) → Trace image B → activation_at B q ≡ Some b → Under image B q b
under image [] q b t e = let l = at_within [] q b e in absurd (omega (arith, l))
under image (a ∷ B) q b t e = ⊎_elim
    (λ (h : (q ≡ length B) × (a ≡ b)).
    subst (λ c. Under image (a ∷ B) q c) h.1 (record { below = B; from = t.0; long = sym h.0; stay = λ k c is. at_more a B k c is }))
    (λ (h : activation_at B q ≡ Some b).
    let r = under image B q b t.1 h in record { below = r.below; from = r.from; long = r.long; stay = λ k c is. at_more a B k c (r.stay k c is) })
    (at_cases a B q b e)
