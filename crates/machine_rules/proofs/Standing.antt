-- How the activations of a valid image stand on each other.
use Rattle.std.proofs.Common.{◌≡◌, ◌⊎◌, inl, inr, ℕ, zero, suc, ◌+◌, ◌<◌, List, [], ◌∷◌, ◌++◌, length, Bool, true, false, Option, Some, None, refl, ap, subst, arith}
use Rattle.std.specs.Prelude.{nat_eq, slice_get, if◌then◌else◌}
use Rattle.std.proofs.lemmas.Bool.{eqb-true, eq-eqb}
use Rattle.std.proofs.lemmas.Option.{none-some, same_Some}
use Rattle.code_forms.specs.declared.instruction.Instruction.{Instruction}
use Rattle.code_forms.specs.declared.instruction.Instruction.TheVariants.{CallLink}
use Rattle.code_forms.specs.declared.module_code.CodeProcedure.{CodeProcedure}
use Rattle.code_forms.specs.declared.module_code.Phrase.{Phrase}
use Rattle.code_forms.specs.declared.region.Region.{Region}
use Rattle.code_forms.specs.declared.region.Region.TheVariants.{Body, ArmOf}
use Rattle.code_forms.specs.Regions.{region_at}
use Rattle.code_forms.specs.Routine.{routine, goes_on}
use Rattle.object_files.specs.declared.image.Image.{Image}
use Rattle.signaller.specs.declared.place.Place.{Place}
use Rattle.signaller.specs.declared.search.Search.{Search}
use Rattle.signaller.specs.declared.signal_id.SignalId.{SignalId}
use Rattle.signaller.specs.Search.{beyond, asked, arms_before}
use Rattle.signaller.specs.Sought.{IsPlace}
use Rattle.machine_rules.specs.State.{Target, Why, ForRaise, ForJump, Role, Frame, InArm, Activation, Active, Activations}
use Rattle.machine_rules.specs.LookUps.{procedure_of, instruction_at}
use Rattle.machine_rules.specs.Activations.{activation_at, owner, with_variables, set_variables}
use Rattle.machine_rules.specs.Signals.{takes_back}
use Rattle.machine_rules.proofs.Located.{Has, Starts}

-- Without variables.

abbrev pub Bare : Type 0
Bare = Activation (Unit {0})

abbrev pub bare_role : Role (List ℕ) → Role (Unit {0})
bare_role (Frame variables) = Frame tt
bare_role (InArm own n why) = InArm own n why

abbrev pub bare : Active → Bare
bare a = record { instance = a.instance; procedure = a.procedure; offset = a.offset; operands = a.operands; role = bare_role a.role }

abbrev pub bares : Activations → List Bare
bares [] = []
bares (a ∷ S) = bare a ∷ bares S

pub bares_long : (S : Activations) → length (bares S) ≡ length S
bares_long [] = refl
bares_long (a ∷ S) = ap suc (bares_long S)

same_role : (role : Role (List ℕ)) (new : List ℕ) → bare_role (with_variables role new) ≡ bare_role role
unfolding with_variables
same_role (Frame old) new = refl
same_role (InArm own n why) new = refl

set_if : (b : Bool) (a : Active) (S S' : Activations) (new : List ℕ) → bares S' ≡ bares S
    → bares (if b then record a { role = with_variables a.role new } ∷ S else a ∷ S') ≡ bare a ∷ bares S
set_if true a S S' new e = ap (λ r. record { instance = a.instance; procedure = a.procedure; offset = a.offset; operands = a.operands; role = r } ∷ bares S) (same_role a.role new)
set_if false a S S' new e = ap (λ B. bare a ∷ B) e

pub set_bares : (S : Activations) (q : ℕ) (new : List ℕ) → bares (set_variables S q new) ≡ bares S
unfolding set_variables
set_bares [] q new = refl
set_bares (a ∷ S) q new = set_if (nat_eq q (length S)) a S (set_variables S q new) new (set_bares S q new)

-- the one at a place
pub record There (S : Activations) (q : ℕ) (b : Bare) : Type 0 where
  pub active : Active
  pub is : activation_at S q ≡ Some active
  pub same : bare active ≡ b

there_if : (t : Bool) (a : Active) (S : Activations) (q : ℕ) (b : Bare) → (activation_at (bares S) q ≡ Some b → There S q b)
    → nat_eq q (length S) ≡ t → (if t then Some (bare a) else activation_at (bares S) q) ≡ Some b → There (a ∷ S) q b
unfolding activation_at
there_if true a S q b next t e = record { active = a; is = rw t refl; same = same_Some (bare a) b e }
there_if false a S q b next t e = let r = next e in record { active = r.active; is = rw t r.is; same = r.same }

pub there : (S : Activations) (q : ℕ) (b : Bare) → activation_at (bares S) q ≡ Some b → There S q b
unfolding activation_at
there [] q b e = absurd (none-some b e)
there (a ∷ S) q b e = there_if (nat_eq q (length S)) a S q b (there S q b) refl
    (subst (λ n. (if nat_eq q n then Some (bare a) else activation_at (bares S) q) ≡ Some b) (bares_long S) e)

within_if : (t : Bool) (a : Bare) (B : List Bare) (q : ℕ) (b : Bare) → (activation_at B q ≡ Some b → q < length B) → nat_eq q (length B) ≡ t
    → (if t then Some a else activation_at B q) ≡ Some b → q < length (a ∷ B)
within_if true a B q b h t e = let l = eqb-true q (length B) t in omega (arith, l)
within_if false a B q b h t e = let l = h e in omega (arith, l)

pub at_within : (B : List Bare) (q : ℕ) (b : Bare) → activation_at B q ≡ Some b → q < length B
unfolding activation_at
at_within [] q b e = absurd (none-some b e)
at_within (a ∷ B) q b e = within_if (nat_eq q (length B)) a B q b (at_within B q b) refl e

more_if : (t : Bool) (a : Bare) (B : List Bare) (q : ℕ) (b : Bare) → nat_eq q (length B) ≡ t → activation_at B q ≡ Some b
    → (if t then Some a else activation_at B q) ≡ Some b
more_if true a B q b t e = let l = eqb-true q (length B) t in let w = at_within B q b e in absurd (omega (arith, l, w))
more_if false a B q b t e = e

-- one below stays where it is
pub at_more : (a : Bare) (B : List Bare) (q : ℕ) (b : Bare) → activation_at B q ≡ Some b → activation_at (a ∷ B) q ≡ Some b
unfolding activation_at
at_more a B q b e = more_if (nat_eq q (length B)) a B q b refl e

pub at_top : (a : Bare) (B : List Bare) → activation_at (a ∷ B) (length B) ≡ Some a
unfolding activation_at
at_top a B = rw (eq-eqb (length B) (length B) refl) refl

cases_if : (t : Bool) (a : Bare) (B : List Bare) (q : ℕ) (b : Bare) → nat_eq q (length B) ≡ t → (if t then Some a else activation_at B q) ≡ Some b
    → ((q ≡ length B) × (a ≡ b)) ⊎ (activation_at B q ≡ Some b)
cases_if true a B q b t e = inl (eqb-true q (length B) t, same_Some a b e)
cases_if false a B q b t e = inr e

-- it is the topmost one, or one below
pub at_cases : (a : Bare) (B : List Bare) (q : ℕ) (b : Bare) → activation_at (a ∷ B) q ≡ Some b → ((q ≡ length B) × (a ≡ b)) ⊎ (activation_at B q ≡ Some b)
unfolding activation_at
at_cases a B q b e = cases_if (nat_eq q (length B)) a B q b refl e

-- Regions and running arms.

-- the arm of a number has this region
pub record Numbered (p : CodeProcedure) (n : ℕ) (region : Region) : Type 0 where
  pub place : Place
  pub is : IsPlace p.phrases place
  pub number : n ≡ arms_before p.phrases place.phrase + place.arm
  pub region_is : region ≡ ArmOf place.phrase place.arm

abbrev pub RoleIn : CodeProcedure → Role (Unit {0}) → Region → Type 0
RoleIn p (Frame v) region = region ≡ Body
RoleIn p (InArm own n why) region = Numbered p n region

-- an activation stands at an instruction, in its region
pub record Located (image : Image) (a : Bare) : Type 0 where
  pub p : CodeProcedure
  pub is : procedure_of image a.instance a.procedure ≡ Some p
  pub starts : Starts p.code a.offset
  pub role : RoleIn p a.role (region_at p.phrases a.offset)

-- the body's code, or that of a running arm of the frame at a place
pub data Running (p : CodeProcedure) (B : List Bare) (own : ℕ) (region : Region) : Type 0 where
  in_body : region ≡ Body → Running p B own region
  in_arm : (q n : ℕ) (b : Bare) (why : Why) → activation_at B q ≡ Some b → b.role ≡ InArm own n why → Numbered p n region → Running p B own region

-- the phrases of a list are all of such code
abbrev pub AllRun : CodeProcedure → List Bare → ℕ → List ℕ → Type 0
AllRun p B own [] = Unit {0}
AllRun p B own (n ∷ numbers) = ((ph : Phrase) → slice_get p.phrases n ≡ Some ph → Running p B own (region_at p.phrases ph.from)) × AllRun p B own numbers

pub all_after : (p : CodeProcedure) (B : List Bare) (own : ℕ) (before : List ℕ) (n : ℕ) (after : List ℕ) → AllRun p B own (before ++ n ∷ after)
    → ((ph : Phrase) → slice_get p.phrases n ≡ Some ph → Running p B own (region_at p.phrases ph.from)) × AllRun p B own after
all_after p B own [] n after r = r
all_after p B own (k ∷ before) n after r = all_after p B own before n after r.1

-- the phrases that a search asks
abbrev pub Searches : Bool → CodeProcedure → List Bare → ℕ → Search → Type 0
Searches outward p B own search = AllRun p B own (asked outward p.phrases search.phrase)

-- the activation goes on behind its instruction
pub record GoesOn (image : Image) (a : Bare) : Type 0 where
  pub p : CodeProcedure
  pub is : procedure_of image a.instance a.procedure ≡ Some p
  pub i : Instruction
  pub there : instruction_at p.code a.offset ≡ Some i
  pub goes : (h : Has image a.instance p) → goes_on (routine h.code p) i ≡ true

pub record Calls (image : Image) (a : Bare) : Type 0 where
  pub p : CodeProcedure
  pub is : procedure_of image a.instance a.procedure ≡ Some p
  pub link : ℕ
  pub there : instruction_at p.code a.offset ≡ Some (CallLink link)

-- a frame over its caller
abbrev pub FrameOver : Image → ℕ → List Bare → Type 0
FrameOver image p [] = Unit {0}
FrameOver image zero (b ∷ B) = Calls image b
FrameOver image (suc p) (b ∷ B) = GoesOn image b

-- a raiser goes on where its signal takes words back
abbrev pub Raised : Image → SignalId → List Bare → Type 0
Raised image signal [] = ⊥
Raised image signal (b ∷ B) = (n : ℕ) → takes_back image signal n ≡ true → GoesOn image b

-- the frame of an arm
pub record Owns (B : List Bare) (own instance procedure : ℕ) : Type 0 where
  pub frame : Bare
  pub is : activation_at B own ≡ Some frame
  pub kind : frame.role ≡ Frame tt
  pub instance_is : frame.instance ≡ instance
  pub procedure_is : frame.procedure ≡ procedure

-- where a jump arrives
abbrev pub Arrives : Image → Bare → Option ℕ → Type 0
Arrives image b None = b.role ≡ Frame tt
Arrives image b (Some offset) = Located image (record b { offset = offset })

pub record Aims (image : Image) (B : List Bare) (t : Target) : Type 0 where
  pub target : Bare
  pub is : activation_at B t.place ≡ Some target
  pub arrives : Arrives image target t.goal

-- the search of the topmost activation, within its region
abbrev pub AsksTop : Image → List Bare → Search → Type 0
AsksTop image [] search = ⊥
AsksTop image (b ∷ B) search = (p : CodeProcedure) → procedure_of image b.instance b.procedure ≡ Some p → Searches false p (b ∷ B) (owner b.role (length B)) search

abbrev pub WhyFits : Image → CodeProcedure → ℕ → Why → List Bare → Type 0
WhyFits image p own (ForRaise signal args beyond) B = Raised image signal B × Searches true p B own beyond
WhyFits image p own (ForJump target beyond) B = Aims image B target × AsksTop image B beyond

-- the code that holds the phrase of the arm is running
pub record IsHeld (p : CodeProcedure) (B : List Bare) (own n : ℕ) : Type 0 where
  pub place : Place
  pub is : IsPlace p.phrases place
  pub number : n ≡ arms_before p.phrases place.phrase + place.arm
  pub runs : (ph : Phrase) → slice_get p.phrases place.phrase ≡ Some ph → Running p B own (region_at p.phrases ph.from)

pub record ArmFits (image : Image) (instance procedure : ℕ) (p : CodeProcedure) (own n : ℕ) (why : Why) (B : List Bare) : Type 0 where
  pub owns : Owns B own instance procedure
  pub held : IsHeld p B own n
  pub fits : WhyFits image p own why B

abbrev pub RoleFits : Image → ℕ → ℕ → CodeProcedure → Role (Unit {0}) → List Bare → Type 0
RoleFits image instance procedure p (Frame v) B = FrameOver image procedure B
RoleFits image instance procedure p (InArm own n why) B = ArmFits image instance procedure p own n why B

pub record Fits (image : Image) (a : Bare) (B : List Bare) : Type 0 where
  pub at : Located image a
  pub over : RoleFits image a.instance a.procedure at.p a.role B

abbrev pub Stand : Image → List Bare → Type 0
Stand image [] = Unit {0}
Stand image (a ∷ B) = Fits image a B × Stand image B
