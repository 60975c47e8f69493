-- A step of a state that stands well is not stuck, and leads to such a state: the ways in which an activation goes on.
use Rattle.std.proofs.Common.{◌≡◌, ⊎_elim, ℕ, zero, suc, ◌+◌, ◌<◌, List, [], ◌∷◌, length, get_or, Bool, true, false, Option, Some, None, refl, sym, ap, subst, ◌∙◌, arith}
use Rattle.std.specs.Prelude.{◌≢◌, slice_get, nat_lt, if◌then◌else◌}
use Rattle.std.proofs.lemmas.Bool.{false≢true}
use Rattle.std.proofs.lemmas.Option.{same_Some, slice_get-get_or}
use Rattle.code_forms.specs.declared.instruction.Instruction.{Instruction}
use Rattle.code_forms.specs.declared.instruction.Instruction.TheVariants.{Return}
use Rattle.code_forms.specs.declared.module_code.CodeEntry.{CodeEntry}
use Rattle.code_forms.specs.declared.module_code.CodeProcedure.{CodeProcedure}
use Rattle.code_forms.specs.declared.module_code.ModuleCode.{ModuleCode}
use Rattle.code_forms.specs.declared.region.Region.TheVariants.{Body}
use Rattle.code_forms.specs.Ranges.{IsBody}
use Rattle.code_forms.specs.Regions.{region_at}
use Rattle.code_forms.specs.Routine.{routine, spots, goes_on}
use Rattle.code_forms.specs.Instructions.{bytes_of}
use Rattle.object_files.specs.declared.image.Image.{Image}
use Rattle.signaller.specs.declared.search.Search.{Search}
use Rattle.signaller.specs.declared.signal_id.SignalId.{SignalId}
use Rattle.signaller.proofs.Lying.{stand, arm_behind}
use Rattle.signaller.proofs.Regions.{somewhere, InSome}
use Rattle.machine_rules.specs.Words.{on_top}
use Rattle.machine_rules.specs.State.{Frame, Active, Activations, Store, State, Runs, Seeks, Leaves, Ending, Ended, Broken, Stuck, Stepped, Goes, Stops}
use Rattle.machine_rules.specs.LookUps.{code_of, procedure_of, instruction_at, procedure_under, instruction_under}
use Rattle.machine_rules.specs.Activations.{activation_at, owner}
use Rattle.machine_rules.specs.Moves.{with, spend_of, spend, limit, enter, onward, give}
use Rattle.machine_rules.specs.Calls.{enter_frame, start}
use Rattle.machine_rules.proofs.Located.{World, Has, has as has_procedure, Starts, starts, stands_at, next as next_starts}
use Rattle.machine_rules.proofs.Standing.{Bare, bare, bares, RoleIn, Searches, GoesOn, FrameOver, Raised, Aims, AsksTop, Fits, Stand}

-- the instances that are still to be started have bodies
abbrev pub Controlled : Image → List ℕ → Type 0
Controlled image [] = Unit {0}
Controlled image (j ∷ rest) = ((body : CodeProcedure) × (procedure_of image j 0 ≡ Some body)) × Controlled image rest

pub record Sought (image : Image) (B : List Bare) (q : ℕ) (signal : SignalId) (search : Search) : Type 0 where
  pub b : Bare
  pub is : activation_at B q ≡ Some b
  pub p : CodeProcedure
  pub of : procedure_of image b.instance b.procedure ≡ Some p
  pub searches : Searches true p B (owner b.role q) search
  pub raised : Raised image signal B

abbrev pub Good : Image → State → Type 0
Good image (Runs S m) = Stand image (bares S) × Controlled image m.control
Good image (Seeks signal args q search S m) = Stand image (bares S) × Controlled image m.control × Sought image (bares S) q signal search
Good image (Leaves t search S m) = Stand image (bares S) × Controlled image m.control × Aims image (bares S) t × AsksTop image (bares S) search

abbrev pub Well : Image → Stepped → Type 0
Well image (Goes t) = Good image t
Well image (Stops end m) = end ≢ Stuck

abbrev is_stuck : Ending → Bool
is_stuck (Ended end) = false
is_stuck Broken = false
is_stuck Stuck = true

pub ended_not : (end : Ending) → is_stuck end ≡ false → end ≢ Stuck
ended_not end f e = false≢true (sym f ∙ ap is_stuck e)

pub well_with : {A : Type 0} (image : Image) (o : Option A) (x : A) (m : Store) (k : A → Stepped) → o ≡ Some x → Well image (k x) → Well image (with o m k)
unfolding with
well_with image o x m k e w = rw e w

spent_well : (image : Image) (n : ℕ) (m : Store) (k : Store → Stepped) → ((m1 : Store) → m1.control ≡ m.control → Well image (k m1)) → Well image (spend_of n m k)
unfolding spend_of
spent_well image zero m k h = ended_not _ refl
spent_well image (suc n) m k h = h _ refl

pub well_spend : (image : Image) (m : Store) (k : Store → Stepped) → ((m1 : Store) → m1.control ≡ m.control → Well image (k m1)) → Well image (spend m k)
unfolding spend
well_spend image m k h = spent_well image m.turns m k h

pub well_if : (image : Image) (b : Bool) (x y : Stepped) → Well image x → Well image y → Well image (if b then x else y)
well_if image true x y p q = p
well_if image false x y p q = q

pub well_top : (image : Image) (operands : List ℕ) (k : ℕ → List ℕ → Stepped) → ((x : ℕ) (rest : List ℕ) → Well image (k x rest)) → Well image (on_top operands k)
well_top image [] k h = h 0 []
well_top image (x ∷ rest) k h = h x rest

pub well_enter : (image : Image) (a : Active) (S : Activations) (m : Store) → Stand image (bare a ∷ bares S) → Controlled image m.control → Well image (enter a S m)
unfolding enter
well_enter image a S m s c = well_if image (nat_lt (length S) limit) _ _ (s, c) (ended_not _ refl)

-- an activation stands elsewhere in its region
pub moved : (image : Image) (a : Bare) (B : List Bare) (target : ℕ) (operands : List ℕ) → (f : Fits image a B) → Starts (f.at).p.code target
    → region_at ((f.at).p).phrases target ≡ region_at ((f.at).p).phrases a.offset → Fits image (record a { offset = target; operands = operands }) B
moved image a B target operands f s r = record {
  at = record { p = (f.at).p; is = (f.at).is; starts = s; role = subst (λ x. RoleIn (f.at).p a.role x) (sym r) (f.at).role };
  over = f.over;
}

-- with other operands
pub held_still : (image : Image) (a : Bare) (B : List Bare) (operands : List ℕ) → Fits image a B → Fits image (record a { operands = operands }) B
held_still image a B operands f = record {
  at = record { p = (f.at).p; is = (f.at).is; starts = (f.at).starts; role = (f.at).role };
  over = f.over;
}

pub under_is : (image : Image) (a : Active) (p : CodeProcedure) (i : Instruction) → procedure_of image a.instance a.procedure ≡ Some p → instruction_at p.code a.offset ≡ Some i
    → instruction_under image a ≡ Some i
unfolding instruction_under procedure_under
under_is image a p i e is = rw e is

-- behind an instruction that goes on
pub onward_fits : (image : Image) → World image → (a : Bare) (B : List Bare) (i : Instruction) (operands : List ℕ) → (f : Fits image a B)
    → instruction_at (f.at).p.code a.offset ≡ Some i → ((h : Has image a.instance (f.at).p) → goes_on (routine h.code (f.at).p) i ≡ true)
    → Fits image (record a { offset = a.offset + bytes_of i; operands = operands }) B
onward_fits image w a B i operands f is g =
    let h = has_procedure image w a.instance a.procedure (f.at).p (f.at).is in
    let n = next_starts image a.instance (f.at).p h a.offset i (stands_at image a.instance (f.at).p h a.offset i is) (g h) in
    moved image a B (a.offset + bytes_of i) operands f n.starts n.region

pub well_give : (image : Image) → World image → (n : ℕ) (words : List ℕ) (a : Active) (S : Activations) (m : Store) → GoesOn image (bare a)
    → Stand image (bares (a ∷ S)) → Controlled image m.control → Well image (give image n words (a ∷ S) m)
unfolding give onward
well_give image w n words a S m g s c =
    let f = s.0 in
    let same : g.p ≡ (f.at).p = same_Some g.p (f.at).p (sym g.is ∙ (f.at).is) in
    let is : instruction_at (f.at).p.code a.offset ≡ Some g.i = subst (λ (p : CodeProcedure). instruction_at p.code a.offset ≡ Some g.i) same g.there in
    well_with image (instruction_under image a) g.i m _ (under_is image a (f.at).p g.i (f.at).is is)
    ((onward_fits image w (bare a) (bares S) g.i _ f is (subst (λ (p : CodeProcedure). (h : Has image a.instance p) → goes_on (routine h.code p) g.i ≡ true) same g.goes), s.1), c)

-- Frames.

pub body_from : (image : Image) (j : ℕ) (code : ModuleCode) (o : Option CodeProcedure) → slice_get code.procedures 0 ≡ o → IsBody o → code_of image j ≡ Some code
    → (body : CodeProcedure) × (procedure_of image j 0 ≡ Some body)
unfolding procedure_of
body_from image j code None e b is = absurd b
body_from image j code (Some body) e b is = (body, rw is e)

-- an instance that has a procedure has a body
pub body_of : (image : Image) → World image → (j n : ℕ) (p : CodeProcedure) → procedure_of image j n ≡ Some p → (body : CodeProcedure) × (procedure_of image j 0 ≡ Some body)
body_of image w j n p e =
    let h = has_procedure image w j n p e in body_from image j h.code (slice_get h.code.procedures 0) refl h.ranges.body h.is

-- the beginning of a procedure is its body's
body_begins : (image : Image) (j : ℕ) (p : CodeProcedure) → Has image j p → region_at p.phrases 0 ≡ Body
body_begins image j p h = ⊎_elim
    (λ (x : (region_at p.phrases 0 ≡ Body) × ((k : ℕ) → k < length p.phrases → 0 < _)). x.0)
    (λ (x : InSome p.phrases 0).
    let s = stand (spots p.code) p.phrases h.valid.phrases x.q x.is.phrase_there in
    let filled = s.filled in let earlier = s.earlier in
    let there = x.is.arm_there in let begun = x.is.begun in
    let behind = arm_behind (spots p.code) _ s.arms (omega (arith, there)) x.k there in
    absurd (omega (arith, filled, earlier, behind, begun)))
    (somewhere (spots p.code) p.phrases 0 h.valid.phrases)

first_starts : (p : CodeProcedure) (image : Image) (j : ℕ) → Has image j p → Starts p.code 0
first_starts p image j h =
    let d : CodeEntry = record { at = 0; depth = 0; instruction = Return } in
    starts p.code 0 0 (get_or p.code 0 d) (slice_get-get_or p.code 0 d h.order.some) (h.order.first d)

pub frame_fits : (image : Image) → World image → (j n : ℕ) (p : CodeProcedure) → procedure_of image j n ≡ Some p → (B : List Bare) → FrameOver image n B
    → Fits image (record { instance = j; procedure = n; offset = 0; operands = []; role = Frame tt }) B
frame_fits image w j n p e B over =
    let h = has_procedure image w j n p e in
    record { at = record { p = p; is = e; starts = first_starts p image j h; role = body_begins image j p h }; over = over }

pub well_frame : (image : Image) → World image → (j n : ℕ) (p : CodeProcedure) → procedure_of image j n ≡ Some p → (args : List ℕ) (S : Activations) (m : Store)
    → Stand image (bares S) → FrameOver image n (bares S) → Controlled image m.control → Well image (enter_frame j n p args S m)
unfolding enter_frame
well_frame image w j n p e args S m s over c = well_enter image _ S m (frame_fits image w j n p e (bares S) over, s) c

pub well_start : (image : Image) → World image → (j : ℕ) (body : CodeProcedure) → procedure_of image j 0 ≡ Some body → (S : Activations) (m : Store)
    → Stand image (bares S) → FrameOver image 0 (bares S) → Controlled image m.control → Well image (start image j S m)
unfolding start
well_start image w j body e S m s over c =
    well_with image (procedure_of image j 0) body m _ e (well_spend image _ _ (λ m1 same.
    well_frame image w j 0 body e [] S m1 s over (subst (λ x. Controlled image x) (sym same) c)))
