-- The machine is never stuck on an image that can be run.
use Rattle.std.proofs.Common.{◌≡◌, ⊎_elim, ℕ, zero, suc, ◌<◌, ◌≤◌, List, [], ◌∷◌, length, get_or, Bool, true, false, Option, Some, None, refl, sym, ap, subst, ◌∙◌, arith}
use Rattle.std.specs.Prelude.{◌≢◌, slice_get, nat_eq, not, All}
use Rattle.std.proofs.lemmas.Bool.{false≢true}
use Rattle.std.proofs.Math.ListN.{length-map}
use Rattle.std.proofs.Math.Logic.{∥∥₁_elim}
use Rattle.std.proofs.lemmas.Option.{none-some, same_Some, slice_get-get_or}
use Rattle.object_files.specs.mesa_types.specs.Operators.{WordFault, OutOfBounds, DividedByZero}
use Rattle.code_forms.specs.declared.instruction.Instruction.{Instruction}
use Rattle.code_forms.specs.declared.instruction.Instruction.TheVariants.{Jump, JumpIf, JumpIfNot, JumpBack, Call, CallLink, Return, Raise, RaiseLink, RaiseHost, ArmEnd, Resume, Leave, LeaveReturn}
use Rattle.code_forms.specs.declared.module_code.CodeKind.{CodeKind}
use Rattle.code_forms.specs.declared.module_code.CodeKind.TheVariants as kind
use Rattle.code_forms.specs.declared.module_code.CodeLink.{CodeLink}
use Rattle.code_forms.specs.declared.module_code.CodeProcedure.{CodeProcedure}
use Rattle.code_forms.specs.declared.module_code.CodeSignal.{CodeSignal}
use Rattle.code_forms.specs.declared.module_code.ModuleCode.{ModuleCode}
use Rattle.code_forms.specs.declared.region.Region.{Region}
use Rattle.code_forms.specs.declared.region.Region.TheVariants.{Body, ArmOf}
use Rattle.code_forms.specs.Operands.{IsRaised, RaisedLink}
use Rattle.code_forms.specs.Ranges.{KeepsRanges}
use Rattle.code_forms.specs.Regions.{region_at}
use Rattle.code_forms.specs.Routine.{words_of, routine, goes_on, is_error, is_error_signal, is_error_link, IsStart, spots}
use Rattle.object_files.specs.declared.image.Image.{Image}
use Rattle.object_files.specs.declared.image.Instance.{Instance}
use Rattle.object_files.specs.declared.image.Link.{Link}
use Rattle.object_files.specs.declared.image.Link.TheVariants.{Wanted, To}
use Rattle.object_files.specs.declared.object.Object.{Object}
use Rattle.signaller.specs.declared.signal_id.SignalId.{SignalId}
use Rattle.signaller.specs.declared.signal_id.SignalId.TheVariants.{Own, BoundsFault, ZeroDivisor, NoInput, Unnamed}
use Rattle.machine_rules.specs.Working.{Work, Worked, Works, Faults, Touches, works}
use Rattle.machine_rules.specs.State.{Role, Frame, InArm, Active, Activations, Store, State, Runs, Seeks, Leaves, Ending, Stuck, Stepped}
use Rattle.machine_rules.specs.LookUps.{module_number, code_in, code_of, procedure_of, called, signal_of, link_of, bound_to, signal_bound, instruction_at, instruction_under}
use Rattle.machine_rules.specs.Activations.{own_frame}
use Rattle.machine_rules.specs.Moves.{onward, go_to}
use Rattle.machine_rules.specs.Signals.{raise, takes_of, takes_in, takes_back}
use Rattle.machine_rules.specs.Calls.{start_next}
use Rattle.machine_rules.specs.Steps.{raise_with, host_signal, perform, fault_signal, worked, works_in, begin, run, step, Ends, stops, goes, fresh, begins}
use Rattle.machine_rules.specs.Laws.{IsBound, IsNeverStuck}
use Rattle.machine_rules.proofs.Located.{World, right, Has, has as has_procedure, start_there, start_below, StandsAt, stands_at}
use Rattle.machine_rules.proofs.Onward.{works_or_touches, touches, is_touch, no_touch}
use Rattle.machine_rules.proofs.Going.{Controlled, Good, Well, ended_not, well_with, well_spend, well_if, well_top, moved, held_still, under_is, onward_fits, body_from, well_start}
use Rattle.machine_rules.proofs.Arming.{well_raise, well_seek}
use Rattle.machine_rules.proofs.Calling.{in_frame, well_call, well_bound, link_bound, calls_go, well_return, well_reject, well_resume}
use Rattle.machine_rules.proofs.Departing.{well_leave, well_leave_return, well_leave_step}
use Rattle.machine_rules.proofs.Standing.{bare, bare_role, bares, set_bares, RoleIn, GoesOn, Calls, Stand}

-- The role tells the region, and the region the role.

abbrev is_arm : Region → Bool
is_arm Body = false
is_arm (ArmOf q k) = true

frame_by : (p : CodeProcedure) (role : Role (Unit {0})) (region : Region) → RoleIn p role region → region ≡ Body → in_frame role ≡ true
frame_by p (Frame v) region r e = refl
frame_by p (InArm own n why) region r e = absurd (false≢true (ap is_arm (sym e ∙ r.region_is)))

arm_by : (p : CodeProcedure) (role : Role (Unit {0})) (region : Region) → RoleIn p role region → region ≢ Body → in_frame role ≡ false
arm_by p (Frame v) region r e = absurd (e r)
arm_by p (InArm own n why) region r e = refl

-- Raises.

taken_signal : (kind : CodeKind) (results n : ℕ) → takes_of kind results n ≡ true → is_error kind ≡ false
unfolding takes_of
taken_signal kind.Procedure results n e = refl
taken_signal kind.Signal results n e = refl
taken_signal kind.Error results n e = absurd (false≢true e)

raise_back : (image : Image) (j k n : ℕ) (s : CodeSignal) → signal_of image j k ≡ Some s → takes_back image (Own j k) n ≡ true → is_error s.kind ≡ false
unfolding takes_back takes_in
raise_back image j k n s e t = taken_signal s.kind s.results n (subst (λ o. takes_in o n ≡ true) e t)

signal_there : (image : Image) (j k : ℕ) (code : ModuleCode) → code_of image j ≡ Some code → k < length code.signals
    → (s : CodeSignal) × (signal_of image j k ≡ Some s) × (slice_get code.signals k ≡ Some s)
unfolding signal_of
signal_there image j k code is l =
    let s = get_or code.signals k (record { kind = kind.Error; name = []; args = 0; results = 0 }) in
    let e = slice_get-get_or code.signals k (record { kind = kind.Error; name = []; args = 0; results = 0 }) l in
    (s, rw is e, e)

-- to what a raised link is bound, and that its raiser goes on where words come back
pub record RaisedBy (image : Image) (j k : ℕ) (link : CodeLink) : Type 0 where
  pub bound : Link
  pub is : bound_to image j k ≡ Some bound
  pub signal : SignalId
  pub means : signal_bound link.kind bound ≡ Some signal
  pub back : (n : ℕ) → takes_back image signal n ≡ true → is_error link.kind ≡ false

raised_of : (image : Image) (j k : ℕ) (link : CodeLink) (kind' : CodeKind) → link.kind ≡ kind' → (o : Option Link) → bound_to image j k ≡ o → IsRaised kind' → IsBound image kind' o
    → RaisedBy image j k link
unfolding signal_bound takes_back
raised_of image j k link kind.Procedure e o is r b = absurd r
raised_of image j k link kind.Signal e None is r b = absurd b
raised_of image j k link kind.Error e None is r b = absurd b
raised_of image j k link kind.Signal e (Some (Wanted n)) is r b = record {
  bound = Wanted n;
  is = is;
  signal = NoInput;
  means = rw e refl;
  back = λ n t. absurd (false≢true t);
}
raised_of image j k link kind.Error e (Some (Wanted n)) is r b = record {
  bound = Wanted n;
  is = is;
  signal = NoInput;
  means = rw e refl;
  back = λ n t. absurd (false≢true t);
}
raised_of image j k link kind.Signal e (Some (To i s)) is r b = record {
  bound = To i s;
  is = is;
  signal = Own i s;
  means = rw e refl;
  back = λ n t. ap is_error e;
}
raised_of image j k link kind.Error e (Some (To i s)) is r b = record {
  bound = To i s;
  is = is;
  signal = Own i s;
  means = rw e refl;
  back = λ n t. ap is_error e ∙ sym (ap is_error b.2) ∙ raise_back image i s n b.0 b.1 t;
}

link_raised : (image : Image) → World image → (j k : ℕ) (code : ModuleCode) → code_of image j ≡ Some code → (o : Option CodeLink) → slice_get code.links k ≡ o → RaisedLink o
    → (link : CodeLink) × (link_of image j k ≡ Some link) × (o ≡ Some link) × RaisedBy image j k link
unfolding link_of
link_raised image w j k code is None e r = absurd r
link_raised image w j k code is (Some link) e r =
    let l : link_of image j k ≡ Some link = rw is e in
    (link, rw is e, refl, raised_of image j k link link.kind refl (bound_to image j k) refl r (w.ready.links j k link l))

well_raise_with : (image : Image) → World image → (signal : SignalId) (n : ℕ) (a : Active) (S : Activations) (m : Store) → Stand image (bares (a ∷ S))
    → ((k : ℕ) → takes_back image signal k ≡ true → GoesOn image (bare a)) → Controlled image m.control → Well image (raise_with image signal n a S m)
unfolding raise_with
well_raise_with image w signal n a S m s r c =
    well_raise image w signal _ _ S m (held_still image (bare a) (bares S) _ s.0, s.1)
    (λ k t. (let g = r k t in record { p = g.p; is = g.is; i = g.i; there = g.there; goes = g.goes })) c

well_raise_plain : (image : Image) → World image → (signal : SignalId) (a : Active) (S : Activations) (m : Store) → Stand image (bares (a ∷ S))
    → ((k : ℕ) → takes_back image signal k ≡ false) → Controlled image m.control → Well image (raise image signal [] a S m)
well_raise_plain image w signal a S m s r c = well_raise image w signal [] a S m s (λ k t. absurd (false≢true (sym (r k) ∙ t))) c

no_back : (image : Image) (fault k : ℕ) (signal : SignalId) → host_signal fault ≡ Some signal → takes_back image signal k ≡ false
unfolding host_signal takes_back
no_back image zero k signal e = subst (λ s. takes_back image s k ≡ false) (same_Some BoundsFault signal e) refl
no_back image (suc zero) k signal e = subst (λ s. takes_back image s k ≡ false) (same_Some ZeroDivisor signal e) refl
no_back image (suc (suc zero)) k signal e = subst (λ s. takes_back image s k ≡ false) (same_Some Unnamed signal e) refl
no_back image (suc (suc (suc n))) k signal e = absurd (none-some signal e)

host_there : (fault : ℕ) → fault ≤ 2 → (signal : SignalId) × (host_signal fault ≡ Some signal)
unfolding host_signal
host_there zero l = (BoundsFault, refl)
host_there (suc zero) l = (ZeroDivisor, refl)
host_there (suc (suc zero)) l = (Unnamed, refl)
host_there (suc (suc (suc n))) l = absurd (omega (arith, l))

-- Jumps within a region.

well_go : (image : Image) → World image → (target : ℕ) (operands : List ℕ) (a : Active) (S : Activations) (m : Store) → (s : Stand image (bares (a ∷ S)))
    → IsStart (spots ((s.0).at).p.code) target → region_at ((s.0).at).p.phrases target ≡ region_at ((s.0).at).p.phrases a.offset → Controlled image m.control
    → Well image (go_to target operands a S m)
unfolding go_to
well_go image w target operands a S m s start region c =
    ((moved image (bare a) (bares S) target operands s.0 (start_there ((s.0).at).p.code target start) region, s.1), c)

well_onward : (image : Image) → World image → (i : Instruction) (operands : List ℕ) (a : Active) (S : Activations) (m : Store) → (s : Stand image (bares (a ∷ S)))
    → instruction_at ((s.0).at).p.code a.offset ≡ Some i → ((h : Has image a.instance ((s.0).at).p) → goes_on (routine h.code ((s.0).at).p) i ≡ true) → Controlled image m.control
    → Well image (onward i operands a S m)
unfolding onward
well_onward image w i operands a S m s is g c = ((onward_fits image w (bare a) (bares S) i operands s.0 is g, s.1), c)

called_there : (image : Image) (j n : ℕ) (code : ModuleCode) → code_of image j ≡ Some code → (d : CodeProcedure) → 0 < n → n < length code.procedures
    → (p : CodeProcedure) × (called image j n ≡ Some p)
unfolding called procedure_of
called_there image j zero code is d l m = absurd (omega (arith, l))
called_there image j (suc n) code is d l m = (get_or code.procedures (suc n) d, rw is (slice_get-get_or code.procedures (suc n) d m))

-- Each instruction.

well_perform : (image : Image) → World image → (i : Instruction) (a : Active) (S : Activations) (m : Store) → (s : Stand image (bares (a ∷ S))) → Controlled image m.control
    → instruction_at ((s.0).at).p.code a.offset ≡ Some i → (h : Has image a.instance ((s.0).at).p) → StandsAt image a.instance ((s.0).at).p h a.offset i
    → touches i ≡ true → Well image (perform image i a S m)
unfolding perform
well_perform image w (Jump target) a S m s c is h k t = let j = k.stood.jump in well_go image w target _ a S m s j.start j.region c
well_perform image w (JumpIf target) a S m s c is h k t = let j = k.stood.jump in
    well_top image a.operands _ (λ x rest. well_if image (nat_eq x 0) _ _
    (well_onward image w (JumpIf target) rest a S m s is (λ h. refl) c) (well_go image w target rest a S m s j.start j.region c))
well_perform image w (JumpIfNot target) a S m s c is h k t = let j = k.stood.jump in
    well_top image a.operands _ (λ x rest. well_if image (nat_eq x 0) _ _
    (well_go image w target rest a S m s j.start j.region c) (well_onward image w (JumpIfNot target) rest a S m s is (λ h. refl) c))
well_perform image w (JumpBack target) a S m s c is h k t = let j = k.stood.jump in
    well_spend image m _ (λ m1 same. well_go image w target _ a S m1 s j.start j.region (subst (λ x. Controlled image x) (sym same) c))
well_perform image w (Call number) a S m s c is h k t =
    let f = (s.0).at in
    let l = length-map h.code.procedures words_of in
    let some = k.stood.operands.0 in let within = k.stood.operands.1 in
    let p = called_there image a.instance number h.code h.is f.p some (omega (arith, l, within)) in
    well_with image (called image a.instance number) p.0 m _ p.1
    (well_spend image m _ (λ m1 same. well_call image w a.instance number p.0 p.1 a S m1
    (record { p = f.p; is = f.is; i = Call number; there = is; goes = λ h2. refl }) s (subst (λ x. Controlled image x) (sym same) c)))
well_perform image w (CallLink link) a S m s c is h k t =
    let f = (s.0).at in
    let b = link_bound image w a f.p f.is link is in
    let calls : Calls image (bare a) = record { p = f.p; is = f.is; link = link; there = is } in
    well_with image (bound_to image a.instance link) b.0 m _ b.1
    (well_spend image m _ (λ m1 same. well_bound image w b.0 b.2 a S m1 (calls_go image (bare a) calls) calls s (subst (λ x. Controlled image x) (sym same) c)))
well_perform image w Return a S m s c is h k t =
    well_return image w a S m (frame_by ((s.0).at).p (bare_role a.role) _ ((s.0).at).role k.stood.operands) s c
well_perform image w (Raise number) a S m s c is h k t =
    let f = (s.0).at in
    let g = signal_there image a.instance number h.code h.is k.stood.operands in
    well_with image (signal_of image a.instance number) g.0 m _ g.1
    (well_raise_with image w (Own a.instance number) _ a S m s (λ n back. record {
      p = f.p;
      is = f.is;
      i = Raise number;
      there = is;
      goes = λ h2. ap (λ o. not (is_error_signal o)) (ap (λ (x : ModuleCode). slice_get x.signals number) (same_Some h2.code h.code (sym h2.is ∙ h.is)) ∙ g.2)
          ∙ ap not (raise_back image a.instance number n g.0 g.1 back);
    }) c)
well_perform image w (RaiseLink link) a S m s c is h k t =
    let f = (s.0).at in
    let g = link_raised image w a.instance link h.code h.is (slice_get h.code.links link) refl k.stood.operands in
    let b = g.3 in
    well_with image (link_of image a.instance link) g.0 m _ g.1
    (well_with image (bound_to image a.instance link) b.bound m _ b.is
    (well_with image (signal_bound (g.0).kind b.bound) b.signal m _ b.means
    (well_raise_with image w b.signal _ a S m s (λ n back. record {
      p = f.p;
      is = f.is;
      i = RaiseLink link;
      there = is;
      goes = λ h2. ap (λ o. not (is_error_link o)) (ap (λ (x : ModuleCode). slice_get x.links link) (same_Some h2.code h.code (sym h2.is ∙ h.is)) ∙ g.2)
          ∙ ap not (b.back n back);
    }) c)))
well_perform image w (RaiseHost fault) a S m s c is h k t =
    let g = host_there fault k.stood.operands in
    well_with image (host_signal fault) g.0 m _ g.1 (well_raise_plain image w g.0 a S m s (λ n. no_back image fault n g.0 g.1) c)
well_perform image w ArmEnd a S m s c is h k t = let f = (s.0).at in
    well_reject image w a.instance a.procedure f.p f.is a.role S m (arm_by f.p (bare_role a.role) _ f.role k.stood.operands) (s.0).over s.1 c
well_perform image w (Resume n) a S m s c is h k t = let f = (s.0).at in
    well_resume image w a.instance a.procedure f.p f.is n _ a.role S m (arm_by f.p (bare_role a.role) _ f.role k.stood.operands) (s.0).over s.1 c
well_perform image w (Leave arms target) a S m s c is h k t = let f = (s.0).at in let j = k.stood.jump in
    well_leave image w a.instance a.procedure f.p f.is (bare a) f.is a.role S m (arm_by f.p (bare_role a.role) _ f.role k.stood.operands) (s.0).over s.1 c
    (region_at f.p.phrases a.offset) f.role arms target j.some j.region (start_there f.p.code target j.start) (start_below f.p.code h.order target j.start)
well_perform image w (LeaveReturn arms) a S m s c is h k t = let f = (s.0).at in
    well_leave_return image w a.instance a.procedure f.p a.role S m (arm_by f.p (bare_role a.role) _ f.role k.stood.operands) (s.0).over s.1 c
well_perform image w _ a S m s c is h k t = absurd (false≢true t)

-- One step.

fault_back : (image : Image) (fault : WordFault) (k : ℕ) → takes_back image (fault_signal fault) k ≡ false
unfolding takes_back fault_signal
fault_back image OutOfBounds k = refl
fault_back image DividedByZero k = refl

touch_by : (texts : ℕ → ℕ → List ℕ) (number : ℕ) (i : Instruction) (x : Work) → works texts number i x ≡ Touches → (b : Bool) → touches i ≡ b → touches i ≡ true
touch_by texts number i x e true b = b
touch_by texts number i x e false b = absurd (false≢true (sym (no_touch texts number i x b) ∙ ap is_touch e))

goes_by : (texts : ℕ → ℕ → List ℕ) (number : ℕ) (i : Instruction) (x y : Work) → works texts number i x ≡ Works y → (image : Image) (j : ℕ) (p : CodeProcedure) (h : Has image j p)
    → goes_on (routine h.code p) i ≡ true
goes_by texts number i x y e image j p h = ⊎_elim (λ (g : goes_on (routine h.code p) i ≡ true). g)
    (λ (t : works texts number i x ≡ Touches). absurd (false≢true (ap is_touch (sym e ∙ t)))) (works_or_touches texts number (routine h.code p) i x)

well_worked : (image : Image) → World image → (i : Instruction) (a : Active) (S : Activations) (m : Store) → (s : Stand image (bares (a ∷ S))) → Controlled image m.control
    → instruction_at ((s.0).at).p.code a.offset ≡ Some i → (texts : ℕ → ℕ → List ℕ) (number : ℕ) (x : Work) (y : Worked) → works texts number i x ≡ y → Well image (worked image i y a S m)
unfolding worked
well_worked image w i a S m s c is texts number x (Works y) e = (
  subst (λ B. Stand image B) (sym (set_bares _ (own_frame a S) y.variables))
      (onward_fits image w (bare a) (bares S) i y.operands s.0 is (λ h. goes_by texts number i x y e image a.instance ((s.0).at).p h), s.1),
  c,
)
well_worked image w i a S m s c is texts number x (Faults fault) e =
    well_raise_plain image w (fault_signal fault) a S m s (fault_back image fault) c
well_worked image w i a S m s c is texts number x Touches e =
    let h = has_procedure image w a.instance a.procedure ((s.0).at).p ((s.0).at).is in
    well_perform image w i a S m s c is h (stands_at image a.instance ((s.0).at).p h a.offset i is) (touch_by texts number i x e (touches i) refl)

well_control : (image : Image) → World image → (control : List ℕ) (m : Store) → Controlled image control → Well image (start_next image control m)
unfolding start_next
well_control image w [] m c = ended_not _ refl
well_control image w (j ∷ rest) m c = well_if image (m.started j) _ _ (tt, c.1) (well_start image w j (c.0).0 (c.0).1 [] _ tt tt c.1)

well_run : (image : Image) → World image → (S : Activations) (m : Store) → Stand image (bares S) → Controlled image m.control → Well image (run image S m)
unfolding run begin works_in
well_run image w [] m s c = well_control image w m.control m c
well_run image w (a ∷ S) m s c =
    let f = (s.0).at in
    well_with image (instruction_under image a) (f.starts).instruction m _ (under_is image a f.p (f.starts).instruction f.is (f.starts).is)
    (well_worked image w (f.starts).instruction a S _ s c (f.starts).is _ _ _ _ refl)

pub well_step : (image : Image) → World image → (t : State) → Good image t → Well image (step image t)
unfolding step
well_step image w (Runs S m) g = well_run image w S m g.0 g.1
well_step image w (Seeks signal args q search S m) g = well_seek image w signal args q search S m g.0 g.1 g.2
well_step image w (Leaves t search S m) g = well_leave_step image w t search S m g.0 g.1 g.2 g.3

-- The whole run.

ends_well : (image : Image) → World image → (x : Stepped) (end : Ending) (m : Store) → Ends image x end m → Well image x → end ≢ Stuck
ends_well image w x end m (stops _ _) g = g
ends_well image w x end m (goes t _ _ e) g = ends_well image w (step image t) end m e (well_step image w t g)

none_past : {X : Type 0} (xs : List X) (k : ℕ) → slice_get xs k ≡ None → length xs ≤ k
none_past [] k e = omega arith
none_past (x ∷ xs) zero e = absurd (none-some x (sym e))
none_past (x ∷ xs) (suc k) e = let l = none_past xs k e in omega (arith, l)

module_body : (image : Image) → World image → (j : ℕ) (i : Instance) → slice_get image.instances j ≡ Some i → (o : Option Object) → slice_get image.modules i.module ≡ o
    → (body : CodeProcedure) × (procedure_of image j 0 ≡ Some body)
unfolding code_of module_number code_in
module_body image w j i e None is = absurd (let l = none_past image.modules i.module is in let m = w.ready.modules j i e in omega (arith, l, m))
module_body image w j i e (Some o) is =
    let code : code_of image j ≡ Some o.code = rw (e, is) refl in
    let r = right image w j o.code code in body_from image j o.code (slice_get o.code.procedures 0) refl r.ranges.body code

controlled : (image : Image) → World image → (control : List ℕ) → All (λ j. j < length image.instances) control → Controlled image control
controlled image w [] h = tt
controlled image w (j ∷ rest) h =
    let d : Instance = record { path = []; «module» = 0 } in
    let l : j < length image.instances = h 0 j (omega arith) in (
      module_body image w j (get_or image.instances j d) (slice_get-get_or image.instances j d l) (slice_get image.modules _) refl,
      controlled image w rest (λ k x m. h (suc k) x (omega (arith, m))),
    )

-- the ranges of all modules together, for what is a proposition
keeps_all : (objects : List Object) (P : Type 0) → IsProp P
    → (((n : ℕ) (o : Object) → slice_get objects n ≡ Some o → KeepsRanges o.code.global_words o.code.signals o.code.strings o.code.links o.code.procedures) → P) → P
keeps_all [] P prop k = k (λ n o e. absurd (none-some o e))
keeps_all (x ∷ objects) P prop k = keeps_all objects P prop (λ rest. ∥∥₁_elim x.code.ranges prop (λ r. k (keeps_more r rest)))
  where
    keeps_more : KeepsRanges x.code.global_words x.code.signals x.code.strings x.code.links x.code.procedures
        → ((n : ℕ) (o : Object) → slice_get objects n ≡ Some o → KeepsRanges o.code.global_words o.code.signals o.code.strings o.code.links o.code.procedures)
        → (n : ℕ) (o : Object) → slice_get (x ∷ objects) n ≡ Some o → KeepsRanges o.code.global_words o.code.signals o.code.strings o.code.links o.code.procedures
    keeps_more r rest zero o e =
        subst (λ (y : Object). KeepsRanges y.code.global_words y.code.signals y.code.strings y.code.links y.code.procedures) (same_Some x o e) r
    keeps_more r rest (suc n) o e = rest n o e

pub never_stuck : IsNeverStuck
unfolding begins fresh
never_stuck image ready input faulty turns output end left taken count run =
    let prop : IsProp (end ≢ Stuck) = hlevel in
    keeps_all image.modules (end ≢ Stuck) prop (λ keeps.
    let w : World image = record { ready = ready; keeps = keeps } in
    ends_well image w _ end run.last run.ends (tt, controlled image w image.control ready.control))
