-- Each step leads nearer to the end, where forward jumps go forward.
use Rattle.std.proofs.Common.{◌≡◌, ℕ, zero, suc, ◌+◌, ◌<◌, ◌≤◌, List, [], ◌∷◌, length, Bool, true, false, Option, Some, None, refl, sym, subst, arith}
use Rattle.std.specs.Prelude.{nat_eq, if◌then◌else◌, option_and_then}
use Rattle.std.proofs.lemmas.Option.{none-some}
use Rattle.code_forms.specs.declared.instruction.Instruction.{Instruction}
use Rattle.code_forms.specs.declared.instruction.Instruction.TheVariants.{Jump, JumpIf, JumpIfNot, JumpBack, Call, CallLink, Return, Raise, RaiseLink, RaiseHost, ArmEnd, Resume, Leave, LeaveReturn}
use Rattle.code_forms.specs.declared.module_code.CodeEntry.{CodeEntry}
use Rattle.code_forms.specs.declared.module_code.CodeProcedure.{CodeProcedure}
use Rattle.code_forms.specs.Depths.{forward_target}
use Rattle.code_forms.specs.Instructions.{bytes_of}
use Rattle.code_forms.proofs.Ordered.{some_bytes}
use Rattle.object_files.specs.declared.image.Image.{Image}
use Rattle.signaller.specs.declared.search.Found.{Found}
use Rattle.signaller.specs.declared.search.Found.TheVariants.{Arm as FoundArm, Beyond}
use Rattle.signaller.specs.declared.search.Search.{Search}
use Rattle.signaller.specs.declared.signal_id.SignalId.{SignalId}
use Rattle.machine_rules.specs.Words.{on_top}
use Rattle.machine_rules.specs.Working.{Worked, Works, Faults, Touches}
use Rattle.machine_rules.specs.State.{Target, Active, Activations, Store, State, Runs, Seeks, Leaves, Stepped, Goes, Stops}
use Rattle.machine_rules.specs.LookUps.{procedure_of, called, signal_of, link_of, bound_to, signal_bound, instruction_at, procedure_under, instruction_under}
use Rattle.machine_rules.specs.Activations.{activation_at, owner, own_frame, with_variables, set_variables}
use Rattle.machine_rules.specs.Moves.{with, spend, onward, go_to}
use Rattle.machine_rules.specs.Signals.{outward, asked, seek}
use Rattle.machine_rules.specs.Calls.{call, start_next}
use Rattle.machine_rules.specs.Leaving.{dropped, arrived, unwound, leave_step}
use Rattle.machine_rules.specs.Steps.{raise_with, host_signal, perform, fault_signal, worked, works_in, begin, run, step}
use Rattle.machine_rules.proofs.Measure.{Owned, owner_within, Stands, stands, weight, set_alike, ahead, ahead_less, ahead_most}
use Rattle.machine_rules.proofs.Below.{turns_of, acts_of, Down, fewer, lighter, Below, below_spend, below_start, below_call, below_raise, below_bound, below_return, below_arm, below_reject, below_resume, below_dropped, below_leave}

abbrev pub code_in : Option CodeProcedure → List CodeEntry
code_in None = []
code_in (Some p) = p.code

abbrev pub code_under : Image → Active → List CodeEntry
code_under image a = code_in (procedure_under image a)

-- what lies ahead of a state that keeps its turns and its activations' weight
abbrev pub ahead_of : Image → State → ℕ
ahead_of image (Runs [] m) = length m.control
ahead_of image (Runs (a ∷ S) m) = ahead (code_under image a) a.offset
ahead_of image (Seeks signal args q search S m) = q
ahead_of image (Leaves t search [] m) = 0
ahead_of image (Leaves t search (a ∷ S) m) = suc (length (code_under image a))

pub data Nearer (image : Image) (s t : State) : Type 0 where
  lower : Down (turns_of s) (weight (acts_of s)) t → Nearer image s t
  further : turns_of t ≡ turns_of s → weight (acts_of t) ≡ weight (acts_of s) → ahead_of image t < ahead_of image s → Nearer image s t

abbrev pub After : Image → State → Stepped → Type 0
After image s (Goes t) = Owned (acts_of t) × Nearer image s t
After image s (Stops end m) = Unit {0}

after_below : (image : Image) (s : State) (T W : ℕ) (x : Stepped) → T ≡ turns_of s → W ≤ weight (acts_of s) → Below T W x → After image s x
after_below image s T W (Goes t) e l b = (b.0, lower (subst (λ n. Down n (weight (acts_of s)) t) e (wide T W (weight (acts_of s)) t l b.1)))
  where
    wide : (T W W' : ℕ) (t : State) → W ≤ W' → Down T W t → Down T W' t
    wide T W W' t l (fewer f) = fewer f
    wide T W W' t l (lighter e w) = lighter e (omega (arith, l, w))
after_below image s T W (Stops end m) e l b = tt

after_with : {A : Type 0} (image : Image) (s : State) (o : Option A) (m : Store) (k : A → Stepped) → ((x : A) → o ≡ Some x → After image s (k x)) → After image s (with o m k)
unfolding with
after_with image s None m k h = tt
after_with image s (Some x) m k h = h x refl

after_if : (image : Image) (s : State) (b : Bool) (x y : Stepped) → After image s x → After image s y → After image s (if b then x else y)
after_if image s true x y p q = p
after_if image s false x y p q = q

after_top : (image : Image) (s : State) (operands : List ℕ) (k : ℕ → List ℕ → Stepped) → ((x : ℕ) (rest : List ℕ) → After image s (k x rest)) → After image s (on_top operands k)
after_top image s [] k h = h 0 []
after_top image s (x ∷ rest) k h = h x rest

-- Forward jumps go forward.

abbrev pub GoesForward : Image → Type 0
GoesForward image = (j p : ℕ) (procedure : CodeProcedure) → procedure_of image j p ≡ Some procedure → (offset target : ℕ) (i : Instruction)
    → instruction_at procedure.code offset ≡ Some i → forward_target i ≡ Some target → offset < target

-- the instruction at which an activation stands
pub record At (image : Image) (a : Active) (i : Instruction) : Type 0 where
  pub there : instruction_at (code_under image a) a.offset ≡ Some i
  pub forward : (target : ℕ) → forward_target i ≡ Some target → a.offset < target

at_of : (image : Image) → GoesForward image → (a : Active) (i : Instruction) (o : Option CodeProcedure) → procedure_under image a ≡ o
    → option_and_then (λ (p : CodeProcedure). instruction_at p.code a.offset) o ≡ Some i → At image a i
unfolding procedure_under
at_of image f a i None e is = absurd (none-some i is)
at_of image f a i (Some p) e is = record {
  there = subst (λ o. instruction_at (code_in o) a.offset ≡ Some i) (sym e) is;
  forward = λ target t. f a.instance a.procedure p e a.offset target i is t;
}

at_found : (image : Image) → GoesForward image → (a : Active) (i : Instruction) → instruction_under image a ≡ Some i → At image a i
unfolding instruction_under
at_found image f a i e = at_of image f a i (procedure_under image a) refl e

-- a state in which an activation goes on, at another offset
after_go : (image : Image) (a : Active) (S : Activations) (m m' : Store) (i : Instruction) (target : ℕ) (operands : List ℕ) → Owned (a ∷ S)
    → At image a i → m'.turns ≡ m.turns → a.offset < target → After image (Runs (a ∷ S) m) (go_to target operands a S m')
unfolding go_to procedure_under
after_go image a S m m' i target operands o at e l = (o, further e refl (ahead_less (code_under image a) a.offset target i l at.there))

-- Running.

after_low : (image : Image) (a : Active) (S : Activations) (m m' : Store) (W : ℕ) (x : Stepped) → m'.turns ≡ m.turns → W ≤ weight (a ∷ S)
    → Below m'.turns W x → After image (Runs (a ∷ S) m) x
after_low image a S m m' W x e l b = after_below image (Runs (a ∷ S) m) m'.turns W x e l b

-- what follows a turn that was spent
after_spend : (image : Image) (a : Active) (S : Activations) (m m' : Store) (W : ℕ) (k : Store → Stepped) → m'.turns ≡ m.turns
    → ((m1 : Store) → m1.turns < m'.turns → Below m1.turns W (k m1)) → After image (Runs (a ∷ S) m) (spend m' k)
after_spend image a S m m' W k e h = after_low image a S m m' 0 _ e (omega arith) (below_spend 0 W m' k h)

after_raise_with : (image : Image) (signal : SignalId) (n : ℕ) (a : Active) (S : Activations) (m m' : Store) → Owned (a ∷ S) → m'.turns ≡ m.turns
    → After image (Runs (a ∷ S) m) (raise_with image signal n a S m')
unfolding raise_with
after_raise_with image signal n a S m m' o e = after_low image a S m m' 0 _ e (omega arith) (below_raise image signal _ 0 _ S m' o)

after_call : (image : Image) (number : ℕ) (a : Active) (S : Activations) (m m' : Store) → Owned (a ∷ S) → m'.turns ≡ m.turns
    → After image (Runs (a ∷ S) m) (with (called image a.instance number) m' (λ p. spend m' (λ m1. call a.instance number p a S m1)))
unfolding with called
after_call image zero a S m m' o e = tt
after_call image (suc number) a S m m' o e = after_with image (Runs (a ∷ S) m) (called image a.instance (suc number)) m' _ (λ p is.
    after_spend image a S m m' (2 + weight (a ∷ S)) _ e (λ m1 l. below_call a.instance number p a S m1 o))

after_perform : (image : Image) (i : Instruction) (a : Active) (S : Activations) (m m' : Store) → Owned (a ∷ S) → At image a i → m'.turns ≡ m.turns
    → After image (Runs (a ∷ S) m) (perform image i a S m')
unfolding perform onward go_to procedure_under
after_perform image (Jump target) a S m m' o at e = after_go image a S m m' (Jump target) target a.operands o at e (at.forward target refl)
after_perform image (JumpIf target) a S m m' o at e = after_top image (Runs (a ∷ S) m) a.operands _ (λ x rest.
    after_if image (Runs (a ∷ S) m) (nat_eq x 0) _ _
    (after_go image a S m m' (JumpIf target) _ rest o at e (let b = some_bytes (JumpIf target) in omega (arith, b)))
    (after_go image a S m m' (JumpIf target) target rest o at e (at.forward target refl)))
after_perform image (JumpIfNot target) a S m m' o at e = after_top image (Runs (a ∷ S) m) a.operands _ (λ x rest.
    after_if image (Runs (a ∷ S) m) (nat_eq x 0) _ _
    (after_go image a S m m' (JumpIfNot target) target rest o at e (at.forward target refl))
    (after_go image a S m m' (JumpIfNot target) _ rest o at e (let b = some_bytes (JumpIfNot target) in omega (arith, b))))
after_perform image (JumpBack target) a S m m' o at e =
    after_spend image a S m m' (suc (weight (a ∷ S))) _ e (λ m1 l. (o, lighter refl (omega arith)))
after_perform image (Call number) a S m m' o at e = after_call image number a S m m' o e
after_perform image (CallLink k) a S m m' o at e = after_with image (Runs (a ∷ S) m) (bound_to image a.instance k) m' _ (λ l is.
    after_spend image a S m m' (2 + weight (a ∷ S)) _ e (λ m1 less. below_bound image l a S m1 o))
after_perform image Return a S m m' o at e = after_low image a S m m' (weight (a ∷ S)) _ e (omega arith) (below_return image a S m' o)
after_perform image (Raise k) a S m m' o at e = after_with image (Runs (a ∷ S) m) (signal_of image a.instance k) m' _ (λ s is.
    after_raise_with image _ s.args a S m m' o e)
after_perform image (RaiseLink k) a S m m' o at e = after_with image (Runs (a ∷ S) m) (link_of image a.instance k) m' _ (λ l is.
    after_with image (Runs (a ∷ S) m) (bound_to image a.instance k) m' _ (λ b bound.
    after_with image (Runs (a ∷ S) m) (signal_bound l.kind b) m' _ (λ signal are. after_raise_with image signal l.args a S m m' o e)))
after_perform image (RaiseHost fault) a S m m' o at e = after_with image (Runs (a ∷ S) m) (host_signal fault) m' _ (λ signal is.
    after_low image a S m m' 0 _ e (omega arith) (below_raise image signal [] 0 a S m' o))
after_perform image ArmEnd a S m m' o at e = after_low image a S m m' (weight (a ∷ S)) _ e (omega arith) (below_reject a.role a.procedure S m' o.1)
after_perform image (Resume n) a S m m' o at e =
    after_low image a S m m' (weight (a ∷ S)) _ e (omega arith) (below_resume image n _ a.role a.procedure S m' o.1)
after_perform image (Leave arms target) a S m m' o at e =
    after_low image a S m m' (weight (a ∷ S)) _ e (omega arith) (below_leave image (Some target) a.role a.procedure S m' o.1)
after_perform image (LeaveReturn arms) a S m m' o at e =
    after_low image a S m m' (weight (a ∷ S)) _ e (omega arith) (below_leave image None a.role a.procedure S m' o.1)
after_perform image _ a S m m' o at e = tt

head_if : (image : Image) (b : Bool) (a : Active) (S S' : Activations) (new : List ℕ) (m : Store)
    → ahead_of image (Runs (if b then record a { role = with_variables a.role new } ∷ S else a ∷ S') m) ≡ ahead (code_under image a) a.offset
unfolding procedure_under
head_if image true a S S' new m = refl
head_if image false a S S' new m = refl

set_ahead : (image : Image) (a : Active) (S : Activations) (q : ℕ) (new : List ℕ) (m : Store)
    → ahead_of image (Runs (set_variables (a ∷ S) q new) m) ≡ ahead (code_under image a) a.offset
unfolding set_variables
set_ahead image a S q new m = head_if image (nat_eq q (length S)) a S (set_variables S q new) new m

after_worked : (image : Image) (i : Instruction) (w : Worked) (a : Active) (S : Activations) (m m' : Store) → Owned (a ∷ S) → At image a i
    → m'.turns ≡ m.turns → After image (Runs (a ∷ S) m) (worked image i w a S m')
unfolding worked procedure_under
after_worked image i (Works w) a S m m' o at e =
    let b : Active = record a { offset = a.offset + bytes_of i; operands = w.operands } in
    let same = set_alike (b ∷ S) (own_frame a S) w.variables in
    let less = ahead_less (code_under image a) a.offset (a.offset + bytes_of i) i (let s = some_bytes i in omega (arith, s)) at.there in
    (same.owned o, further e same.heavy (rw (set_ahead image b S (own_frame a S) w.variables _) less))
after_worked image i (Faults fault) a S m m' o at e =
    after_low image a S m m' 0 _ e (omega arith) (below_raise image (fault_signal fault) [] 0 a S m' o)
after_worked image i Touches a S m m' o at e = after_perform image i a S m m' o at e

after_control : (image : Image) (control : List ℕ) (m : Store) → m.control ≡ control → After image (Runs [] m) (start_next image control m)
unfolding start_next
after_control image [] m e = tt
after_control image (j ∷ rest) m e = after_if image (Runs [] m) (m.started j) _ _
    (tt, further refl refl (rw e (omega arith)))
    (after_below image (Runs [] m) m.turns 0 _ refl (omega arith) (below_start image j 0 [] _ tt))

after_run : (image : Image) → GoesForward image → (S : Activations) (m : Store) → Owned S → After image (Runs S m) (run image S m)
unfolding run begin
after_run image f [] m o = after_control image m.control m refl
after_run image f (a ∷ S) m o = after_with image (Runs (a ∷ S) m) (instruction_under image a) m _ (λ i e.
    after_worked image i (works_in image i a S m) a S m _ o (at_found image f a i e) refl)

-- Seeking.

after_outward : (image : Image) (signal : SignalId) (args : List ℕ) (q : ℕ) (search : Search) (own : ℕ) (S : Activations) (m : Store) → Owned S → own ≤ q
    → After image (Seeks signal args q search S m) (outward image signal args own S m)
unfolding outward
after_outward image signal args q search zero S m o l = tt
after_outward image signal args q search (suc own) S m o l = after_with image (Seeks signal args q search S m) (activation_at S own) m _ (λ b e.
    (o, further refl refl (omega (arith, l))))

after_asked : (image : Image) (signal : SignalId) (args : List ℕ) (q : ℕ) (search : Search) (b : Active) (found : Found) (S : Activations) (m : Store)
    → Owned S → Stands S q b → After image (Seeks signal args q search S m) (asked image signal args b q found S m)
unfolding asked
after_asked image signal args q search b Beyond S m o s = after_outward image signal args q search (owner b.role q) S m o s.owned
after_asked image signal args q search b (FoundArm arm beyond) S m o s =
    after_below image (Seeks signal args q search S m) m.turns 0 _ refl (omega arith) (below_arm image arm b q _ args 0 S m o s.owned s.inside)

after_seek : (image : Image) (signal : SignalId) (args : List ℕ) (q : ℕ) (search : Search) (S : Activations) (m : Store) → Owned S
    → After image (Seeks signal args q search S m) (seek image signal args q search S m)
unfolding seek
after_seek image signal args q search S m o = after_with image (Seeks signal args q search S m) (activation_at S q) m _ (λ b e.
    after_asked image signal args q search b _ S m o (stands S q b o e))

-- Leaving.

after_arrived : (image : Image) (t : Target) (search : Search) (goal : Option ℕ) (a : Active) (S : Activations) (m : Store) → Owned (a ∷ S)
    → After image (Leaves t search (a ∷ S) m) (arrived image goal a S m)
unfolding arrived go_to procedure_under
after_arrived image t search None a S m o =
    after_below image (Leaves t search (a ∷ S) m) m.turns (weight (a ∷ S)) _ refl (omega arith) (below_return image a S m o)
after_arrived image t search (Some offset) a S m o =
    (o, further refl refl (let l = ahead_most (code_under image a) offset in omega (arith, l)))

after_dropped : (image : Image) (t : Target) (search : Search) (a : Active) (S : Activations) (m : Store) → Owned (a ∷ S)
    → After image (Leaves t search (a ∷ S) m) (dropped image t a.role S m)
after_dropped image t search a S m o =
    after_below image (Leaves t search (a ∷ S) m) m.turns (weight (a ∷ S)) _ refl (omega arith) (below_dropped image t a.role a.procedure S m o.1)

after_unwound : (image : Image) (t : Target) (search : Search) (a : Active) (found : Found) (S : Activations) (m : Store) → Owned (a ∷ S)
    → After image (Leaves t search (a ∷ S) m) (unwound image t a found S m)
unfolding unwound
after_unwound image t search a Beyond S m o = after_dropped image t search a S m o
after_unwound image t search a (FoundArm arm beyond) S m o =
    after_below image (Leaves t search (a ∷ S) m) m.turns 0 _ refl (omega arith)
    (below_arm image arm a (length S) _ [] 0 (a ∷ S) m o (owner_within a.role (length S) o.0) (omega arith))

after_leave : (image : Image) (t : Target) (search : Search) (S : Activations) (m : Store) → Owned S
    → After image (Leaves t search S m) (leave_step image t search S m)
unfolding leave_step
after_leave image t search [] m o = tt
after_leave image t search (a ∷ S) m o =
    after_if image (Leaves t search (a ∷ S) m) (nat_eq (length S) t.place) _ _ (after_arrived image t search t.goal a S m o)
    (after_if image (Leaves t search (a ∷ S) m) (nat_eq (own_frame a S) t.owner) _ _
    (after_dropped image t search a S m o) (after_unwound image t search a _ S m o))

pub after_step : (image : Image) → GoesForward image → (s : State) → Owned (acts_of s) → After image s (step image s)
unfolding step
after_step image f (Runs S m) o = after_run image f S m o
after_step image f (Seeks signal args q search S m) o = after_seek image signal args q search S m o
after_step image f (Leaves t search S m) o = after_leave image t search S m o
