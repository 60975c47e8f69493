-- What comes of the instruction at which the topmost activation stands where its run pauses.
use Rattle.std.proofs.Common.{◌≡◌, ℕ, suc, ◌+◌, ◌<◌, List, ◌∷◌, length, Bool, false, refl, sym, ap, subst, ◌∙◌, arith}
use Rattle.std.proofs.lemmas.Bool.{false≢true}
use Rattle.std.proofs.lemmas.Option.{none-some, same_Some}
use Rattle.code_forms.specs.declared.instruction.Instruction.{Instruction}
use Rattle.code_forms.specs.declared.instruction.Instruction.TheVariants.{Jump, JumpIf, JumpIfNot, JumpBack, Call, CallLink, Return, Raise, RaiseLink, RaiseHost, ArmEnd, Resume, Leave, LeaveReturn}
use Rattle.code_forms.specs.declared.module_code.CodeEntry.{CodeEntry}
use Rattle.object_files.specs.declared.image.Image.{Image}
use Rattle.machine_rules.specs.State.{Active, Activations, Store, Runs, Stuck, Stepped, Stops}
use Rattle.machine_rules.specs.Steps.{Ends, stops, goes, perform}
use Rattle.machine_topmost.specs.declared.registers.Registers.{Registers}
use Rattle.machine_topmost.specs.declared.registers.Why.TheVariants.{Touches}
use Rattle.machine_activations.specs.declared.calling.Sequel.{Sequel}
use Rattle.machine_activations.specs.declared.calling.Sequel.TheVariants.{Goes as GoesOn, Empty, Pending, Ends as EndsSo}
use Rattle.machine_activations.specs.declared.row.Layout.{Layout}
use Rattle.machine_activations.specs.declared.row.Row.{Row}
use Rattle.machine_activations.specs.Calling.{StandsIn, AddsFrame, GoesBelow, LeadsTo}
use Rattle.machine_activations.specs.Reaching.{IsUnstuck, pauses_so}
use Rattle.machine_activations.specs.Shows.{IsPrepared, IsAmple}
use Rattle.machine_activations.proofs.Placing.{fetched_here}
use Rattle.machine_activations.proofs.Standing.{low}
use Rattle.machine_calls.specs.declared.linking.LinkSequel.{LinkSequel}
use Rattle.machine_calls.specs.declared.linking.LinkSequel.TheVariants.{Done, Host}
use Rattle.machine_calls.specs.Linking.{StandsAt, LinkLeads, LinkedTo, AddsFrameForLink}
use Rattle.machine_calls.specs.Started.{ShowsStarted}
use Rattle.machine_signals.specs.Raising.{ArmsHold, HoldsOn}
use Rattle.machine_signals.proofs.ArmRows.{arms_fewer}
use Rattle.machine_signals.proofs.Framed.{arms_framed}
use Rattle.machine_ready.specs.declared.prepared.Prepared.{Prepared}
use Rattle.frame_machine.specs.Happening.{CanPause, HoldsOnLink, is_call}
use Rattle.frame_machine.specs.SoFar.{IsNoJump, PausesAt}
use Rattle.frame_machine.proofs.Pauses.{touches_shown}
use Rattle.machine_activations.proofs.Reach.{ends_alike}

-- What is read of the topmost activation.

pub can_stand : (image : Image) (p : Prepared) (r : Registers) → CanPause image p r Touches → StandsIn image p.stack.layout p.stack.region.items p.stack.rows.items r
can_stand image p r c = record {
  start = c.start;
  unstuck = c.unstuck;
  store = c.store;
  shown = touches_shown image p.stack.layout p.stack.region.items p.stack.rows.items r c.start c.store c.pauses;
}

pub top_there : (image : Image) (layout : Layout) → IsPrepared image layout → (region : List ℕ) (table : List Row) (r : Registers) → StandsIn image layout region table r
    → IsAmple layout region table r.top → r.top < length table
top_there image layout prepared region table r stands ample =
    let h = stands.shown in
    let l = low image layout prepared region table r h.procedure h.top h.rest h.shows ample in let k = ample.long in omega (arith, l, k)

-- The rows of arms.

-- a frame was added, or none
pub arms_added : (image : Image) (layout : Layout) (table : List Row) (r : Registers) (table' : List Row) (sequel : Sequel) → r.top < length table → AddsFrame layout table r table' sequel
    → ArmsHold image table r.top → HoldsOn image table' sequel
arms_added image layout table r table' (GoesOn r') there adds holds =
    subst (λ q. ArmsHold image table' q) (sym (ap (λ (x : Registers). x.top) adds.3))
    (subst (λ (t : List Row). ArmsHold image t (r.top + 1)) (sym adds.4) (arms_framed image table r layout adds.0 adds.1 adds.2 there holds))
arms_added image layout table r table' Empty there adds holds = tt
arms_added image layout table r table' (Pending r') there adds holds = absurd adds
arms_added image layout table r table' (EndsSo end) there adds holds = tt

pub arms_linked : (image : Image) (layout : Layout) (table : List Row) (r : Registers) (table' : List Row) (sequel : LinkSequel) → r.top < length table
    → AddsFrameForLink layout table r table' sequel → ArmsHold image table r.top → HoldsOnLink image table' r sequel
arms_linked image layout table r table' (Done sequel) there adds holds = arms_added image layout table r table' sequel there adds holds
arms_linked image layout table r table' (Host h) there adds holds = subst (λ (t : List Row). ArmsHold image t r.top) (sym adds) holds

-- the topmost activation was given up
pub arms_below : (image : Image) (table : List Row) (r : Registers) (sequel : Sequel) → GoesBelow r sequel → ArmsHold image table r.top → HoldsOn image table sequel
arms_below image table r (GoesOn r') below holds = arms_fewer image table r.top r'.top (omega (arith, below)) holds
arms_below image table r Empty below holds = tt
arms_below image table r (Pending r') below holds = arms_fewer image table r.top r'.top (omega (arith, below)) holds
arms_below image table r (EndsSo end) below holds = tt

-- Where the machine comes to.

-- a sequel that starts no instance
pub linked_by : (image : Image) (layout : Layout) (region : List ℕ) (table : List Row) (r : Registers) (marks marks' : List Bool) (s : Stepped) (n : Store) (sequel : Sequel) → marks' ≡ marks
    → ShowsStarted marks n.started → LeadsTo image layout region table s n sequel → LinkedTo image layout region table r marks' s n (Done sequel)
unfolding LinkLeads
linked_by image layout region table r marks marks' s n sequel same shown leads =
    record { started = n.started; shown = subst (λ (l : List Bool). ShowsStarted l n.started) (sym same) shown; leads = leads }

-- Instructions that touch more.

-- none that calls or returns
pub no_call : (i : Instruction) → ((k : ℕ) → i ≡ Call k → ⊥) → ((k : ℕ) → i ≡ CallLink k → ⊥) → (i ≡ Return → ⊥) → is_call i ≡ false
no_call (Call k) call link return = absurd (call k refl)
no_call (CallLink k) call link return = absurd (link k refl)
no_call Return call link return = absurd (return refl)
no_call _ call link return = refl

-- none that raises, or ends or leaves an arm
pub record NoSignal (i : Instruction) : Type 0 where
  pub own : (k : ℕ) → i ≡ Raise k → ⊥
  pub linked : (k : ℕ) → i ≡ RaiseLink k → ⊥
  pub predeclared : (k : ℕ) → i ≡ RaiseHost k → ⊥
  pub end : i ≡ ArmEnd → ⊥
  pub resume : (n : ℕ) → i ≡ Resume n → ⊥
  pub leave : (arms target : ℕ) → i ≡ Leave arms target → ⊥
  pub leave_return : (arms : ℕ) → i ≡ LeaveReturn arms → ⊥

stuck_at : (image : Image) (i : Instruction) (a : Active) (S : Activations) (m : Store) → is_call i ≡ false → NoSignal i → IsNoJump i → perform image i a S m ≡ Stops Stuck m
unfolding perform
stuck_at image (Call k) a S m call other jump = absurd (false≢true (sym call))
stuck_at image (CallLink k) a S m call other jump = absurd (false≢true (sym call))
stuck_at image Return a S m call other jump = absurd (false≢true (sym call))
stuck_at image (Raise k) a S m call other jump = absurd (other.own k refl)
stuck_at image (RaiseLink k) a S m call other jump = absurd (other.linked k refl)
stuck_at image (RaiseHost k) a S m call other jump = absurd (other.predeclared k refl)
stuck_at image ArmEnd a S m call other jump = absurd (other.end refl)
stuck_at image (Resume n) a S m call other jump = absurd (other.resume n refl)
stuck_at image (Leave arms target) a S m call other jump = absurd (other.leave arms target refl)
stuck_at image (LeaveReturn arms) a S m call other jump = absurd (other.leave_return arms refl)
stuck_at image (Jump target) a S m call other jump = absurd (none-some target (sym jump.0))
stuck_at image (JumpIf target) a S m call other jump = absurd (none-some target (sym jump.0))
stuck_at image (JumpIfNot target) a S m call other jump = absurd (none-some target (sym jump.0))
stuck_at image (JumpBack target) a S m call other jump = absurd (none-some target (sym jump.1))
stuck_at image _ a S m call other jump = refl

module _ (image : Image) (layout : Layout) (prepared : IsPrepared image layout) (region : List ℕ) (table : List Row) (r : Registers) (i : Instruction) (at : StandsAt image table r i)
    (s : Stepped) (m : Store) (q : PausesAt image layout region table r Touches s m) where
  same_entry : q.entry.instruction ≡ i
  same_entry =
      let f = fetched_here image layout prepared region table r q.procedure q.top q.rest q.shows at.code at.is_code i at.at in
      ap (λ (e : CodeEntry). e.instruction) (same_Some q.entry at.at.entry (sym q.fetched ∙ f)) ∙ at.at.at

  -- where the machine is not stuck it is one of these
  pub not_there : IsUnstuck image s → is_call i ≡ false → NoSignal i → ⊥
  unfolding pauses_so
  not_there free call other =
      let began : Store = record m { begun = suc m.begun } in
      let stuck : perform image q.entry.instruction q.top q.rest began ≡ Stops Stuck began =
      ap (λ k. perform image k q.top q.rest began) same_entry ∙ stuck_at image i q.top q.rest began call other (subst (λ k. IsNoJump k) same_entry (q.no_jump refl)) in
      free Stuck began
      (ends_alike image _ _ q.reaches Stuck began (goes (Runs (q.top ∷ q.rest) m) Stuck began (subst (λ x. Ends image x Stuck began) (sym (q.pauses ∙ stuck)) (stops Stuck began)))) refl
