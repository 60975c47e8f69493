-- How long a run can be, that its signals are there, and that it comes to an end from where activations are shown.
use Rattle.std.proofs.Common.{◌≡◌, ℕ, suc, ◌+◌, ◌-◌, ◌<◌, ◌≤◌, List, [], ◌∷◌, length, Bool, Some, refl, sym, subst, arith}
use Rattle.std.specs.Prelude.{slice_get, IsSome}
use Rattle.std.proofs.lemmas.Option.{none-some, same_Some, slice_get_within, option_and_then_some}
use Rattle.code_forms.specs.declared.module_code.CodeEntry.{CodeEntry}
use Rattle.code_forms.specs.declared.module_code.CodeKind.{CodeKind}
use Rattle.code_forms.specs.declared.module_code.CodeKind.TheVariants.{Procedure, Signal, Error}
use Rattle.code_forms.specs.declared.module_code.CodeProcedure.{CodeProcedure}
use Rattle.code_forms.specs.declared.module_code.ModuleCode.{ModuleCode}
use Rattle.object_files.specs.declared.image.Image.{Image}
use Rattle.object_files.specs.declared.image.Link.{Link}
use Rattle.object_files.specs.declared.image.Link.TheVariants.{Wanted, To}
use Rattle.signaller.specs.declared.signal_id.SignalId.{SignalId}
use Rattle.signaller.specs.declared.signal_id.SignalId.TheVariants.{Own, NoInput}
use Rattle.machine_rules.specs.declared.end.End.{End}
use Rattle.machine_rules.specs.declared.end.End.TheVariants.{Done, Uncaught, Spent, FrameLimit}
use Rattle.machine_rules.specs.State.{ForRaise, ForJump, Role, Frame, InArm, Active, Activations, Store, Runs, Ending, Ended, Stepped, Goes}
use Rattle.machine_rules.specs.LookUps.{code_of, procedure_of, signal_bound, instruction_under}
use Rattle.machine_rules.specs.Laws.{HasValidCode, IsBound, CanRun}
use Rattle.machine_rules.specs.Steps.{Ends, fresh, begins}
use Rattle.machine_rules.proofs.Measure.{OwnedRole, Owned}
use Rattle.machine_rules.proofs.OneResult.{finishes, goes_forward}
use Rattle.machine_rules.proofs.Unstuck.{never_stuck}
use Rattle.machine_activations.specs.declared.row.Layout.{Layout}
use Rattle.machine_activations.specs.declared.row.Row.{Row}
use Rattle.machine_activations.specs.Below.{Over, over, OwnedBy, Below}
use Rattle.machine_activations.specs.Reaching.{IsUnstuck, Reaches}
use Rattle.machine_activations.specs.Shows.{IsPrepared, Shows}
use Rattle.machine_activations.proofs.Homes.{frame_within}
use Rattle.machine_activations.proofs.Located.{stands_at}
use Rattle.machine_topmost.specs.declared.registers.Registers.{Registers}
use Rattle.machine_ready.proofs.Largest.{largest_bounds}
use Rattle.machine_ready.proofs.Reading.{code_at}
use Rattle.frame_machine.specs.Longest.{reach, most}
use Rattle.frame_machine.specs.Running.{SignalIsInRange, EndIsInRange}
use Rattle.frame_machine.proofs.Walk.{itself, RightRole, AllRight, EndIsRight, IsFit, IsWide, RaisesRight, runs}
use Rattle.frame_machine.proofs.Whole.{CanRunOn, Ran, ran, begins_one}
use Rattle.machine_activations.proofs.Reach.{ends_alike}

code_short : (image : Image) (j n : ℕ) (p : CodeProcedure) → procedure_of image j n ≡ Some p → length p.code < reach image
unfolding procedure_of
code_short image j n p e = option_and_then_some (λ (m : ModuleCode). slice_get m.procedures n) (code_of image j) p e (λ m found is.
    let h = code_at image j m found in
    let own : slice_get h.object.code.procedures n ≡ Some p = subst (λ (c : ModuleCode). slice_get c.procedures n ≡ Some p) (sym h.code) is in
    let l = largest_bounds (λ x. length x.code) 0 image.modules h.instance.module n h.object p h.there own in omega (arith, l))

pub wide : (image : Image) → IsWide image (reach image)
wide image = record { places = omega arith; code = code_short image }

-- Signals.

abbrev pub AnySignal : SignalId → Type 0
AnySignal signal = Unit {0}

pub any_right : (image : Image) → RaisesRight image AnySignal
any_right image = record { own = λ j k s e. tt; link = λ j k l b signal is bound means. tt; bounds = tt; divisor = tt; input = tt; unnamed = tt }

any_role : (role : Role (List ℕ)) → RightRole AnySignal role
any_role (Frame variables) = tt
any_role (InArm own arm (ForRaise signal args beyond)) = tt
any_role (InArm own arm (ForJump target beyond)) = tt

any_all : (S : Activations) → AllRight AnySignal S
any_all [] = tt
any_all (a ∷ S) = (any_role a.role, any_all S)

signal_there : (image : Image) (kind : CodeKind) (b : Link) (signal : SignalId) → IsBound image kind (Some b) → signal_bound kind b ≡ Some signal → SignalIsInRange image signal
unfolding signal_bound
signal_there image Procedure b signal h e = absurd (none-some signal e)
signal_there image Signal (Wanted n) signal h e = subst (SignalIsInRange image) (same_Some NoInput signal e) tt
signal_there image Error (Wanted n) signal h e = subst (SignalIsInRange image) (same_Some NoInput signal e) tt
signal_there image Signal (To j k) signal h e = subst (SignalIsInRange image) (same_Some (Own j k) signal e) (subst (λ o. IsSome o) (sym h.1) refl)
signal_there image Error (To j k) signal h e = subst (SignalIsInRange image) (same_Some (Own j k) signal e) (subst (λ o. IsSome o) (sym h.1) refl)

own_right : (image : Image) → CanRun image → RaisesRight image (SignalIsInRange image)
own_right image can = record {
  own = λ j k s e. subst (λ o. IsSome o) (sym e) refl;
  link = λ j k l b signal is bound means. signal_there image l.kind b signal (subst (λ o. IsBound image l.kind o) bound (can.links j k l is)) means;
  bounds = tt;
  divisor = tt;
  input = tt;
  unnamed = tt;
}

range_of : (image : Image) (end : End) → EndIsRight (SignalIsInRange image) end → EndIsInRange image end
range_of image Done h = tt
range_of image (Uncaught signal) h = h
range_of image Spent h = tt
range_of image FrameLimit h = tt

-- Whole runs.

module _ (image : Image) (can : CanRun image) (input : List ℕ) (faulty : Bool) (turns : ℕ) where
  first_fit : (R : SignalId → Type 0) → IsFit image R (reach image) (Runs [] (fresh image input faulty turns))
  unfolding fresh
  first_fit R = record { long = omega arith; right = tt; ahead = omega arith; control = omega arith; signal = tt }

  whole : (R : SignalId → Type 0) → RaisesRight image R → (end : Ending) (last : Store) → Ends image (begins image input faulty turns) end last
      → Ran image R (reach image) (begins image input faulty turns) end last
  unfolding begins
  whole R right end last e = ran image R (reach image) (wide image) right (goes_forward image can.code) (Goes (Runs [] (fresh image input faulty turns))) (first_fit R, tt) end last e

  -- it begins so many instructions at most
  pub begun_most : (end : Ending) (last : Store) → Ends image (begins image input faulty turns) end last → last.begun ≤ most image turns
  unfolding begins fresh
  begun_most end last e = let r : last.begun ≤ 0 + most image turns = (whole AnySignal (any_right image) end last e).few in omega (arith, r)

  -- a signal that nothing catches is there
  pub ends_in_range : (end : End) (last : Store) → Ends image (begins image input faulty turns) (Ended end) last → EndIsInRange image end
  unfolding begins
  ends_in_range end last e = range_of image end (whole (SignalIsInRange image) (own_right image can) (Ended end) last e).right

  pub unstuck : IsUnstuck image (begins image input faulty turns)
  unstuck end last e =
      never_stuck image can input faulty turns last.output end last.turns (length input - length last.input) last.begun
      (record { last = last; ends = e; its_output = refl; its_turns = refl; its_input = refl; its_count = refl })

-- From where activations are shown.

owned_role : (role : Role (List ℕ)) (j n : ℕ) (S : Activations) → OwnedBy role j n S → OwnedRole role (length S)
unfolding OwnedBy
owned_role (Frame variables) j n S o = tt
owned_role (InArm own arm why) j n S o = frame_within S own _ o

owned_below : (image : Image) (layout : Layout) (region : List ℕ) (table : List Row) (x : Over) (S : Activations) → Below image layout region table x S → Owned S
unfolding Below
owned_below image layout region table x [] b = tt
owned_below image layout region table x (a ∷ S) b = (owned_role a.role a.instance a.procedure S b.1, owned_below image layout region table (over a) S b.2)

-- it ends, and so on
pub record Goes_on (image : Image) (x : Stepped) : Type 0 where
  pub end : Ending
  pub last : Store
  pub ends : Ends image x end last
  pub so : Ran image AnySignal (reach image) x end last
  pub runs_on : CanRunOn image AnySignal (reach image) x

pub goes_on : (image : Image) → HasValidCode image → (layout : Layout) (region : List ℕ) (table : List Row) (r : Registers) (p : CodeProcedure) (a : Active) (S : Activations)
    → Shows image layout region table r p a S → length table ≡ 8192 → (n : Store) → length n.control ≤ reach image → Goes_on image (Goes (Runs (a ∷ S) n))
goes_on image valid layout region table r p a S shows long n short =
    let owned : Owned (a ∷ S) = (owned_role a.role a.instance a.procedure S shows.owned, owned_below image layout region table (over a) S shows.below) in
    let f = finishes image (goes_forward image valid) (Runs (a ∷ S) n) owned in
    let within = slice_get_within table (length S) shows.rowed.row shows.rowed.there in
    let fit = (runs image AnySignal (reach image) (wide image) (any_right image) n short (a ∷ S) n (itself n) (omega (arith, within, long)) (any_all (a ∷ S))).0 in
    record {
      end = f.end;
      last = f.last;
      ends = f.ends;
      so = ran image AnySignal (reach image) (wide image) (any_right image) (goes_forward image valid) (Goes (Runs (a ∷ S) n)) (fit, owned) f.end f.last f.ends;
      runs_on = (fit, owned);
    }

-- where its topmost activation stands at an entry, a run begins one instruction more
pub begun_less : (image : Image) → CanRun image → (layout : Layout) → IsPrepared image layout → (region : List ℕ) (table : List Row) (r : Registers) (p : CodeProcedure) (a : Active) (S : Activations)
    → Shows image layout region table r p a S → length table ≡ 8192 → (n : Store) → length n.control ≤ reach image → (e : CodeEntry) → slice_get p.code r.entry ≡ Some e
    → (input : List ℕ) (faulty : Bool) (turns : ℕ) → Reaches image (begins image input faulty turns) (Goes (Runs (a ∷ S) n)) → suc n.begun ≤ most image turns
begun_less image can layout prepared region table r p a S shows long n short e fetched input faulty turns reaches =
    let g = goes_on image can.code layout region table r p a S shows long n short in
    let here : instruction_under image a ≡ Some e.instruction = stands_at image layout prepared a p shows.is r.entry e fetched shows.begins in
    let one = begins_one image AnySignal (reach image) (wide image) (any_right image) (goes_forward image can.code) a S n g.runs_on.0 g.runs_on.1 e.instruction here g.end g.last g.ends in
    let all = begun_most image can input faulty turns g.end g.last (ends_alike image _ _ reaches g.end g.last g.ends) in omega (arith, one, all)
