-- Where the run of the topmost activation pauses, the machine does what the pause says.
use Rattle.std.proofs.Common.{◌≡◌, ℕ, zero, suc, List, ◌∷◌, Bool, true, false, length, Some, refl, sym, ap, ◌∙◌, nat_eq, arith}
use Rattle.std.specs.Prelude.{slice_get, slice_index, if◌then◌else◌}
use Rattle.std.proofs.lemmas.Bool.{false≢true, true≢false, eqb-true}
use Rattle.code_forms.specs.declared.instruction.Instruction.{Instruction}
use Rattle.code_forms.specs.declared.instruction.Instruction.TheVariants.{Jump, JumpIf, JumpIfNot, JumpBack, Call, CallLink, Return, Raise, RaiseLink, RaiseHost, ArmEnd, Resume, Leave, LeaveReturn}
use Rattle.code_forms.specs.declared.module_code.CodeEntry.{CodeEntry}
use Rattle.code_forms.specs.declared.module_code.CodeProcedure.{CodeProcedure}
use Rattle.code_forms.specs.declared.module_code.ModuleCode.{ModuleCode}
use Rattle.code_forms.specs.Valid.{Valid, HasDepths}
use Rattle.object_files.specs.declared.image.Image.{Image}
use Rattle.machine_rules.specs.declared.end.End.TheVariants.{Spent as TurnsSpent}
use Rattle.machine_rules.specs.State.{Active, Activations, Store, Runs, Ended, Stepped, Stops}
use Rattle.machine_rules.specs.LookUps.{module_number, text_of}
use Rattle.machine_rules.specs.Moves.{spend_of, spend, go_to}
use Rattle.machine_rules.specs.Steps.{perform, fault_signal, worked, works_in, step}
use Rattle.machine_rules.specs.Working.{works}
use Rattle.machine_rules.proofs.Onward.{touches, is_touch, no_touch}
use Rattle.machine_topmost.specs.declared.registers.Why.{Why}
use Rattle.machine_topmost.specs.declared.registers.Why.TheVariants.{Touches, Spent, BoundsFault, ZeroDivisor}
use Rattle.machine_topmost.specs.Flat.{Flat, Went, Paused, flat, operates, operates_long}
use Rattle.machine_topmost.specs.Running.{HasTargets, IsProcedureOf, Standing, flat_at}
use Rattle.machine_topmost.specs.Shown.{pause_shown, worked_shown, jumps_within}
use Rattle.machine_activations.specs.declared.row.Layout.{Layout}
use Rattle.machine_activations.specs.declared.row.Row.{Row}
use Rattle.machine_activations.specs.Placed.{floor_at}
use Rattle.machine_activations.specs.Shows.{IsPrepared, Shows}
use Rattle.machine_activations.specs.Reaching.{pauses_so}
use Rattle.machine_activations.proofs.Following.{began, step_is, works_are}

went_not : (t : Flat) (why : Why) → Went t ≡ Paused why → ⊥
went_not t why h = cc

-- what pauses as if no turn were left is no instruction that touches more
not_spent : (texts : ℕ → ℕ → List ℕ) (number : ℕ) (i : Instruction) (target : ℕ) (s : Flat) → touches i ≡ true → jumps_within i ≡ false → flat texts number i target s ≡ Paused Spent → ⊥
unfolding flat operates operates_long
not_spent texts number (Jump x) target s t j h = true≢false j
not_spent texts number (JumpIf x) target s t j h = true≢false j
not_spent texts number (JumpIfNot x) target s t j h = true≢false j
not_spent texts number (JumpBack x) target s t j h = true≢false j
not_spent texts number (Call x) target s t j h = cc
not_spent texts number (CallLink x) target s t j h = cc
not_spent texts number Return target s t j h = cc
not_spent texts number (Raise x) target s t j h = cc
not_spent texts number (RaiseLink x) target s t j h = cc
not_spent texts number (RaiseHost x) target s t j h = cc
not_spent texts number ArmEnd target s t j h = cc
not_spent texts number (Resume x) target s t j h = cc
not_spent texts number (Leave x y) target s t j h = cc
not_spent texts number (LeaveReturn x) target s t j h = cc
not_spent texts number _ target s t j h = false≢true t

module _ (image : Image) (layout : Layout) (prepared : IsPrepared image layout) (table : List Row) (code : ModuleCode) (p : CodeProcedure) (valid : Valid code) (depths : HasDepths code)
    (of : IsProcedureOf code p) (targets : List ℕ) (leads : HasTargets p.code targets) (number : ℕ) (s : Flat) (a : Active) (S : Activations)
    (shows : Shows image layout s.region table s.registers p a S) (numbered : module_number image a.instance ≡ Some number)
    (standing : Standing code p (length s.region) (length s.globals) (floor_at layout (length S)) s.registers) (e : CodeEntry) (fetched : slice_get p.code s.registers.entry ≡ Some e)
    (m : Store) (same : m.globals a.instance ≡ s.globals) (turns : m.turns ≡ s.turns) where
  abbrev target : ℕ
  target = slice_index targets s.registers.entry

  steps : step image (Runs (a ∷ S) m) ≡ worked image e.instruction (works_in image e.instruction a S m) a S (began m)
  steps = step_is image layout prepared table code p valid depths of targets leads number s a S shows numbered standing e fetched m

  touch_by : (b : Bool) → touches e.instruction ≡ b → jumps_within e.instruction ≡ false → flat (text_of image) number e.instruction target s ≡ Paused Spent → ⊥
  unfolding works_in
  touch_by true t still h = not_spent (text_of image) number e.instruction target s t still h
  touch_by false t still h =
      let works = works_are image layout prepared table code p valid depths of targets leads number s a S shows numbered standing e fetched m same still ∙ ap (λ f. worked_shown p.frame (floor_at layout (length S)) f) h in
      let none = no_touch (text_of image) _ e.instruction _ t in
      false≢true (sym none ∙ ap is_touch works)

  faults : (why : Why) → (why ≡ Spent → ⊥) → worked image e.instruction (pause_shown why) a S (began m) ≡ pauses_so image why e.instruction a S (began m)
  unfolding worked fault_signal pauses_so
  faults Touches other = refl
  faults Spent other = absurd (other refl)
  faults BoundsFault other = refl
  faults ZeroDivisor other = refl

  works_pause : (why : Why) → jumps_within e.instruction ≡ false → flat (text_of image) number e.instruction target s ≡ Paused why
      → step image (Runs (a ∷ S) m) ≡ pauses_so image why e.instruction a S (began m)
  works_pause why still h =
      steps
      ∙ ap (λ w. worked image e.instruction w a S (began m))
      (works_are image layout prepared table code p valid depths of targets leads number s a S shows numbered standing e fetched m same still ∙ ap (λ f. worked_shown p.frame (floor_at layout (length S)) f) h)
      ∙ faults why (λ is. touch_by (touches e.instruction) refl still (h ∙ ap Paused is))

  -- no turn is left for a jump back
  none_left : (n : ℕ) (m : Store) (k : Store → Stepped) → n ≡ 0 → spend_of n m k ≡ Stops (Ended TurnsSpent) m
  unfolding spend_of
  none_left zero m k is = refl
  none_left (suc n) m k is = absurd (omega (arith, is))

  back_pauses : (b : Bool) (u : Flat) (why : Why) → nat_eq s.turns 0 ≡ b → (if b then Paused Spent else Went u) ≡ Paused why → (s.turns ≡ 0) × (why ≡ Spent)
  back_pauses true u why zero_left h = (eqb-true s.turns 0 zero_left, cc)
  back_pauses false u why zero_left h = absurd (went_not u why h)

  jumps_pause : (why : Why) (i : Instruction) → jumps_within i ≡ true → e.instruction ≡ i → flat (text_of image) number i target s ≡ Paused why
      → step image (Runs (a ∷ S) m) ≡ pauses_so image why i a S (began m)
  unfolding flat works_in works worked perform spend pauses_so
  jumps_pause why (Jump offset) j is h = absurd (went_not _ why h)
  jumps_pause why (JumpIf offset) j is h = absurd (went_not _ why h)
  jumps_pause why (JumpIfNot offset) j is h = absurd (went_not _ why h)
  jumps_pause why (JumpBack offset) j is h =
      let spent = back_pauses (nat_eq s.turns 0) _ why refl h in
      steps
      ∙ ap (λ i. worked image i (works_in image i a S m) a S (began m)) is
      ∙ none_left m.turns (began m) (λ m1. go_to offset a.operands a S m1) (turns ∙ spent.0)
      ∙ ap (λ w. pauses_so image w (JumpBack offset) a S (began m)) (sym spent.1)
  jumps_pause why _ j is h = absurd (false≢true j)

  pause_by : (b : Bool) (why : Why) → jumps_within e.instruction ≡ b → flat (text_of image) number e.instruction target s ≡ Paused why
      → step image (Runs (a ∷ S) m) ≡ pauses_so image why e.instruction a S (began m)
  pause_by true why j h = jumps_pause why e.instruction j refl h
  pause_by false why j h = works_pause why j h

  pub pauses_here : (why : Why) → flat_at (text_of image) number targets e s ≡ Paused why → step image (Runs (a ∷ S) m) ≡ pauses_so image why e.instruction a S (began m)
  pauses_here why h = pause_by (jumps_within e.instruction) why refl h
