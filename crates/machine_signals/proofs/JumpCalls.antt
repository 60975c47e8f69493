-- The instructions that jump out of arms.
use Rattle.std.proofs.Common.{◌≡◌, ℕ, suc, List, ◌∷◌, Some, None, ap, subst}
use Rattle.code_forms.specs.declared.instruction.Instruction.TheVariants.{Leave, LeaveReturn}
use Rattle.code_forms.specs.declared.module_code.ModuleCode.{ModuleCode}
use Rattle.code_forms.specs.Depths.{outward_target}
use Rattle.code_forms.specs.Jumps.{JumpsRightly}
use Rattle.code_forms.specs.Routine.{routine}
use Rattle.object_files.specs.declared.image.Image.{Image}
use Rattle.machine_rules.specs.State.{Store, Runs, Stepped}
use Rattle.machine_rules.specs.Leaving.{leave}
use Rattle.machine_rules.specs.Steps.{perform, worked, works_in, step}
use Rattle.machine_rules.specs.Working.{works}
use Rattle.machine_topmost.specs.declared.registers.Registers.{Registers}
use Rattle.machine_activations.specs.declared.row.Layout.{Layout}
use Rattle.machine_activations.specs.declared.row.Row.{Row}
use Rattle.machine_activations.specs.Calling.{IsCodeOf, IsAt, StandsIn}
use Rattle.machine_activations.specs.Reaching.{Shown}
use Rattle.machine_activations.specs.Shows.{IsPrepared}
use Rattle.machine_activations.proofs.Following.{began}
use Rattle.machine_activations.proofs.Reach.{one_step, two_ways}
use Rattle.machine_signals.specs.Jumping.{Jumps, CanJump}
use Rattle.machine_signals.specs.Raising.{FindsNone}
use Rattle.machine_signals.proofs.Raisers.{runs, begins}

module _ (image : Image) (layout : Layout) (prepared : IsPrepared image layout) (region : List ℕ) (table : List Row) (r : Registers) (code : ModuleCode)
    (own_code : IsCodeOf image code table r) where
  module _ (arms target : ℕ) (at : IsAt code table r (Leave arms target)) where
    leave_step : (s : Stepped) (m : Store) (shown : Shown image layout region table r s m) → step image (Runs (shown.top ∷ shown.rest) m) ≡ leave image (Some target) shown.top.role shown.rest (began m)
    unfolding works_in works worked perform
    leave_step s m shown = begins image layout prepared region table r code own_code s m shown (Leave arms target) at

    -- at its target an instruction begins that finds no operands
    finds : (s : Stepped) (m : Store) (shown : Shown image layout region table r s m) → FindsNone shown.procedure target
    finds s m shown =
        let run = runs image layout prepared region table r code own_code s m shown (Leave arms target) at in
        let start = (subst (λ i. JumpsRightly (routine code shown.procedure) at.entry.at i) at.at run.jump).start in
        record {
          number = start.number;
          begins = start.begins;
          deep = λ e is. run.outward start.number e (record { offset = target; is = ap outward_target at.at; begins = start.begins }) is;
        }

    pub leave_jumps : (s : Stepped) (m : Store) → Shown image layout region table r s m → Jumps image layout region table r (Some target) s (record m { begun = suc m.begun })
    leave_jumps s m shown = record {
      top = shown.top;
      rest = shown.rest;
      procedure = shown.procedure;
      shows = shown.shows;
      finds = finds s m shown;
      reaches = two_ways image s _ _ shown.reaches (one_step image _ _ (leave_step s m shown));
    }

    pub leave_can : StandsIn image layout region table r → CanJump image layout region table r (Some target)
    leave_can stands = record {
      start = stands.start;
      unstuck = stands.unstuck;
      store = record stands.store { begun = suc stands.store.begun };
      jumps = leave_jumps stands.start stands.store stands.shown;
    }

  module _ (arms : ℕ) (at : IsAt code table r (LeaveReturn arms)) where
    return_step : (s : Stepped) (m : Store) (shown : Shown image layout region table r s m) → step image (Runs (shown.top ∷ shown.rest) m) ≡ leave image None shown.top.role shown.rest (began m)
    unfolding works_in works worked perform
    return_step s m shown = begins image layout prepared region table r code own_code s m shown (LeaveReturn arms) at

    pub return_jumps : (s : Stepped) (m : Store) → Shown image layout region table r s m → Jumps image layout region table r None s (record m { begun = suc m.begun })
    return_jumps s m shown = record {
      top = shown.top;
      rest = shown.rest;
      procedure = shown.procedure;
      shows = shown.shows;
      finds = tt;
      reaches = two_ways image s _ _ shown.reaches (one_step image _ _ (return_step s m shown));
    }

    pub return_can : StandsIn image layout region table r → CanJump image layout region table r None
    return_can stands = record {
      start = stands.start;
      unstuck = stands.unstuck;
      store = record stands.store { begun = suc stands.store.begun };
      jumps = return_jumps stands.start stands.store stands.shown;
    }
