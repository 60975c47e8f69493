-- An arm ends.
use Rattle.std.proofs.Common.{◌≡◌, suc, List, ◌∷◌, ℕ}
use Rattle.code_forms.specs.declared.instruction.Instruction.TheVariants.{ArmEnd}
use Rattle.code_forms.specs.declared.module_code.ModuleCode.{ModuleCode}
use Rattle.object_files.specs.declared.image.Image.{Image}
use Rattle.machine_rules.specs.State.{Store, Runs, Stepped}
use Rattle.machine_rules.specs.Signals.{reject}
use Rattle.machine_rules.specs.Steps.{perform, worked, works_in, step}
use Rattle.machine_rules.specs.Working.{works}
use Rattle.machine_topmost.specs.declared.registers.Registers.{Registers}
use Rattle.machine_activations.specs.declared.row.Layout.{Layout}
use Rattle.machine_activations.specs.declared.row.Row.{Row}
use Rattle.machine_activations.specs.Calling.{IsCodeOf, IsAt, StandsIn}
use Rattle.machine_activations.specs.Reaching.{Shown}
use Rattle.machine_activations.specs.Shows.{IsPrepared}
use Rattle.machine_activations.proofs.Following.{began}
use Rattle.machine_activations.proofs.Reach.{one_step, two_ways}
use Rattle.machine_signals.specs.Leaving.{Rejects, CanReject}
use Rattle.machine_signals.proofs.Raisers.{begins}

module _ (image : Image) (layout : Layout) (prepared : IsPrepared image layout) (region : List ℕ) (table : List Row) (r : Registers) (code : ModuleCode)
    (is : IsCodeOf image code table r) (at : IsAt code table r ArmEnd) where
  end_step : (s : Stepped) (m : Store) (shown : Shown image layout region table r s m) → step image (Runs (shown.top ∷ shown.rest) m) ≡ reject shown.top.role shown.rest (began m)
  unfolding works_in works worked perform
  end_step s m shown = begins image layout prepared region table r code is s m shown ArmEnd at

  pub end_rejects : (s : Stepped) (m : Store) → Shown image layout region table r s m → Rejects image layout region table r s (record m { begun = suc m.begun })
  end_rejects s m shown = record {
    top = shown.top;
    rest = shown.rest;
    procedure = shown.procedure;
    shows = shown.shows;
    reaches = two_ways image s _ _ shown.reaches (one_step image _ _ (end_step s m shown));
  }

  pub end_can : StandsIn image layout region table r → CanReject image layout region table r
  end_can stands = record {
    start = stands.start;
    unstuck = stands.unstuck;
    store = record stands.store { begun = suc stands.store.begun };
    rejects = end_rejects stands.start stands.store stands.shown;
  }
