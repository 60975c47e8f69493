-- The instructions of valid code do what the machine's definition says of them.
use Rattle.std.proofs.Common.{◌≡◌, ℕ, ◌+◌, ◌-◌, ◌≤◌, List, ◌∷◌, length, get_or, nat_eq, ap, ◌∙◌, arith}
use Rattle.std.specs.Prelude.{slice_index, if◌then◌else◌}
use Rattle.code_forms.specs.declared.instruction.Instruction.TheVariants.{JumpIf, JumpIfNot}
use Rattle.code_forms.specs.Routine.{routine}
use Rattle.machine_rules.specs.object_files.specs.declared.image.Image.{Image}
use Rattle.machine_rules.specs.Words.{on_top}
use Rattle.machine_rules.specs.State.{Active, Activations, Store}
use Rattle.machine_rules.specs.Moves.{onward, go_to}
use Rattle.machine_rules.specs.Steps.{perform}
use Rattle.machine_topmost.specs.Laws.{WorksAsDefined}
use Rattle.machine_topmost.proofs.Fitting.{fits}
use Rattle.machine_topmost.proofs.Pausing.{entry_runs, depth_below}
use Rattle.machine_topmost.proofs.Showing.{operands_to, top_shown}
use Rattle.machine_topmost.proofs.WorkShown.{works_so}

pub works_as_defined : WorksAsDefined
works_as_defined m p valid depths of texts number floor targets s e standing fetched still =
    let run = entry_runs m p valid depths of s.registers.entry e fetched in
    let below = depth_below m p valid depths of s.registers.entry e fetched in
    let deep = standing.deep e fetched in
    let roomy = standing.roomy in
    works_so texts number (routine m p) _ floor e.depth s deep standing.apart (omega (arith, deep, below, roomy)) standing.all_globals e.instruction still run.enough run.operands.own
    (fits (routine m p) _ (length s.region) (length s.globals) floor e.depth s.registers deep standing.apart roomy standing.all_globals below e.instruction run.enough run.room run.operands.own)
    (slice_index targets s.registers.entry)

-- a jump that looks at the topmost operand, where the region shows the operands
module _ (image : Image) (target : ℕ) (a : Active) (S : Activations) (m : Store) (region : List ℕ) (floor sp : ℕ) (shows : a.operands ≡ operands_to region floor sp)
    (some : floor + 1 ≤ sp) (full : sp ≤ length region) where
  top : a.operands ≡ get_or region (sp - 1) 0 ∷ operands_to region floor (sp - 1)
  top = shows ∙ top_shown region floor sp (sp - 1) (omega arith) (omega arith) full

  pub jump_if_shown : perform image (JumpIf target) a S m
      ≡ (if nat_eq (get_or region (sp - 1) 0) 0 then onward (JumpIf target) (operands_to region floor (sp - 1)) a S m else go_to target (operands_to region floor (sp - 1)) a S m)
  unfolding perform
  jump_if_shown = ap (λ o. on_top o (λ x rest. if nat_eq x 0 then onward (JumpIf target) rest a S m else go_to target rest a S m)) top

  pub jump_if_not_shown : perform image (JumpIfNot target) a S m
      ≡ (if nat_eq (get_or region (sp - 1) 0) 0 then go_to target (operands_to region floor (sp - 1)) a S m else onward (JumpIfNot target) (operands_to region floor (sp - 1)) a S m)
  unfolding perform
  jump_if_not_shown = ap (λ o. on_top o (λ x rest. if nat_eq x 0 then go_to target rest a S m else onward (JumpIfNot target) rest a S m)) top
