-- What a machine has that is ready to run an image, so that the run takes no memory (rule of this project).
use Rattle.std.specs.Prelude.{◌≡◌, ℕ, ◌+◌, ◌*◌, ◌<◌, ◌≤◌, List, length, All, Some, IsSomeAnd, slice_get, vec_capacity}
use Rattle.std.specs.List.{AllZip}
use Rattle.mesa_base.specs.declared.limits.TheConstants.{ACTIVATIONS}
use Rattle.code_forms.specs.declared.module_code.CodeProcedure.{CodeProcedure}
use Rattle.code_forms.specs.Valid.{Valid, HasDepths}
use Rattle.object_files.specs.declared.image.Image.{Image}
use Rattle.object_files.specs.declared.object.Object.{Object}
use Rattle.signaller.specs.Tables.{IsCatchTable}
use Rattle.machine_rules.specs.LookUps.{code_of, links_of}
use Rattle.machine_rules.specs.Steps.{globals_in}
use Rattle.machine_activations.specs.machine_topmost.specs.Running.{HasTargets}
use Rattle.code_forms.specs.Ranges.{InOrder}
use Rattle.machine_ready.specs.declared.plan.Plan.{Plan}
use Rattle.machine_ready.specs.declared.prepared.Prepared.{Prepared}
use Rattle.machine_ready.specs.Hosts.{IsHostItem}
use Rattle.machine_ready.specs.Openings.{IsInnermostAt, IsOpening, arms_in}
use Rattle.machine_ready.specs.Order.{ImageInOrder}
use Rattle.machine_ready.specs.Sizes.{largest}
use Rattle.machine_ready.specs.Targets.{JumpsToStarts}

-- beside each entry stand the number of that to which it jumps and the innermost phrase there, and beside each arm how it is entered
pub record IsPlan (p : CodeProcedure) (plan : Plan) : Type 0 where
  pub targets : HasTargets p.code plan.targets
  pub innermost : AllZip (IsInnermostAt p.phrases) p.code plan.innermost
  pub openings : AllZip (IsOpening p.code) (arms_in p.phrases) plan.openings

-- what this takes of a procedure, as each of valid code has it
pub record CanBePlanned (p : CodeProcedure) : Type 0 where
  pub order : InOrder p.code
  pub starts : JumpsToStarts p.code
  pub table : IsCatchTable p.phrases

-- the code of a module is valid, with the depth beside each instruction, and each of its procedures has a plan
pub record IsPlanned (o : Object) (made : List Plan) : Type 0 where
  pub valid : Valid o.code
  pub depths : HasDepths o.code
  pub plans : AllZip IsPlan o.code.procedures made

pub record IsReady (image : Image) (p : Prepared) : Type 0 where
  pub order : ImageInOrder image
  pub host : All IsHostItem image.wanted
  pub plans : AllZip IsPlanned image.modules p.tables.plans
  -- how each instance reads the links of labels, its globals, and whether it was started
  pub links : (j : ℕ) → j < length image.instances → slice_get p.tables.links j ≡ Some (links_of image j)
  pub all_globals : length p.globals.items ≡ length image.instances
  pub globals : (j : ℕ) → j < length image.instances → IsSomeAnd (slice_get p.globals.items j) (λ words. length words.items ≡ globals_in (code_of image j))
  pub started : length p.started.items ≡ length image.instances
  -- a part has the largest frame, and behind it room for the operands of any procedure; there is memory for as many parts as there may be
  -- activations, and a row for each
  pub frame : p.stack.layout.frame ≡ largest (λ q. q.frame) image.modules
  pub part : p.stack.layout.part ≡ p.stack.layout.frame + largest (λ q. q.depth) image.modules
  pub region : ACTIVATIONS * p.stack.layout.part ≤ vec_capacity p.stack.region
  pub rows : length p.stack.rows.items ≡ ACTIVATIONS
