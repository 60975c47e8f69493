-- The code of sound modules is short, and never deep (rule of this project).
use Rattle.std.specs.Prelude.{◌≡◌, ℕ, ◌<◌, ◌≤◌, ◌^◌, Some, slice_get}
use Rattle.mesa_base.specs.declared.limits.TheConstants.{TREE_NODES}
use Rattle.mesa_types.specs.Typed.{Module, Procedure}
use Rattle.mesa_types.specs.Nodes.{nodes}
use Rattle.mesa_types.specs.Sound.{Sound}
use Rattle.code_forms.specs.declared.limits.TheConstants.{STACK_WORDS}
use Rattle.code_rules.specs.Modules.{procedures_of}
use Rattle.code_blocks.specs.Blocks.{Block}
use Rattle.code_blocks.specs.Modules.{body_block, deepest}
use Rattle.code_blocks.specs.Regions.{written}

-- what is written of a body has offsets within 32 bits, and no more words before an instruction than a stack has room for
pub record CanBeWritten (b : Block) : Type 0 where
  pub room : (written b).end < 2 ^ 32
  pub shallow : deepest (written b).code ≤ STACK_WORDS

-- so it is with each body of a sound module of at most so many nodes
abbrev pub BodiesCanBeWritten : Type 0
BodiesCanBeWritten = (m : Module) → Sound m → nodes m ≤ TREE_NODES
    → (k : ℕ) (p : Procedure) → slice_get (procedures_of m) k ≡ Some p → CanBeWritten (body_block m p)
