-- The numbers in the blocks of a sound module fit the types of the code (rule of this project).
use Rattle.std.specs.Prelude.{◌≡◌, ℕ, ◌+◌, ◌≤◌, Some, slice_get}
use Rattle.mesa_base.specs.declared.limits.TheConstants.{TREE_NODES}
use Rattle.mesa_types.specs.Typed.{Procedure, Module}
use Rattle.mesa_types.specs.Counts.{hidden}
use Rattle.mesa_types.specs.Nodes.{nodes}
use Rattle.mesa_types.specs.Sound.{Sound}
use Rattle.code_rules.specs.Modules.{procedures_of}
use Rattle.code_rules.specs.Reading.{scratch}
use Rattle.code_blocks.specs.Modules.{uncoded, body_block}
use Rattle.code_trees.specs.Excess.{excess}

-- in each body of a sound module of at most so many nodes: no number of its block is above what its type holds, and the slots of its
-- hidden words have 16 bits
abbrev pub BodiesAreInRange : Type 0
BodiesAreInRange = (m : Module) → Sound m → nodes m ≤ TREE_NODES → (k : ℕ) (p : Procedure) → slice_get (procedures_of m) k ≡ Some p
    → (excess (body_block m p) ≡ 0) × (scratch (uncoded m p) + 16 + hidden p.body.does ≤ 65535)
