-- What a draft of code shows, and what the writing of a block adds to it.
use Rattle.std.specs.Prelude.{◌≡◌, ℕ, ◌+◌, ◌<◌, ◌≤◌, ◌^◌, List, [], ◌∷◌, ◌++◌, length, map}
use Rattle.code_forms.specs.declared.limits.TheConstants.{STACK_WORDS}
use Rattle.code_forms.specs.declared.module_code.Arm.{Arm}
use Rattle.code_forms.specs.declared.module_code.CodeEntry.{CodeEntry}
use Rattle.code_trees.specs.declared.block.ArmBlock.{ArmBlock}
use Rattle.code_trees.specs.Plain.{plain, plain_arms, off_in_arms}
use Rattle.code_writer.specs.declared.cursor.Cursor.{Cursor}
use Rattle.code_writer.specs.declared.draft.Draft.{Draft}
use Rattle.code_writer.specs.declared.draft.Pending.{Pending}
use Rattle.code_writer.specs.declared.scope.Scope.{Scope}
use Rattle.code_writer.specs.Cursors.{IsDepth}
use Rattle.code_writer.specs.Scopes.{env_at, Grows}
use Rattle.code_blocks.specs.Blocks.{ArmBlocks, Block}
use Rattle.code_blocks.specs.Modules.{deepest}
use Rattle.code_blocks.specs.Sizes.{size, depth_behind}
use Rattle.code_blocks.specs.Writing.{Env, block_code, block_phrases}
use Rattle.code_blocks.specs.Writing as w

abbrev pub pend : List Scope → Pending → w.Pending
pend scopes q = w.pending q.from q.upto (plain_arms q.arms.now) (env_at scopes q.around)

abbrev pub pends : List Scope → List Pending → List w.Pending
pends scopes = map (pend scopes)

-- the phrases found so far
abbrev pub found : Draft → List w.Pending
found d = pends d.scopes.items d.phrases.items

-- the scopes around the phrases are there, and the sizes in their arms are right
abbrev pub AllHeld : (scopes : ℕ) → List Pending → Type 0
AllHeld n [] = Unit {0}
AllHeld n (q ∷ qs) = (q.around ≤ n) × (off_in_arms q.arms.now ≡ 0) × AllHeld n qs

abbrev pub IsHeld : Draft → Type 0
IsHeld d = AllHeld (length d.scopes.items) d.phrases.items

-- there is room for a block's code from a cursor on, and its scope is there
pub record Fits (b : Block) (d : Draft) (around : ℕ) (from : Cursor) : Type 0 where
  pub room : from.at + size b < 2 ^ 32
  pub shallow : deepest (block_code b (env_at d.scopes.items around) from.at from.depth) ≤ STACK_WORDS
  pub there : around ≤ length d.scopes.items
  pub held : IsHeld d

-- of a block that is to be written from a cursor on, the rest is still to be written from another one on
pub record Leaves (b rest : Block) (E : Env) (from : Cursor) (old : Draft) (to : Cursor) (new : Draft) : Type 0 where
  pub at : to.at + size rest ≡ from.at + size b
  pub depth : IsDepth (depth_behind rest to.depth) (depth_behind b from.depth)
  pub code : new.entries ++ block_code rest E to.at to.depth ≡ old.entries ++ block_code b E from.at from.depth
  pub found : found new ++ block_phrases rest E to.at ≡ found old ++ block_phrases b E from.at
  pub shallow : deepest (block_code rest E to.at to.depth) ≤ STACK_WORDS
  pub held : IsHeld new
  pub grows : Grows old.scopes.items new.scopes.items

-- the block is written
pub record Writes (b : Block) (E : Env) (from : Cursor) (old : Draft) (to : Cursor) (new : Draft) : Type 0 where
  pub at : to.at ≡ from.at + size b
  pub depth : IsDepth to.depth (depth_behind b from.depth)
  pub code : new.entries ≡ old.entries ++ block_code b E from.at from.depth
  pub found : found new ≡ found old ++ block_phrases b E from.at
  pub held : IsHeld new
  pub grows : Grows old.scopes.items new.scopes.items

-- these entries and phrases are added
pub record Adds (es : List CodeEntry) (ps : List w.Pending) (old new : Draft) : Type 0 where
  pub code : new.entries ≡ old.entries ++ es
  pub found : found new ≡ found old ++ ps
  pub held : IsHeld new
  pub grows : Grows old.scopes.items new.scopes.items

-- there is room for the regions of arms from an offset on, and their scope is there
pub record ArmsFit (arms : ArmBlocks) (d : Draft) (around at : ℕ) : Type 0 where
  pub room : at + w.arms_size arms < 2 ^ 32
  pub shallow : deepest (w.arms_code arms (env_at d.scopes.items around) at) ≤ STACK_WORDS
  pub there : around ≤ length d.scopes.items
  pub held : IsHeld d

-- of the regions of some arms, those of the rest are still to be written from an offset on
pub record LeavesArms (arms rest : ArmBlocks) (E : Env) (from : ℕ) (old : Draft) (to : ℕ) (new : Draft) (done : List Arm) : Type 0 where
  pub at : to + w.arms_size rest ≡ from + w.arms_size arms
  pub code : new.entries ++ w.arms_code rest E to ≡ old.entries ++ w.arms_code arms E from
  pub found : found new ++ w.arms_phrases rest E to ≡ found old ++ w.arms_phrases arms E from
  pub made : done ++ w.regions rest to ≡ w.regions arms from
  pub shallow : deepest (w.arms_code rest E to) ≤ STACK_WORDS
  pub held : IsHeld new
  pub grows : Grows old.scopes.items new.scopes.items

-- the first instruction of a region finds no words
abbrev pub region_at : ℕ → Cursor
region_at at = record { at = at; depth = 0 }

-- an arm with its region
abbrev pub arm_from : ArmBlock → (at : ℕ) → Arm
arm_from a at = record { labels = a.labels; slot = a.slot; words = a.words; start = at; end = at + size (w.region (plain a.body)) }
