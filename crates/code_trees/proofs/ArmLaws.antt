-- A part in which a phrase is enabled, if there is one.
use Rattle.std.proofs.Common.{◌≡◌, ◌≢◌, refl, sym, ap, ◌∙◌, List, [], ◌∷◌}
use Rattle.code_blocks.specs.Blocks as tree
use Rattle.code_blocks.specs.Translation as spec
use Rattle.code_trees.specs.ArmRows.{arms_before}
use Rattle.code_trees.specs.Plain.{plain_arms}
use Rattle.code_trees.specs.declared.block.ArmBlock.{ArmBlock}
use Rattle.code_trees.proofs.ArmRows.{all_arms}

pub no_arms : (arms : List ArmBlock) (b : tree.Block) → arms ≡ [] → b ≡ spec.enabled (plain_arms arms) b
unfolding plain_arms
no_arms arms b is = sym (ap (λ l. spec.enabled (plain_arms l) b) is)

some_before : (arms : List ArmBlock) (b : tree.Block) → arms ≢ [] → tree.Enables (arms_before arms tree.NoArmBlock) b ≡ spec.enabled (arms_before arms tree.NoArmBlock) b
unfolding arms_before
some_before [] b h = absurd (h refl)
some_before (a ∷ arms) b h = refl

pub some_arms : (arms : List ArmBlock) (b : tree.Block) → arms ≢ [] → tree.Enables (plain_arms arms) b ≡ spec.enabled (plain_arms arms) b
some_arms arms b h =
    ap (λ x. tree.Enables x b) (all_arms arms) ∙ some_before arms b h ∙ sym (ap (λ x. spec.enabled x b) (all_arms arms))
