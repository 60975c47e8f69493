-- A phrase's arms one by one: the first, one more, the last.
use Rattle.std.proofs.Common.{◌≡◌, sym, ap, ◌∙◌, ℕ, ◌+◌, ◌≤◌, List, [], length, drop, map, arith}
use Rattle.std.proofs.lemmas.List.{drop_all}
use Rattle.mesa_base.specs.Chain.{chain}
use Rattle.mesa_types.specs.Counts.{hidden, hidden_arms}
use Rattle.mesa_types.specs.Plain.{arm}
use Rattle.mesa_types.specs.Typed as t
use Rattle.mesa_types.specs.declared.typed_parts.Label.{Label}
use Rattle.mesa_types.specs.declared.typed_tree.Arm.{Arm}
use Rattle.code_rules.specs.Links.{label_code}
use Rattle.code_rules.specs.Reading.{Coded}
use Rattle.code_rules.specs.Slots.{local_slot, words_from}
use Rattle.code_blocks.specs.Blocks.{Block, ArmBlocks, AndArmBlock}
use Rattle.code_blocks.specs.Translation as spec
use Rattle.code_trees.specs.ArmRows.{arms_before}
use Rattle.code_trees.specs.Plain.{off_in_arms, plain_arms}
use Rattle.code_trees.specs.declared.block.ArmBlock.{ArmBlock}
use Rattle.code_trees.proofs.ArmRows.{all_arms, no_arms_off}
use Rattle.code_trees.proofs.Walks.{arms_next}

pub arms_begun : (arms : List ArmBlock) (rest : ArmBlocks) → arms ≡ [] → arms_before arms rest ≡ rest
unfolding arms_before
arms_begun arms rest is = ap (λ l. arms_before l rest) is

pub off_begun : (arms : List ArmBlock) → arms ≡ [] → off_in_arms arms ≡ 0
off_begun arms is = ap off_in_arms is ∙ no_arms_off

pub arm_turn : (P : Coded) (z after : ℕ) (old held new : List ArmBlock) (labels read : List Label) (first count : ℕ) (s : t.Stmt) (body : Block)
    (all tail : t.Arms) (is : all ≡ t.AndArm labels first count s tail) → read ≡ labels → held ≡ old → body ≡ spec.block P z s → after ≡ z + hidden s
    → ((rest : ArmBlocks) → arms_before new rest
    ≡ arms_before held (AndArmBlock (map (label_code P.imports) read) (local_slot P first) (words_from P.locals first count) body rest))
    → (whole : ArmBlocks) → arms_before old (spec.arm_blocks P z all) ≡ whole → arms_before new (spec.arm_blocks P after tail) ≡ whole
arm_turn P z after old held new labels read first count s body all tail is is_read is_held is_body is_after put whole h =
    let rest : ArmBlocks = spec.arm_blocks P after tail in
    put rest
    ∙ ap (λ l. arms_before l (AndArmBlock (map (label_code P.imports) read) (local_slot P first) (words_from P.locals first count) body rest)) is_held
    ∙ ap (λ l. arms_before old (AndArmBlock (map (label_code P.imports) l) (local_slot P first) (words_from P.locals first count) body rest)) is_read
    ∙ ap (λ b. arms_before old (AndArmBlock (map (label_code P.imports) labels) (local_slot P first) (words_from P.locals first count) b rest))
    is_body
    ∙ ap (arms_before old) (sym (arms_next P z after labels first count s all tail is is_after))
    ∙ h

no_arm_left : (arms : List Arm) (i : ℕ) → length arms ≤ i → chain (map arm (drop i arms)) t.NoArms ≡ t.NoArms
no_arm_left arms i h = ap (λ l. chain (map arm l) t.NoArms) (drop_all i arms h)

pub arms_done : (P : Coded) (z i : ℕ) (arms : List Arm) (made : List ArmBlock) (whole : ArmBlocks) → length arms ≤ i
    → arms_before made (spec.arm_blocks P z (chain (map arm (drop i arms)) t.NoArms)) ≡ whole → plain_arms made ≡ whole
arms_done P z i arms made whole less h =
    all_arms made ∙ ap (λ x. arms_before made (spec.arm_blocks P z x)) (sym (no_arm_left arms i less)) ∙ h

pub arms_hidden : (i n whole : ℕ) (arms : List Arm) → length arms ≤ i → n + hidden_arms (chain (map arm (drop i arms)) t.NoArms) ≡ whole → n ≡ whole
unfolding hidden_arms
arms_hidden i n whole arms less h = let none : hidden_arms (chain (map arm (drop i arms)) t.NoArms) ≡ 0 = ap hidden_arms (no_arm_left arms i less) in
    omega arith
