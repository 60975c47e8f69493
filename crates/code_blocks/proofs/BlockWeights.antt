-- What is written of a block and what is still to be written come to no more than its weight.
use Rattle.std.proofs.Common.{◌≡◌, refl, ◌∙◌, ℕ, zero, suc, ◌+◌, ◌≤◌, List, [], ◌∷◌, ◌++◌, arith}
use Rattle.code_forms.specs.declared.module_code.Phrase.{Phrase}
use Rattle.code_forms.specs.Instructions.{bytes_of}
use Rattle.code_blocks.specs.Blocks.{Block, Does, Calls, Both, Ends, Out, Goes, Rounds, Enables, ArmBlocks, NoArmBlock, AndArmBlock}
use Rattle.code_blocks.specs.Heaviness.{weight, caught_weight, arms_weight}
use Rattle.code_blocks.specs.Sizes.{size}
use Rattle.code_blocks.specs.Weights.{arms_bytes, phrases_bytes, entries_bytes}
use Rattle.code_blocks.specs.Writing.{Env, in_part, Pending, own_phrase, unless_empty, block_code, block_phrases, region, regions, arms_code, arms_phrases, arms_size}
use Rattle.code_blocks.proofs.Bytes.{bytes_joined, block_bytes}

-- what the phrases that are still to be written come to
abbrev pub still_weight : List Pending → ℕ
still_weight [] = 0
still_weight (q ∷ ps) = caught_weight q.arms + still_weight ps

pub still_both : (ps qs : List Pending) → still_weight (ps ++ qs) ≡ still_weight ps + still_weight qs
still_both [] qs = omega arith
still_both (q ∷ ps) qs = omega (arith, still_both ps qs)

still_own : (arms : ArmBlocks) (E : Env) (a b : ℕ) → still_weight (own_phrase arms E a b) ≡ caught_weight arms
still_own NoArmBlock E a b = refl
still_own (AndArmBlock labels slot words block arms) E a b = omega arith

still_unless : (n : ℕ) (ps : List Pending) → still_weight (unless_empty n ps) ≤ still_weight ps
still_unless zero ps = omega arith
still_unless (suc n) ps = omega arith

pub block_weight : (b : Block) (E : Env) (a : ℕ) → size b + still_weight (block_phrases b E a) ≤ weight b
block_weight (Does is) E a = omega arith
block_weight (Calls call takes puts arms) E a = omega (arith, still_own arms E a (a + bytes_of call))
block_weight (Both b c) E a =
    omega (arith, still_both (block_phrases b E a) (block_phrases c E (a + size b)), block_weight b E a, block_weight c E (a + size b))
block_weight (Ends mark b) E a = block_weight b (in_part mark a (a + size b) E) a
block_weight (Out leap part) E a = omega arith
block_weight (Goes arms p) E a = omega arith
block_weight (Rounds b) E a = omega (arith, block_weight b E a)
block_weight (Enables arms b) E a =
    let own = own_phrase arms E a (a + size b) in
    let ps = block_phrases b E a in
    omega (arith, still_unless (size b) (own ++ ps), still_both own ps, still_own arms E a (a + size b), block_weight b E a)

pub arms_code_bytes : (arms : ArmBlocks) (E : Env) (a : ℕ) → entries_bytes (arms_code arms E a) ≡ arms_size arms
arms_code_bytes NoArmBlock E a = refl
arms_code_bytes (AndArmBlock labels slot words b arms) E a =
    let m = a + size (region b) in
    bytes_joined (block_code (region b) E a 0) (arms_code arms E m) ∙ omega (arith, block_bytes (region b) E a 0, arms_code_bytes arms E m)

-- the regions of arms, what is said of them, and the phrases in them
pub arms_weigh : (arms : ArmBlocks) (E : Env) (a : ℕ) → arms_size arms + arms_bytes (regions arms a) + still_weight (arms_phrases arms E a) ≤ arms_weight arms
arms_weigh NoArmBlock E a = omega arith
arms_weigh (AndArmBlock labels slot words b arms) E a =
    let m = a + size (region b) in
    omega (arith, still_both (block_phrases (region b) E a) (arms_phrases arms E m), block_weight (region b) E a, arms_weigh arms E m)

pub phrases_joined : (ps qs : List Phrase) → phrases_bytes (ps ++ qs) ≡ phrases_bytes ps + phrases_bytes qs
phrases_joined [] qs = omega arith
phrases_joined (p ∷ ps) qs = omega (arith, phrases_joined ps qs)
