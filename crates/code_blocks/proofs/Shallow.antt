-- Blocks before whose instructions at most so many words are on the operand stack.
use Rattle.std.proofs.Common.{◌≡◌, refl, sym, subst, ℕ, zero, suc, ◌+◌, ◌≤◌, List, [], ◌∷◌, ◌++◌, length, Option, Some, None, Bool, true, false, if◌then◌else◌, arith}
use Rattle.std.specs.Prelude.{slice_get}
use Rattle.code_forms.specs.declared.instruction.Instruction.{Instruction}
use Rattle.code_forms.specs.declared.instruction.Instruction.TheVariants as i
use Rattle.code_forms.specs.declared.module_code.CodeEntry.{CodeEntry}
use Rattle.code_forms.specs.Depths.{depth_after}
use Rattle.code_forms.specs.Instructions.{bytes_of}
use Rattle.code_forms.specs.Routine.{moves}
use Rattle.code_blocks.specs.Blocks.{Block, Does, Calls, Both, Ends, Out, Goes, Rounds, Enables, ArmBlocks, NoArmBlock, AndArmBlock}
use Rattle.code_blocks.specs.Modules.{deepest}
use Rattle.code_blocks.specs.Own.{alone, left_of}
use Rattle.code_blocks.specs.Regions.{Written, returning, first_region, with_arms, next_written, all_written}
use Rattle.code_blocks.specs.Sizes.{size, depth_behind}
use Rattle.code_blocks.specs.Translation.{unless, enabled}
use Rattle.code_blocks.specs.Writing.{Env, in_part, in_arms, in_procedure, entry, entries, block_code, Pending, own_phrase, unless_empty, block_phrases, region, arms_code, arms_phrases}

abbrev pub OwnShallow : List Instruction → (depth most : ℕ) → Type 0
OwnShallow [] depth most = Unit {0}
OwnShallow (x ∷ is) depth most = (depth ≤ most) × OwnShallow is (depth_after alone x depth) most

abbrev mutual
  pub Shallow : Block → (depth most : ℕ) → Type 0
  Shallow (Does is) depth most = OwnShallow is depth most
  Shallow (Calls call takes puts arms) depth most = (depth ≤ most) × ArmsShallow arms most
  Shallow (Both b c) depth most = Shallow b depth most × Shallow c (depth_behind b depth) most
  Shallow (Ends mark b) depth most = Shallow b depth most
  Shallow (Out leap part) depth most = depth ≤ most
  Shallow (Goes arms p) depth most = depth ≤ most
  Shallow (Rounds b) depth most = Shallow b depth most × (depth_behind b depth ≤ most)
  Shallow (Enables arms b) depth most = ArmsShallow arms most × Shallow b depth most

  -- an arm begins with no words, and so it ends
  pub ArmsShallow : ArmBlocks → (most : ℕ) → Type 0
  ArmsShallow NoArmBlock most = Unit {0}
  ArmsShallow (AndArmBlock labels slot words b arms) most = Shallow b 0 most × (depth_behind b 0 ≤ most) × ArmsShallow arms most

pub shallow_to : (b : Block) (m n most : ℕ) → m ≡ n → Shallow b n most → Shallow b m most
shallow_to b m n most e h = subst (λ k. Shallow b k most) (sym e) h

pub own_to : (is : List Instruction) (m n most : ℕ) → m ≡ n → OwnShallow is n most → OwnShallow is m most
own_to is m n most e h = subst (λ k. OwnShallow is k most) (sym e) h

pub own_both : (is js : List Instruction) (d most : ℕ) → OwnShallow is d most → OwnShallow js (left_of is d) most → OwnShallow (is ++ js) d most
own_both [] js d most g h = h
own_both (x ∷ is) js d most g h = (g.0, own_both is js (depth_after alone x d) most g.1 h)

pub if_shallow : (x : Bool) (b c : Block) (d most : ℕ) → (x ≡ true → Shallow b d most) → (x ≡ false → Shallow c d most) → Shallow (if x then b else c) d most
if_shallow true b c d most g h = g refl
if_shallow false b c d most g h = h refl

pub unless_shallow : (x : Bool) (b : Block) (d most : ℕ) → Shallow b d most → Shallow (unless x b) d most
unless_shallow true b d most h = tt
unless_shallow false b d most h = h

pub enabled_shallow : (arms : ArmBlocks) (b : Block) (d most : ℕ) → ArmsShallow arms most → Shallow b d most → Shallow (enabled arms b) d most
enabled_shallow NoArmBlock b d most g h = h
enabled_shallow (AndArmBlock labels slot words arm arms) b d most g h = (g, h)

-- no instruction adds more words than it puts

abbrev pub puts_in : List Instruction → ℕ
puts_in [] = 0
puts_in (x ∷ is) = (moves alone x).puts + puts_in is

pub puts_both : (is js : List Instruction) → puts_in (is ++ js) ≡ puts_in is + puts_in js
puts_both [] js = omega arith
puts_both (x ∷ is) js = omega (arith, puts_both is js)

pub rises : (is : List Instruction) (d most : ℕ) → d + puts_in is ≤ most → OwnShallow is d most
rises [] d most le = tt
rises (x ∷ is) d most le = (omega (arith, le), rises is (depth_after alone x d) most (omega (arith, le)))

-- What is written of such a block.

abbrev AllBelow : List CodeEntry → (most : ℕ) → Type 0
AllBelow [] most = Unit {0}
AllBelow (e ∷ es) most = (e.depth ≤ most) × AllBelow es most

below_both : (es fs : List CodeEntry) (most : ℕ) → AllBelow es most → AllBelow fs most → AllBelow (es ++ fs) most
below_both [] fs most g h = h
below_both (e ∷ es) fs most g h = (g.0, below_both es fs most g.1 h)

below_own : (is : List Instruction) (a d most : ℕ) → OwnShallow is d most → AllBelow (entries is a d) most
below_own [] a d most h = tt
below_own (x ∷ is) a d most h = (h.0, below_own is (a + bytes_of x) (depth_after alone x d) most h.1)

below_block : (b : Block) (E : Env) (a d most : ℕ) → Shallow b d most → AllBelow (block_code b E a d) most
below_block (Does is) E a d most h = below_own is a d most h
below_block (Calls call takes puts arms) E a d most h = (h.0, tt)
below_block (Both b c) E a d most h =
    below_both (block_code b E a d) (block_code c E (a + size b) (depth_behind b d)) most (below_block b E a d most h.0)
    (below_block c E (a + size b) (depth_behind b d) most h.1)
below_block (Ends mark b) E a d most h = below_block b (in_part mark a (a + size b) E) a d most h
below_block (Out leap part) E a d most h = (h, tt)
below_block (Goes arms p) E a d most h = (h, tt)
below_block (Rounds b) E a d most h =
    below_both (block_code b E a d) (entry (a + size b) (depth_behind b d) (i.JumpBack a) ∷ []) most (below_block b E a d most h.0) (h.1, tt)
below_block (Enables arms b) E a d most h = below_block b E a d most h.1

below_arms : (arms : ArmBlocks) (E : Env) (at most : ℕ) → ArmsShallow arms most → AllBelow (arms_code arms E at) most
below_arms NoArmBlock E at most h = tt
below_arms (AndArmBlock labels slot words b arms) E at most h =
    below_both (block_code (region b) E at 0) (arms_code arms E (at + size (region b))) most (below_block (region b) E at 0 most (h.0, (h.1, tt)))
    (below_arms arms E (at + size (region b)) most h.2)

abbrev AllArms : List Pending → (most : ℕ) → Type 0
AllArms [] most = Unit {0}
AllArms (q ∷ ps) most = ArmsShallow q.arms most × AllArms ps most

arms_both : (ps qs : List Pending) (most : ℕ) → AllArms ps most → AllArms qs most → AllArms (ps ++ qs) most
arms_both [] qs most g h = h
arms_both (q ∷ ps) qs most g h = (g.0, arms_both ps qs most g.1 h)

arms_own : (arms : ArmBlocks) (E : Env) (a b most : ℕ) → ArmsShallow arms most → AllArms (own_phrase arms E a b) most
arms_own NoArmBlock E a b most h = tt
arms_own (AndArmBlock labels slot words block arms) E a b most h = (h, tt)

arms_unless : (n : ℕ) (ps : List Pending) (most : ℕ) → AllArms ps most → AllArms (unless_empty n ps) most
arms_unless zero ps most h = tt
arms_unless (suc n) ps most h = h

arms_block : (b : Block) (E : Env) (a d most : ℕ) → Shallow b d most → AllArms (block_phrases b E a) most
arms_block (Does is) E a d most h = tt
arms_block (Calls call takes puts arms) E a d most h = arms_own arms E a (a + bytes_of call) most h.1
arms_block (Both b c) E a d most h =
    arms_both (block_phrases b E a) (block_phrases c E (a + size b)) most (arms_block b E a d most h.0) (arms_block c E (a + size b) (depth_behind b d) most h.1)
arms_block (Ends mark b) E a d most h = arms_block b (in_part mark a (a + size b) E) a d most h
arms_block (Out leap part) E a d most h = tt
arms_block (Goes arms p) E a d most h = tt
arms_block (Rounds b) E a d most h = arms_block b E a d most h.0
arms_block (Enables arms b) E a d most h =
    arms_unless (size b) (own_phrase arms E a (a + size b) ++ block_phrases b E a) most
    (arms_both (own_phrase arms E a (a + size b)) (block_phrases b E a) most (arms_own arms E a (a + size b) most h.0) (arms_block b E a d most h.1))

arms_arms : (arms : ArmBlocks) (E : Env) (a most : ℕ) → ArmsShallow arms most → AllArms (arms_phrases arms E a) most
arms_arms NoArmBlock E a most h = tt
arms_arms (AndArmBlock labels slot words b arms) E a most h =
    arms_both (block_phrases (region b) E a) (arms_phrases arms E (a + size (region b))) most (arms_block (region b) E a 0 most (h.0, (h.1, tt)))
    (arms_arms arms E (a + size (region b)) most h.2)

arms_get : (ps : List Pending) (most : ℕ) → AllArms ps most → (k : ℕ) (q : Pending) → slice_get ps k ≡ Some q → ArmsShallow q.arms most
arms_get [] most h k q e = cc
arms_get (p ∷ ps) most h zero q e = let same : p ≡ q = cc in subst (λ (x : Pending). ArmsShallow x.arms most) same h.0
arms_get (p ∷ ps) most h (suc k) q e = arms_get ps most h.1 k q e

record Kept (most : ℕ) (w : Written) : Type 0 where
  code : AllBelow w.code most
  found : AllArms w.found most

kept_with : (most : ℕ) (w : Written) (o : Option Pending) → slice_get w.found (length w.done) ≡ o → Kept most w → Kept most (with_arms w o)
kept_with most w None e h = h
kept_with most w (Some q) e h =
    let arms = arms_get w.found most h.found (length w.done) q e in
    record {
      code = below_both w.code (arms_code q.arms (in_arms q.env) w.end) most h.code (below_arms q.arms (in_arms q.env) w.end most arms);
      found = arms_both w.found (arms_phrases q.arms (in_arms q.env) w.end) most h.found (arms_arms q.arms (in_arms q.env) w.end most arms);
    }

kept_all : (n most : ℕ) (w : Written) → Kept most w → Kept most (all_written n w)
kept_all zero most w h = h
kept_all (suc n) most w h = kept_all n most (next_written w) (kept_with most w (slice_get w.found (length w.done)) refl h)

deepest_below : (es : List CodeEntry) (most : ℕ) → AllBelow es most → deepest es ≤ most
deepest_below [] most h = omega arith
deepest_below (e ∷ es) most h = omega (arith, h.0, deepest_below es most h.1)

pub written_shallow : (n most : ℕ) (b : Block) → Shallow b 0 most → depth_behind b 0 ≤ most → deepest (all_written n (first_region (returning b))).code ≤ most
written_shallow n most b h le =
    let first : Kept most (first_region (returning b)) = record {
      code = below_block (returning b) in_procedure 0 0 most (h, (le, tt));
      found = arms_block (returning b) in_procedure 0 0 most (h, (le, tt));
    } in
    deepest_below (all_written n (first_region (returning b))).code most (kept_all n most (first_region (returning b)) first).code
