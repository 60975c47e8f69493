-- Where no number of a block is above what its type holds, none is in what is written of it.
use Rattle.std.proofs.Common.{◌≡◌, refl, subst, ℕ, zero, suc, ◌+◌, List, [], ◌∷◌, ◌++◌, length, Option, Some, None, true, false, arith}
use Rattle.std.specs.Prelude.{slice_get}
use Rattle.mesa_types.specs.Typed.{Point, Start, After, At, Leave}
use Rattle.code_forms.specs.declared.instruction.Instruction.{Instruction}
use Rattle.code_forms.specs.declared.instruction.Instruction.TheVariants as i
use Rattle.code_forms.specs.declared.module_code.CodeEntry.{CodeEntry}
use Rattle.code_forms.specs.Depths.{depth_after}
use Rattle.code_forms.specs.Instructions.{bytes_of}
use Rattle.code_blocks.specs.Blocks.{Leap, Anyhow, Where, Block, Does, Calls, Both, Ends, Out, Goes, Rounds, Enables, ArmBlocks, NoArmBlock, AndArmBlock}
use Rattle.code_blocks.specs.Own.{alone}
use Rattle.code_blocks.specs.Regions.{Written, returning, first_region, with_arms, next_written, all_written, written}
use Rattle.code_blocks.specs.Sizes.{leap_to, goes_to, size, depth_behind, phrase_count}
use Rattle.code_blocks.specs.Writing.{Env, in_part, in_arms, in_procedure, end_at, offset_of, entry, entries, block_code, Pending, own_phrase, unless_empty, block_phrases, region, arms_code, arms_phrases}
use Rattle.code_trees.specs.Excess.{excess_of, excess_in, excess, excess_in_arms}

abbrev pub Lean : CodeEntry → Type 0
Lean e = excess_of e.instruction ≡ 0

abbrev AllLean : List CodeEntry → Type 0
AllLean [] = Unit {0}
AllLean (e ∷ es) = Lean e × AllLean es

lean_both : (es fs : List CodeEntry) → AllLean es → AllLean fs → AllLean (es ++ fs)
lean_both [] fs g h = h
lean_both (e ∷ es) fs g h = (g.0, lean_both es fs g.1 h)

pub lean_get : (es : List CodeEntry) → AllLean es → (k : ℕ) (e : CodeEntry) → slice_get es k ≡ Some e → Lean e
lean_get [] h k e f = cc
lean_get (x ∷ es) h zero e f = let same : x ≡ e = cc in subst Lean same h.0
lean_get (x ∷ es) h (suc k) e f = lean_get es h.1 k e f

-- ---- the code of a block

lean_own : (is : List Instruction) (a d : ℕ) → excess_in is ≡ 0 → AllLean (entries is a d)
unfolding excess_in
lean_own [] a d h = tt
lean_own (x ∷ is) a d h = (omega (arith, h), lean_own is (a + bytes_of x) (depth_after alone x d) (omega (arith, h)))

lean_leap : (l : Leap) (target : ℕ) → excess_of (leap_to l target) ≡ 0
unfolding excess_of
lean_leap Anyhow target = refl
lean_leap (Where true) target = refl
lean_leap (Where false) target = refl

lean_goes : (arms : ℕ) (p : Point) (target : ℕ) → excess_of (goes_to arms p target) ≡ 0
unfolding excess_of
lean_goes zero (Start n) target = refl
lean_goes zero (After n) target = refl
lean_goes zero (At l) target = refl
lean_goes zero Leave target = refl
lean_goes (suc k) (Start n) target = refl
lean_goes (suc k) (After n) target = refl
lean_goes (suc k) (At l) target = refl
lean_goes (suc k) Leave target = refl

lean_block : (b : Block) (E : Env) (a d : ℕ) → excess b ≡ 0 → AllLean (block_code b E a d)
unfolding excess excess_of
lean_block (Does is) E a d h = lean_own is a d (omega (arith, h))
lean_block (Calls call takes puts arms) E a d h = (omega (arith, h), tt)
lean_block (Both b c) E a d h =
    lean_both (block_code b E a d) (block_code c E (a + size b) (depth_behind b d)) (lean_block b E a d (omega (arith, h)))
    (lean_block c E (a + size b) (depth_behind b d) (omega (arith, h)))
lean_block (Ends mark b) E a d h = lean_block b (in_part mark a (a + size b) E) a d h
lean_block (Out leap part) E a d h = (lean_leap leap (end_at E.ends part), tt)
lean_block (Goes arms p) E a d h = (lean_goes arms p (offset_of (E.points p)), tt)
lean_block (Rounds b) E a d h =
    lean_both (block_code b E a d) (entry (a + size b) (depth_behind b d) (i.JumpBack a) ∷ []) (lean_block b E a d (omega (arith, h))) (refl, tt)
lean_block (Enables arms b) E a d h = lean_block b E a d (omega (arith, h))

-- ---- and of the arms

-- a block and one instruction of its own behind it
lean_ended : (b : Block) (x : Instruction) (E : Env) (a d : ℕ) → excess b ≡ 0 → excess_of x ≡ 0 → AllLean (block_code (Both b (Does (x ∷ []))) E a d)
lean_ended b x E a d h g = lean_both (block_code b E a d) (entry (a + size b) (depth_behind b d) x ∷ []) (lean_block b E a d h) (g, tt)

no_excess : excess_of i.ArmEnd ≡ 0
unfolding excess_of
no_excess = refl

none_returned : excess_of i.Return ≡ 0
unfolding excess_of
none_returned = refl

lean_arms : (arms : ArmBlocks) (E : Env) (at : ℕ) → excess_in_arms arms ≡ 0 → AllLean (arms_code arms E at)
unfolding excess_in_arms
lean_arms NoArmBlock E at h = tt
lean_arms (AndArmBlock labels slot words b arms) E at h =
    lean_both (block_code (region b) E at 0) (arms_code arms E (at + size (region b))) (lean_ended b i.ArmEnd E at 0 (omega (arith, h)) no_excess)
    (lean_arms arms E (at + size (region b)) (omega (arith, h)))

-- phrases whose arms are such
abbrev AllSpare : List Pending → Type 0
AllSpare [] = Unit {0}
AllSpare (q ∷ ps) = (excess_in_arms q.arms ≡ 0) × AllSpare ps

spare_both : (ps qs : List Pending) → AllSpare ps → AllSpare qs → AllSpare (ps ++ qs)
spare_both [] qs g h = h
spare_both (q ∷ ps) qs g h = (g.0, spare_both ps qs g.1 h)

spare_own : (arms : ArmBlocks) (E : Env) (a b : ℕ) → excess_in_arms arms ≡ 0 → AllSpare (own_phrase arms E a b)
spare_own NoArmBlock E a b h = tt
spare_own (AndArmBlock labels slot words block arms) E a b h = (h, tt)

spare_unless : (n : ℕ) (ps : List Pending) → AllSpare ps → AllSpare (unless_empty n ps)
spare_unless zero ps h = tt
spare_unless (suc n) ps h = h

spare_block : (b : Block) (E : Env) (a : ℕ) → excess b ≡ 0 → AllSpare (block_phrases b E a)
unfolding excess
spare_block (Does is) E a h = tt
spare_block (Calls call takes puts arms) E a h = spare_own arms E a (a + bytes_of call) (omega (arith, h))
spare_block (Both b c) E a h =
    spare_both (block_phrases b E a) (block_phrases c E (a + size b)) (spare_block b E a (omega (arith, h))) (spare_block c E (a + size b) (omega (arith, h)))
spare_block (Ends mark b) E a h = spare_block b (in_part mark a (a + size b) E) a h
spare_block (Out leap part) E a h = tt
spare_block (Goes arms p) E a h = tt
spare_block (Rounds b) E a h = spare_block b E a (omega (arith, h))
spare_block (Enables arms b) E a h =
    spare_unless (size b) (own_phrase arms E a (a + size b) ++ block_phrases b E a)
    (spare_both (own_phrase arms E a (a + size b)) (block_phrases b E a) (spare_own arms E a (a + size b) (omega (arith, h))) (spare_block b E a (omega (arith, h))))

spare_ended : (b : Block) (x : Instruction) (E : Env) (a : ℕ) → excess b ≡ 0 → AllSpare (block_phrases (Both b (Does (x ∷ []))) E a)
spare_ended b x E a h = spare_both (block_phrases b E a) [] (spare_block b E a h) tt

spare_arms : (arms : ArmBlocks) (E : Env) (a : ℕ) → excess_in_arms arms ≡ 0 → AllSpare (arms_phrases arms E a)
unfolding excess_in_arms
spare_arms NoArmBlock E a h = tt
spare_arms (AndArmBlock labels slot words b arms) E a h =
    spare_both (block_phrases (region b) E a) (arms_phrases arms E (a + size (region b))) (spare_ended b i.ArmEnd E a (omega (arith, h)))
    (spare_arms arms E (a + size (region b)) (omega (arith, h)))

spare_get : (ps : List Pending) → AllSpare ps → (k : ℕ) (q : Pending) → slice_get ps k ≡ Some q → excess_in_arms q.arms ≡ 0
spare_get [] h k q e = cc
spare_get (p ∷ ps) h zero q e = let same : p ≡ q = cc in subst (λ (x : Pending). excess_in_arms x.arms ≡ 0) same h.0
spare_get (p ∷ ps) h (suc k) q e = spare_get ps h.1 k q e

-- ---- the whole

record Kept (w : Written) : Type 0 where
  code : AllLean w.code
  found : AllSpare w.found

kept_with : (w : Written) (o : Option Pending) → slice_get w.found (length w.done) ≡ o → Kept w → Kept (with_arms w o)
kept_with w None e h = h
kept_with w (Some q) e h =
    let arms = spare_get w.found h.found (length w.done) q e in
    record {
      code = lean_both w.code (arms_code q.arms (in_arms q.env) w.end) h.code (lean_arms q.arms (in_arms q.env) w.end arms);
      found = spare_both w.found (arms_phrases q.arms (in_arms q.env) w.end) h.found (spare_arms q.arms (in_arms q.env) w.end arms);
    }

kept_all : (n : ℕ) (w : Written) → Kept w → Kept (all_written n w)
kept_all zero w h = h
kept_all (suc n) w h = kept_all n (next_written w) (kept_with w (slice_get w.found (length w.done)) refl h)

pub written_lean : (b : Block) → excess b ≡ 0 → AllLean (written b).code
written_lean b h =
    (kept_all (phrase_count b) (first_region (returning b)) (record {
      code = lean_ended b i.Return in_procedure 0 0 h none_returned;
      found = spare_ended b i.Return in_procedure 0 h;
    })).code
