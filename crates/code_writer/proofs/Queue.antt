-- The phrases found so far as the queue of those whose arms are still to be written: as many as the block has.
use Rattle.std.proofs.Common.{◌≡◌, refl, sym, ap, ◌∙◌, subst, ℕ, zero, suc, ◌+◌, ◌<◌, ◌≤◌, List, [], ◌∷◌, ◌++◌, drop, length, length-append, Option, Some, None, arith}
use Rattle.std.specs.Prelude.{slice_get}
use Rattle.code_forms.specs.Instructions.{bytes_of}
use Rattle.code_writer.proofs.Deep.{deepest_both}
use Rattle.code_blocks.specs.Blocks.{Block, Does, Calls, Both, Ends, Out, Goes, Rounds, Enables, ArmBlocks, NoArmBlock, AndArmBlock}
use Rattle.code_blocks.specs.Modules.{deepest}
use Rattle.code_blocks.specs.Sizes.{size, if_any, phrase_count, caught, phrases_in_arms}
use Rattle.code_blocks.specs.Writing.{Env, in_part, in_arms, in_procedure, Pending, own_phrase, unless_empty, block_phrases, region, arms_code, arms_phrases, arms_size, phrase_from}
use Rattle.code_blocks.specs.Regions.{Written, returning, first_region, with_arms, next_written, all_written, written}
use Rattle.code_blocks.proofs.Counting.{AllArmed, armed_both, armed_block, armed_arms}
use Rattle.code_blocks.proofs.RegionOrder.{HasArms}

-- how many phrases are to be written, with those in their arms
abbrev pub left : List Pending → ℕ
left [] = 0
left (q ∷ ps) = caught q.arms + left ps

-- with as many steps as phrases are left, all is written that the block comes to
pub record Stage (b : Block) (w : Written) : Type 0 where
  pub rest : all_written (left (drop (length w.done) w.found)) w ≡ written b
  pub armed : AllArmed (drop (length w.done) w.found)
  pub done : length w.done ≤ length w.found

left_both : (ps qs : List Pending) → left (ps ++ qs) ≡ left ps + left qs
left_both [] qs = omega arith
left_both (q ∷ ps) qs = omega (arith, left_both ps qs)

left_own : (arms : ArmBlocks) (E : Env) (a b : ℕ) → left (own_phrase arms E a b) ≡ caught arms
left_own NoArmBlock E a b = refl
left_own (AndArmBlock labels slot words block arms) E a b = omega arith

left_unless : (n : ℕ) (ps : List Pending) → left (unless_empty n ps) ≡ if_any n (left ps)
left_unless zero ps = refl
left_unless (suc n) ps = refl

left_block : (b : Block) (E : Env) (a : ℕ) → left (block_phrases b E a) ≡ phrase_count b
left_block (Does is) E a = refl
left_block (Calls call takes puts arms) E a = left_own arms E a (a + bytes_of call)
left_block (Both b c) E a =
    left_both (block_phrases b E a) (block_phrases c E (a + size b)) ∙ omega (arith, left_block b E a, left_block c E (a + size b))
left_block (Ends mark b) E a = left_block b (in_part mark a (a + size b) E) a
left_block (Out leap part) E a = refl
left_block (Goes arms p) E a = refl
left_block (Rounds b) E a = left_block b E a
left_block (Enables arms b) E a =
    left_unless (size b) (own_phrase arms E a (a + size b) ++ block_phrases b E a)
    ∙ ap (if_any (size b))
    (left_both (own_phrase arms E a (a + size b)) (block_phrases b E a) ∙ omega (arith, left_own arms E a (a + size b), left_block b E a))

left_arms : (arms : ArmBlocks) (E : Env) (a : ℕ) → left (arms_phrases arms E a) ≡ phrases_in_arms arms
left_arms NoArmBlock E a = refl
left_arms (AndArmBlock labels slot words b arms) E a =
    left_both (block_phrases (region b) E a) (arms_phrases arms E (a + size (region b)))
    ∙ omega (arith, left_block (region b) E a, left_arms arms E (a + size (region b)))

one_and_more : (arms : ArmBlocks) → HasArms arms → caught arms ≡ 1 + phrases_in_arms arms
one_and_more NoArmBlock h = absurd h
one_and_more (AndArmBlock labels slot words b arms) h = refl

-- Writing on makes the code no shorter and no less deep.

end_grows : (w : Written) (o : Option Pending) → w.end ≤ (with_arms w o).end
end_grows w None = omega arith
end_grows w (Some q) = omega arith

depth_grows : (w : Written) (o : Option Pending) → deepest w.code ≤ deepest (with_arms w o).code
depth_grows w None = omega arith
depth_grows w (Some q) = omega (arith, deepest_both w.code (arms_code q.arms (in_arms q.env) w.end))

pub end_of_all : (n : ℕ) (w : Written) → w.end ≤ (all_written n w).end
end_of_all zero w = omega arith
end_of_all (suc n) w = omega (arith, end_grows w (slice_get w.found (length w.done)), end_of_all n (next_written w))

pub depth_of_all : (n : ℕ) (w : Written) → deepest w.code ≤ deepest (all_written n w).code
depth_of_all zero w = omega arith
depth_of_all (suc n) w = omega (arith, depth_grows w (slice_get w.found (length w.done)), depth_of_all n (next_written w))

-- Stages.

pub first_stage : (b : Block) → Stage b (first_region (returning b))
first_stage b =
    let w : Written = first_region (returning b) in
    let all : left w.found ≡ phrase_count b = left_block (returning b) in_procedure 0 ∙ omega arith in
    record {
      rest = ap (λ n. all_written n w) all;
      armed = armed_block (returning b) in_procedure 0;
      done = omega arith;
    }

-- what is dropped, and the one before it
drop_at : (ps : List Pending) (k : ℕ) (q : Pending) → slice_get ps k ≡ Some q → drop k ps ≡ q ∷ drop (suc k) ps
drop_at [] k q e = cc
drop_at (p ∷ ps) zero q e = let same : p ≡ q = cc in ap (λ x. x ∷ ps) same
drop_at (p ∷ ps) (suc k) q e = drop_at ps k q e

there : (ps : List Pending) (k : ℕ) (q : Pending) → slice_get ps k ≡ Some q → k < length ps
there [] k q e = cc
there (p ∷ ps) zero q e = omega arith
there (p ∷ ps) (suc k) q e = omega (arith, there ps k q e)

drop_both : (ps qs : List Pending) (k : ℕ) → k ≤ length ps → drop k (ps ++ qs) ≡ drop k ps ++ qs
drop_both ps qs zero le = refl
drop_both [] qs (suc k) le = absurd (omega (arith, le))
drop_both (p ∷ ps) qs (suc k) le = drop_both ps qs k (omega (arith, le))

pub record Onward (b : Block) (w : Written) (q : Pending) : Type 0 where
  pub stage : Stage b (with_arms w (Some q))
  pub fewer : left (drop (length (with_arms w (Some q)).done) (with_arms w (Some q)).found) < left (drop (length w.done) w.found)
  pub room : w.end + arms_size q.arms ≤ (written b).end
  pub shallow : deepest (arms_code q.arms (in_arms q.env) w.end) ≤ deepest (written b).code

pub onward : (b : Block) (w : Written) (q : Pending) → Stage b w → slice_get w.found (length w.done) ≡ Some q → Onward b w q
onward b w q s e =
    let v : Written = with_arms w (Some q) in
    let k : ℕ = length w.done in
    let new : List Pending = arms_phrases q.arms (in_arms q.env) w.end in
    let rest : List Pending = drop (suc k) w.found in
    let here : drop k w.found ≡ q ∷ rest = drop_at w.found k q e in
    let some : k < length w.found = there w.found k q e in
    let armed : AllArmed (q ∷ rest) = subst AllArmed here s.armed in
    let count : length v.done ≡ suc k = omega (arith, length-append w.done (phrase_from q w.end ∷ [])) in
    let after : drop (length v.done) v.found ≡ rest ++ new = ap (λ n. drop n v.found) count ∙ drop_both w.found new (suc k) (omega (arith, some)) in
    let fewer : left (drop k w.found) ≡ suc (left (drop (length v.done) v.found)) =
    ap left here ∙ omega (arith, ap left after, left_both rest new, left_arms q.arms (in_arms q.env) w.end, one_and_more q.arms armed.0) in
    let next : next_written w ≡ v = ap (with_arms w) e in
    let all : all_written (left (drop (length v.done) v.found)) v ≡ written b =
    ap (all_written (left (drop (length v.done) v.found))) (sym next) ∙ ap (λ n. all_written n w) (sym fewer) ∙ s.rest in
    record {
      stage = record {
        rest = all;
        armed = subst AllArmed (sym after) (armed_both rest new armed.1 (armed_arms q.arms (in_arms q.env) w.end));
        done = omega (arith, count, some, length-append w.found new);
      };
      fewer = omega (arith, fewer);
      room = omega (arith, end_of_all (left (drop (length v.done) v.found)) v, ap (λ (x : Written). x.end) all);
      shallow =
          omega (
            arith,
            depth_of_all (left (drop (length v.done) v.found)) v,
            ap (λ (x : Written). deepest x.code) all,
            deepest_both w.code (arms_code q.arms (in_arms q.env) w.end),
          );
    }

none_left : (ps : List Pending) (k : ℕ) → length ps ≤ k → left (drop k ps) ≡ 0
none_left [] zero le = refl
none_left [] (suc k) le = refl
none_left (p ∷ ps) zero le = absurd (omega (arith, le))
none_left (p ∷ ps) (suc k) le = none_left ps k (omega (arith, le))

-- when each phrase is written, all is
pub finished : (b : Block) (w : Written) → Stage b w → length w.found ≤ length w.done → w ≡ written b
finished b w s le = ap (λ n. all_written n w) (sym (none_left w.found (length w.done) le)) ∙ s.rest
