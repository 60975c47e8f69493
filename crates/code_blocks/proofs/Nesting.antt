-- The phrases of a procedure stand in the order of their ranges, and two ranges lie one behind the other or one in the other.
use Rattle.std.proofs.Common.{◌≡◌, sym, ap, ◌∙◌, subst, ℕ, zero, suc, ◌+◌, ◌<◌, ◌≤◌, ◌⊎◌, inl, inr, ⊎_elim, List, [], ◌∷◌, ◌++◌, length, map, All, Option, Some, None, arith}
use Rattle.std.specs.Prelude.{slice_get}
use Rattle.std.proofs.lemmas.Option.{slice_get_within}
use Rattle.mesa_types.specs.Typed.{Procedure, Module}
use Rattle.code_forms.specs.declared.module_code.CodeProcedure.{CodeProcedure}
use Rattle.code_forms.specs.declared.module_code.Phrase.{Phrase}
use Rattle.code_rules.specs.Modules.{procedures_of}
use Rattle.code_forms.specs.Instructions.{bytes_of}
use Rattle.code_blocks.specs.Blocks.{Block, Does, Calls, Both, Ends, Out, Goes, Rounds, Enables, ArmBlocks, NoArmBlock, AndArmBlock}
use Rattle.code_blocks.specs.Laws.{RangesNest, PhrasesNest}
use Rattle.code_blocks.specs.Modules.{body_block, procedure_code}
use Rattle.code_blocks.specs.Sizes.{size, phrase_count}
use Rattle.code_blocks.specs.Writing.{Env, in_part, in_arms, in_procedure, Pending, own_phrase, unless_empty, block_phrases, region, arms_phrases, arms_size, phrase_from}
use Rattle.code_blocks.specs.Regions.{Written, returning, first_region, with_arms, next_written, all_written, written}
use Rattle.code_blocks.proofs.Around.{Inside, inside_both, inside_wider}
use Rattle.code_blocks.proofs.Counting.{all_finished}
use Rattle.code_blocks.proofs.Kept.{Kept, arms_inside, inside_get}
use Rattle.code_blocks.proofs.Lists.{get_there}
use Rattle.code_blocks.proofs.Lying.{inside_block}

-- the second begins no earlier than the first, behind its end or within it
pub record Follows (q p : Pending) : Type 0 where
  pub listed : q.from ≤ p.from
  pub nests : (q.upto ≤ p.from) ⊎ (p.upto ≤ q.upto)

abbrev pub AllFollow : Pending → List Pending → Type 0
AllFollow q [] = Unit {0}
AllFollow q (p ∷ ps) = Follows q p × AllFollow q ps

abbrev pub Nested : List Pending → Type 0
Nested [] = Unit {0}
Nested (q ∷ ps) = AllFollow q ps × Nested ps

-- what lies behind an offset follows what ends there or before
behind_all : (m b : ℕ) (q : Pending) (ps : List Pending) → q.from ≤ m → q.upto ≤ m → Inside m b ps → AllFollow q ps
behind_all m b q [] le1 le2 h = tt
behind_all m b q (p ∷ ps) le1 le2 h =
    (record { listed = omega (arith, le1, (h.0).0); nests = inl (omega (arith, le2, (h.0).0)) }, behind_all m b q ps le1 le2 h.1)

follow_both : (q : Pending) (ps rs : List Pending) → AllFollow q ps → AllFollow q rs → AllFollow q (ps ++ rs)
follow_both q [] rs g h = h
follow_both q (p ∷ ps) rs g h = (g.0, follow_both q ps rs g.1 h)

nested_both : (a m b : ℕ) (ps qs : List Pending) → Nested ps → Nested qs → Inside a m ps → Inside m b qs → Nested (ps ++ qs)
nested_both a m b [] qs g h i j = h
nested_both a m b (p ∷ ps) qs g h i j =
    (follow_both p ps qs g.0 (behind_all m b p qs (omega (arith, (i.0).1, (i.0).2)) (i.0).2 j), nested_both a m b ps qs g.1 h i.1 j)

-- what lies in a range follows it
within_all : (q : Pending) (ps : List Pending) → Inside q.from q.upto ps → AllFollow q ps
within_all q [] h = tt
within_all q (p ∷ ps) h = (record { listed = (h.0).0; nests = inr (h.0).2 }, within_all q ps h.1)

nested_own : (arms : ArmBlocks) (E : Env) (a b : ℕ) → Nested (own_phrase arms E a b)
nested_own NoArmBlock E a b = tt
nested_own (AndArmBlock labels slot words block arms) E a b = (tt, tt)

nested_over : (arms : ArmBlocks) (E : Env) (a b : ℕ) (ps : List Pending) → Inside a b ps → Nested ps → Nested (own_phrase arms E a b ++ ps)
nested_over NoArmBlock E a b ps i h = h
nested_over (AndArmBlock labels slot words block arms) E a b ps i h = (within_all _ ps i, h)

nested_unless : (n : ℕ) (ps : List Pending) → Nested ps → Nested (unless_empty n ps)
nested_unless zero ps h = tt
nested_unless (suc n) ps h = h

pub nested_block : (b : Block) (E : Env) (a : ℕ) → Nested (block_phrases b E a)
nested_block (Does is) E a = tt
nested_block (Calls call takes puts arms) E a = nested_own arms E a (a + bytes_of call)
nested_block (Both b c) E a =
    nested_both a (a + size b) (a + size b + size c) (block_phrases b E a) (block_phrases c E (a + size b)) (nested_block b E a)
    (nested_block c E (a + size b)) (inside_block b E a) (inside_block c E (a + size b))
nested_block (Ends mark b) E a = nested_block b (in_part mark a (a + size b) E) a
nested_block (Out leap part) E a = tt
nested_block (Goes arms p) E a = tt
nested_block (Rounds b) E a = nested_block b E a
nested_block (Enables arms b) E a =
    nested_unless (size b) _ (nested_over arms E a (a + size b) (block_phrases b E a) (inside_block b E a) (nested_block b E a))

nested_arms : (arms : ArmBlocks) (E : Env) (a : ℕ) → Nested (arms_phrases arms E a)
nested_arms NoArmBlock E a = tt
nested_arms (AndArmBlock labels slot words b arms) E a =
    let m = a + size (region b) in
    nested_both a m (m + arms_size arms) (block_phrases (region b) E a) (arms_phrases arms E m) (nested_block (region b) E a) (nested_arms arms E m)
    (inside_block (region b) E a) (arms_inside arms E m)

-- the ranges of the phrases found so far lie in the code, and nest
pub record Ranged (w : Written) : Type 0 where
  pub inside : Inside 0 w.end w.found
  pub nested : Nested w.found

pub ranged_first : (b : Block) → Ranged (first_region b)
ranged_first b = record {
  inside = inside_wider 0 (0 + size b) 0 (size b) (block_phrases b in_procedure 0) (omega arith) (omega arith) (inside_block b in_procedure 0);
  nested = nested_block b in_procedure 0;
}

pub ranged_with : (w : Written) (o : Option Pending) → Ranged w → Ranged (with_arms w o)
ranged_with w None h = h
ranged_with w (Some q) h =
    let new = w.end + arms_size q.arms in
    let ps = arms_phrases q.arms (in_arms q.env) w.end in
    let i = arms_inside q.arms (in_arms q.env) w.end in
    record {
      inside = inside_both 0 new w.found ps (inside_wider 0 w.end 0 new w.found (omega arith) (omega arith) h.inside)
          (inside_wider w.end new 0 new ps (omega arith) (omega arith) i);
      nested = nested_both 0 w.end new w.found ps h.nested (nested_arms q.arms (in_arms q.env) w.end) h.inside i;
    }

ranged_all : (n : ℕ) (w : Written) → Ranged w → Ranged (all_written n w)
ranged_all zero w h = h
ranged_all (suc n) w h = ranged_all n (next_written w) (ranged_with w (slice_get w.found (length w.done)) h)

all_follow_get : (q : Pending) (ps : List Pending) → AllFollow q ps → (k : ℕ) (p : Pending) → slice_get ps k ≡ Some p → Follows q p
all_follow_get q [] h k p e = cc
all_follow_get q (r ∷ ps) h zero p e = let same : r ≡ p = cc in subst (λ x. Follows q x) same h.0
all_follow_get q (r ∷ ps) h (suc k) p e = all_follow_get q ps h.1 k p e

nested_get : (ps : List Pending) → Nested ps → (j k : ℕ) (q p : Pending) → j < k → slice_get ps j ≡ Some q → slice_get ps k ≡ Some p → Follows q p
nested_get [] h j k q p lt e f = cc
nested_get (r ∷ ps) h j zero q p lt e f = absurd (omega (arith, lt))
nested_get (r ∷ ps) h zero (suc k) q p lt e f = let same : r ≡ q = cc in subst (λ x. Follows x p) same (all_follow_get r ps h.0 k p f)
nested_get (r ∷ ps) h (suc j) (suc k) q p lt e f = nested_get ps h.1 j k q p (omega (arith, lt)) e f

-- the phrase of a number, as it was found
pub found_as : (b : Block) (w : Written) → Kept b w → length w.done ≡ length w.found → (k : ℕ) (p : Phrase) → slice_get w.done k ≡ Some p
    → (q : Pending) × (slice_get w.found k ≡ Some q) × (p.from ≡ q.from) × (p.to ≡ q.upto)
found_as b w kept all k p e =
    let lt = slice_get_within w.done k p e in
    let q = get_there w.found k (omega (arith, lt, all)) in
    let x = kept.arms k q.0 lt q.1 in
    let same : p ≡ phrase_from q.0 x.0 = cc (sym e ∙ x.1) in
    (q.0, q.1, ap (λ (y : Phrase). y.from) same, ap (λ (y : Phrase). y.to) same)

pub ranges_nest : (b : Block) → RangesNest (written b).done
ranges_nest b =
    let w = written b in
    let f = all_finished b in
    let r = ranged_all (phrase_count b) (first_region (returning b)) (ranged_first (returning b)) in
    record {
      filled = λ k p e.
          let x = found_as (returning b) w f.kept f.all k p e in
          let i = inside_get 0 w.end w.found k x.0 x.1 r.inside in
          omega (arith, x.2, x.3, i.1);
      listed = λ j k q p lt e g.
          let x = found_as (returning b) w f.kept f.all j q e in
          let y = found_as (returning b) w f.kept f.all k p g in
          omega (arith, x.2, y.2, (nested_get w.found r.nested j k x.0 y.0 lt x.1 y.1).listed);
      nests = λ j k q p lt e g.
          let x = found_as (returning b) w f.kept f.all j q e in
          let y = found_as (returning b) w f.kept f.all k p g in
          ⊎_elim (λ le. inl (omega (arith, le, x.3, y.2))) (λ le. inr (omega (arith, le, x.3, y.3)))
          (nested_get w.found r.nested j k x.0 y.0 lt x.1 y.1).nests;
    }

procedures_nest : (m : Module) (ps : List Procedure) → All (λ (c : CodeProcedure). RangesNest c.phrases) (map (procedure_code m) ps)
procedures_nest m [] k d lt = absurd (omega (arith, lt))
procedures_nest m (p ∷ ps) zero d lt = ranges_nest (body_block m p)
procedures_nest m (p ∷ ps) (suc k) d lt = procedures_nest m ps k d (omega (arith, lt))

pub phrases_nest : PhrasesNest
phrases_nest m = procedures_nest m (procedures_of m)
