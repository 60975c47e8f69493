-- As many steps as a block has phrases write the arms of all phrases that are found.
use Rattle.std.proofs.Common.{◌≡◌, refl, sym, ap, ◌∙◌, subst, ℕ, zero, suc, ◌+◌, ◌<◌, ◌≤◌, List, [], ◌∷◌, ◌++◌, append_assoc, length, length-append, Some, arith}
use Rattle.std.specs.Prelude.{slice_get}
use Rattle.code_forms.specs.declared.module_code.Phrase.{Phrase}
use Rattle.code_forms.specs.Instructions.{bytes_of}
use Rattle.code_forms.specs.Phrases.{first_start}
use Rattle.code_blocks.specs.Blocks.{Block, Does, Calls, Both, Ends, Out, Goes, Rounds, Enables, ArmBlocks, NoArmBlock, AndArmBlock}
use Rattle.code_blocks.specs.Heaviness.{weight, caught_weight, arms_weight}
use Rattle.code_blocks.specs.Sizes.{size, if_any, phrase_count, caught, phrases_in_arms}
use Rattle.code_blocks.specs.Writing.{Env, in_part, in_arms, in_procedure, Pending, own_phrase, unless_empty, block_phrases, region, arms_code, arms_phrases, arms_size, regions, phrase_from}
use Rattle.code_blocks.specs.Regions.{Written, returning, first_region, with_arms, next_written, all_written, written}
use Rattle.code_blocks.specs.Weights.{entries_bytes, phrases_bytes}
use Rattle.code_blocks.proofs.BlockWeights.{still_weight, still_both, block_weight, arms_code_bytes, arms_weigh, phrases_joined}
use Rattle.code_blocks.proofs.Bytes.{bytes_joined, block_bytes}
use Rattle.code_blocks.proofs.RegionOrder.{HasArms, InTurn, in_turn_more}
use Rattle.code_blocks.proofs.Kept.{Kept, kept_first, kept_next}
use Rattle.code_blocks.proofs.Lists.{get_seam}

-- how many phrases are to be written, with those in their arms
abbrev left : List Pending → ℕ
left [] = 0
left (q ∷ ps) = caught q.arms + left ps

left_both : (ps qs : List Pending) → left (ps ++ qs) ≡ left ps + left qs
left_both [] qs = omega arith
left_both (q ∷ ps) qs = omega (arith, left_both ps qs)

left_own : (arms : ArmBlocks) (E : Env) (a b : ℕ) → left (own_phrase arms E a b) ≡ caught arms
left_own NoArmBlock E a b = refl
left_own (AndArmBlock labels slot words block arms) E a b = omega arith

left_unless : (n : ℕ) (ps : List Pending) → left (unless_empty n ps) ≡ if_any n (left ps)
left_unless zero ps = refl
left_unless (suc n) ps = refl

left_block : (b : Block) (E : Env) (a : ℕ) → left (block_phrases b E a) ≡ phrase_count b
left_block (Does is) E a = refl
left_block (Calls call takes puts arms) E a = left_own arms E a (a + bytes_of call)
left_block (Both b c) E a =
    left_both (block_phrases b E a) (block_phrases c E (a + size b)) ∙ omega (arith, left_block b E a, left_block c E (a + size b))
left_block (Ends mark b) E a = left_block b (in_part mark a (a + size b) E) a
left_block (Out leap part) E a = refl
left_block (Goes arms p) E a = refl
left_block (Rounds b) E a = left_block b E a
left_block (Enables arms b) E a =
    left_unless (size b) (own_phrase arms E a (a + size b) ++ block_phrases b E a)
    ∙ ap (if_any (size b))
    (left_both (own_phrase arms E a (a + size b)) (block_phrases b E a) ∙ omega (arith, left_own arms E a (a + size b), left_block b E a))

left_arms : (arms : ArmBlocks) (E : Env) (a : ℕ) → left (arms_phrases arms E a) ≡ phrases_in_arms arms
left_arms NoArmBlock E a = refl
left_arms (AndArmBlock labels slot words b arms) E a =
    left_both (block_phrases (region b) E a) (arms_phrases arms E (a + size (region b)))
    ∙ omega (arith, left_block (region b) E a, left_arms arms E (a + size (region b)))

-- each phrase has arms

abbrev pub AllArmed : List Pending → Type 0
AllArmed [] = Unit {0}
AllArmed (q ∷ ps) = HasArms q.arms × AllArmed ps

pub armed_both : (ps qs : List Pending) → AllArmed ps → AllArmed qs → AllArmed (ps ++ qs)
armed_both [] qs g h = h
armed_both (q ∷ ps) qs g h = (g.0, armed_both ps qs g.1 h)

armed_own : (arms : ArmBlocks) (E : Env) (a b : ℕ) → AllArmed (own_phrase arms E a b)
armed_own NoArmBlock E a b = tt
armed_own (AndArmBlock labels slot words block arms) E a b = (tt, tt)

armed_unless : (n : ℕ) (ps : List Pending) → AllArmed ps → AllArmed (unless_empty n ps)
armed_unless zero ps h = tt
armed_unless (suc n) ps h = h

pub armed_block : (b : Block) (E : Env) (a : ℕ) → AllArmed (block_phrases b E a)
armed_block (Does is) E a = tt
armed_block (Calls call takes puts arms) E a = armed_own arms E a (a + bytes_of call)
armed_block (Both b c) E a = armed_both (block_phrases b E a) (block_phrases c E (a + size b)) (armed_block b E a) (armed_block c E (a + size b))
armed_block (Ends mark b) E a = armed_block b (in_part mark a (a + size b) E) a
armed_block (Out leap part) E a = tt
armed_block (Goes arms p) E a = tt
armed_block (Rounds b) E a = armed_block b E a
armed_block (Enables arms b) E a =
    armed_unless (size b) (own_phrase arms E a (a + size b) ++ block_phrases b E a)
    (armed_both (own_phrase arms E a (a + size b)) (block_phrases b E a) (armed_own arms E a (a + size b)) (armed_block b E a))

pub armed_arms : (arms : ArmBlocks) (E : Env) (a : ℕ) → AllArmed (arms_phrases arms E a)
armed_arms NoArmBlock E a = tt
armed_arms (AndArmBlock labels slot words b arms) E a =
    armed_both (block_phrases (region b) E a) (arms_phrases arms E (a + size (region b))) (armed_block (region b) E a) (armed_arms arms E (a + size (region b)))

-- a phrase with arms, and those in its arms
one_and_more : (arms : ArmBlocks) → HasArms arms → caught arms ≡ 1 + phrases_in_arms arms
one_and_more NoArmBlock h = absurd h
one_and_more (AndArmBlock labels slot words b arms) h = refl

caught_is : (arms : ArmBlocks) → HasArms arms → caught_weight arms ≡ 12 + arms_weight arms
caught_is NoArmBlock h = absurd h
caught_is (AndArmBlock labels slot words b arms) h = refl

some_left : (q : Pending) (ps : List Pending) → HasArms q.arms → 0 < left (q ∷ ps)
some_left q ps h = omega (arith, one_and_more q.arms h)

-- the first arm begins where the first region ends, or the code ends there
abbrev pub StartsAt : List Phrase → (start end : ℕ) → Type 0
StartsAt [] start end = end ≡ start
StartsAt (p ∷ ps) start end = first_start p.arms ≡ start

regions_start : (arms : ArmBlocks) (at : ℕ) → HasArms arms → first_start (regions arms at) ≡ at
regions_start NoArmBlock at h = absurd h
regions_start (AndArmBlock labels slot words b arms) at h = refl

still_starts : (ps : List Phrase) (q : Pending) (start at end : ℕ) → HasArms q.arms → StartsAt ps start at → StartsAt (ps ++ phrase_from q at ∷ []) start end
still_starts [] q start at end h e = regions_start q.arms at h ∙ e
still_starts (p ∷ ps) q start at end h e = e

-- Of the phrases found, those whose arms are written and those whose are not.

pub record Queue (start limit : ℕ) (w : Written) (count : ℕ) : Type 0 where
  pub before : List Pending
  pub rest : List Pending
  pub found : w.found ≡ before ++ rest
  pub done : length w.done ≡ length before
  pub armed : AllArmed rest
  pub many : left rest ≡ count
  pub first : StartsAt w.done start w.end
  pub light : entries_bytes w.code + phrases_bytes w.done + still_weight rest ≤ limit
  pub turn : InTurn start w.done w.end

queue_next : (start limit : ℕ) (w : Written) (n : ℕ) → StartsAt w.done start w.end → (before rest : List Pending)
    → entries_bytes w.code + phrases_bytes w.done + still_weight rest ≤ limit → InTurn start w.done w.end → w.found ≡ before ++ rest → length w.done ≡ length before → AllArmed rest
    → left rest ≡ suc n → Queue start limit (next_written w) n
queue_next start limit w n first before [] light turn found done armed many = absurd (omega (arith, many))
queue_next start limit w n first before (q ∷ rest) light turn found done armed many =
    let at : slice_get w.found (length w.done) ≡ Some q =
    ap (λ l. slice_get l (length w.done)) found ∙ ap (λ k. slice_get (before ++ q ∷ rest) k) done ∙ get_seam before q rest in
    let new = arms_phrases q.arms (in_arms q.env) w.end in
    subst (λ o. Queue start limit (with_arms w o) n) (sym at) (record {
      before = before ++ q ∷ [];
      rest = rest ++ new;
      found = ap (λ l. l ++ new) found ∙ append_assoc before (q ∷ rest) new ∙ sym (append_assoc before (q ∷ []) (rest ++ new));
      done = omega (arith, done, length-append w.done (phrase_from q w.end ∷ []), length-append before (q ∷ []));
      armed = armed_both rest new armed.1 (armed_arms q.arms (in_arms q.env) w.end);
      many = left_both rest new ∙ omega (arith, many, left_arms q.arms (in_arms q.env) w.end, one_and_more q.arms armed.0);
      turn = in_turn_more start w.done w.end q turn armed.0;
      first = still_starts w.done q start w.end (w.end + arms_size q.arms) armed.0 first;
      light = omega (
        arith,
        light,
        bytes_joined w.code (arms_code q.arms (in_arms q.env) w.end),
        arms_code_bytes q.arms (in_arms q.env) w.end,
        phrases_joined w.done (phrase_from q w.end ∷ []),
        still_both rest new,
        arms_weigh q.arms (in_arms q.env) w.end,
        caught_is q.arms armed.0,
      );
    })

no_rest : (rest : List Pending) → AllArmed rest → left rest ≡ 0 → length rest ≡ 0
no_rest [] h e = refl
no_rest (q ∷ rest) h e = absurd (omega (arith, e, some_left q rest h.0))

-- after so many steps all is kept and no phrase is left
pub record Finished (b : Block) (w : Written) : Type 0 where
  pub kept : Kept b w
  pub all : length w.done ≡ length w.found
  pub first : StartsAt w.done (size b) w.end
  pub light : entries_bytes w.code + phrases_bytes w.done ≤ weight b
  pub turn : InTurn (size b) w.done w.end

finished : (n : ℕ) (b : Block) (w : Written) → Kept b w → Queue (size b) (weight b) w n → Finished b (all_written n w)
finished zero b w kept q = record {
  kept = kept;
  all = omega (arith, q.done, ap length q.found, length-append q.before q.rest, no_rest q.rest q.armed q.many);
  first = q.first;
  light = omega (arith, q.light);
  turn = q.turn;
}
finished (suc n) b w kept q =
    finished n b (next_written w) (kept_next b w kept) (queue_next (size b) (weight b) w n q.first q.before q.rest q.light q.turn q.found q.done q.armed q.many)

pub all_finished : (b : Block) → Finished (returning b) (written b)
all_finished b =
    finished (phrase_count b) (returning b) (first_region (returning b)) (kept_first (returning b)) (record {
      before = [];
      rest = block_phrases (returning b) in_procedure 0;
      found = refl;
      done = refl;
      armed = armed_block (returning b) in_procedure 0;
      many = left_block (returning b) in_procedure 0 ∙ omega arith;
      turn = record { some = omega arith; follow = λ n p e. cc; ends = refl };
      first = refl;
      light = omega (arith, block_bytes (returning b) in_procedure 0 0, block_weight (returning b) in_procedure 0);
    })
