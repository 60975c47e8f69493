-- What each step of writing a procedure's code keeps: each region lies between the phrases of earlier ones and those of later ones.
use Rattle.std.proofs.Common.{◌≡◌, refl, sym, ap, ◌∙◌, subst, ℕ, zero, suc, ◌+◌, ◌<◌, ◌≤◌, ⊎_elim, List, [], ◌∷◌, ◌++◌, append_assoc, append-nil, length, length-append, Option, Some, None, arith}
use Rattle.std.proofs.lemmas.Bool.{cases_lt}
use Rattle.std.proofs.lemmas.Option.{slice_get_within}
use Rattle.std.specs.Prelude.{slice_get}
use Rattle.code_forms.specs.declared.module_code.CodeEntry.{CodeEntry}
use Rattle.code_blocks.specs.Blocks.{Block, ArmBlocks, NoArmBlock, AndArmBlock}
use Rattle.code_blocks.specs.Sizes.{size}
use Rattle.code_blocks.specs.Writing.{Env, in_arms, in_procedure, block_code, Pending, block_phrases, region, arms_code, arms_phrases, arms_size, phrase_from}
use Rattle.code_blocks.specs.Regions.{Written, first_region, with_arms, next_written}
use Rattle.code_blocks.proofs.Around.{Inside, inside_wider, inside_two}
use Rattle.code_blocks.proofs.Laying.{Run, run_both, run_to, block_run, arms_run, found_there, has_still}
use Rattle.code_blocks.proofs.Lists.{From, In, from_whole, from_more, get_front, get_seam, get_cases}
use Rattle.code_blocks.proofs.Lying.{Has, inside_block}

-- a block is a region of the code, with its phrases among those that were found
pub record RegionAt (code : List CodeEntry) (found : List Pending) (b : Block) (E : Env) (at : ℕ) : Type 0 where
  pub has : Has code at (block_code b E at 0)
  pub number : ℕ
  pub listed : From (In found) number (block_phrases b E at)
  pub inside : number + length (block_phrases b E at) ≤ length found
  pub earlier : (k : ℕ) (q : Pending) → slice_get found k ≡ Some q → k < number → q.upto ≤ at
  pub later : (k : ℕ) (q : Pending) → slice_get found k ≡ Some q → number + length (block_phrases b E at) ≤ k → at + size b ≤ q.from

abbrev pub ArmsAt : List CodeEntry → List Pending → ArmBlocks → Env → (at : ℕ) → Type 0
ArmsAt code found NoArmBlock E at = Unit {0}
ArmsAt code found (AndArmBlock labels slot words b arms) E at =
    RegionAt code found (region b) E at × ArmsAt code found arms E (at + size (region b))

-- the ranges of all phrases end here or before
abbrev pub Below : List Pending → ℕ → Type 0
Below found end = (k : ℕ) (q : Pending) → slice_get found k ≡ Some q → q.upto ≤ end

pub inside_get : (a b : ℕ) (ps : List Pending) (k : ℕ) (q : Pending) → slice_get ps k ≡ Some q → Inside a b ps → (a ≤ q.from) × (q.from < q.upto) × (q.upto ≤ b)
inside_get a b [] k q e h = cc
inside_get a b (p ∷ ps) zero q e h = let same : p ≡ q = cc in subst (λ x. (a ≤ x.from) × (x.from < x.upto) × (x.upto ≤ b)) same h.0
inside_get a b (p ∷ ps) (suc k) q e h = inside_get a b ps k q e h.1

-- a region stays one where code and phrases of it come behind
region_still : (code more : List CodeEntry) (found new : List Pending) (b : Block) (E : Env) (at end upto : ℕ) → RegionAt code found b E at → at + size b ≤ end
    → Inside end upto new → RegionAt (code ++ more) (found ++ new) b E at
region_still code more found new b E at end upto r le i = record {
  has = has_still code more at (block_code b E at 0) r.has;
  number = r.number;
  listed = from_more found new (block_phrases b E at) r.number r.listed;
  inside = omega (arith, r.inside, length-append found new);
  earlier = λ k q e lt. ⊎_elim (λ x. r.earlier k q x.1 lt) (λ x. absurd (omega (arith, x.1, lt, r.inside))) (get_cases found new k q e);
  later = λ k q e ge. ⊎_elim (λ x. r.later k q x.1 ge) (λ x. omega (arith, le, (inside_get end upto new x.0 q x.2 i).0)) (get_cases found new k q e);
}

arms_still : (code more : List CodeEntry) (found new : List Pending) (arms : ArmBlocks) (E : Env) (at end upto : ℕ) → ArmsAt code found arms E at
    → at + arms_size arms ≤ end → Inside end upto new → ArmsAt (code ++ more) (found ++ new) arms E at
arms_still code more found new NoArmBlock E at end upto r le i = tt
arms_still code more found new (AndArmBlock labels slot words b arms) E at end upto r le i = (
  region_still code more found new (region b) E at end upto r.0 (omega (arith, le)) i,
  arms_still code more found new arms E (at + size (region b)) end upto r.1 (omega (arith, le)) i,
)

-- a region that is written at the end
region_new : (code : List CodeEntry) (found : List Pending) (b : Block) (E : Env) (end : ℕ) → Run 0 code end → Below found end
    → RegionAt (code ++ block_code b E end 0) (found ++ block_phrases b E end) b E end
region_new code found b E end r below =
    let es = block_code b E end 0 in
    let ps = block_phrases b E end in
    record {
      has = subst (λ all. Has all end es) (ap (λ l. code ++ l) (append-nil es)) (found_there code es [] 0 end (end + size b) r (block_run b E end 0));
      number = length found;
      listed = from_whole (found ++ ps) found ps (length found) refl refl;
      inside = omega (arith, length-append found ps);
      earlier = λ k q e lt. ⊎_elim (λ x. below k q x.1) (λ x. absurd (omega (arith, x.1, lt))) (get_cases found ps k q e);
      later = λ k q e ge. absurd (omega (arith, ge, slice_get_within (found ++ ps) k q e, length-append found ps));
    }

pub arms_inside : (arms : ArmBlocks) (E : Env) (at : ℕ) → Inside at (at + arms_size arms) (arms_phrases arms E at)
arms_inside NoArmBlock E at = tt
arms_inside (AndArmBlock labels slot words b arms) E at =
    let m = at + size (region b) in
    inside_two at m m (at + arms_size (AndArmBlock labels slot words b arms)) (block_phrases (region b) E at) (arms_phrases arms E m)
    (inside_block (region b) E at)
    (inside_wider m (m + arms_size arms) m (at + arms_size (AndArmBlock labels slot words b arms)) (arms_phrases arms E m) (omega arith) (omega arith)
    (arms_inside arms E m))
    (omega arith) (omega arith)

below_more : (found new : List Pending) (end upto last : ℕ) → Below found end → Inside end upto new → end ≤ last → upto ≤ last → Below (found ++ new) last
below_more found new end upto last below i le1 le2 k q e =
    ⊎_elim (λ x. omega (arith, below k q x.1, le1)) (λ x. omega (arith, (inside_get end upto new x.0 q x.2 i).2, le2)) (get_cases found new k q e)

-- the regions of arms that are written at the end
arms_new : (arms : ArmBlocks) (code : List CodeEntry) (found : List Pending) (E : Env) (end : ℕ) → Run 0 code end → Below found end
    → ArmsAt (code ++ arms_code arms E end) (found ++ arms_phrases arms E end) arms E end
arms_new NoArmBlock code found E end r below = tt
arms_new (AndArmBlock labels slot words b arms) code found E end r below =
    let m = end + size (region b) in
    let es = block_code (region b) E end 0 in
    let ps = block_phrases (region b) E end in
    let fs = arms_code arms E m in
    let qs = arms_phrases arms E m in
    let here = region_new code found (region b) E end r below in
    let rest = arms_new arms (code ++ es) (found ++ ps) E m (run_both 0 end m code es r (block_run (region b) E end 0))
    (below_more found ps end m m below (inside_block (region b) E end) (omega arith) (omega arith)) in (
      subst (λ c. RegionAt c (found ++ (ps ++ qs)) (region b) E end) (append_assoc code es fs)
          (subst (λ f. RegionAt ((code ++ es) ++ fs) f (region b) E end) (append_assoc found ps qs)
          (region_still (code ++ es) fs (found ++ ps) qs (region b) E end m (m + arms_size arms) here (omega arith) (arms_inside arms E m))),
      subst (λ c. ArmsAt c (found ++ (ps ++ qs)) arms E m) (append_assoc code es fs)
          (subst (λ f. ArmsAt ((code ++ es) ++ fs) f arms E m) (append_assoc found ps qs) rest),
    )

-- what is kept
pub record Kept (b : Block) (w : Written) : Type 0 where
  pub run : Run 0 w.code w.end
  pub below : Below w.found w.end
  pub order : length w.done ≤ length w.found
  pub body : RegionAt w.code w.found b in_procedure 0
  pub whole : size b ≤ w.end
  pub arms : (k : ℕ) (q : Pending) → k < length w.done → slice_get w.found k ≡ Some q
      → (at : ℕ) × (slice_get w.done k ≡ Some (phrase_from q at)) × ArmsAt w.code w.found q.arms (in_arms q.env) at × (at + arms_size q.arms ≤ w.end)

pub kept_first : (b : Block) → Kept b (first_region b)
kept_first b = record {
  run = run_to 0 (0 + size b) (size b) (block_code b in_procedure 0 0) (block_run b in_procedure 0 0) (omega arith);
  below = λ k q e. omega (arith, (inside_get 0 (0 + size b) (block_phrases b in_procedure 0) k q e (inside_block b in_procedure 0)).2);
  order = omega arith;
  body = region_new [] [] b in_procedure 0 refl (λ k q e. cc);
  whole = omega arith;
  arms = λ k q lt e. absurd (omega (arith, lt));
}

kept_arms : (b : Block) (w : Written) (q : Pending) → slice_get w.found (length w.done) ≡ Some q → Kept b w → Kept b (with_arms w (Some q))
kept_arms b w q at h =
    let E = in_arms q.env in
    let fs = arms_code q.arms E w.end in
    let qs = arms_phrases q.arms E w.end in
    let new = w.end + arms_size q.arms in
    let i = arms_inside q.arms E w.end in
    let p = phrase_from q w.end in
    let all = length-append w.done (p ∷ []) in
    let lt = slice_get_within w.found (length w.done) q at in
    record {
      run = run_both 0 w.end new w.code fs h.run (arms_run q.arms E w.end);
      below = below_more w.found qs w.end new new h.below i (omega arith) (omega arith);
      order = omega (arith, all, lt, length-append w.found qs);
      body = region_still w.code fs w.found qs b in_procedure 0 w.end new h.body (omega (arith, h.whole)) i;
      whole = omega (arith, h.whole);
      arms = λ k r less e. ⊎_elim
          (λ before.
          let f = old k r before e in
          let x = h.arms k r before f in (
            x.0,
            get_front w.done (p ∷ []) k (phrase_from r x.0) x.1,
            arms_still w.code fs w.found qs r.arms (in_arms r.env) x.0 w.end new x.2 x.3 i,
            omega (arith, x.3),
          ))
          (λ here.
          let same : k ≡ length w.done = omega (arith, less, here, all) in
          let which : r ≡ q = this k r same e in (
            w.end,
            ap (λ n. slice_get (w.done ++ p ∷ []) n) same ∙ get_seam w.done p [] ∙ ap (λ x. Some (phrase_from x w.end)) (sym which),
            subst (λ x. ArmsAt (w.code ++ fs) (w.found ++ qs) x.arms (in_arms x.env) w.end) (sym which) (arms_new q.arms w.code w.found E w.end h.run h.below),
            subst (λ x. w.end + arms_size x.arms ≤ new) (sym which) (omega arith),
          ))
          (cases_lt k (length w.done));
    }
  where
    old : (k : ℕ) (r : Pending) → k < length w.done → slice_get (w.found ++ arms_phrases q.arms (in_arms q.env) w.end) k ≡ Some r → slice_get w.found k ≡ Some r
    old k r lt e =
        ⊎_elim (λ x. x.1) (λ x. absurd (omega (arith, lt, x.1, h.order)))
        (get_cases w.found (arms_phrases q.arms (in_arms q.env) w.end) k r e)

    this : (k : ℕ) (r : Pending) → k ≡ length w.done → slice_get (w.found ++ arms_phrases q.arms (in_arms q.env) w.end) k ≡ Some r → r ≡ q
    this k r same e =
        let f = get_front w.found (arms_phrases q.arms (in_arms q.env) w.end) (length w.done) q at in
        let g : Some r ≡ Some q = sym e ∙ ap (λ n. slice_get (w.found ++ arms_phrases q.arms (in_arms q.env) w.end) n) same ∙ f in cc

with_next : (b : Block) (w : Written) (o : Option Pending) → slice_get w.found (length w.done) ≡ o → Kept b w → Kept b (with_arms w o)
with_next b w None e h = h
with_next b w (Some q) e h = kept_arms b w q e h

pub kept_next : (b : Block) (w : Written) → Kept b w → Kept b (next_written w)
kept_next b w h = with_next b w (slice_get w.found (length w.done)) refl h
