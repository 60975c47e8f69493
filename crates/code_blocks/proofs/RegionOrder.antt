-- The regions of a procedure follow each other, phrase by phrase, and fill the code.
use Rattle.std.proofs.Common.{◌≡◌, refl, sym, ap, ◌∙◌, subst, ℕ, suc, ◌+◌, ◌-◌, ◌<◌, ⊎_elim, List, [], ◌∷◌, ◌++◌, length, length-append, take, Some, arith}
use Rattle.std.proofs.lemmas.Bool.{cases_lt}
use Rattle.std.proofs.lemmas.List.{take-append-le, take_at}
use Rattle.std.proofs.lemmas.Option.{slice_get_within}
use Rattle.std.specs.Prelude.{slice_get}
use Rattle.code_forms.specs.declared.module_code.Arm.{Arm}
use Rattle.code_forms.specs.declared.module_code.Phrase.{Phrase}
use Rattle.code_forms.specs.Phrases.{RegionsFollow, arm_end, first_start, last_end, phrase_end, regions_end}
use Rattle.code_blocks.specs.Blocks.{ArmBlocks, NoArmBlock, AndArmBlock}
use Rattle.code_blocks.specs.Sizes.{size}
use Rattle.code_blocks.specs.Writing.{Pending, region, regions, arms_size, phrase_from}
use Rattle.code_blocks.proofs.Lists.{get_cases, get_seam}

abbrev pub HasArms : ArmBlocks → Type 0
HasArms NoArmBlock = ⊥
HasArms (AndArmBlock labels slot words b arms) = Unit {0}

-- the regions of arms begin at an offset and end behind their bytes

pub regions_begin : (arms : ArmBlocks) (at : ℕ) → HasArms arms → first_start (regions arms at) ≡ at
regions_begin NoArmBlock at h = absurd h
regions_begin (AndArmBlock labels slot words b arms) at h = refl

last_of : (x y : Arm) (xs : List Arm) → last_end (x ∷ y ∷ xs) ≡ last_end (y ∷ xs)
last_of x y xs =
    ap (λ n. arm_end (slice_get (x ∷ y ∷ xs) n)) {x = length (x ∷ y ∷ xs) - 1} {y = suc (length (y ∷ xs) - 1)} (omega arith)

regions_last : (arms : ArmBlocks) (at : ℕ) → HasArms arms → last_end (regions arms at) ≡ at + arms_size arms
regions_last NoArmBlock at h = absurd h
regions_last (AndArmBlock labels slot words b NoArmBlock) at h = omega arith
regions_last (AndArmBlock labels slot words b (AndArmBlock l2 s2 w2 b2 arms)) at h =
    let m = at + size (region b) in
    let x : Arm = record { labels = labels; slot = slot; words = words; start = at; end = m } in
    let y : Arm = record { labels = l2; slot = s2; words = w2; start = m; end = m + size (region b2) } in
    last_of x y (regions arms (m + size (region b2))) ∙ (regions_last (AndArmBlock l2 s2 w2 b2 arms) m tt ∙ omega arith)

-- where the last region of some phrases ends, before the first phrase that of the body
abbrev pub EndsAt : List Phrase → (start end : ℕ) → Type 0
EndsAt [] start end = end ≡ start
EndsAt (p ∷ ps) start end = regions_end (p ∷ ps) ≡ end

-- a body's region ends at `start`, and each phrase's first region begins where the region before it ends
pub record InTurn (start : ℕ) (done : List Phrase) (end : ℕ) : Type 0 where
  pub some : 0 < start
  pub follow : (n : ℕ) (p : Phrase) → slice_get done n ≡ Some p → RegionsFollow (take n done) (first_start p.arms)
  pub ends : EndsAt done start end

last_phrase : (ps : List Phrase) (p : Phrase) → regions_end (ps ++ p ∷ []) ≡ last_end p.arms
last_phrase ps p =
    ap (λ n. phrase_end (slice_get (ps ++ p ∷ []) n)) {x = length (ps ++ p ∷ []) - 1} {y = length ps} (omega (arith, length-append ps (p ∷ [])))
    ∙ ap phrase_end (get_seam ps p [])

ends_more : (ps : List Phrase) (p : Phrase) (start end : ℕ) → last_end p.arms ≡ end → EndsAt (ps ++ p ∷ []) start end
ends_more [] p start end e = last_phrase [] p ∙ e
ends_more (q ∷ ps) p start end e = last_phrase (q ∷ ps) p ∙ e

follows_here : (ps : List Phrase) (start end at : ℕ) → 0 < start → EndsAt ps start end → at ≡ end → RegionsFollow ps at
follows_here [] start end at some e here = omega (arith, some, e, here)
follows_here (p ∷ ps) start end at some e here = e ∙ sym here

pub in_turn_more : (start : ℕ) (done : List Phrase) (end : ℕ) (q : Pending) → InTurn start done end → HasArms q.arms
    → InTurn start (done ++ phrase_from q end ∷ []) (end + arms_size q.arms)
in_turn_more start done end q h some = record {
  some = h.some;
  follow = λ n p e. ⊎_elim
      (λ lt. subst (λ ps. RegionsFollow ps (first_start p.arms)) (sym (take-append-le n done (phrase_from q end ∷ []) (omega (arith, lt))))
      (h.follow n p (before n p lt e)))
      (λ ge.
      let here : n ≡ length done = omega (arith, ge, slice_get_within (done ++ phrase_from q end ∷ []) n p e, length-append done (phrase_from q end ∷ [])) in
      subst (λ ps. RegionsFollow ps (first_start p.arms)) (sym (take_at done (phrase_from q end ∷ []) n (sym here)))
      (follows_here done start end (first_start p.arms) h.some h.ends (ap (λ (x : Phrase). first_start x.arms) (this n p here e) ∙ regions_begin q.arms end some)))
      (cases_lt n (length done));
  ends = ends_more done (phrase_from q end) start (end + arms_size q.arms) (regions_last q.arms end some);
}
  where
    before : (n : ℕ) (p : Phrase) → n < length done → slice_get (done ++ phrase_from q end ∷ []) n ≡ Some p → slice_get done n ≡ Some p
    before n p lt e = ⊎_elim (λ x. x.1) (λ x. absurd (omega (arith, lt, x.1))) (get_cases done (phrase_from q end ∷ []) n p e)

    this : (n : ℕ) (p : Phrase) → n ≡ length done → slice_get (done ++ phrase_from q end ∷ []) n ≡ Some p → p ≡ phrase_from q end
    this n p here e =
        let g : Some p ≡ Some (phrase_from q end) =
        sym e ∙ ap (λ k. slice_get (done ++ phrase_from q end ∷ []) k) here ∙ get_seam done (phrase_from q end) [] in
        cc
