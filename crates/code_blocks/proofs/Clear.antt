-- No region of an arm begins within the range of a phrase, so a range lies in one region.
use Rattle.std.proofs.Common.{◌≡◌, refl, sym, ap, ◌∙◌, subst, ℕ, zero, suc, ◌+◌, ◌≤◌, ◌⊎◌, inl, inr, ⊎_elim, List, [], ◌∷◌, ◌++◌, Some, nat_le, if◌then◌else◌, take, arith}
use Rattle.std.proofs.lemmas.Bool.{le-leb, lt-leb}
use Rattle.std.specs.Prelude.{slice_get}
use Rattle.code_forms.specs.declared.module_code.Arm.{Arm}
use Rattle.code_forms.specs.declared.module_code.Phrase.{Phrase}
use Rattle.code_forms.specs.declared.region.Region.{Region}
use Rattle.code_forms.specs.declared.region.Region.TheVariants.{Body, ArmOf}
use Rattle.code_forms.specs.Regions.{later_arm, later_phrase, region_at}
use Rattle.code_blocks.specs.Blocks.{ArmBlocks, NoArmBlock, AndArmBlock}
use Rattle.code_blocks.specs.Sizes.{size}
use Rattle.code_blocks.specs.Writing.{Env, Pending, block_phrases, region, arms_phrases, arms_size, regions}
use Rattle.code_blocks.proofs.Around.{Inside}
use Rattle.code_blocks.proofs.Kept.{arms_inside}
use Rattle.code_blocks.proofs.Lying.{inside_block}

-- a start is not within a range behind its first offset
abbrev pub Outside : ℕ → (from upto : ℕ) → Type 0
Outside s from upto = (s ≤ from) ⊎ (upto ≤ s)

abbrev pub Clear : ℕ → List Pending → Type 0
Clear s [] = Unit {0}
Clear s (q ∷ ps) = Outside s q.from q.upto × Clear s ps

abbrev pub ArmsClear : List Arm → List Pending → Type 0
ArmsClear [] ps = Unit {0}
ArmsClear (a ∷ more) ps = Clear a.start ps × ArmsClear more ps

abbrev pub AllClear : List Phrase → List Pending → Type 0
AllClear [] ps = Unit {0}
AllClear (p ∷ done) ps = ArmsClear p.arms ps × AllClear done ps

clear_both : (s : ℕ) (ps qs : List Pending) → Clear s ps → Clear s qs → Clear s (ps ++ qs)
clear_both s [] qs g h = h
clear_both s (q ∷ ps) qs g h = (g.0, clear_both s ps qs g.1 h)

arms_clear_both : (more : List Arm) (ps qs : List Pending) → ArmsClear more ps → ArmsClear more qs → ArmsClear more (ps ++ qs)
arms_clear_both [] ps qs g h = tt
arms_clear_both (a ∷ more) ps qs g h = (clear_both a.start ps qs g.0 h.0, arms_clear_both more ps qs g.1 h.1)

pub all_clear_both : (done : List Phrase) (ps qs : List Pending) → AllClear done ps → AllClear done qs → AllClear done (ps ++ qs)
all_clear_both [] ps qs g h = tt
all_clear_both (p ∷ done) ps qs g h = (arms_clear_both p.arms ps qs g.0 h.0, all_clear_both done ps qs g.1 h.1)

pub all_clear_more : (done more : List Phrase) (ps : List Pending) → AllClear done ps → AllClear more ps → AllClear (done ++ more) ps
all_clear_more [] more ps g h = h
all_clear_more (p ∷ done) more ps g h = (g.0, all_clear_more done more ps g.1 h)

-- ranges behind a start, and ranges before it
pub clear_behind : (s a b : ℕ) (ps : List Pending) → s ≤ a → Inside a b ps → Clear s ps
clear_behind s a b [] le i = tt
clear_behind s a b (q ∷ ps) le i = (inl (omega (arith, le, (i.0).0)), clear_behind s a b ps le i.1)

clear_before : (s a b : ℕ) (ps : List Pending) → b ≤ s → Inside a b ps → Clear s ps
clear_before s a b [] le i = tt
clear_before s a b (q ∷ ps) le i = (inr (omega (arith, le, (i.0).2)), clear_before s a b ps le i.1)

-- regions that begin behind ranges
pub regions_behind : (arms : ArmBlocks) (at a b : ℕ) (ps : List Pending) → b ≤ at → Inside a b ps → ArmsClear (regions arms at) ps
regions_behind NoArmBlock at a b ps le i = tt
regions_behind (AndArmBlock labels slot words block arms) at a b ps le i =
    (clear_before at a b ps le i, regions_behind arms (at + size (region block)) a b ps (omega (arith, le)) i)

-- the regions of arms and the ranges in them
pub arms_clear : (arms : ArmBlocks) (E : Env) (at : ℕ) → ArmsClear (regions arms at) (arms_phrases arms E at)
arms_clear NoArmBlock E at = tt
arms_clear (AndArmBlock labels slot words b arms) E at =
    let m = at + size (region b) in
    let ps = block_phrases (region b) E at in
    let qs = arms_phrases arms E m in (
      clear_both at ps qs (clear_behind at at m ps (omega arith) (inside_block (region b) E at))
          (clear_behind at m (m + arms_size arms) qs (omega arith) (arms_inside arms E m)),
      arms_clear_both (regions arms m) ps qs (regions_behind arms m at m ps (omega arith) (inside_block (region b) E at)) (arms_clear arms E m),
    )

-- So the ends of a range lie in one region.

abbrev ArmsOutside : List Arm → (from upto : ℕ) → Type 0
ArmsOutside [] from upto = Unit {0}
ArmsOutside (a ∷ more) from upto = Outside a.start from upto × ArmsOutside more from upto

abbrev pub AllOutside : List Phrase → (from upto : ℕ) → Type 0
AllOutside [] from upto = Unit {0}
AllOutside (p ∷ done) from upto = ArmsOutside p.arms from upto × AllOutside done from upto

clear_get : (s : ℕ) (ps : List Pending) → Clear s ps → (k : ℕ) (q : Pending) → slice_get ps k ≡ Some q → Outside s q.from q.upto
clear_get s [] h k q e = cc
clear_get s (p ∷ ps) h zero q e = let same : p ≡ q = cc in subst (λ (x : Pending). Outside s x.from x.upto) same h.0
clear_get s (p ∷ ps) h (suc k) q e = clear_get s ps h.1 k q e

arms_clear_get : (more : List Arm) (ps : List Pending) → ArmsClear more ps → (k : ℕ) (q : Pending) → slice_get ps k ≡ Some q → ArmsOutside more q.from q.upto
arms_clear_get [] ps h k q e = tt
arms_clear_get (a ∷ more) ps h k q e = (clear_get a.start ps h.0 k q e, arms_clear_get more ps h.1 k q e)

pub all_clear_get : (done : List Phrase) (ps : List Pending) → AllClear done ps → (k : ℕ) (q : Pending) → slice_get ps k ≡ Some q → AllOutside done q.from q.upto
all_clear_get [] ps h k q e = tt
all_clear_get (p ∷ done) ps h k q e = (arms_clear_get p.arms ps h.0 k q e, all_clear_get done ps h.1 k q e)

pub outside_first : (n : ℕ) (done : List Phrase) (from upto : ℕ) → AllOutside done from upto → AllOutside (take n done) from upto
outside_first zero done from upto h = tt
outside_first (suc n) [] from upto h = tt
outside_first (suc n) (p ∷ done) from upto h = (h.0, outside_first n done from upto h.1)

same_side : (s x y : ℕ) → x ≤ y → Outside s x (suc y) → nat_le s x ≡ nat_le s y
same_side s x y le h = ⊎_elim
    (λ before. le-leb s x before ∙ sym (le-leb s y (omega (arith, before, le))))
    (λ behind. lt-leb s x (omega (arith, behind, le)) ∙ sym (lt-leb s y (omega (arith, behind))))
    h

same_arm : (phrase arm : ℕ) (more : List Arm) (x y : ℕ) (r : Region) → x ≤ y → ArmsOutside more x (suc y)
    → later_arm phrase arm more x r ≡ later_arm phrase arm more y r
same_arm phrase arm [] x y r le h = refl
same_arm phrase arm (a ∷ more) x y r le h =
    same_arm phrase (arm + 1) more x y (if nat_le a.start x then ArmOf phrase arm else r) le h.1
    ∙ ap (λ b. later_arm phrase (arm + 1) more y (if b then ArmOf phrase arm else r)) (same_side a.start x y le h.0)

same_phrase : (n : ℕ) (done : List Phrase) (x y : ℕ) (r : Region) → x ≤ y → AllOutside done x (suc y) → later_phrase n done x r ≡ later_phrase n done y r
same_phrase n [] x y r le h = refl
same_phrase n (p ∷ done) x y r le h =
    same_phrase (n + 1) done x y (later_arm n 0 p.arms x r) le h.1 ∙ ap (λ s. later_phrase (n + 1) done y s) (same_arm n 0 p.arms x y r le h.0)

pub in_one_region : (done : List Phrase) (x y : ℕ) → x ≤ y → AllOutside done x (suc y) → region_at done x ≡ region_at done y
in_one_region done x y le h = same_phrase 0 done x y Body le h
