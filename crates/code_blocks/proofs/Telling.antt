-- Which region holds an offset of a procedure's code.
use Rattle.std.proofs.Common.{◌≡◌, refl, sym, ap, ◌∙◌, subst, ℕ, zero, suc, ◌+◌, ◌<◌, ◌≤◌, List, [], ◌∷◌, ◌++◌, length, map, All, Option, Some, None, if◌then◌else◌, arith}
use Rattle.std.proofs.lemmas.Bool.{le-leb, lt-leb}
use Rattle.std.specs.Prelude.{slice_get}
use Rattle.mesa_types.specs.Typed.{Procedure, Module}
use Rattle.code_forms.specs.declared.instruction.Instruction.TheVariants as i
use Rattle.code_forms.specs.declared.module_code.Arm.{Arm}
use Rattle.code_forms.specs.declared.module_code.CodeProcedure.{CodeProcedure}
use Rattle.code_forms.specs.declared.module_code.Phrase.{Phrase}
use Rattle.code_forms.specs.declared.region.Region.{Region}
use Rattle.code_forms.specs.declared.region.Region.TheVariants.{Body, ArmOf}
use Rattle.code_forms.specs.Phrases.{first_start}
use Rattle.code_forms.specs.Regions.{later_arm, later_phrase, region_at}
use Rattle.code_forms.proofs.Ordered.{some_bytes}
use Rattle.code_rules.specs.Modules.{procedures_of}
use Rattle.code_blocks.specs.Blocks.{Block, ArmBlocks, NoArmBlock, AndArmBlock}
use Rattle.code_blocks.specs.Laws.{RegionsTell, RegionsAreTold}
use Rattle.code_blocks.specs.Modules.{body_block, procedure_code}
use Rattle.code_blocks.specs.Regions.{Written, returning, first_region, with_arms, next_written, all_written, written}
use Rattle.code_blocks.specs.Sizes.{size, phrase_count}
use Rattle.code_blocks.specs.Writing.{Pending, region, regions, arms_size, phrase_from}
use Rattle.code_blocks.proofs.Counting.{StartsAt, all_finished}

-- Regions that lie one behind the other, from an offset up to another.

abbrev pub ArmsFrom : List Arm → (a b : ℕ) → Type 0
ArmsFrom [] a b = a ≡ b
ArmsFrom (x ∷ more) a b = (x.start ≡ a) × (a < x.end) × ArmsFrom more x.end b

abbrev pub PhrasesFrom : List Phrase → (a b : ℕ) → Type 0
PhrasesFrom [] a b = a ≡ b
PhrasesFrom (p ∷ done) a b = (m : ℕ) × ArmsFrom p.arms a m × PhrasesFrom done m b

phrases_then : (done : List Phrase) (p : Phrase) (a b c : ℕ) → PhrasesFrom done a b → ArmsFrom p.arms b c → PhrasesFrom (done ++ p ∷ []) a c
phrases_then [] p a b c h g = (c, subst (λ n. ArmsFrom p.arms n c) (sym h) g, refl)
phrases_then (q ∷ done) p a b c h g = (h.0, h.1, phrases_then done p h.0 b c h.2 g)

pub regions_from : (arms : ArmBlocks) (a b : ℕ) → a + arms_size arms ≡ b → ArmsFrom (regions arms a) a b
regions_from NoArmBlock a b e = omega (arith, e)
regions_from (AndArmBlock labels slot words block arms) a b e =
    (refl, omega (arith, some_bytes i.ArmEnd), regions_from arms (a + size (region block)) b (omega (arith, e)))

from_with : (start : ℕ) (w : Written) (o : Option Pending) → PhrasesFrom w.done start w.end → PhrasesFrom (with_arms w o).done start (with_arms w o).end
from_with start w None h = h
from_with start w (Some q) h = phrases_then w.done (phrase_from q w.end) start w.end (w.end + arms_size q.arms) h (regions_from q.arms w.end _ refl)

from_all : (n start : ℕ) (w : Written) → PhrasesFrom w.done start w.end → PhrasesFrom (all_written n w).done start (all_written n w).end
from_all zero start w h = h
from_all (suc n) start w h = from_all n start (next_written w) (from_with start w (slice_get w.found (length w.done)) h)

-- the regions of a procedure's arms lie behind that of its body
pub all_from : (b : Block) → PhrasesFrom (written b).done (size (returning b)) (written b).end
all_from b = from_all (phrase_count b) (size (returning b)) (first_region (returning b)) refl

arms_up : (more : List Arm) (a b : ℕ) → ArmsFrom more a b → a ≤ b
arms_up [] a b h = omega (arith, h)
arms_up (x ∷ more) a b h = omega (arith, h.1, arms_up more x.end b h.2)

arm_before : (more : List Arm) (a b k : ℕ) (x : Arm) → ArmsFrom more a b → slice_get more k ≡ Some x → x.end ≤ b
arm_before [] a b k x h e = cc
arm_before (y ∷ more) a b zero x h e = let same : y ≡ x = cc in subst (λ (z : Arm). z.end ≤ b) same (arms_up more y.end b h.2)
arm_before (y ∷ more) a b (suc k) x h e = arm_before more y.end b k x h.2 e

pub phrases_up : (done : List Phrase) (a b : ℕ) → PhrasesFrom done a b → a ≤ b
phrases_up [] a b h = omega (arith, h)
phrases_up (p ∷ done) a b h = omega (arith, arms_up p.arms a h.0 h.1, phrases_up done h.0 b h.2)

-- and each arm ends there or before
pub arms_end : (done : List Phrase) (a b k j : ℕ) (p : Phrase) (x : Arm) → PhrasesFrom done a b → slice_get done k ≡ Some p → slice_get p.arms j ≡ Some x
    → x.end ≤ b
arms_end [] a b k j p x h e f = cc
arms_end (q ∷ done) a b zero j p x h e f =
    let same : q ≡ p = cc in
    omega (arith, arm_before q.arms a h.0 j x h.1 (ap (λ (y : Phrase). slice_get y.arms j) same ∙ f), phrases_up done h.0 b h.2)
arms_end (q ∷ done) a b (suc k) j p x h e f = arms_end done h.0 b k j p x h.2 e f

-- An offset before them is in none.

no_arm : (p n : ℕ) (more : List Arm) (a b o : ℕ) (r : Region) → ArmsFrom more a b → o < a → later_arm p n more o r ≡ r
no_arm p n [] a b o r h lt = refl
no_arm p n (x ∷ more) a b o r h lt =
    ap (λ c. later_arm p (n + 1) more o (if c then ArmOf p n else r)) (lt-leb x.start o (omega (arith, lt, h.0)))
    ∙ no_arm p (n + 1) more x.end b o r h.2 (omega (arith, lt, h.1))

no_phrase : (n : ℕ) (done : List Phrase) (a b o : ℕ) (r : Region) → PhrasesFrom done a b → o < a → later_phrase n done o r ≡ r
no_phrase n [] a b o r h lt = refl
no_phrase n (p ∷ done) a b o r h lt =
    ap (λ s. later_phrase (n + 1) done o s) (no_arm n 0 p.arms a h.0 o r h.1 lt)
    ∙ no_phrase (n + 1) done h.0 b o r h.2 (omega (arith, lt, arms_up p.arms a h.0 h.1))

-- An offset in one of them is in that one.

in_arm : (p n : ℕ) (more : List Arm) (a b o k : ℕ) (x : Arm) (r : Region) → ArmsFrom more a b → slice_get more k ≡ Some x → x.start ≤ o → o < x.end
    → later_arm p n more o r ≡ ArmOf p (n + k)
in_arm p n [] a b o k x r h e le lt = cc
in_arm p n (y ∷ more) a b o zero x r h e le lt =
    let same : y ≡ x = cc in
    ap (λ c. later_arm p (n + 1) more o (if c then ArmOf p n else r)) (le-leb y.start o (subst (λ (z : Arm). z.start ≤ o) (sym same) le))
    ∙ no_arm p (n + 1) more y.end b o (ArmOf p n) h.2 (subst (λ (z : Arm). o < z.end) (sym same) lt)
    ∙ ap (ArmOf p) {x = n} {y = n + 0} (omega arith)
in_arm p n (y ∷ more) a b o (suc k) x r h e le lt =
    in_arm p (n + 1) more y.end b o k x _ h.2 e le lt ∙ ap (ArmOf p) {x = n + 1 + k} {y = n + suc k} (omega arith)

in_phrase : (n : ℕ) (done : List Phrase) (a b o k j : ℕ) (p : Phrase) (x : Arm) (r : Region) → PhrasesFrom done a b → slice_get done k ≡ Some p
    → slice_get p.arms j ≡ Some x → x.start ≤ o → o < x.end → later_phrase n done o r ≡ ArmOf (n + k) j
in_phrase n [] a b o k j p x r h e f le lt = cc
in_phrase n (q ∷ done) a b o zero j p x r h e f le lt =
    let same : q ≡ p = cc in
    let there : slice_get q.arms j ≡ Some x = ap (λ (y : Phrase). slice_get y.arms j) same ∙ f in
    no_phrase (n + 1) done h.0 b o (later_arm n 0 q.arms o r) h.2 (omega (arith, lt, arm_before q.arms a h.0 j x h.1 there))
    ∙ in_arm n 0 q.arms a h.0 o j x r h.1 there le lt
    ∙ ap (λ m. ArmOf m (0 + j)) {x = n} {y = n + 0} (omega arith) ∙ ap (λ m. ArmOf (n + 0) m) {x = 0 + j} {y = j} (omega arith)
in_phrase n (q ∷ done) a b o (suc k) j p x r h e f le lt =
    in_phrase (n + 1) done h.0 b o k j p x (later_arm n 0 q.arms o r) h.2 e f le lt ∙ ap (λ m. ArmOf m j) {x = n + 1 + k} {y = n + suc k} (omega arith)

pub arm_told : (done : List Phrase) (a b o k j : ℕ) (p : Phrase) (x : Arm) → PhrasesFrom done a b → slice_get done k ≡ Some p
    → slice_get p.arms j ≡ Some x → x.start ≤ o → o < x.end → region_at done o ≡ ArmOf k j
arm_told done a b o k j p x h e f le lt = in_phrase 0 done a b o k j p x Body h e f le lt ∙ ap (λ m. ArmOf m j) {x = 0 + k} {y = k} (omega arith)

pub body_told : (done : List Phrase) (a b o : ℕ) → PhrasesFrom done a b → o < a → region_at done o ≡ Body
body_told done a b o h lt = no_phrase 0 done a b o Body h lt

before_first : (done : List Phrase) (start end o : ℕ) → StartsAt done start end → PhrasesFrom done start end
    → ((p : Phrase) → slice_get done 0 ≡ Some p → o < first_start p.arms) → region_at done o ≡ Body
before_first [] start end o s h f = refl
before_first (p ∷ done) start end o s h f = body_told (p ∷ done) start end o h (omega (arith, s, f p refl))

regions_tell : (m : Module) (c : Procedure) → RegionsTell (procedure_code m c).phrases
regions_tell m c =
    let b = body_block m c in
    let w = written b in
    let n = size (returning b) in
    record {
      body = λ o f. before_first w.done n w.end o (all_finished b).first (all_from b) f;
      arms = λ k j p a o e f le lt. arm_told w.done n w.end o k j p a (all_from b) e f le lt;
    }

all_told : (m : Module) (ps : List Procedure) → All (λ (c : CodeProcedure). RegionsTell c.phrases) (map (procedure_code m) ps)
all_told m [] k d lt = absurd (omega (arith, lt))
all_told m (p ∷ ps) zero d lt = regions_tell m p
all_told m (p ∷ ps) (suc k) d lt = all_told m ps k d (omega (arith, lt))

pub regions_are_told : RegionsAreTold
regions_are_told m = all_told m (procedures_of m)
