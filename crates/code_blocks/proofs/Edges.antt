-- Where the ranges of phrases begin and end: at instructions. So do the regions of arms.
use Rattle.std.proofs.Common.{◌≡◌, refl, sym, subst, ℕ, zero, suc, ◌+◌, ◌<◌, ◌≤◌, ◌⊎◌, inl, inr, ⊎_elim, List, [], ◌∷◌, ◌++◌, append-nil, Some, arith}
use Rattle.std.specs.Prelude.{slice_get}
use Rattle.code_forms.specs.declared.instruction.Instruction.{Instruction}
use Rattle.code_forms.specs.declared.instruction.Instruction.TheVariants as i
use Rattle.code_forms.specs.declared.module_code.Arm.{Arm}
use Rattle.code_forms.specs.declared.module_code.CodeEntry.{CodeEntry}
use Rattle.code_forms.specs.Instructions.{bytes_of}
use Rattle.code_forms.proofs.Ordered.{some_bytes}
use Rattle.code_blocks.specs.Blocks.{Block, Does, Calls, Both, Ends, Out, Goes, Rounds, Enables, ArmBlocks, NoArmBlock, AndArmBlock}
use Rattle.code_blocks.specs.Sizes.{size, depth_behind}
use Rattle.code_blocks.specs.Writing.{Env, in_part, entry, block_code, Pending, own_phrase, unless_empty, block_phrases, region, arms_code, arms_phrases, arms_size, regions}
use Rattle.code_blocks.proofs.Around.{Inside}
use Rattle.code_blocks.proofs.Laying.{Run, block_run}
use Rattle.code_blocks.proofs.Lying.{inside_block}

-- one of the entries begins at an offset
abbrev pub Started : List CodeEntry → ℕ → Type 0
Started [] o = ⊥
Started (e ∷ es) o = (e.at ≡ o) ⊎ Started es o

pub started_left : (es fs : List CodeEntry) (o : ℕ) → Started es o → Started (es ++ fs) o
started_left [] fs o h = absurd h
started_left (e ∷ es) fs o h = ⊎_elim (λ x. inl x) (λ x. inr (started_left es fs o x)) h

pub started_right : (es fs : List CodeEntry) (o : ℕ) → Started fs o → Started (es ++ fs) o
started_right [] fs o h = h
started_right (e ∷ es) fs o h = inr (started_right es fs o h)

-- or they end there
abbrev pub Edge : List CodeEntry → (end : ℕ) → ℕ → Type 0
Edge es end o = Started es o ⊎ (o ≡ end)

pub edge_first : (es : List CodeEntry) (a b : ℕ) → Run a es b → Edge es b a
edge_first [] a b r = inr r
edge_first (e ∷ es) a b r = inl (inl r.0)

pub edge_right : (es fs : List CodeEntry) (b o : ℕ) → Edge fs b o → Edge (es ++ fs) b o
edge_right es fs b o h = ⊎_elim (λ x. inl (started_right es fs o x)) (λ e. inr e) h

pub edge_left : (es fs : List CodeEntry) (m b o : ℕ) → Run m fs b → Edge es m o → Edge (es ++ fs) b o
edge_left es fs m b o r h =
    ⊎_elim (λ x. inl (started_left es fs o x)) (λ e. subst (λ n. Edge (es ++ fs) b n) (sym e) (edge_right es fs b m (edge_first fs m b r))) h

-- each range begins and ends at such an offset
abbrev pub Edged : List CodeEntry → (end : ℕ) → List Pending → Type 0
Edged es end [] = Unit {0}
Edged es end (q ∷ ps) = (Edge es end q.from × Edge es end q.upto) × Edged es end ps

edged_both : (es : List CodeEntry) (b : ℕ) (ps qs : List Pending) → Edged es b ps → Edged es b qs → Edged es b (ps ++ qs)
edged_both es b [] qs g h = h
edged_both es b (q ∷ ps) qs g h = (g.0, edged_both es b ps qs g.1 h)

edged_left : (es fs : List CodeEntry) (m b : ℕ) (ps : List Pending) → Run m fs b → Edged es m ps → Edged (es ++ fs) b ps
edged_left es fs m b [] r h = tt
edged_left es fs m b (q ∷ ps) r h =
    ((edge_left es fs m b q.from r (h.0).0, edge_left es fs m b q.upto r (h.0).1), edged_left es fs m b ps r h.1)

edged_right : (es fs : List CodeEntry) (b : ℕ) (ps : List Pending) → Edged fs b ps → Edged (es ++ fs) b ps
edged_right es fs b [] h = tt
edged_right es fs b (q ∷ ps) h = ((edge_right es fs b q.from (h.0).0, edge_right es fs b q.upto (h.0).1), edged_right es fs b ps h.1)

edged_own : (es : List CodeEntry) (a b : ℕ) (arms : ArmBlocks) (E : Env) → Run a es b → Edged es b (own_phrase arms E a b)
edged_own es a b NoArmBlock E r = tt
edged_own es a b (AndArmBlock labels slot words block arms) E r = ((edge_first es a b r, inr refl), tt)

edged_unless : (es : List CodeEntry) (b n : ℕ) (ps : List Pending) → Edged es b ps → Edged es b (unless_empty n ps)
edged_unless es b zero ps h = tt
edged_unless es b (suc n) ps h = h

edged_to : (es : List CodeEntry) (b c : ℕ) (ps : List Pending) → b ≡ c → Edged es b ps → Edged es c ps
edged_to es b c ps e h = subst (λ n. Edged es n ps) e h

run_until : (es : List CodeEntry) (a b c : ℕ) → b ≡ c → Run a es b → Run a es c
run_until es a b c e r = subst (λ n. Run a es n) e r

edged_block : (b : Block) (E : Env) (a d : ℕ) → Edged (block_code b E a d) (a + size b) (block_phrases b E a)
edged_block (Does is) E a d = tt
edged_block (Calls call takes puts arms) E a d = edged_own (entry a d call ∷ []) a (a + bytes_of call) arms E (refl, refl)
edged_block (Both b c) E a d =
    let m = a + size b in
    let n = a + (size b + size c) in
    let es = block_code b E a d in
    let fs = block_code c E m (depth_behind b d) in
    let same : m + size c ≡ n = omega arith in
    edged_both (es ++ fs) n (block_phrases b E a) (block_phrases c E m)
    (edged_left es fs m n (block_phrases b E a) (run_until fs m (m + size c) n same (block_run c E m (depth_behind b d))) (edged_block b E a d))
    (edged_right es fs n (block_phrases c E m) (edged_to fs (m + size c) n (block_phrases c E m) same (edged_block c E m (depth_behind b d))))
edged_block (Ends mark b) E a d = edged_block b (in_part mark a (a + size b) E) a d
edged_block (Out leap part) E a d = tt
edged_block (Goes arms p) E a d = tt
edged_block (Rounds b) E a d =
    let m = a + size b in
    edged_left (block_code b E a d) (entry m (depth_behind b d) (i.JumpBack a) ∷ []) m (a + size (Rounds b)) (block_phrases b E a)
    (refl, omega arith) (edged_block b E a d)
edged_block (Enables arms b) E a d =
    let n = a + size b in
    let es = block_code b E a d in
    edged_unless es n (size b) (own_phrase arms E a n ++ block_phrases b E a)
    (edged_both es n (own_phrase arms E a n) (block_phrases b E a) (edged_own es a n arms E (block_run b E a d)) (edged_block b E a d))

-- Where more code comes behind the ranges, they begin and end at instructions.

abbrev pub AllStarted : List CodeEntry → List Pending → Type 0
AllStarted es [] = Unit {0}
AllStarted es (q ∷ ps) = (Started es q.from × Started es q.upto) × AllStarted es ps

pub all_started_both : (es : List CodeEntry) (ps qs : List Pending) → AllStarted es ps → AllStarted es qs → AllStarted es (ps ++ qs)
all_started_both es [] qs g h = h
all_started_both es (q ∷ ps) qs g h = (g.0, all_started_both es ps qs g.1 h)

pub all_started_left : (es fs : List CodeEntry) (ps : List Pending) → AllStarted es ps → AllStarted (es ++ fs) ps
all_started_left es fs [] h = tt
all_started_left es fs (q ∷ ps) h = ((started_left es fs q.from (h.0).0, started_left es fs q.upto (h.0).1), all_started_left es fs ps h.1)

pub all_started_right : (es fs : List CodeEntry) (ps : List Pending) → AllStarted fs ps → AllStarted (es ++ fs) ps
all_started_right es fs [] h = tt
all_started_right es fs (q ∷ ps) h = ((started_right es fs q.from (h.0).0, started_right es fs q.upto (h.0).1), all_started_right es fs ps h.1)

not_end : (es : List CodeEntry) (b o : ℕ) → o < b → Edge es b o → Started es o
not_end es b o lt h = ⊎_elim (λ x. x) (λ e. absurd (omega (arith, lt, e))) h

before_end : (es : List CodeEntry) (a m b : ℕ) (ps : List Pending) → m < b → Inside a m ps → Edged es b ps → AllStarted es ps
before_end es a m b [] lt i h = tt
before_end es a m b (q ∷ ps) lt i h = (
  (not_end es b q.from (omega (arith, lt, (i.0).1, (i.0).2)) (h.0).0, not_end es b q.upto (omega (arith, lt, (i.0).2)) (h.0).1),
  before_end es a m b ps lt i.1 h.1,
)

-- the phrases of a part with an instruction behind it
pub closed_started : (b : Block) (last : Instruction) (E : Env) (a d : ℕ)
    → AllStarted (block_code (Both b (Does (last ∷ []))) E a d) (block_phrases (Both b (Does (last ∷ []))) E a)
closed_started b last E a d =
    let c = Both b (Does (last ∷ [])) in
    let ps = block_phrases b E a in
    before_end (block_code c E a d) a (a + size b) (a + size c) (ps ++ []) (omega (arith, some_bytes last))
    (subst (λ l. Inside a (a + size b) l) (sym (append-nil ps)) (inside_block b E a)) (edged_block c E a d)

-- the phrases in the regions of arms
pub arms_started : (arms : ArmBlocks) (E : Env) (a : ℕ) → AllStarted (arms_code arms E a) (arms_phrases arms E a)
arms_started NoArmBlock E a = tt
arms_started (AndArmBlock labels slot words b arms) E a =
    let m = a + size (region b) in
    let es = block_code (region b) E a 0 in
    let fs = arms_code arms E m in
    let ps = block_phrases (region b) E a in
    let qs = arms_phrases arms E m in
    all_started_both (es ++ fs) ps qs (all_started_left es fs ps (closed_started b i.ArmEnd E a 0)) (all_started_right es fs qs (arms_started arms E m))

pub started_get : (es : List CodeEntry) (ps : List Pending) → AllStarted es ps → (k : ℕ) (q : Pending) → slice_get ps k ≡ Some q
    → Started es q.from × Started es q.upto
started_get es [] h k q e = cc
started_get es (p ∷ ps) h zero q e = let same : p ≡ q = cc in subst (λ (x : Pending). Started es x.from × Started es x.upto) same h.0
started_get es (p ∷ ps) h (suc k) q e = started_get es ps h.1 k q e

-- The regions of arms: each begins at an instruction, is not empty, and begins no later than some offset.

pub record ArmStarts (es : List CodeEntry) (end : ℕ) (a : Arm) : Type 0 where
  pub start : Started es a.start
  pub some : a.start < a.end
  pub within : a.start ≤ end

abbrev pub ArmsStart : List CodeEntry → (end : ℕ) → List Arm → Type 0
ArmsStart es end [] = Unit {0}
ArmsStart es end (a ∷ more) = ArmStarts es end a × ArmsStart es end more

pub arms_start_still : (es fs : List CodeEntry) (b c : ℕ) (more : List Arm) → b ≤ c → ArmsStart es b more → ArmsStart (es ++ fs) c more
arms_start_still es fs b c [] le h = tt
arms_start_still es fs b c (a ∷ more) le h = (
  record { start = started_left es fs a.start (h.0).start; some = (h.0).some; within = omega (arith, le, (h.0).within) },
  arms_start_still es fs b c more le h.1,
)

pub arms_start_behind : (es fs : List CodeEntry) (b : ℕ) (more : List Arm) → ArmsStart fs b more → ArmsStart (es ++ fs) b more
arms_start_behind es fs b [] h = tt
arms_start_behind es fs b (a ∷ more) h = (
  record { start = started_right es fs a.start (h.0).start; some = (h.0).some; within = (h.0).within },
  arms_start_behind es fs b more h.1,
)

region_started : (b : Block) (E : Env) (a : ℕ) → Started (block_code (region b) E a 0) a
region_started b E a =
    not_end (block_code (region b) E a 0) (a + size (region b)) a (omega (arith, some_bytes i.ArmEnd))
    (edge_first (block_code (region b) E a 0) a (a + size (region b)) (block_run (region b) E a 0))

pub regions_start_there : (arms : ArmBlocks) (E : Env) (a end : ℕ) → a + arms_size arms ≤ end → ArmsStart (arms_code arms E a) end (regions arms a)
regions_start_there NoArmBlock E a end le = tt
regions_start_there (AndArmBlock labels slot words b arms) E a end le =
    let m = a + size (region b) in
    let es = block_code (region b) E a 0 in
    let fs = arms_code arms E m in (
      record { start = started_left es fs a (region_started b E a); some = omega (arith, some_bytes i.ArmEnd); within = omega (arith, le) },
      arms_start_behind es fs end (regions arms m) (regions_start_there arms E m end (omega (arith, le))),
    )
