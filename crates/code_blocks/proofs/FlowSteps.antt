-- What each step of writing keeps: the instructions written so far leave what is asked where they lead.
use Rattle.std.proofs.Common.{◌≡◌, refl, sym, subst, ℕ, zero, suc, ◌+◌, ◌≤◌, inl, ⊎_elim, List, [], ◌∷◌, ◌++◌, length, Option, Some, None, arith}
use Rattle.std.proofs.lemmas.Bool.{false≢true}
use Rattle.std.proofs.lemmas.Option.{none-some, same_Some}
use Rattle.std.specs.Prelude.{slice_get, IsTrue}
use Rattle.mesa_types.specs.Typed.{Start, After, At, Leave}
use Rattle.code_forms.specs.declared.instruction.Instruction.{Instruction}
use Rattle.code_forms.specs.declared.instruction.Instruction.TheVariants as i
use Rattle.code_forms.specs.declared.module_code.Arm.{Arm}
use Rattle.code_forms.specs.declared.module_code.CodeEntry.{CodeEntry}
use Rattle.code_forms.specs.declared.module_code.Phrase.{Phrase}
use Rattle.code_forms.specs.Instructions.{bytes_of}
use Rattle.code_forms.specs.Routine.{Routine, goes_on}
use Rattle.code_forms.proofs.Ordered.{some_bytes}
use Rattle.code_rules.specs.Points.{Way, NoWay, OutOf, Points, one_arm_more, in_arm}
use Rattle.code_rules.specs.Reading.{Destination, Offset, Caller}
use Rattle.code_blocks.specs.Blocks.{Statement, Labels, Here, Anyhow, Where, Block, Does, Calls, Both, Ends, Out, Goes, Rounds, Enables, ArmBlocks, NoArmBlock, AndArmBlock}
use Rattle.code_blocks.specs.Own.{alone}
use Rattle.code_forms.specs.Depths.{depth_after}
use Rattle.code_blocks.specs.Regions.{Written, returning, first_region, with_arms, next_written, all_written}
use Rattle.code_blocks.specs.Sizes.{size, at_end, depth_behind}
use Rattle.code_blocks.specs.Writing.{Env, in_part, in_arms, in_procedure, offset_of, entry, entries, block_code, Pending, own_phrase, unless_empty, block_phrases, region, arms_code, arms_phrases, regions, phrase_from}
use Rattle.code_blocks.proofs.Fine.{Fine, fine_plain}
use Rattle.code_blocks.proofs.Flowing.{AllIn, in_left, in_right, Once, deep_first, deep_to, deep_as, begins, begins_out, PointsDeep, EndsDeep, marked_deep, labelled_deep, OneRegion, AllFlow, flow_both, last_flows, block_flows}
use Rattle.code_blocks.proofs.Lists.{get_front, get_seam}
use Rattle.code_blocks.proofs.Settling.{Deep}
use Rattle.code_blocks.proofs.Steady.{HasOut, Steady, SteadyOut, ArmsSteady}

-- a phrase whose arms are steady, and around which all points find no words
pub record Ready (r : Routine) (code : List CodeEntry) (q : Pending) : Type 0 where
  pub arms : ArmsSteady r q.arms
  pub points : PointsDeep code q.env.points

abbrev pub AllReady : Routine → List CodeEntry → List Pending → Type 0
AllReady r code [] = Unit {0}
AllReady r code (q ∷ ps) = Ready r code q × AllReady r code ps

ready_both : (r : Routine) (code : List CodeEntry) (ps qs : List Pending) → AllReady r code ps → AllReady r code qs → AllReady r code (ps ++ qs)
ready_both r code [] qs g h = h
ready_both r code (q ∷ ps) qs g h = (g.0, ready_both r code ps qs g.1 h)

ready_own : (r : Routine) (code : List CodeEntry) (arms : ArmBlocks) (E : Env) (a b : ℕ) → ArmsSteady r arms → PointsDeep code E.points
    → AllReady r code (own_phrase arms E a b)
ready_own r code NoArmBlock E a b s points = tt
ready_own r code (AndArmBlock labels slot words block arms) E a b s points = (record { arms = s; points = points }, tt)

ready_unless : (r : Routine) (code : List CodeEntry) (n : ℕ) (ps : List Pending) → AllReady r code ps → AllReady r code (unless_empty n ps)
ready_unless r code zero ps h = tt
ready_unless r code (suc n) ps h = h

ready_get : (r : Routine) (code : List CodeEntry) (ps : List Pending) → AllReady r code ps → (k : ℕ) (q : Pending) → slice_get ps k ≡ Some q → Ready r code q
ready_get r code [] h k q e = absurd (none-some q e)
ready_get r code (p ∷ ps) h zero q e = subst (λ (x : Pending). Ready r code x) (same_Some p q e) h.0
ready_get r code (p ∷ ps) h (suc k) q e = ready_get r code ps h.1 k q e

-- in an arm the points are those around

way_deep : (code : List CodeEntry) (way : Way Destination) → Deep code (offset_of way) 0
    → Deep code (offset_of (one_arm_more way)) 0
way_deep code NoWay h = h
way_deep code (OutOf k (Offset o)) h = h
way_deep code (OutOf k Caller) h = h

arm_deep : (code : List CodeEntry) (points : Points Destination) → PointsDeep code points → PointsDeep code (in_arm points)
arm_deep code points h p = way_deep code (points p) (h p)

body_deep : (code : List CodeEntry) → Deep code 0 0 → PointsDeep code in_procedure.points
body_deep code z (Start n) = z
body_deep code z (After n) = z
body_deep code z (At l) = z
body_deep code z Leave = z

module _ (r : Routine) (code : List CodeEntry) (once : Once code) where
  mutual
    found_ready : (b : Block) (E : Env) (a d : ℕ) (ends : List ℕ) → Steady r b d ends → AllIn code (block_code b E a d) → PointsDeep code E.points
        → Deep code (a + size b) (depth_behind b d) → AllReady r code (block_phrases b E a)
    found_ready (Does is) E a d ends s h points after = tt
    found_ready (Calls call takes puts arms) E a d ends s h points after = ready_own r code arms E a (a + bytes_of call) s.1 points
    found_ready (Both b c) E a d ends s h points after =
        let m = a + size b in
        let n = depth_behind b d in
        let es = block_code b E a d in
        let fs = block_code c E m n in
        let behind = deep_to code (a + (size b + size c)) (m + size c) (depth_behind c n) (omega arith) after in
        let next = begins r code once c E m n ends s.1 (in_right code es fs h) behind in
        ready_both r code (block_phrases b E a) (block_phrases c E m) (found_ready b E a d ends s.0 (in_left code es fs h) points next)
        (found_ready c E m n ends s.1 (in_right code es fs h) points behind)
    found_ready (Ends (Statement n) b) E a d ends s h points after =
        let m = a + size b in
        let E1 = in_part (Statement n) a m E in
        let behind = deep_as code m d (depth_behind b d) (sym s.2) after in
        let there = begins r code once b E1 a d ends s.1 h behind in
        found_ready b E1 a d ends s.1 h (marked_deep code n a m E.points (deep_as code a d 0 s.0 there) (deep_as code m d 0 s.0 after) points) behind
    found_ready (Ends (Labels ls) b) E a d ends s h points after =
        let m = a + size b in
        found_ready b (in_part (Labels ls) a m E) a d ends s.1 h (labelled_deep code ls m E.points (deep_as code m d 0 s.0 after) points)
        (deep_as code m d (depth_behind b d) (sym s.2) after)
    found_ready (Ends (Here words) b) E a d ends s h points after =
        let m = a + size b in
        let n = at_end (Here words) d in
        let E1 = in_part (Here words) a m E in
        ⊎_elim
        (λ (x : Steady r b d (n ∷ ends) × (depth_behind b d ≡ n)).
        found_ready b E1 a d (n ∷ ends) x.0 h points (deep_as code m n (depth_behind b d) (sym x.1) after))
        (λ (x : SteadyOut r b d (n ∷ ends) × HasOut b 0). out_ready b E1 a d (n ∷ ends) x.0 h points)
        s
    found_ready (Out leap part) E a d ends s h points after = tt
    found_ready (Goes arms p) E a d ends s h points after = tt
    found_ready (Rounds b) E a d ends s h points after =
        let es = block_code b E a d in
        let back = entry (a + size b) (depth_behind b d) (i.JumpBack a) in
        found_ready b E a d ends s.1 (in_left code es (back ∷ []) h) points (deep_first code once back [] (in_right code es (back ∷ []) h))
    found_ready (Enables arms b) E a d ends s h points after =
        let n = a + size b in
        ready_unless r code (size b) (own_phrase arms E a n ++ block_phrases b E a)
        (ready_both r code (own_phrase arms E a n) (block_phrases b E a) (ready_own r code arms E a n s.0 points) (found_ready b E a d ends s.1 h points after))

    out_ready : (b : Block) (E : Env) (a d : ℕ) (ends : List ℕ) → SteadyOut r b d ends → AllIn code (block_code b E a d) → PointsDeep code E.points
        → AllReady r code (block_phrases b E a)
    out_ready (Both b c) E a d ends s h points =
        let m = a + size b in
        let n = depth_behind b d in
        let es = block_code b E a d in
        let fs = block_code c E m n in
        let next = begins_out r code once c E m n ends s.1 (in_right code es fs h) in
        ready_both r code (block_phrases b E a) (block_phrases c E m) (found_ready b E a d ends s.0 (in_left code es fs h) points next)
        (out_ready c E m n ends s.1 (in_right code es fs h) points)
    out_ready (Out Anyhow part) E a d ends s h points = tt
    out_ready (Out (Where sense) part) E a d ends s h points = tt
    out_ready (Does is) E a d ends s h points = absurd s
    out_ready (Calls call takes puts arms) E a d ends s h points = absurd s
    out_ready (Ends mark b) E a d ends s h points = absurd s
    out_ready (Goes arms p) E a d ends s h points = absurd s
    out_ready (Rounds b) E a d ends s h points = absurd s
    out_ready (Enables arms b) E a d ends s h points = absurd s

  -- A region: a block that leaves no words, with an instruction behind it that does not go on.

  region_behind : (b : Block) (last : Instruction) (E : Env) (a : ℕ) → AllIn code (block_code (Both b (Does (last ∷ []))) E a 0)
      → Deep code (a + size b) (depth_behind b 0)
  region_behind b last E a h =
      let x = entry (a + size b) (depth_behind b 0) last in
      deep_first code once x [] (in_right code (block_code b E a 0) (x ∷ []) h)

  region_ready : (b : Block) (last : Instruction) (E : Env) (a : ℕ) → Steady r b 0 [] → AllIn code (block_code (Both b (Does (last ∷ []))) E a 0)
      → PointsDeep code E.points → AllReady r code (block_phrases (Both b (Does (last ∷ []))) E a)
  region_ready b last E a s h points =
      let es = block_code b E a 0 in
      let fs = entries (last ∷ []) (a + size b) (depth_behind b 0) in
      ready_both r code (block_phrases b E a) [] (found_ready b E a 0 [] s (in_left code es fs h) points (region_behind b last E a h)) tt

  arms_ready : (arms : ArmBlocks) (E : Env) (a : ℕ) → ArmsSteady r arms → AllIn code (arms_code arms E a) → PointsDeep code E.points
      → AllReady r code (arms_phrases arms E a)
  arms_ready NoArmBlock E a s h points = tt
  arms_ready (AndArmBlock labels slot words b arms) E a s h points =
      let m = a + size (region b) in
      let es = block_code (region b) E a 0 in
      let fs = arms_code arms E m in
      ready_both r code (block_phrases (region b) E a) (arms_phrases arms E m) (region_ready b i.ArmEnd E a s.0 (in_left code es fs h) points)
      (arms_ready arms E m s.2 (in_right code es fs h) points)

  -- where the body begins there are no words
  pub body_begins : (b : Block) → Steady r b 0 [] → AllIn code (block_code (returning b) in_procedure 0 0) → Deep code 0 0
  body_begins b s h =
      let es = block_code b in_procedure 0 0 in
      let fs = entries (i.Return ∷ []) (0 + size b) (depth_behind b 0) in
      begins r code once b in_procedure 0 0 [] s (in_left code es fs h) (region_behind b i.Return in_procedure 0 h)

  module _ (whole : ℕ) (zeroth : Deep code 0 0) where
    region_flows : (b : Block) (last : Instruction) (E : Env) (a hi : ℕ) → hi ≡ a + size (Both b (Does (last ∷ []))) → hi ≤ whole → OneRegion r a hi
        → EndsDeep code E.ends [] → PointsDeep code E.points → Steady r b 0 [] → depth_behind b 0 ≡ 0 → Fine last 0 → (IsTrue (goes_on r last) → ⊥)
        → AllIn code (block_code (Both b (Does (last ∷ []))) E a 0) → AllFlow r code whole (block_code (Both b (Does (last ∷ []))) E a 0)
    region_flows b last E a hi same below one around points s none fine never h =
        let m = a + size b in
        let n = depth_behind b 0 in
        let es = block_code b E a 0 in
        let fs = entries (last ∷ []) m n in
        let x = block_flows r code whole once zeroth a hi below one b E a 0 [] s (omega arith) (omega (arith, same, some_bytes last)) (in_left code es fs h) points
        around (region_behind b last E a h) (inl refl) in
        flow_both r code whole es fs x.0
        (last_flows r code whole once zeroth m n (depth_after alone last n) last (fine_plain r last n (subst (λ k. Fine last k) (sym none) fine)) never x.1, tt)

    arms_flow : (arms : ArmBlocks) (E : Env) (a : ℕ) → EndsDeep code E.ends [] → PointsDeep code E.points → ArmsSteady r arms
        → ((j : ℕ) (x : Arm) → slice_get (regions arms a) j ≡ Some x → (x.end ≤ whole) × OneRegion r x.start x.end) → AllIn code (arms_code arms E a)
        → AllFlow r code whole (arms_code arms E a)
    arms_flow NoArmBlock E a around points s one h = tt
    arms_flow (AndArmBlock labels slot words b arms) E a around points s one h =
        let m = a + size (region b) in
        let es = block_code (region b) E a 0 in
        let fs = arms_code arms E m in
        let first = one 0 (record { labels = labels; slot = slot; words = words; start = a; end = m }) refl in
        flow_both r code whole es fs
        (region_flows b i.ArmEnd E a m refl first.0 first.1 around points s.0 s.1 refl (λ g. false≢true g) (in_left code es fs h))
        (arms_flow arms E m around points s.2 (λ j x e. one (suc j) x e) (in_right code es fs h))

    -- What each step of writing keeps: where what is written so far is in the code and each region in one piece, it flows.
    pub record Flown (start : ℕ) (w : Written) : Type 0 where
      pub ready : AllIn code w.code → AllReady r code w.found
      pub flows : AllIn code w.code → OneRegion r 0 start
          → ((k j : ℕ) (p : Phrase) (x : Arm) → slice_get w.done k ≡ Some p → slice_get p.arms j ≡ Some x → (x.end ≤ whole) × OneRegion r x.start x.end)
          → AllFlow r code whole w.code

    pub flown_first : (b : Block) → size (returning b) ≤ whole → Steady r b 0 [] → depth_behind b 0 ≡ 0 → Flown (size (returning b)) (first_region (returning b))
    flown_first b below s none = record {
      ready = λ h. region_ready b i.Return in_procedure 0 s h (body_deep code zeroth);
      flows = λ h body arms. region_flows b i.Return in_procedure 0 (size (returning b)) (omega arith) below body tt (body_deep code zeroth) s none refl
          (λ g. false≢true g) h;
    }

    flown_with : (start : ℕ) (w : Written) (o : Option Pending) → slice_get w.found (length w.done) ≡ o → Flown start w → Flown start (with_arms w o)
    flown_with start w None e f = f
    flown_with start w (Some q) e f =
        let E = in_arms q.env in
        let fs = arms_code q.arms E w.end in
        let p = phrase_from q w.end in
        let x = λ (h : AllIn code (w.code ++ fs)). ready_get r code w.found (f.ready (in_left code w.code fs h)) (length w.done) q e in
        record {
          ready = λ h. ready_both r code w.found (arms_phrases q.arms E w.end) (f.ready (in_left code w.code fs h))
              (arms_ready q.arms E w.end (x h).arms (in_right code w.code fs h) (arm_deep code q.env.points (x h).points));
          flows = λ h body arms. flow_both r code whole w.code fs
              (f.flows (in_left code w.code fs h) body (λ k j s y u v. arms k j s y (get_front w.done (p ∷ []) k s u) v))
              (arms_flow q.arms E w.end tt (arm_deep code q.env.points (x h).points) (x h).arms
              (λ j y v. arms (length w.done) j p y (get_seam w.done p []) v) (in_right code w.code fs h));
        }

    pub flown_all : (n start : ℕ) (w : Written) → Flown start w → Flown start (all_written n w)
    flown_all zero start w f = f
    flown_all (suc n) start w f = flown_all n start (next_written w) (flown_with start w (slice_get w.found (length w.done)) refl f)
