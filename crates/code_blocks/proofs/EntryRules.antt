-- Each instruction of a procedure whose blocks fit jumps rightly and has operands in range, where its region is known.
use Rattle.std.proofs.Common.{◌≡◌, refl, sym, ap, ◌∙◌, subst, ℕ, zero, suc, ◌+◌, ◌<◌, ◌≤◌, inl, inr, ⊎_elim, List, [], ◌∷◌, ◌++◌, length, Option, Some, None, true, false, arith}
use Rattle.std.specs.Prelude.{◌≢◌, slice_get}
use Rattle.code_forms.specs.declared.instruction.Instruction.{Instruction}
use Rattle.code_forms.specs.declared.instruction.Instruction.TheVariants as i
use Rattle.code_forms.specs.declared.module_code.Arm.{Arm}
use Rattle.code_forms.specs.declared.module_code.CodeEntry.{CodeEntry}
use Rattle.code_forms.specs.declared.module_code.Phrase.{Phrase}
use Rattle.code_forms.specs.declared.region.Region.{Region}
use Rattle.code_forms.specs.declared.region.Region.TheVariants.{Body, ArmOf}
use Rattle.code_forms.specs.Depths.{depth_after}
use Rattle.code_forms.specs.Instructions.{bytes_of}
use Rattle.code_forms.specs.Jumps.{JumpsRightly}
use Rattle.code_forms.specs.Operands.{OperandsFit}
use Rattle.code_forms.specs.Regions.{region_at, around_phrase, holder}
use Rattle.code_forms.specs.Routine.{Routine, IsStart}
use Rattle.code_forms.proofs.Ordered.{some_bytes}
use Rattle.code_rules.specs.Points.{in_body, in_arm}
use Rattle.code_blocks.specs.Blocks.{Statement, Labels, Here, Leap, Anyhow, Where, Block, Does, Calls, Both, Ends, Out, Goes, Rounds, Enables, ArmBlocks, NoArmBlock, AndArmBlock}
use Rattle.code_blocks.specs.Own.{alone, bytes_in, IsOwn, AreOwn}
use Rattle.code_blocks.specs.Regions.{Written, returning, first_region, with_arms, next_written, all_written}
use Rattle.code_blocks.specs.Sizes.{size, leap_to, goes_to, depth_behind}
use Rattle.code_blocks.specs.Writing.{Env, in_part, in_arms, in_procedure, end_at, entry, entries, block_code, Pending, own_phrase, unless_empty, block_phrases, region, arms_code, arms_phrases, regions, phrase_from}
use Rattle.code_blocks.proofs.Closed.{Closed, ArmsClosed}
use Rattle.code_blocks.proofs.Edges.{Started, Edge, started_left, started_right, edge_first, edge_left, edge_right}
use Rattle.code_blocks.proofs.Fits.{Ways, AllFit, Fits, ArmsFit}
use Rattle.code_blocks.proofs.JumpRules.{own_right, leap_right, Stays, AllEnds, ends_from, end_there, closed_get, Led, led_first, led_with}
use Rattle.code_blocks.proofs.Laying.{Run, block_run}
use Rattle.code_blocks.proofs.Leading.{AllLead, lead_sooner, lead_in_body, lead_in_marked, lead_in_labelled, lead_in_arm, IsRight, goes_is_right}
use Rattle.code_blocks.proofs.Lists.{get_front, get_seam}

module _ (r : Routine) where
  -- the instruction at an offset is right in its region
  abbrev pub EntryRight : CodeEntry → Type 0
  EntryRight e = IsRight r e.at (region_at r.phrases e.at) e.instruction

  abbrev pub AllEntries : List CodeEntry → Type 0
  AllEntries [] = Unit {0}
  AllEntries (e ∷ es) = EntryRight e × AllEntries es

  entries_both : (es fs : List CodeEntry) → AllEntries es → AllEntries fs → AllEntries (es ++ fs)
  entries_both [] fs g h = h
  entries_both (e ∷ es) fs g h = (g.0, entries_both es fs g.1 h)

  -- the arms of a phrase fit where it is; its range begins in a region from which the points around it lead
  pub record Caught (q : Pending) : Type 0 where
    pub depth : ℕ
    pub ways : Ways
    pub fit : ArmsFit r q.arms (suc depth) (in_arm ways)
    pub lead : AllLead r (region_at r.phrases q.from) 0 ways (q.env).points

  abbrev pub AllCaught : List Pending → Type 0
  AllCaught [] = Unit {0}
  AllCaught (q ∷ ps) = Caught q × AllCaught ps

  caught_both : (ps qs : List Pending) → AllCaught ps → AllCaught qs → AllCaught (ps ++ qs)
  caught_both [] qs g h = h
  caught_both (q ∷ ps) qs g h = (g.0, caught_both ps qs g.1 h)

  caught_unless : (n : ℕ) (ps : List Pending) → AllCaught ps → AllCaught (unless_empty n ps)
  caught_unless zero ps h = tt
  caught_unless (suc n) ps h = h

  pub caught_get : (ps : List Pending) → AllCaught ps → (k : ℕ) (q : Pending) → slice_get ps k ≡ Some q → Caught q
  caught_get [] h k q e = cc
  caught_get (p ∷ ps) h zero q e = let same : p ≡ q = cc in subst Caught same h.0
  caught_get (p ∷ ps) h (suc k) q e = caught_get ps h.1 k q e

  -- the offsets in an interval are in this region
  abbrev pub Told : (lo hi : ℕ) → Region → Type 0
  Told lo hi g = (x : ℕ) → lo ≤ x → x < hi → region_at r.phrases x ≡ g

  leap_fits : (l : Leap) (g : Region) (target : ℕ) → OperandsFit r g (leap_to l target)
  leap_fits Anyhow g target = tt
  leap_fits (Where true) g target = tt
  leap_fits (Where false) g target = tt

  module _ (lo hi : ℕ) (g : Region) (depth : ℕ) (told : Told lo hi g) (inside : 0 < depth → g ≢ Body) where
    stay : Stays r lo hi
    stay x y le1 lt1 le2 lt2 = told x le1 lt1 ∙ sym (told y le2 lt2)

    there : (a : ℕ) (x : Instruction) → lo ≤ a → a < hi → OperandsFit r g x → OperandsFit r (region_at r.phrases a) x
    there a x le lt h = subst (λ s. OperandsFit r s x) (sym (told a le lt)) h

    own_entries : (is : List Instruction) (a d : ℕ) → AreOwn is → AllFit r depth is → lo ≤ a → a + bytes_in is ≤ hi → AllEntries (entries is a d)
    own_entries [] a d c h le lt = tt
    own_entries (x ∷ is) a d c h le lt = (
      (own_right r a x c.0, there a x le (omega (arith, lt, some_bytes x)) (h.0 g inside)),
      own_entries is (a + bytes_of x) (depth_after alone x d) c.1 h.1 (omega (arith, le)) (omega (arith, lt)),
    )

    caught_own : (arms : ArmBlocks) (E : Env) (ways : Ways) (a b from : ℕ) → lo ≤ a → a < hi → ArmsFit r arms (suc depth) (in_arm ways)
        → AllLead r g from ways E.points → AllCaught (own_phrase arms E a b)
    caught_own NoArmBlock E ways a b from le lt h lead = tt
    caught_own (AndArmBlock labels slot words block arms) E ways a b from le lt h lead = (
      record {
        depth = depth;
        ways = ways;
        fit = h;
        lead = subst (λ s. AllLead r s 0 ways E.points) (sym (told a le lt)) (lead_sooner r g 0 from ways E.points (omega arith) lead);
      },
      tt,
    )

    block_right : (b : Block) (E : Env) (ways : Ways) (a d : ℕ) → Closed b (length E.ends) → Fits r b depth ways → lo ≤ a → a + size b < hi
        → ((o : ℕ) → Edge (block_code b E a d) (a + size b) o → IsStart r.code o) → AllEnds r lo hi stay E.ends (a + size b)
        → AllLead r g (a + size b) ways E.points → AllEntries (block_code b E a d) × AllCaught (block_phrases b E a)
    block_right (Does is) E ways a d c h le lt starts ends lead = (own_entries is a d c h le (omega (arith, lt)), tt)
    block_right (Calls call takes puts arms) E ways a d c h le lt starts ends lead = (
      ((c.0 r a, there a call le (omega (arith, lt)) (h.0 g inside)), tt),
      caught_own arms E ways a (a + bytes_of call) (a + bytes_of call) le (omega (arith, lt)) h.1 lead,
    )
    block_right (Both b c) E ways a d k h le lt starts ends lead =
        let m = a + size b in
        let n = a + (size b + size c) in
        let es = block_code b E a d in
        let fs = block_code c E m (depth_behind b d) in
        let same : m + size c ≡ n = omega arith in
        let run = subst (λ x. Run m fs x) same (block_run c E m (depth_behind b d)) in
        let x = block_right b E ways a d k.0 h.0 le (omega (arith, lt)) (λ o e. starts o (edge_left es fs m n o run e))
        (ends_from r lo hi stay E.ends m n (omega arith) ends) (lead_sooner r g m n ways E.points (omega arith) lead) in
        let y = block_right c E ways m (depth_behind b d) k.1 h.1 (omega (arith, le)) (omega (arith, lt))
        (λ o e. starts o (edge_right es fs n o (subst (λ x. Edge fs x o) same e))) (ends_from r lo hi stay E.ends (m + size c) n (omega arith) ends)
        (lead_sooner r g (m + size c) n ways E.points (omega arith) lead) in
        (entries_both es fs x.0 y.0, caught_both (block_phrases b E a) (block_phrases c E m) x.1 y.1)
    block_right (Ends (Statement n) b) E ways a d c h le lt starts ends lead =
        let end = a + size b in
        let E1 = in_part (Statement n) a end E in
        let first = starts a (edge_first (block_code b E1 a d) a end (block_run b E1 a d)) in
        block_right b E1 _ a d c h le lt starts ends
        (lead_in_marked r g end end (starts end (inr refl)) (told end (omega (arith, le)) lt) n a ways E.points first
        (told a le (omega (arith, lt))) (omega arith) lead)
    block_right (Ends (Labels ls) b) E ways a d c h le lt starts ends lead =
        let end = a + size b in
        block_right b (in_part (Labels ls) a end E) _ a d c h le lt starts ends
        (lead_in_labelled r g end end (starts end (inr refl)) (told end (omega (arith, le)) lt) ls ways E.points (omega arith) lead)
    block_right (Ends (Here words) b) E ways a d c h le lt starts ends lead =
        block_right b (in_part (Here words) a (a + size b) E) ways a d c h le lt starts ((starts (a + size b) (inr refl), omega arith, lt), ends) lead
    block_right (Out leap part) E ways a d c h le lt starts ends lead =
        let x = end_there r lo hi stay E.ends part (a + size (Out leap part)) c ends in
        let after : a < end_at E.ends part = omega (arith, x.1, some_bytes (leap_to leap 0)) in
        let jump = leap_right r leap a (end_at E.ends part) (record {
          start = x.0;
          region = stay (end_at E.ends part) a (omega (arith, le, after)) x.2 le (omega (arith, lt));
          after = after;
        }) in
        (((jump, leap_fits leap (region_at r.phrases a) (end_at E.ends part)), tt), tt)
    block_right (Goes arms p) E ways a d c h le lt starts ends lead =
        let here = told a le (omega (arith, lt)) in
        let x = goes_is_right r a (a + size (Goes arms p)) arms p g (E.points p) here (omega (arith, some_bytes (goes_to arms p 0))) h.1 (lead arms p h.0) in
        (((x.0, there a _ le (omega (arith, lt)) x.1), tt), tt)
    block_right (Rounds b) E ways a d c h le lt starts ends lead =
        let m = a + size b in
        let n = a + size (Rounds b) in
        let es = block_code b E a d in
        let back = entry m (depth_behind b d) (i.JumpBack a) ∷ [] in
        let x = block_right b E ways a d c h le (omega (arith, lt)) (λ o e. starts o (edge_left es back m n o (refl, omega arith) e))
        (ends_from r lo hi stay E.ends m n (omega arith) ends) (lead_sooner r g m n ways E.points (omega arith) lead) in
        let jump : JumpsRightly r m (i.JumpBack a) = record {
          start = starts a (edge_first (es ++ back) a n (block_run (Rounds b) E a d));
          region = stay a m le (omega (arith, lt)) (omega (arith, le)) (omega (arith, lt));
          before = omega arith;
        } in
        (entries_both es back x.0 ((jump, tt), tt), x.1)
    block_right (Enables arms b) E ways a d c h le lt starts ends lead =
        let end = a + size b in
        let x = block_right b E ways a d c.1 h.1 le lt starts ends lead in (
          x.0,
          caught_unless (size b) (own_phrase arms E a end ++ block_phrases b E a)
              (caught_both (own_phrase arms E a end) (block_phrases b E a) (caught_own arms E ways a end end le (omega (arith, lt)) h.0 lead) x.1),
        )

  -- a region: a block with an instruction behind it
  region_right : (b : Block) (last : Instruction) (E : Env) (ways : Ways) (a d hi : ℕ) (g : Region) (depth : ℕ) → hi ≡ a + size (Both b (Does (last ∷ [])))
      → Told a hi g → (0 < depth → g ≢ Body) → E.ends ≡ [] → Closed b 0 → Fits r b depth ways → IsOwn last → OperandsFit r g last
      → ((o : ℕ) → Started (block_code (Both b (Does (last ∷ []))) E a d) o → IsStart r.code o) → AllLead r g (a + size b) ways E.points
      → AllEntries (block_code (Both b (Does (last ∷ []))) E a d) × AllCaught (block_phrases (Both b (Does (last ∷ []))) E a)
  region_right b last E ways a d hi g depth same told inside none c h own fits starts lead =
      let m = a + size b in
      let es = block_code b E a d in
      let fs = entries (last ∷ []) m (depth_behind b d) in
      let x = block_right a hi g depth told inside b E ways a d (subst (λ (os : List ℕ). Closed b (length os)) (sym none) c) h (omega arith)
      (omega (arith, same, some_bytes last))
      (λ o e. ⊎_elim (λ y. starts o (started_left es fs o y)) (λ y. starts o (started_right es fs o (inl (sym y)))) e)
      (subst (λ os. AllEnds r a hi (stay a hi g depth told inside) os m) (sym none) tt) lead in (
        entries_both es fs x.0 ((own_right r m last own, there a hi g depth told inside m last (omega arith) (omega (arith, same, some_bytes last)) fits), tt),
        caught_both (block_phrases b E a) [] x.1 tt,
      )

  -- the regions of the arms of a phrase, which have an outer region
  arms_right : (arms : ArmBlocks) (E : Env) (ways : Ways) (at depth from : ℕ) (outer : Region) (g : ℕ → Region) → ((j : ℕ) → holder r.phrases (g j) ≡ Some outer)
      → ((j : ℕ) → g j ≢ Body) → ArmsClosed arms → ArmsFit r arms (suc depth) (in_arm ways) → AllLead r outer from ways E.points
      → ((j : ℕ) (x : Arm) → slice_get (regions arms at) j ≡ Some x → Told x.start x.end (g j))
      → ((o : ℕ) → Started (arms_code arms (in_arms E) at) o → IsStart r.code o)
      → AllEntries (arms_code arms (in_arms E) at) × AllCaught (arms_phrases arms (in_arms E) at)
  arms_right NoArmBlock E ways at depth from outer g held not c h lead told starts = (tt, tt)
  arms_right (AndArmBlock labels slot words b arms) E ways at depth from outer g held not c h lead told starts =
      let m = at + size (region b) in
      let es = block_code (region b) (in_arms E) at 0 in
      let fs = arms_code arms (in_arms E) m in
      let x = region_right b i.ArmEnd (in_arms E) (in_arm ways) at 0 m (g 0) (suc depth) refl (told 0 _ refl) (λ some. not 0) refl c.0 h.1 tt (not 0)
      (λ o y. starts o (started_left es fs o y)) (lead_in_arm r outer (g 0) (held 0) from (at + size b) ways E.points lead) in
      let y = arms_right arms E ways m depth from outer (λ j. g (suc j)) (λ j. held (suc j)) (λ j. not (suc j)) c.1 h.2 lead (λ j z e. told (suc j) z e)
      (λ o z. starts o (started_right es fs o z)) in
      (entries_both es fs x.0 y.0, caught_both (block_phrases (region b) (in_arms E) at) (arms_phrases arms (in_arms E) m) x.1 y.1)

  -- What each step of writing keeps, where what is written so far is in the procedure.

  pub record Final (start : ℕ) (w : Written) : Type 0 where
    pub starts : (o : ℕ) → Started w.code o → IsStart r.code o
    pub body : Told 0 start Body
    pub arms : (k j : ℕ) (p : Phrase) (x : Arm) → slice_get w.done k ≡ Some p → slice_get p.arms j ≡ Some x → Told x.start x.end (ArmOf k j)
    pub listed : (k : ℕ) (p : Phrase) → slice_get w.done k ≡ Some p → slice_get r.phrases k ≡ Some p

  pub record Ruled (start : ℕ) (w : Written) : Type 0 where
    pub closed : Led start w
    pub right : Final start w → AllEntries w.code × AllCaught w.found

  ruled_first : (b : Block) → Closed b 0 → Fits r b 0 (in_body tt) → Ruled (size (returning b)) (first_region (returning b))
  ruled_first b c h = record {
    closed = led_first b c;
    right = λ f. region_right b i.Return in_procedure (in_body tt) 0 0 (size (returning b)) Body 0 (omega arith) f.body (λ some. absurd (omega (arith, some))) refl
        c h tt refl f.starts (lead_in_body r (0 + size b));
  }

  arm_not_body : (k j : ℕ) → ArmOf k j ≢ Body
  arm_not_body k j e = cc

  ruled_with : (start : ℕ) (w : Written) (o : Option Pending) → slice_get w.found (length w.done) ≡ o → Ruled start w → Ruled start (with_arms w o)
  ruled_with start w None e h = h
  ruled_with start w (Some q) e h =
      let E = in_arms q.env in
      let fs = arms_code q.arms E w.end in
      let qs = arms_phrases q.arms E w.end in
      let p = phrase_from q w.end in
      let k = length w.done in
      record {
        closed = led_with start w (Some q) e h.closed;
        right = λ f.
            let x = h.right (record {
              starts = λ o y. f.starts o (started_left w.code fs o y);
              body = f.body;
              arms = λ n j s y a b. f.arms n j s y (get_front w.done (p ∷ []) n s a) b;
              listed = λ n s a. f.listed n s (get_front w.done (p ∷ []) n s a);
            }) in
            let c = caught_get w.found x.1 k q e in
            let here = f.listed k p (get_seam w.done p []) in
            let y = arms_right q.arms q.env c.ways w.end c.depth 0 (region_at r.phrases q.from) (ArmOf k) (λ j. ap (around_phrase r.phrases) here) (arm_not_body k)
            (closed_get w.found (h.closed).closed k q e) c.fit c.lead (λ j z a. f.arms k j p z (get_seam w.done p []) a)
            (λ o z. f.starts o (started_right w.code fs o z)) in
            (entries_both w.code fs x.0 y.0, caught_both w.found qs x.1 y.1);
      }

  ruled_all : (n start : ℕ) (w : Written) → Ruled start w → Ruled start (all_written n w)
  ruled_all zero start w h = h
  ruled_all (suc n) start w h = ruled_all n start (next_written w) (ruled_with start w (slice_get w.found (length w.done)) refl h)

  pub all_ruled : (n : ℕ) (b : Block) → Closed b 0 → Fits r b 0 (in_body tt) → Ruled (size (returning b)) (all_written n (first_region (returning b)))
  all_ruled n b c h = ruled_all n (size (returning b)) (first_region (returning b)) (ruled_first b c h)
