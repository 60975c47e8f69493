-- Conditional jumps and jumps back lead to instructions of their region, forward or back.
use Rattle.std.proofs.Common.{◌≡◌, refl, sym, ◌∙◌, subst, ℕ, zero, suc, ◌+◌, ◌<◌, ◌≤◌, inl, inr, ⊎_elim, List, [], ◌∷◌, ◌++◌, length, map, All, Option, Some, None, true, false, arith}
use Rattle.std.specs.Prelude.{slice_get}
use Rattle.mesa_types.specs.Typed.{Procedure, Module, Point, Start, After, At, Leave}
use Rattle.code_forms.specs.declared.instruction.Instruction.{Instruction}
use Rattle.code_forms.specs.declared.instruction.Instruction.TheVariants as i
use Rattle.code_forms.specs.declared.module_code.Arm.{Arm}
use Rattle.code_forms.specs.declared.module_code.CodeEntry.{CodeEntry}
use Rattle.code_forms.specs.declared.module_code.Phrase.{Phrase}
use Rattle.code_forms.specs.Depths.{depth_after}
use Rattle.code_forms.specs.Instructions.{bytes_of}
use Rattle.code_forms.specs.Jumps.{GoesForward, JumpsRightly}
use Rattle.code_forms.specs.Regions.{region_at}
use Rattle.code_forms.specs.Routine.{Routine, IsStart}
use Rattle.code_forms.proofs.Ordered.{some_bytes}
use Rattle.code_rules.specs.Modules.{procedures_of}
use Rattle.code_rules.specs.Reading.{Destination, Offset, Caller, jump_to, scratch}
use Rattle.code_blocks.specs.Blocks.{Statement, Labels, Here, Leap, Anyhow, Where, Block, Does, Calls, Both, Ends, Out, Goes, Rounds, Enables, ArmBlocks, NoArmBlock, AndArmBlock}
use Rattle.code_blocks.specs.Laws.{JumpsInside, InsideJumpsRight, JumpsInsideAreRight}
use Rattle.code_blocks.specs.Modules.{uncoded, body_block, procedure_code}
use Rattle.code_blocks.specs.Own.{alone, IsOwn, AreOwn}
use Rattle.code_blocks.specs.Regions.{Written, returning, first_region, with_arms, next_written, all_written, written}
use Rattle.code_blocks.specs.Sizes.{size, leap_to, goes_to, depth_behind, phrase_count}
use Rattle.code_blocks.specs.Writing.{Env, in_part, in_arms, in_procedure, end_at, offset_of, entry, entries, block_code, Pending, own_phrase, unless_empty, block_phrases, region, arms_code, arms_phrases, regions, phrase_from}
use Rattle.code_blocks.proofs.Closed.{Closed, ArmsClosed, block_closed}
use Rattle.code_blocks.proofs.Edges.{Started, Edge, started_left, started_right, edge_first, edge_left, edge_right}
use Rattle.code_blocks.proofs.Laying.{Run, block_run}
use Rattle.code_blocks.proofs.Lists.{get_front, get_seam}
use Rattle.code_blocks.proofs.PhraseRules.{is_start}
use Rattle.code_blocks.proofs.Telling.{all_from, arm_told, body_told}

pub own_right : (r : Routine) (at : ℕ) (x : Instruction) → IsOwn x → JumpsRightly r at x
own_right r at (i.Lit word) h = tt
own_right r at (i.Str literal) h = tt
own_right r at (i.LoadL slot words) h = tt
own_right r at (i.StoreL slot words) h = tt
own_right r at (i.LoadG slot words) h = tt
own_right r at (i.StoreG slot words) h = tt
own_right r at (i.LoadLX slot extent words) h = tt
own_right r at (i.StoreLX slot extent words) h = tt
own_right r at (i.LoadGX slot extent words) h = tt
own_right r at (i.StoreGX slot extent words) h = tt
own_right r at (i.Index count size) h = tt
own_right r at i.Add h = tt
own_right r at i.Sub h = tt
own_right r at i.Mul h = tt
own_right r at i.Neg h = tt
own_right r at i.DivI h = tt
own_right r at i.ModI h = tt
own_right r at i.DivC h = tt
own_right r at i.ModC h = tt
own_right r at i.Eq h = tt
own_right r at i.LessI h = tt
own_right r at i.LessC h = tt
own_right r at i.Not h = tt
own_right r at (i.CheckI least most) h = tt
own_right r at (i.CheckC least most) h = tt
own_right r at (i.Jump target) h = absurd h
own_right r at (i.JumpIf target) h = absurd h
own_right r at (i.JumpIfNot target) h = absurd h
own_right r at (i.JumpBack target) h = absurd h
own_right r at i.StrLen h = tt
own_right r at i.StrAt h = tt
own_right r at (i.Call procedure) h = tt
own_right r at (i.CallLink link) h = tt
own_right r at i.Return h = tt
own_right r at (i.Raise signal) h = tt
own_right r at (i.RaiseLink link) h = tt
own_right r at (i.RaiseHost fault) h = tt
own_right r at i.ArmEnd h = tt
own_right r at (i.Resume words) h = tt
own_right r at (i.Leave arms target) h = absurd h
own_right r at (i.LeaveReturn arms) h = absurd h
own_right r at (i.Pop words) h = tt
own_right r at (i.Roll words over) h = tt
own_right r at (i.ZeroL slot words) h = tt
own_right r at (i.ZeroG slot words) h = tt
own_right r at i.AddD h = tt
own_right r at i.SubD h = tt
own_right r at i.MulD h = tt
own_right r at i.NegD h = tt
own_right r at i.DivDI h = tt
own_right r at i.ModDI h = tt
own_right r at i.DivDC h = tt
own_right r at i.ModDC h = tt
own_right r at i.EqD h = tt
own_right r at i.LessDI h = tt
own_right r at i.LessDC h = tt
own_right r at i.WidenI h = tt
own_right r at i.WidenC h = tt
own_right r at i.NarrowI h = tt
own_right r at i.NarrowC h = tt
own_right r at i.CheckD h = tt

jump_not : (arms : ℕ) (to : Destination) → JumpsInside (jump_to arms to) → ⊥
jump_not zero (Offset o) h = h
jump_not zero Caller h = h
jump_not (suc k) (Offset o) h = h
jump_not (suc k) Caller h = h

goes_not : (arms : ℕ) (p : Point) (target : ℕ) → JumpsInside (goes_to arms p target) → ⊥
goes_not arms Leave target h = jump_not arms Caller h
goes_not arms (Start n) target h = jump_not arms (Offset target) h
goes_not arms (After n) target h = jump_not arms (Offset target) h
goes_not arms (At l) target h = jump_not arms (Offset target) h

pub leap_right : (r : Routine) (l : Leap) (at target : ℕ) → GoesForward r at target → JumpsRightly r at (leap_to l target)
leap_right r Anyhow at target g = g
leap_right r (Where true) at target g = g
leap_right r (Where false) at target g = g

-- the offsets in an interval are in one region
abbrev pub Stays : Routine → (lo hi : ℕ) → Type 0
Stays r lo hi = (x y : ℕ) → lo ≤ x → x < hi → lo ≤ y → y < hi → region_at r.phrases x ≡ region_at r.phrases y

abbrev pub AllRight : Routine → List CodeEntry → Type 0
AllRight r [] = Unit {0}
AllRight r (e ∷ es) = (JumpsInside e.instruction → JumpsRightly r e.at e.instruction) × AllRight r es

right_both : (r : Routine) (es fs : List CodeEntry) → AllRight r es → AllRight r fs → AllRight r (es ++ fs)
right_both r [] fs g h = h
right_both r (e ∷ es) fs g h = (g.0, right_both r es fs g.1 h)

own_all_right : (r : Routine) (is : List Instruction) (a d : ℕ) → AreOwn is → AllRight r (entries is a d)
own_all_right r [] a d h = tt
own_all_right r (x ∷ is) a d h = (λ j. own_right r a x h.0, own_all_right r is (a + bytes_of x) (depth_after alone x d) h.1)

module _ (r : Routine) (lo hi : ℕ) (stay : Stays r lo hi) where
  -- the ends of the parts around lie ahead, in the region
  abbrev pub AllEnds : List ℕ → (from : ℕ) → Type 0
  AllEnds [] from = Unit {0}
  AllEnds (o ∷ os) from = (IsStart r.code o × (from ≤ o) × (o < hi)) × AllEnds os from

  pub ends_from : (os : List ℕ) (a b : ℕ) → a ≤ b → AllEnds os b → AllEnds os a
  ends_from [] a b le h = tt
  ends_from (o ∷ os) a b le h = (((h.0).0, omega (arith, le, (h.0).1), (h.0).2), ends_from os a b le h.1)

  pub end_there : (os : List ℕ) (part a : ℕ) → part < length os → AllEnds os a → IsStart r.code (end_at os part) × (a ≤ end_at os part) × (end_at os part < hi)
  end_there [] part a lt h = absurd (omega (arith, lt))
  end_there (o ∷ os) zero a lt h = h.0
  end_there (o ∷ os) (suc part) a lt h = end_there os part a (omega (arith, lt)) h.1

  jumps_right : (b : Block) (E : Env) (a d : ℕ) → Closed b (length E.ends) → lo ≤ a → a + size b < hi
      → ((o : ℕ) → Edge (block_code b E a d) (a + size b) o → IsStart r.code o) → AllEnds E.ends (a + size b) → AllRight r (block_code b E a d)
  jumps_right (Does is) E a d c le lt starts ends = own_all_right r is a d c
  jumps_right (Calls call takes puts arms) E a d c le lt starts ends = (λ h. c.0 r a, tt)
  jumps_right (Both b c) E a d k le lt starts ends =
      let m = a + size b in
      let n = a + (size b + size c) in
      let es = block_code b E a d in
      let fs = block_code c E m (depth_behind b d) in
      let same : m + size c ≡ n = omega arith in
      let run = subst (λ x. Run m fs x) same (block_run c E m (depth_behind b d)) in
      right_both r es fs
      (jumps_right b E a d k.0 le (omega (arith, lt)) (λ o e. starts o (edge_left es fs m n o run e)) (ends_from E.ends m n (omega arith) ends))
      (jumps_right c E m (depth_behind b d) k.1 (omega (arith, le)) (omega (arith, lt))
      (λ o e. starts o (edge_right es fs n o (subst (λ x. Edge fs x o) same e))) (ends_from E.ends (m + size c) n (omega arith) ends))
  jumps_right (Ends (Statement n) b) E a d c le lt starts ends = jumps_right b (in_part (Statement n) a (a + size b) E) a d c le lt starts ends
  jumps_right (Ends (Labels ls) b) E a d c le lt starts ends = jumps_right b (in_part (Labels ls) a (a + size b) E) a d c le lt starts ends
  jumps_right (Ends (Here words) b) E a d c le lt starts ends =
      jumps_right b (in_part (Here words) a (a + size b) E) a d c le lt starts ((starts (a + size b) (inr refl), omega arith, lt), ends)
  jumps_right (Out leap part) E a d c le lt starts ends =
      let g = end_there E.ends part (a + size (Out leap part)) c ends in
      let after : a < end_at E.ends part = omega (arith, g.1, some_bytes (leap_to leap 0)) in (
        λ h. leap_right r leap a (end_at E.ends part) (record {
          start = g.0;
          region = stay (end_at E.ends part) a (omega (arith, le, after)) g.2 le (omega (arith, lt));
          after = after;
        }),
        tt,
      )
  jumps_right (Goes arms p) E a d c le lt starts ends = (λ h. absurd (goes_not arms p (offset_of (E.points p)) h), tt)
  jumps_right (Rounds b) E a d c le lt starts ends =
      let m = a + size b in
      let n = a + size (Rounds b) in
      let es = block_code b E a d in
      let back = entry m (depth_behind b d) (i.JumpBack a) ∷ [] in
      right_both r es back
      (jumps_right b E a d c le (omega (arith, lt)) (λ o e. starts o (edge_left es back m n o (refl, omega arith) e)) (ends_from E.ends m n (omega arith) ends)) (
        λ h. record {
          start = starts a (edge_first (es ++ back) a n (block_run (Rounds b) E a d));
          region = stay a m le (omega (arith, lt)) (omega (arith, le)) (omega (arith, lt));
          before = omega arith;
        },
        tt,
      )
  jumps_right (Enables arms b) E a d c le lt starts ends = jumps_right b E a d c.1 le lt starts ends

-- a region: a block with an instruction behind it
region_right : (r : Routine) (b : Block) (last : Instruction) (E : Env) (a d hi : ℕ) → hi ≡ a + size (Both b (Does (last ∷ []))) → Stays r a hi → E.ends ≡ []
    → Closed b 0 → IsOwn last → ((o : ℕ) → Started (block_code (Both b (Does (last ∷ []))) E a d) o → IsStart r.code o)
    → AllRight r (block_code (Both b (Does (last ∷ []))) E a d)
region_right r b last E a d hi same stay none c own starts =
    let m = a + size b in
    let es = block_code b E a d in
    let fs = entries (last ∷ []) m (depth_behind b d) in
    right_both r es fs
    (jumps_right r a hi stay b E a d (subst (λ (os : List ℕ). Closed b (length os)) (sym none) c) (omega arith) (omega (arith, same, some_bytes last))
    (λ o e. ⊎_elim (λ x. starts o (started_left es fs o x)) (λ x. starts o (started_right es fs o (inl (sym x)))) e)
    (subst (λ os. AllEnds r a hi stay os m) (sym none) tt))
    (own_all_right r (last ∷ []) m (depth_behind b d) (own, tt))

arms_right : (r : Routine) (arms : ArmBlocks) (E : Env) (at : ℕ) → ArmsClosed arms → E.ends ≡ []
    → ((j : ℕ) (x : Arm) → slice_get (regions arms at) j ≡ Some x → Stays r x.start x.end)
    → ((o : ℕ) → Started (arms_code arms E at) o → IsStart r.code o) → AllRight r (arms_code arms E at)
arms_right r NoArmBlock E at c none stay starts = tt
arms_right r (AndArmBlock labels slot words b arms) E at c none stay starts =
    let m = at + size (region b) in
    let es = block_code (region b) E at 0 in
    let fs = arms_code arms E m in
    right_both r es fs
    (region_right r b i.ArmEnd E at 0 m refl (stay 0 _ refl) none c.0 tt (λ o x. starts o (started_left es fs o x)))
    (arms_right r arms E m c.1 none (λ j x e. stay (suc j) x e) (λ o x. starts o (started_right es fs o x)))

-- the arms of all phrases that are found are closed

abbrev pub AllClosed : List Pending → Type 0
AllClosed [] = Unit {0}
AllClosed (q ∷ ps) = ArmsClosed q.arms × AllClosed ps

closed_both : (ps qs : List Pending) → AllClosed ps → AllClosed qs → AllClosed (ps ++ qs)
closed_both [] qs g h = h
closed_both (q ∷ ps) qs g h = (g.0, closed_both ps qs g.1 h)

closed_own : (arms : ArmBlocks) (E : Env) (a b : ℕ) → ArmsClosed arms → AllClosed (own_phrase arms E a b)
closed_own NoArmBlock E a b h = tt
closed_own (AndArmBlock labels slot words block arms) E a b h = (h, tt)

closed_unless : (n : ℕ) (ps : List Pending) → AllClosed ps → AllClosed (unless_empty n ps)
closed_unless zero ps h = tt
closed_unless (suc n) ps h = h

closed_block : (b : Block) (E : Env) (a n : ℕ) → Closed b n → AllClosed (block_phrases b E a)
closed_block (Does is) E a n h = tt
closed_block (Calls call takes puts arms) E a n h = closed_own arms E a (a + bytes_of call) h.1
closed_block (Both b c) E a n h =
    closed_both (block_phrases b E a) (block_phrases c E (a + size b)) (closed_block b E a n h.0) (closed_block c E (a + size b) n h.1)
closed_block (Ends (Statement k) b) E a n h = closed_block b (in_part (Statement k) a (a + size b) E) a n h
closed_block (Ends (Labels ls) b) E a n h = closed_block b (in_part (Labels ls) a (a + size b) E) a n h
closed_block (Ends (Here words) b) E a n h = closed_block b (in_part (Here words) a (a + size b) E) a (suc n) h
closed_block (Out leap part) E a n h = tt
closed_block (Goes arms p) E a n h = tt
closed_block (Rounds b) E a n h = closed_block b E a n h
closed_block (Enables arms b) E a n h =
    closed_unless (size b) (own_phrase arms E a (a + size b) ++ block_phrases b E a)
    (closed_both (own_phrase arms E a (a + size b)) (block_phrases b E a) (closed_own arms E a (a + size b) h.0) (closed_block b E a n h.1))

closed_arms : (arms : ArmBlocks) (E : Env) (a : ℕ) → ArmsClosed arms → AllClosed (arms_phrases arms E a)
closed_arms NoArmBlock E a h = tt
closed_arms (AndArmBlock labels slot words b arms) E a h =
    closed_both (block_phrases (region b) E a) (arms_phrases arms E (a + size (region b))) (closed_block (region b) E a 0 (h.0, (tt, tt)))
    (closed_arms arms E (a + size (region b)) h.1)

pub closed_get : (ps : List Pending) → AllClosed ps → (k : ℕ) (q : Pending) → slice_get ps k ≡ Some q → ArmsClosed q.arms
closed_get [] h k q e = cc
closed_get (p ∷ ps) h zero q e = let same : p ≡ q = cc in subst (λ (x : Pending). ArmsClosed x.arms) same h.0
closed_get (p ∷ ps) h (suc k) q e = closed_get ps h.1 k q e

-- What each step of writing keeps: where the instructions written so far are in the whole code, and each region is one of it, they jump rightly.
pub record Led (start : ℕ) (w : Written) : Type 0 where
  pub closed : AllClosed w.found
  pub right : (r : Routine) → ((o : ℕ) → Started w.code o → IsStart r.code o) → Stays r 0 start
      → ((k j : ℕ) (p : Phrase) (x : Arm) → slice_get w.done k ≡ Some p → slice_get p.arms j ≡ Some x → Stays r x.start x.end) → AllRight r w.code

pub led_first : (b : Block) → Closed b 0 → Led (size (returning b)) (first_region (returning b))
led_first b c = record {
  closed = closed_block (returning b) in_procedure 0 0 (c, (tt, tt));
  right = λ r starts body arms. region_right r b i.Return in_procedure 0 0 (size (returning b)) (omega arith) body refl c tt starts;
}

pub led_with : (start : ℕ) (w : Written) (o : Option Pending) → slice_get w.found (length w.done) ≡ o → Led start w → Led start (with_arms w o)
led_with start w None e h = h
led_with start w (Some q) e h =
    let E = in_arms q.env in
    let fs = arms_code q.arms E w.end in
    let p = phrase_from q w.end in
    let c = closed_get w.found h.closed (length w.done) q e in
    record {
      closed = closed_both w.found (arms_phrases q.arms E w.end) h.closed (closed_arms q.arms E w.end c);
      right = λ r starts body arms. right_both r w.code fs
          (h.right r (λ o x. starts o (started_left w.code fs o x)) body (λ k j s x f g. arms k j s x (get_front w.done (p ∷ []) k s f) g))
          (arms_right r q.arms E w.end c refl (λ j x f. arms (length w.done) j p x (get_seam w.done p []) f) (λ o x. starts o (started_right w.code fs o x)));
    }

led_all : (n start : ℕ) (w : Written) → Led start w → Led start (all_written n w)
led_all zero start w h = h
led_all (suc n) start w h = led_all n start (next_written w) (led_with start w (slice_get w.found (length w.done)) refl h)

all_right_get : (r : Routine) (es : List CodeEntry) → AllRight r es → (k : ℕ) (e : CodeEntry) → slice_get es k ≡ Some e → JumpsInside e.instruction
    → JumpsRightly r e.at e.instruction
all_right_get r [] h k e f = cc
all_right_get r (x ∷ es) h zero e f =
    let same : x ≡ e = cc in subst (λ (y : CodeEntry). JumpsInside y.instruction → JumpsRightly r y.at y.instruction) same h.0
all_right_get r (x ∷ es) h (suc k) e f = all_right_get r es h.1 k e f

inside_right : (m : Module) (c : Procedure) → InsideJumpsRight (procedure_code m c)
inside_right m c r code phrases k e f =
    let b = body_block m c in
    let w = written b in
    let n = size (returning b) in
    let led = led_all (phrase_count b) n (first_region (returning b)) (led_first b (block_closed (uncoded m c) (scratch (uncoded m c) + 16) c.body.does 0)) in
    all_right_get r w.code (led.right r (λ o x. subst (λ es. IsStart es o) (sym code) (is_start w.code o x))
    (λ x y le1 lt1 le2 lt2. subst (λ ps. region_at ps x ≡ region_at ps y) (sym phrases)
    (body_told w.done n w.end x (all_from b) lt1 ∙ sym (body_told w.done n w.end y (all_from b) lt2)))
    (λ k j p a g h x y le1 lt1 le2 lt2. subst (λ ps. region_at ps x ≡ region_at ps y) (sym phrases)
    (arm_told w.done n w.end x k j p a (all_from b) g h le1 lt1 ∙ sym (arm_told w.done n w.end y k j p a (all_from b) g h le2 lt2))))
    k e f

all_inside : (m : Module) (ps : List Procedure) → All InsideJumpsRight (map (procedure_code m) ps)
all_inside m [] k d lt = absurd (omega (arith, lt))
all_inside m (p ∷ ps) zero d lt = inside_right m p
all_inside m (p ∷ ps) (suc k) d lt = all_inside m ps k d (omega (arith, lt))

pub jumps_inside_are_right : JumpsInsideAreRight
jumps_inside_are_right m = all_inside m (procedures_of m)
