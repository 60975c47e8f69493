-- The instructions of a steady block leave what is asked where they lead.
use Rattle.std.proofs.Common.{◌≡◌, refl, sym, ap, ◌∙◌, subst, ℕ, zero, suc, ◌+◌, ◌-◌, ◌<◌, ◌≤◌, inl, inr, ⊎_elim, List, [], ◌∷◌, ◌++◌, length, Bool, true, false, nat_eq, Option, Some, None, if◌then◌else◌, arith}
use Rattle.std.proofs.lemmas.Option.{none-some, same_Some}
use Rattle.std.proofs.lemmas.Bool.{false≢true}
use Rattle.std.specs.Prelude.{slice_get, IsTrue}
use Rattle.mesa_types.specs.Typed.{Point, Start, After, At, Leave}
use Rattle.code_forms.specs.declared.instruction.Instruction.{Instruction}
use Rattle.code_forms.specs.declared.instruction.Instruction.TheVariants as i
use Rattle.code_forms.specs.declared.module_code.CodeEntry.{CodeEntry}
use Rattle.code_forms.specs.Depths.{depth_after, forward_target, backward_target, outward_target}
use Rattle.code_forms.specs.Instructions.{bytes_of}
use Rattle.code_forms.specs.Regions.{region_at}
use Rattle.code_forms.specs.Routine.{Routine, goes_on}
use Rattle.code_forms.proofs.Ordered.{some_bytes}
use Rattle.code_rules.specs.Points.{Way, OutOf, Points, here_if, here_or, in_marked, in_labelled, is_among}
use Rattle.code_rules.specs.Reading.{Destination, Offset, Caller, jump_to}
use Rattle.code_blocks.specs.Blocks.{Statement, Labels, Here, Leap, Anyhow, Where, Block, Does, Calls, Both, Ends, Out, Goes, Rounds, Enables}
use Rattle.code_blocks.specs.Own.{alone, bytes_in, left_of}
use Rattle.code_blocks.specs.Sizes.{size, leap_to, goes_to, at_end, depth_behind}
use Rattle.code_blocks.specs.Writing.{Env, at_labels, in_part, end_at, offset_of, entry, entries, block_code}
use Rattle.code_blocks.proofs.Bytes.{leap_bytes}
use Rattle.code_blocks.proofs.Fine.{AllFine, Plain, fine_plain}
use Rattle.code_blocks.proofs.Lists.{get_front}
use Rattle.code_blocks.proofs.Settling.{Deep, Led, Onward, Flows}
use Rattle.code_blocks.proofs.Steady.{HasOut, Steady, SteadyOut}

pub get_behind : {X : Type 0} (xs ys : List X) (k : ℕ) (x : X) → slice_get ys k ≡ Some x → slice_get (xs ++ ys) (length xs + k) ≡ Some x
get_behind [] ys k x e = ap (λ n. slice_get ys n) {y = k} (omega arith) ∙ e
get_behind (y ∷ xs) ys k x e =
    ap (λ n. slice_get (y ∷ (xs ++ ys)) n) {x = length (y ∷ xs) + k} {y = suc (length xs + k)} (omega arith) ∙ get_behind xs ys k x e

-- these instructions are some of the code
abbrev pub AllIn : (code : List CodeEntry) → List CodeEntry → Type 0
AllIn code es = (k : ℕ) (e : CodeEntry) → slice_get es k ≡ Some e → (j : ℕ) × (slice_get code j ≡ Some e)

pub in_left : (code es fs : List CodeEntry) → AllIn code (es ++ fs) → AllIn code es
in_left code es fs h k e p = h k e (get_front es fs k e p)

pub in_right : (code es fs : List CodeEntry) → AllIn code (es ++ fs) → AllIn code fs
in_right code es fs h k e p = h (length es + k) e (get_behind es fs k e p)

in_rest : (code : List CodeEntry) (x : CodeEntry) (es : List CodeEntry) → AllIn code (x ∷ es) → AllIn code es
in_rest code x es h k e p = h (suc k) e p

-- at an offset of the code there is one instruction
abbrev pub Once : List CodeEntry → Type 0
Once code = (j k : ℕ) (e f : CodeEntry) → slice_get code j ≡ Some e → slice_get code k ≡ Some f → e.at ≡ f.at → e ≡ f

-- its depth is that of the code there
pub deep_first : (code : List CodeEntry) → Once code → (e : CodeEntry) (es : List CodeEntry) → AllIn code (e ∷ es) → Deep code e.at e.depth
deep_first code once e es h k f q same =
    let there = h 0 e refl in
    sym (ap (λ (x : CodeEntry). x.depth) (once there.0 k e f there.1 q (sym same)))

pub deep_to : (code : List CodeEntry) (o p d : ℕ) → o ≡ p → Deep code o d → Deep code p d
deep_to code o p d e h = subst (λ n. Deep code n d) e h

pub deep_as : (code : List CodeEntry) (o d n : ℕ) → d ≡ n → Deep code o d → Deep code o n
deep_as code o d n e h = subst (λ m. Deep code o m) e h

led_to : (r : Routine) (code : List CodeEntry) (o p d : ℕ) → o ≡ p → Led r code o d → Led r code p d
led_to r code o p d e h = subst (λ n. Led r code n d) e h

led_as : (r : Routine) (code : List CodeEntry) (o d n : ℕ) → d ≡ n → Led r code o d → Led r code o n
led_as r code o d n e h = subst (λ m. Led r code o m) e h

-- Where a block begins there is the depth before it.

module _ (r : Routine) (code : List CodeEntry) (once : Once code) where
  mutual
    pub begins : (b : Block) (E : Env) (a d : ℕ) (ends : List ℕ) → Steady r b d ends → AllIn code (block_code b E a d)
        → Deep code (a + size b) (depth_behind b d) → Deep code a d
    begins (Does []) E a d ends s h after = deep_to code (a + 0) a d (omega arith) after
    begins (Does (x ∷ is)) E a d ends s h after = deep_first code once (entry a d x) (entries is (a + bytes_of x) (depth_after alone x d)) h
    begins (Calls call takes puts arms) E a d ends s h after = deep_first code once (entry a d call) [] h
    begins (Both b c) E a d ends s h after =
        let m = a + size b in
        let es = block_code b E a d in
        let fs = block_code c E m (depth_behind b d) in
        begins b E a d ends s.0 (in_left code es fs h)
        (begins c E m (depth_behind b d) ends s.1 (in_right code es fs h)
        (deep_to code (a + (size b + size c)) (m + size c) (depth_behind (Both b c) d) (omega arith) after))
    begins (Ends (Statement n) b) E a d ends s h after =
        begins b (in_part (Statement n) a (a + size b) E) a d ends s.1 h (deep_as code (a + size b) d (depth_behind b d) (sym s.2) after)
    begins (Ends (Labels ls) b) E a d ends s h after =
        begins b (in_part (Labels ls) a (a + size b) E) a d ends s.1 h (deep_as code (a + size b) d (depth_behind b d) (sym s.2) after)
    begins (Ends (Here words) b) E a d ends s h after =
        let n = at_end (Here words) d in
        let E1 = in_part (Here words) a (a + size b) E in
        ⊎_elim
        (λ (x : Steady r b d (n ∷ ends) × (depth_behind b d ≡ n)).
        begins b E1 a d (n ∷ ends) x.0 h (deep_as code (a + size b) n (depth_behind b d) (sym x.1) after))
        (λ (x : SteadyOut r b d (n ∷ ends) × HasOut b 0). begins_out b E1 a d (n ∷ ends) x.0 h)
        s
    begins (Out leap part) E a d ends s h after = deep_first code once (entry a d (leap_to leap (end_at E.ends part))) [] h
    begins (Goes arms p) E a d ends s h after = deep_first code once (entry a d (goes_to arms p (offset_of (E.points p)))) [] h
    begins (Rounds b) E a d ends s h after =
        let es = block_code b E a d in
        let back = entry (a + size b) (depth_behind b d) (i.JumpBack a) in
        begins b E a d ends s.1 (in_left code es (back ∷ []) h) (deep_first code once back [] (in_right code es (back ∷ []) h))
    begins (Enables arms b) E a d ends s h after = begins b E a d ends s.1 h after

    pub begins_out : (b : Block) (E : Env) (a d : ℕ) (ends : List ℕ) → SteadyOut r b d ends → AllIn code (block_code b E a d) → Deep code a d
    begins_out (Both b c) E a d ends s h =
        let m = a + size b in
        let es = block_code b E a d in
        let fs = block_code c E m (depth_behind b d) in
        begins b E a d ends s.0 (in_left code es fs h) (begins_out c E m (depth_behind b d) ends s.1 (in_right code es fs h))
    begins_out (Out Anyhow part) E a d ends s h = deep_first code once (entry a d (leap_to Anyhow (end_at E.ends part))) [] h
    begins_out (Out (Where sense) part) E a d ends s h = absurd s
    begins_out (Does is) E a d ends s h = absurd s
    begins_out (Calls call takes puts arms) E a d ends s h = absurd s
    begins_out (Ends mark b) E a d ends s h = absurd s
    begins_out (Goes arms p) E a d ends s h = absurd s
    begins_out (Rounds b) E a d ends s h = absurd s
    begins_out (Enables arms b) E a d ends s h = absurd s

-- The ways out of a block.

pub record Leaves (code : List CodeEntry) (target upto : ℕ) : Type 0 where
  pub number : ℕ
  pub entry : CodeEntry
  pub is : slice_get code number ≡ Some entry
  pub before : entry.at < upto
  pub to : forward_target entry.instruction ≡ Some target

leaves_later : (code : List CodeEntry) (target m n : ℕ) → m ≤ n → Leaves code target m → Leaves code target n
leaves_later code target m n le x = record { number = x.number; entry = x.entry; is = x.is; before = omega (arith, le, x.before); to = x.to }

leap_forward : (leap : Leap) (target : ℕ) → forward_target (leap_to leap target) ≡ Some target
leap_forward Anyhow target = refl
leap_forward (Where true) target = refl
leap_forward (Where false) target = refl

leaves_by : (code : List CodeEntry) (b : Block) (E : Env) (a d part : ℕ) → HasOut b part → AllIn code (block_code b E a d)
    → Leaves code (end_at E.ends part) (a + size b)
leaves_by code (Does is) E a d part o h = absurd o
leaves_by code (Calls call takes puts arms) E a d part o h = absurd o
leaves_by code (Both b c) E a d part o h =
    let m = a + size b in
    let es = block_code b E a d in
    let fs = block_code c E m (depth_behind b d) in
    ⊎_elim
    (λ (x : HasOut b part). leaves_later code (end_at E.ends part) m (a + (size b + size c)) (omega arith)
    (leaves_by code b E a d part x (in_left code es fs h)))
    (λ (x : HasOut c part). leaves_later code (end_at E.ends part) (m + size c) (a + (size b + size c)) (omega arith)
    (leaves_by code c E m (depth_behind b d) part x (in_right code es fs h)))
    o
leaves_by code (Ends (Statement n) b) E a d part o h = leaves_by code b (in_part (Statement n) a (a + size b) E) a d part o h
leaves_by code (Ends (Labels ls) b) E a d part o h = leaves_by code b (in_part (Labels ls) a (a + size b) E) a d part o h
leaves_by code (Ends (Here words) b) E a d part o h = leaves_by code b (in_part (Here words) a (a + size b) E) a d (suc part) o h
leaves_by code (Out leap p) E a d part o h =
    let there = h 0 (entry a d (leap_to leap (end_at E.ends p))) refl in
    record {
      number = there.0;
      entry = entry a d (leap_to leap (end_at E.ends p));
      is = there.1;
      before = omega (arith, some_bytes (leap_to leap 0));
      to = leap_forward leap (end_at E.ends p) ∙ ap (λ k. Some (end_at E.ends k)) o;
    }
leaves_by code (Goes arms p) E a d part o h = absurd o
leaves_by code (Rounds b) E a d part o h =
    let es = block_code b E a d in
    let back = entry (a + size b) (depth_behind b d) (i.JumpBack a) ∷ [] in
    leaves_later code (end_at E.ends part) (a + size b) (a + size (Rounds b)) (omega arith) (leaves_by code b E a d part o (in_left code es back h))
leaves_by code (Enables arms b) E a d part o h = leaves_by code b E a d part o h

-- What stands around a block: at the points and at the ends of the parts are the depths that jumps there find.

abbrev pub PointsDeep : (code : List CodeEntry) → Points Destination → Type 0
PointsDeep code points = (p : Point) → Deep code (offset_of (points p)) 0

abbrev pub EndsDeep : (code : List CodeEntry) → (offsets depths : List ℕ) → Type 0
EndsDeep code [] [] = Unit {0}
EndsDeep code (o ∷ os) (n ∷ ns) = Deep code o n × EndsDeep code os ns
EndsDeep code _ _ = ⊥

here_deep : (code : List CodeEntry) (b : Bool) (o : ℕ) (way : Way Destination) → Deep code o 0 → Deep code (offset_of way) 0
    → Deep code (offset_of (here_if b (Offset o) way)) 0
here_deep code true o way g h = g
here_deep code false o way g h = h

label_deep : (code : List CodeEntry) (b : Bool) (o : ℕ) (way : Way Destination) → Deep code o 0 → Deep code (offset_of way) 0
    → Deep code (offset_of (here_or (if b then Some (Offset o) else None) way)) 0
label_deep code true o way g h = g
label_deep code false o way g h = h

pub marked_deep : (code : List CodeEntry) (n a b : ℕ) (points : Points Destination) → Deep code a 0 → Deep code b 0 → PointsDeep code points
    → PointsDeep code (in_marked n (Offset a) (Offset b) points)
marked_deep code n a b points g h all (Start k) = here_deep code (nat_eq n k) a (points (Start k)) g (all (Start k))
marked_deep code n a b points g h all (After k) = here_deep code (nat_eq n k) b (points (After k)) h (all (After k))
marked_deep code n a b points g h all (At l) = all (At l)
marked_deep code n a b points g h all Leave = all Leave

pub labelled_deep : (code : List CodeEntry) (ls : List ℕ) (b : ℕ) (points : Points Destination) → Deep code b 0 → PointsDeep code points
    → PointsDeep code (in_labelled (at_labels ls b) points)
labelled_deep code ls b points h all (Start k) = all (Start k)
labelled_deep code ls b points h all (After k) = all (After k)
labelled_deep code ls b points h all (At l) = label_deep code (is_among l ls) b (points (At l)) h (all (At l))
labelled_deep code ls b points h all Leave = all Leave

ends_deep : (code : List CodeEntry) (os ns : List ℕ) (part : ℕ) → Deep code 0 0 → EndsDeep code os ns → Deep code (end_at os part) (end_at ns part)
ends_deep code [] [] part z h = z
ends_deep code (o ∷ os) (n ∷ ns) zero z h = h.0
ends_deep code (o ∷ os) (n ∷ ns) (suc part) z h = ends_deep code os ns part z h.1
ends_deep code [] (n ∷ ns) part z h = absurd h
ends_deep code (o ∷ os) [] part z h = absurd h

-- the offsets in an interval are in one region
abbrev pub OneRegion : Routine → (lo hi : ℕ) → Type 0
OneRegion r lo hi = (x y : ℕ) → lo ≤ x → x < hi → lo ≤ y → y < hi → region_at r.phrases x ≡ region_at r.phrases y

abbrev pub AllFlow : Routine → (code : List CodeEntry) → (whole : ℕ) → List CodeEntry → Type 0
AllFlow r code whole [] = Unit {0}
AllFlow r code whole (e ∷ es) = Flows r code whole e × AllFlow r code whole es

pub flow_both : (r : Routine) (code : List CodeEntry) (whole : ℕ) (es fs : List CodeEntry) → AllFlow r code whole es → AllFlow r code whole fs
    → AllFlow r code whole (es ++ fs)
flow_both r code whole [] fs g h = h
flow_both r code whole (e ∷ es) fs g h = (g.0, flow_both r code whole es fs g.1 h)

pub flow_get : (r : Routine) (code : List CodeEntry) (whole : ℕ) (es : List CodeEntry) → AllFlow r code whole es → (k : ℕ) (e : CodeEntry)
    → slice_get es k ≡ Some e → Flows r code whole e
flow_get r code whole [] h k e p = absurd (none-some e p)
flow_get r code whole (x ∷ es) h zero e p = subst (λ (y : CodeEntry). Flows r code whole y) (same_Some x e p) h.0
flow_get r code whole (x ∷ es) h (suc k) e p = flow_get r code whole es h.1 k e p

module _ (r : Routine) (code : List CodeEntry) (whole : ℕ) (once : Once code) (zeroth : Deep code 0 0) where
  no_target : (o : Option ℕ) (d : ℕ) → o ≡ None → (x : ℕ) → o ≡ Some x → Deep code x d
  no_target o d none x e = absurd (none-some x (sym none ∙ e))

  -- an instruction that jumps nowhere, with what is asked where it goes on
  plain_flows : (a d n : ℕ) (x : Instruction) → Plain r x d n → (IsTrue (goes_on r x) → Onward r code whole (entry a d x)) → Led r code a d
      → Flows r code whole (entry a d x)
  plain_flows a d n x p onward led = record {
    enough = p.enough;
    rests = ⊎_elim (λ (g : IsTrue (goes_on r x)). inl g) (λ (z : n ≡ 0). inr (omega (arith, p.after, z))) p.rests;
    onward = onward;
    forward = no_target (forward_target x) (depth_after r x d) p.forward;
    backward = no_target (backward_target x) (depth_after r x d) p.backward;
    outward = no_target (outward_target x) 0 p.outward;
    returns = p.returns;
    led = led;
  }

  -- behind an instruction of the code that goes on, it leads there
  led_next : (a d n : ℕ) (x : Instruction) (es : List CodeEntry) → AllIn code (entry a d x ∷ es) → IsTrue (goes_on r x) → Led r code (a + bytes_of x) n
  led_next a d n x es h g =
      let there = h 0 (entry a d x) refl in
      inr (record { number = there.0; entry = entry a d x; is = there.1; earlier = omega (arith, some_bytes x); way = inl (refl, g) })

  plain_led : (a d n : ℕ) (x : Instruction) (es : List CodeEntry) → AllIn code (entry a d x ∷ es) → Plain r x d n → Led r code (a + bytes_of x) n
  plain_led a d n x es h p = ⊎_elim (λ (g : IsTrue (goes_on r x)). led_next a d n x es h g) (λ (z : n ≡ 0). inl z) p.rests

  -- the last instruction of a region
  pub last_flows : (a d n : ℕ) (x : Instruction) → Plain r x d n → (IsTrue (goes_on r x) → ⊥) → Led r code a d → Flows r code whole (entry a d x)
  last_flows a d n x p never led = plain_flows a d n x p (λ g. absurd (never g)) led

  module _ (lo hi : ℕ) (below : hi ≤ whole) (one : OneRegion r lo hi) where
    on_there : (a d n : ℕ) (x : Instruction) → lo ≤ a → a + bytes_of x < hi → depth_after r x d ≡ n → Deep code (a + bytes_of x) n
        → Onward r code whole (entry a d x)
    on_there a d n x le lt after next = record {
      more = omega (arith, lt, below);
      region = one (a + bytes_of x) a (omega (arith, le)) lt le (omega (arith, lt, some_bytes x));
      deep = deep_as code (a + bytes_of x) n (depth_after r x d) (sym after) next;
    }

    own_flows : (is : List Instruction) (E : Env) (a d : ℕ) (ends : List ℕ) → AllFine is d → lo ≤ a → a + bytes_in is < hi → AllIn code (entries is a d)
        → Deep code (a + bytes_in is) (left_of is d) → Led r code a d → AllFlow r code whole (entries is a d) × Led r code (a + bytes_in is) (left_of is d)
    own_flows [] E a d ends f le lt h after led = (tt, led_to r code a (a + 0) d (omega arith) led)
    own_flows (x ∷ is) E a d ends f le lt h after led =
        let m = a + bytes_of x in
        let n = depth_after alone x d in
        let es = entries is m n in
        let p = fine_plain r x d f.0 in
        let same : a + bytes_in (x ∷ is) ≡ m + bytes_in is = omega arith in
        let behind = deep_to code (a + bytes_in (x ∷ is)) (m + bytes_in is) (left_of is n) same after in
        let rest_in = in_rest code (entry a d x) es h in
        let next = begins r code once (Does is) E m n ends f.1 rest_in behind in
        let rest = own_flows is E m n ends f.1 (omega (arith, le)) (omega (arith, lt)) rest_in behind (plain_led a d n x es h p) in (
          (plain_flows a d n x p (λ g. on_there a d n x le (omega (arith, lt)) p.after next) led, rest.0),
          led_to r code (m + bytes_in is) (a + bytes_in (x ∷ is)) (left_of is n) (sym same) rest.1,
        )

    -- a jump out to the end of a part in any case
    jump_flows : (a d target n : ℕ) → n ≡ d → Deep code target n → Led r code a d → Flows r code whole (entry a d (i.Jump target))
    jump_flows a d target n same deep led = record {
      enough = omega arith;
      rests = inr (omega arith);
      onward = λ g. absurd (false≢true g);
      forward = λ o e. subst (λ x. Deep code x (d - 0 + 0)) (same_Some target o e) (deep_as code target n (d - 0 + 0) (omega (arith, same)) deep);
      backward = λ o e. absurd (none-some o e);
      outward = λ o e. absurd (none-some o e);
      returns = λ g. absurd (false≢true g);
      led = led;
    }

    -- or where a word is true, or is not
    where_flows : (sense : Bool) (a d target n : ℕ) → 1 ≤ d → n ≡ d - 1 → lo ≤ a → a + bytes_of (leap_to (Where sense) target) < hi
        → Deep code (a + bytes_of (leap_to (Where sense) target)) (d - 1) → Deep code target n → Led r code a d
        → Flows r code whole (entry a d (leap_to (Where sense) target))
    where_flows true a d target n some same le lt next deep led = record {
      enough = some;
      rests = inl refl;
      onward = λ g. on_there a d (d - 1) (i.JumpIf target) le lt (omega arith) next;
      forward = λ o e. subst (λ x. Deep code x (d - 1 + 0)) (same_Some target o e) (deep_as code target n (d - 1 + 0) (omega (arith, same)) deep);
      backward = λ o e. absurd (none-some o e);
      outward = λ o e. absurd (none-some o e);
      returns = λ g. absurd (false≢true g);
      led = led;
    }
    where_flows false a d target n some same le lt next deep led = record {
      enough = some;
      rests = inl refl;
      onward = λ g. on_there a d (d - 1) (i.JumpIfNot target) le lt (omega arith) next;
      forward = λ o e. subst (λ x. Deep code x (d - 1 + 0)) (same_Some target o e) (deep_as code target n (d - 1 + 0) (omega (arith, same)) deep);
      backward = λ o e. absurd (none-some o e);
      outward = λ o e. absurd (none-some o e);
      returns = λ g. absurd (false≢true g);
      led = led;
    }

    where_goes : (sense : Bool) (target : ℕ) → IsTrue (goes_on r (leap_to (Where sense) target))
    where_goes true target = refl
    where_goes false target = refl

    back_flows : (a d target : ℕ) → Deep code target d → Led r code a d → Flows r code whole (entry a d (i.JumpBack target))
    back_flows a d target deep led = record {
      enough = omega arith;
      rests = inr (omega arith);
      onward = λ g. absurd (false≢true g);
      forward = λ o e. absurd (none-some o e);
      backward = λ o e. subst (λ x. Deep code x (d - 0 + 0)) (same_Some target o e) (deep_as code target d (d - 0 + 0) (omega arith) deep);
      outward = λ o e. absurd (none-some o e);
      returns = λ g. absurd (false≢true g);
      led = led;
    }

    -- a jump of the text finds no words
    text_flows : (arms a d : ℕ) (to : Destination) → d ≡ 0 → Deep code (offset_of (OutOf arms to)) 0 → Led r code a d
        → Flows r code whole (entry a d (jump_to arms to))
    text_flows zero a d (Offset o) none deep led = jump_flows a d o 0 (sym none) deep led
    text_flows zero a d Caller none deep led = record {
      enough = omega arith;
      rests = inr (omega arith);
      onward = λ g. absurd (false≢true g);
      forward = λ o e. absurd (none-some o e);
      backward = λ o e. absurd (none-some o e);
      outward = λ o e. absurd (none-some o e);
      returns = λ g. none;
      led = led;
    }
    text_flows (suc k) a d (Offset target) none deep led = record {
      enough = omega arith;
      rests = inr (omega arith);
      onward = λ g. absurd (false≢true g);
      forward = λ o e. absurd (none-some o e);
      backward = λ o e. absurd (none-some o e);
      outward = λ o e. subst (λ x. Deep code x 0) (same_Some target o e) deep;
      returns = λ g. absurd (false≢true g);
      led = led;
    }
    text_flows (suc k) a d Caller none deep led = record {
      enough = omega arith;
      rests = inr (omega arith);
      onward = λ g. absurd (false≢true g);
      forward = λ o e. absurd (none-some o e);
      backward = λ o e. absurd (none-some o e);
      outward = λ o e. absurd (none-some o e);
      returns = λ g. absurd (false≢true g);
      led = led;
    }

    goes_flow : (arms : ℕ) (p : Point) (a d target : ℕ) → d ≡ 0 → Deep code target 0 → Led r code a d → Flows r code whole (entry a d (goes_to arms p target))
    goes_flow arms Leave a d target none deep led = text_flows arms a d Caller none zeroth led
    goes_flow arms (Start n) a d target none deep led = text_flows arms a d (Offset target) none deep led
    goes_flow arms (After n) a d target none deep led = text_flows arms a d (Offset target) none deep led
    goes_flow arms (At l) a d target none deep led = text_flows arms a d (Offset target) none deep led

    mutual
      pub block_flows : (b : Block) (E : Env) (a d : ℕ) (ends : List ℕ) → Steady r b d ends → lo ≤ a → a + size b < hi → AllIn code (block_code b E a d)
          → PointsDeep code E.points → EndsDeep code E.ends ends → Deep code (a + size b) (depth_behind b d) → Led r code a d
          → AllFlow r code whole (block_code b E a d) × Led r code (a + size b) (depth_behind b d)
      block_flows (Does is) E a d ends s le lt h points around after led = own_flows is E a d ends s le lt h after led
      block_flows (Calls call takes puts arms) E a d ends s le lt h points around after led =
          let n = d - takes + puts in (
            (plain_flows a d n call s.0 (λ g. on_there a d n call le lt (s.0).after after) led, tt),
            plain_led a d n call [] h s.0,
          )
      block_flows (Both b c) E a d ends s le lt h points around after led =
          let m = a + size b in
          let n = depth_behind b d in
          let es = block_code b E a d in
          let fs = block_code c E m n in
          let same : a + (size b + size c) ≡ m + size c = omega arith in
          let behind = deep_to code (a + (size b + size c)) (m + size c) (depth_behind c n) same after in
          let next = begins r code once c E m n ends s.1 (in_right code es fs h) behind in
          let x = block_flows b E a d ends s.0 le (omega (arith, lt)) (in_left code es fs h) points around next led in
          let y = block_flows c E m n ends s.1 (omega (arith, le)) (omega (arith, lt)) (in_right code es fs h) points around behind x.1 in
          (flow_both r code whole es fs x.0 y.0, led_to r code (m + size c) (a + (size b + size c)) (depth_behind c n) (sym same) y.1)
      block_flows (Ends (Statement n) b) E a d ends s le lt h points around after led =
          let m = a + size b in
          let E1 = in_part (Statement n) a m E in
          let behind = deep_as code m d (depth_behind b d) (sym s.2) after in
          let there = begins r code once b E1 a d ends s.1 h behind in
          let x = block_flows b E1 a d ends s.1 le lt h
          (marked_deep code n a m E.points (deep_as code a d 0 s.0 there) (deep_as code m d 0 s.0 after) points) around behind led in
          (x.0, inl s.0)
      block_flows (Ends (Labels ls) b) E a d ends s le lt h points around after led =
          let m = a + size b in
          let E1 = in_part (Labels ls) a m E in
          let behind = deep_as code m d (depth_behind b d) (sym s.2) after in
          let x = block_flows b E1 a d ends s.1 le lt h (labelled_deep code ls m E.points (deep_as code m d 0 s.0 after) points) around behind led in
          (x.0, inl s.0)
      block_flows (Ends (Here words) b) E a d ends s le lt h points around after led =
          let m = a + size b in
          let n = at_end (Here words) d in
          let E1 = in_part (Here words) a m E in
          ⊎_elim
          (λ (x : Steady r b d (n ∷ ends) × (depth_behind b d ≡ n)).
          let y = block_flows b E1 a d (n ∷ ends) x.0 le lt h points (after, around) (deep_as code m n (depth_behind b d) (sym x.1) after) led in
          (y.0, led_as r code m (depth_behind b d) n x.1 y.1))
          (λ (x : SteadyOut r b d (n ∷ ends) × HasOut b 0).
          let o = leaves_by code b E1 a d 0 x.1 h in (
            out_flows b E1 a d (n ∷ ends) x.0 le lt h points (after, around) led,
            inr (record { number = o.number; entry = o.entry; is = o.is; earlier = o.before; way = inr o.to }),
          ))
          s
      block_flows (Out Anyhow part) E a d ends s le lt h points around after led =
          ((jump_flows a d (end_at E.ends part) (end_at ends part) s.1 (ends_deep code E.ends ends part zeroth around) led, tt), inl s.0)
      block_flows (Out (Where sense) part) E a d ends s le lt h points around after led =
          let target = end_at E.ends part in
          let x = leap_to (Where sense) target in
          let same : a + size (Out (Where sense) part) ≡ a + bytes_of x = sym (ap (λ n. a + n) (leap_bytes (Where sense) target)) in (
            (
              where_flows sense a d target (end_at ends part) s.0 s.1 le (omega (arith, lt, same))
                  (deep_to code (a + size (Out (Where sense) part)) (a + bytes_of x) (d - 1) same after) (ends_deep code E.ends ends part zeroth around) led,
              tt,
            ),
            led_to r code (a + bytes_of x) (a + size (Out (Where sense) part)) (d - 1) (sym same)
                (led_next a d (d - 1) x [] h (where_goes sense target)),
          )
      block_flows (Goes arms p) E a d ends s le lt h points around after led = ((goes_flow arms p a d (offset_of (E.points p)) s (points p) led, tt), inl s)
      block_flows (Rounds b) E a d ends s le lt h points around after led =
          let m = a + size b in
          let n = depth_behind b d in
          let es = block_code b E a d in
          let back = entry m n (i.JumpBack a) in
          let there = deep_first code once back [] (in_right code es (back ∷ []) h) in
          let head = begins r code once b E a d ends s.1 (in_left code es (back ∷ []) h) there in
          let x = block_flows b E a d ends s.1 le (omega (arith, lt)) (in_left code es (back ∷ []) h) points around there led in
          (flow_both r code whole es (back ∷ []) x.0 (back_flows m n a (deep_as code a d n (sym s.2) head) x.1, tt), inl (s.2 ∙ s.0))
      block_flows (Enables arms b) E a d ends s le lt h points around after led = block_flows b E a d ends s.1 le lt h points around after led

      out_flows : (b : Block) (E : Env) (a d : ℕ) (ends : List ℕ) → SteadyOut r b d ends → lo ≤ a → a + size b < hi → AllIn code (block_code b E a d)
          → PointsDeep code E.points → EndsDeep code E.ends ends → Led r code a d → AllFlow r code whole (block_code b E a d)
      out_flows (Both b c) E a d ends s le lt h points around led =
          let m = a + size b in
          let n = depth_behind b d in
          let es = block_code b E a d in
          let fs = block_code c E m n in
          let next = begins_out r code once c E m n ends s.1 (in_right code es fs h) in
          let x = block_flows b E a d ends s.0 le (omega (arith, lt)) (in_left code es fs h) points around next led in
          flow_both r code whole es fs x.0 (out_flows c E m n ends s.1 (omega (arith, le)) (omega (arith, lt)) (in_right code es fs h) points around x.1)
      out_flows (Out Anyhow part) E a d ends s le lt h points around led =
          (jump_flows a d (end_at E.ends part) (end_at ends part) s (ends_deep code E.ends ends part zeroth around) led, tt)
      out_flows (Out (Where sense) part) E a d ends s le lt h points around led = absurd s
      out_flows (Does is) E a d ends s le lt h points around led = absurd s
      out_flows (Calls call takes puts arms) E a d ends s le lt h points around led = absurd s
      out_flows (Ends mark b) E a d ends s le lt h points around led = absurd s
      out_flows (Goes arms p) E a d ends s le lt h points around led = absurd s
      out_flows (Rounds b) E a d ends s le lt h points around led = absurd s
      out_flows (Enables arms b) E a d ends s le lt h points around led = absurd s
