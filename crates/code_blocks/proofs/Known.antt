-- What is known of the points around a construct, and the code of a jump to one of them.
use Rattle.std.proofs.Common.{◌≡◌, refl, ap, ◌∙◌, subst, ℕ, ◌≤◌, List, Bool, true, false, nat_eq}
use Rattle.mesa_types.specs.declared.types.FieldType.{FieldType}
use Rattle.mesa_types.specs.declared.typed_parts.Label.{Label}
use Rattle.mesa_types.specs.Sound as sound
use Rattle.mesa_types.specs.Sound.{Scope, Reaches, IsForRaises, scope_of}
use Rattle.mesa_types.specs.Typed.{Point, Start, After, At, Leave, Body, Module}
use Rattle.code_rules.specs.Agreement.{IsOutOf, Agrees}
use Rattle.code_rules.specs.Points.{Way, NoWay, OutOf, Points, here_if, one_arm_more, in_body, in_marked, in_arm}
use Rattle.code_rules.specs.Reading.{Destination, Offset, Caller, jump_to}
use Rattle.code_rules.proofs.Agreement.{jumps_leave_their_arms}
use Rattle.code_blocks.specs.Sizes.{goes_to}
use Rattle.code_blocks.specs.Writing.{offset_of}
use Rattle.code_blocks.proofs.Reaching.{reaches_marked, one_arm_out}

-- only the return is back to the caller
abbrev pub Lands : Point → Destination → Type 0
Lands Leave Caller = Unit {0}
Lands Leave (Offset o) = ⊥
Lands (Start n) Caller = ⊥
Lands (Start n) (Offset o) = Unit {0}
Lands (After n) Caller = ⊥
Lands (After n) (Offset o) = Unit {0}
Lands (At l) Caller = ⊥
Lands (At l) (Offset o) = Unit {0}

-- the ways to the points of a scope are those of what stands around a block, which may know of more points
pub record Known (Γ : Scope) (around points : Points Destination) : Type 0 where
  pub shown : (p : Point) (arms : ℕ) (to : Destination) → points p ≡ OutOf arms to → around p ≡ OutOf arms to
  pub lands : (p : Point) (arms : ℕ) (to : Destination) → points p ≡ OutOf arms to → Lands p to
  pub agrees : Agrees Γ points
  pub fresh : (l : ℕ) → Γ.labels ≤ l → points (At l) ≡ NoWay
  -- where RETRY and CONTINUE may stand
  pub retry : IsForRaises Γ.arm → Reaches Γ 1 (Start Γ.statement)
  pub continue : IsForRaises Γ.arm → Reaches Γ 1 (After Γ.statement)

way_out : (arms : ℕ) (way : Way Destination) → IsOutOf arms way → (to : Destination) × (way ≡ OutOf arms to)
way_out arms NoWay h = absurd h
way_out arms (OutOf k to) h = (to, ap (λ n. OutOf n to) h)

pub way_to : (Γ : Scope) (around points : Points Destination) (arms : ℕ) (p : Point) → Known Γ around points → Reaches Γ arms p
    → (to : Destination) × (points p ≡ OutOf arms to)
unfolding Reaches
way_to Γ around points arms p known r = way_out arms (points p) ((known.agrees).ways p r.0 arms r.1 r.2)

pub goes_there : (arms : ℕ) (p : Point) (to : Destination) → Lands p to → goes_to arms p (offset_of (OutOf arms to)) ≡ jump_to arms to
goes_there arms Leave Caller h = refl
goes_there arms Leave (Offset o) h = absurd h
goes_there arms (Start n) Caller h = absurd h
goes_there arms (Start n) (Offset o) h = refl
goes_there arms (After n) Caller h = absurd h
goes_there arms (After n) (Offset o) h = refl
goes_there arms (At l) Caller h = absurd h
goes_there arms (At l) (Offset o) h = refl

pub goes_right : (Γ : Scope) (around points : Points Destination) (arms : ℕ) (p : Point) (to : Destination) → Known Γ around points
    → points p ≡ OutOf arms to → goes_to arms p (offset_of (around p)) ≡ jump_to arms to
goes_right Γ around points arms p to known e =
    ap (λ way. goes_to arms p (offset_of way)) (known.shown p arms to e) ∙ goes_there arms p to (known.lands p arms to e)

-- Further in.

here_shown : (b : Bool) (place : Destination) (v u : Way Destination) (arms : ℕ) (to : Destination) → (v ≡ OutOf arms to → u ≡ OutOf arms to)
    → here_if b place v ≡ OutOf arms to → here_if b place u ≡ OutOf arms to
here_shown true place v u arms to f e = e
here_shown false place v u arms to f e = f e

here_lands : (b : Bool) (p : Point) (place : Destination) (v : Way Destination) (arms : ℕ) (to : Destination) → Lands p place
    → (v ≡ OutOf arms to → Lands p to) → here_if b place v ≡ OutOf arms to → Lands p to
here_lands true p place v arms to h f e = let same : place ≡ to = cc in subst (λ d. Lands p d) same h
here_lands false p place v arms to h f e = f e

more_shown : (v u : Way Destination) (arms : ℕ) (to : Destination) → ((k : ℕ) (d : Destination) → v ≡ OutOf k d → u ≡ OutOf k d)
    → one_arm_more v ≡ OutOf arms to → one_arm_more u ≡ OutOf arms to
more_shown NoWay u arms to f e = cc
more_shown (OutOf k d) u arms to f e = ap one_arm_more (f k d refl) ∙ e

more_lands : (p : Point) (v : Way Destination) (arms : ℕ) (to : Destination) → ((k : ℕ) (d : Destination) → v ≡ OutOf k d → Lands p d)
    → one_arm_more v ≡ OutOf arms to → Lands p to
more_lands p NoWay arms to f e = cc
more_lands p (OutOf k d) arms to f e = let same : d ≡ to = cc in subst (λ x. Lands p x) same (f k d refl)

module _ (Γ : Scope) (around points : Points Destination) (known : Known Γ around points) where
  marked_shown : (n a b : ℕ) (p : Point) (arms : ℕ) (to : Destination) → in_marked n (Offset a) (Offset b) points p ≡ OutOf arms to
      → in_marked n (Offset a) (Offset b) around p ≡ OutOf arms to
  marked_shown n a b (Start k) arms to e = here_shown (nat_eq n k) (Offset a) (points (Start k)) (around (Start k)) arms to (known.shown (Start k) arms to) e
  marked_shown n a b (After k) arms to e = here_shown (nat_eq n k) (Offset b) (points (After k)) (around (After k)) arms to (known.shown (After k) arms to) e
  marked_shown n a b (At l) arms to e = known.shown (At l) arms to e
  marked_shown n a b Leave arms to e = known.shown Leave arms to e

  marked_lands : (n a b : ℕ) (p : Point) (arms : ℕ) (to : Destination) → in_marked n (Offset a) (Offset b) points p ≡ OutOf arms to → Lands p to
  marked_lands n a b (Start k) arms to e = here_lands (nat_eq n k) (Start k) (Offset a) (points (Start k)) arms to tt (known.lands (Start k) arms to) e
  marked_lands n a b (After k) arms to e = here_lands (nat_eq n k) (After k) (Offset b) (points (After k)) arms to tt (known.lands (After k) arms to) e
  marked_lands n a b (At l) arms to e = known.lands (At l) arms to e
  marked_lands n a b Leave arms to e = known.lands Leave arms to e

  -- in a numbered statement
  pub known_in_marked : (n a b : ℕ) → Γ.statements ≤ n
      → Known (sound.in_marked n Γ) (in_marked n (Offset a) (Offset b) around) (in_marked n (Offset a) (Offset b) points)
  unfolding sound.in_marked
  known_in_marked n a b le = record {
    shown = marked_shown n a b;
    lands = marked_lands n a b;
    agrees = (jumps_leave_their_arms.in_code).marked Γ points n (Offset a) (Offset b) known.agrees le;
    fresh = λ l x. known.fresh l x;
    retry = λ x. reaches_marked Γ n 1 (Start Γ.statement) (known.retry x);
    continue = λ x. reaches_marked Γ n 1 (After Γ.statement) (known.continue x);
  }

  -- in an arm
  pub known_in_arm : (n : ℕ) (labels : List Label) → Reaches Γ 0 (Start n) → Reaches Γ 0 (After n)
      → Known (sound.in_arm n labels Γ) (in_arm around) (in_arm points)
  unfolding sound.in_arm
  known_in_arm n labels start after = record {
    shown = λ p arms to e. more_shown (points p) (around p) arms to (known.shown p) e;
    lands = λ p arms to e. more_lands p (points p) arms to (known.lands p) e;
    agrees = (jumps_leave_their_arms.in_code).arm Γ points n labels known.agrees;
    fresh = λ l x. ap one_arm_more (known.fresh l x);
    retry = λ x. one_arm_out Γ n labels (Start n) x start;
    continue = λ x. one_arm_out Γ n labels (After n) x after;
  }

  -- where more is known
  pub known_more : (further : Points Destination) → ((p : Point) (arms : ℕ) (to : Destination) → points p ≡ OutOf arms to → further p ≡ OutOf arms to)
      → Known Γ further points
  known_more further f = record { shown = f; lands = known.lands; agrees = known.agrees; fresh = known.fresh; retry = known.retry; continue = known.continue }

-- in a body nothing is known but the return
body_lands : (p : Point) (arms : ℕ) (to : Destination) → in_body Caller p ≡ OutOf arms to → Lands p to
body_lands (Start n) arms to e = cc
body_lands (After n) arms to e = cc
body_lands (At l) arms to e = cc
body_lands Leave arms to e = let same : Caller ≡ to = cc in subst (λ d. Lands Leave d) same tt

pub known_in_body : (m : Module) (takes gives : List FieldType) (body : Body) → Known (scope_of m takes gives body) (in_body Caller) (in_body Caller)
unfolding scope_of IsForRaises
known_in_body m takes gives body = record {
  shown = λ p arms to e. e;
  lands = body_lands;
  agrees = (jumps_leave_their_arms.in_code).body m takes gives body Caller;
  fresh = λ l x. refl;
  retry = λ x. absurd x;
  continue = λ x. absurd x;
}
