-- One activation more: what is known of those below stays, and the search of the phrases below asks the same chain.
use Rattle.std.proofs.Common.{◌≡◌, ℕ, zero, suc, ◌<◌, ◌≤◌, List, [], ◌∷◌, length, Bool, true, false, Some, refl, ap, ◌∙◌, subst, arith}
use Rattle.std.specs.Prelude.{nat_eq, if◌then◌else◌}
use Rattle.std.proofs.lemmas.Bool.{eqb-true}
use Rattle.std.proofs.lemmas.Option.{none-some}
use Rattle.mesa_types.specs.Typed.{Point}
use Rattle.source_meaning.specs.State.{ProcedureId}
use Rattle.source_meaning.specs.Variables.{Enabled}
use Rattle.machine_rules.specs.State.{Target}
use Rattle.code_rules.specs.Points.{Way, NoWay, OutOf, Points, one_arm_more, in_arm}
use Rattle.code_rules.specs.Reading.{Destination}
use Rattle.agreement_laws.specs.World.{World}
use Rattle.agreement_laws.specs.Standing.{Part, IsFrame, IsArm, Here, Act, Standing, at, bare, act_at, HeldBehind}
use Rattle.agreement_laws.specs.Relation.{Hold}
use Rattle.agreement_laws.specs.Chains.{Dictionary, IsTarget, Targets, goal_of, Away, Leads, Finds, HoldsStanding, Floor, FloorStands, Room, Held, Asks, asks_end, asks_out, asks_arm, asks_here}
use Rattle.agreement_laws.proofs.Stacks.{act_push, here_push, frame_push, here_within, frame_within}

-- Targets, hidden words.

pub target_push : (W : World) (h : Here) (B : List Here) (f : ℕ) (t : Target) → IsTarget W B f t → IsTarget W (h ∷ B) f t
target_push W h B f t x = record {
  frame = x.frame;
  is_frame = frame_push h B t.owner (frame_within B t.owner x.frame x.is_frame) ∙ x.is_frame;
  number = x.number;
  aimed = x.aimed;
  is_there = here_push h B t.place (here_within B t.place x.aimed x.is_there) ∙ x.is_there;
  owned = x.owned;
  same_procedure = x.same_procedure;
  aims = x.aims;
}

pub targets_push : (W : World) (h : Here) (B : List Here) (D : Dictionary) → Targets W B D → Targets W (h ∷ B) D
targets_push W h B D x f p t e = target_push W h B f t (x f p t e)

pub floors_push : (h : Here) (B : List Here) (F : Floor) → FloorStands B F → FloorStands (h ∷ B) F
floors_push h B F x f v e =
    let y = x f v e in (y.0, y.1, frame_push h B y.0 (frame_within B y.0 y.1 y.2) ∙ y.2, y.3)

pub holds_push : (h : Here) (B : List Here) (H : Hold) → HoldsStanding B H → HoldsStanding (h ∷ B) H
holds_push h B H x f z v e =
    let y = x f z v e in (y.0, y.1, frame_push h B y.0 (frame_within B y.0 y.1 y.2) ∙ y.2, y.3)

pub room_push : (W : World) (p : ProcedureId) (h : Here) (B : List Here) (H : Hold) (F : Floor) (f from to : ℕ) → Room W p B H F f from to
    → Room W p (h ∷ B) H F f from to
room_push W p h B H F f from to x =
    record { above = x.above; low = x.low; floors = floors_push h B F x.floors; order = x.order; free = x.free }

-- The points of an arm: each is one arm further.

away_below : (k q top place : ℕ) → q < top → Away k q place → place < top
away_below zero q top place lt away = omega (arith, lt, away)
away_below (suc k) q top place lt away = omega (arith, lt, away)

arm_leads : (D : Dictionary) (f own q top : ℕ) (points : Points Destination) → q < top → Finds D f own q points → (p : Point) (way : Way Destination)
    → points p ≡ way → (arms : ℕ) (to : Destination) → one_arm_more way ≡ OutOf arms to → Leads D f own top p arms to
arm_leads D f own q top points lt finds p NoWay e arms to h = absurd (let z : ⊥ = cc in z)
arm_leads D f own q top points lt finds p (OutOf k place) e arms to h =
    let x = finds p k place e in
    let more : suc k ≡ arms = cc in
    let same : place ≡ to = cc in
    record {
      target = x.target;
      found = x.found;
      owner = x.owner;
      goal = x.goal ∙ ap goal_of same;
      away = subst (λ n. Away n top x.target.place) more (away_below k q top x.target.place lt x.away);
    }

pub arm_finds : (D : Dictionary) (f own q top : ℕ) (points : Points Destination) → q < top → Finds D f own q points → Finds D f own top (in_arm points)
arm_finds D f own q top points lt finds p arms to e = arm_leads D f own q top points lt finds p (points p) refl arms to e

-- The chain.

-- An activation may stand over a search from a place on, with these phrases to ask there: of the holder of an arm only phrases before the
-- arm's own are still asked.

abbrev pub AllBelow : ℕ → List ℕ → Type 0
AllBelow k [] = Unit {0}
AllBelow k (n ∷ numbers) = (n < k) × AllBelow k numbers

abbrev pub Over : Part → (q : ℕ) → (numbers : List ℕ) → Type 0
Over (IsFrame number) q numbers = Unit {0}
Over (IsArm own holder place number why) q numbers = (q ≤ holder) × (holder ≡ q → AllBelow place.phrase numbers)

over_apart : (part : Part) (q n : ℕ) (numbers : List ℕ) → Over part q (n ∷ numbers) → HeldBehind part q n
over_apart (IsFrame number) q n numbers x = tt
over_apart (IsArm own holder place number why) q n numbers x = λ e. (x.1 e).0

over_tail : (part : Part) (q n : ℕ) (numbers : List ℕ) → Over part q (n ∷ numbers) → Over part q numbers
over_tail (IsFrame number) q n numbers x = tt
over_tail (IsArm own holder place number why) q n numbers x = (x.0, λ e. (x.1 e).1)

over_less : (part : Part) (q r : ℕ) (numbers others : List ℕ) → r < q → Over part q numbers → Over part r others
over_less (IsFrame number) q r numbers others lt x = tt
over_less (IsArm own holder place number why) q r numbers others lt x = let le = x.0 in (omega (arith, le, lt), λ e. absurd (omega (arith, le, lt, e)))

abbrev pub held_push : (W : World) (h : Here) (B : List Here) (D : Dictionary) (H : Hold) (F : Floor) (l : Enabled) (q n : ℕ) → HeldBehind h.part q n
    → Held W B D H F l q n → Held W (h ∷ B) D H F l q n
held_push W h B D H F l q n apart x = record {
  here = x.here;
  is_there = here_push h B q (here_within B q x.here x.is_there) ∙ x.is_there;
  instance = x.instance;
  is_frame = frame_push h B _ (frame_within B _ _ x.is_frame) ∙ x.is_frame;
  code = x.code;
  code_of = x.code_of;
  statement = x.statement;
  arms = x.arms;
  is_phrase = x.is_phrase;
  phrase = x.phrase;
  is_coded = x.is_coded;
  inside = x.inside;
  scope = x.scope;
  scope_in = x.scope_in;
  arms_in = x.arms_in;
  place = x.place;
  regions = x.regions;
  fresh = x.fresh;
  targets = targets_push W h B D x.targets;
  finds = x.finds;
  upto = x.upto;
  room = room_push W x.here.procedure h B H F l.owner x.place.slot x.upto x.room;
  fits = x.fits;
  apart = (apart, x.apart);
}

act_if : (b : Bool) (c a : Act) (T : Standing) (q : ℕ) → nat_eq q (length T) ≡ b → (if b then Some c else act_at T q) ≡ Some a
    → (act_at T q ≡ Some a → q < length T)
    → q < length (c ∷ T)
act_if true c a T q b e h = let x = eqb-true q (length T) b in omega (arith, x)
act_if false c a T q b e h = let x = h e in omega (arith, x)

pub act_within : (T : Standing) (q : ℕ) (a : Act) → act_at T q ≡ Some a → q < length T
act_within [] q a e = absurd (none-some a e)
act_within (c ∷ T) q a e = act_if (nat_eq q (length T)) c a T q refl e (act_within T q a)

pub asks_push : (W : World) (new h : Here) (o : ℕ) (operands : List ℕ) (S : Standing) (H : Hold) (D : Dictionary) (F : Floor) (q : ℕ) (numbers : List ℕ)
    (chain : List Enabled) → Over new.part q numbers → Asks W h S H D F q numbers chain → Asks W new (at h o operands ∷ S) H D F q numbers chain
asks_push W new h o operands S H D F q numbers chain over (asks_end here number e is) =
    asks_end here number (here_push new (h ∷ bare S) 0 (here_within (h ∷ bare S) 0 here e) ∙ e) is
asks_push W new h o operands S H D F q numbers chain over (asks_out {q = r} here number waits e is w rest) =
    asks_out here number waits (here_push new (h ∷ bare S) (suc r) (here_within (h ∷ bare S) (suc r) here e) ∙ e) is
    (act_push (at h o operands) S r (act_within S r waits w) ∙ w)
    (asks_push W new h o operands S H D F r _ chain (over_less new.part (suc r) r numbers _ (omega arith) over) rest)
asks_push W new h o operands S H D F q numbers chain over (asks_arm here own holder place number why e is lt rest) =
    asks_arm here own holder place number why (here_push new (h ∷ bare S) q (here_within (h ∷ bare S) q here e) ∙ e) is lt
    (asks_push W new h o operands S H D F holder numbers chain (over_less new.part q holder numbers numbers lt over) rest)
asks_push W new h o operands S H D F q numbers chain over (asks_here {n = n} {l = l} {chain = more} E G held within low top rest) =
    asks_here E G (held_push W new (h ∷ bare S) E H G l q n (over_apart new.part q n _ over) held) within low top
    (asks_push W new h o operands S H E G q _ more (over_tail new.part q n _ over) rest)
