-- The chain stays asked where there are more points, higher floors, and where a hidden word more is held.
use Rattle.std.proofs.Common.{◌≡◌, ⊎_elim, inl, inr, ℕ, ◌+◌, ◌<◌, ◌≤◌, ◌⊎◌, List, ◌∷◌, Bool, true, false, Option, Some, None, refl, sym, ap, ◌∙◌, arith}
use Rattle.std.specs.Prelude.{◌&&◌, nat_eq, if◌then◌else◌}
use Rattle.std.proofs.lemmas.Bool.{and_parts, and_from, eq-eqb, eqb-true}
use Rattle.std.proofs.lemmas.Option.{none-some, same_Some}
use Rattle.source_meaning.specs.Variables.{Enabled}
use Rattle.code_rules.specs.Points.{Points}
use Rattle.code_rules.specs.Reading.{Destination}
use Rattle.agreement_laws.specs.World.{World}
use Rattle.agreement_laws.specs.Standing.{Here, Standing, bare}
use Rattle.agreement_laws.specs.Relation.{Hold, Ground, top, own}
use Rattle.agreement_laws.specs.Chains.{Dictionary, Within, Floor, Free, Held, Asks, asks_end, asks_out, asks_arm, asks_here}
use Rattle.agreement_laws.specs.Contexts.{Site, Context}

pub asks_wider : (W : World) (h : Here) (S : Standing) (H : Hold) (D E : Dictionary) (F G : Floor) (q : ℕ) (numbers : List ℕ) (chain : List Enabled)
    → Within D E → ((f : ℕ) → F f ≤ G f) → Asks W h S H D F q numbers chain → Asks W h S H E G q numbers chain
asks_wider W h S H D E F G q numbers chain within le (asks_end here number e is) = asks_end here number e is
asks_wider W h S H D E F G q numbers chain within le (asks_out {q = r} here number waits e is w rest) =
    asks_out here number waits e is w (asks_wider W h S H D E F G r _ chain within le rest)
asks_wider W h S H D E F G q numbers chain within le (asks_arm here owner holder place number why e is lt rest) =
    asks_arm here owner holder place number why e is lt (asks_wider W h S H D E F G holder numbers chain within le rest)
asks_wider W h S H D E F G q numbers chain within le (asks_here {l = l} C L held more low high rest) =
    asks_here C L held (λ f p t e. within f p t (more f p t e)) (λ f. let x = low f in let y = le f in omega (arith, x, y))
    (let y = le l.owner in omega (arith, high, y)) rest

-- One more word is held, at or above the floor.

abbrev pub hold_more : Hold → (f z v : ℕ) → Hold
hold_more H f z v g y = if nat_eq g f && nat_eq y z then Some v else H g y

free_by : (b : Bool) (v : ℕ) (o : Option ℕ) → o ≡ None → (b ≡ true → ⊥) → (if b then Some v else o) ≡ None
free_by true v o e non = absurd (non refl)
free_by false v o e non = e

pub free_more : (H : Hold) (f z v g from to : ℕ) → Free H g from to → (g ≡ f → from ≤ z → z < to → ⊥) → Free (hold_more H f z v) g from to
free_more H f z v g from to free non y le lt =
    free_by (nat_eq g f && nat_eq y z) v (H g y) (free y le lt) (λ b.
    let p = and_parts (nat_eq g f) (nat_eq y z) b in
    let e = eqb-true y z p.1 in
    non (eqb-true g f p.0) (omega (arith, e, le)) (omega (arith, e, lt)))

pub held_or : (H : Hold) (f z v g y u : ℕ) → hold_more H f z v g y ≡ Some u → ((g ≡ f) × (y ≡ z) × (v ≡ u)) ⊎ (H g y ≡ Some u)
held_or H f z v g y u e = by (nat_eq g f && nat_eq y z) refl e
  where
    by : (b : Bool) → nat_eq g f && nat_eq y z ≡ b → (if b then Some v else H g y) ≡ Some u → ((g ≡ f) × (y ≡ z) × (v ≡ u)) ⊎ (H g y ≡ Some u)
    by true b e = let p = and_parts (nat_eq g f) (nat_eq y z) b in inl (eqb-true g f p.0, eqb-true y z p.1, same_Some v u e)
    by false b e = inr e

pub held_still : (H : Hold) (f z v g y u : ℕ) → H f z ≡ None → H g y ≡ Some u → hold_more H f z v g y ≡ Some u
held_still H f z v g y u free e = by (nat_eq g f && nat_eq y z) refl
  where
    by : (b : Bool) → nat_eq g f && nat_eq y z ≡ b → (if b then Some v else H g y) ≡ Some u
    by true b =
        let p = and_parts (nat_eq g f) (nat_eq y z) b in
        absurd (none-some u (sym free ∙ ap (λ x. H x z) (sym (eqb-true g f p.0)) ∙ ap (λ x. H g x) (sym (eqb-true y z p.1)) ∙ e))
    by false b = e

pub held_there : (H : Hold) (f z v : ℕ) → hold_more H f z v f z ≡ Some v
held_there H f z v = ap (λ b. if b then Some v else H f z) (and_from (nat_eq f f) (nat_eq z z) (eq-eqb f f refl) (eq-eqb z z refl))

abbrev held_more : (W : World) (B : List Here) (D : Dictionary) (H : Hold) (F : Floor) (l : Enabled) (q n f z v : ℕ) → (x : Held W B D H F l q n) → (l.owner ≡ f → x.upto ≤ z)
    → Held W B D (hold_more H f z v) F l q n
held_more W B D H F l q n f z v x le = record {
  here = x.here;
  is_there = x.is_there;
  instance = x.instance;
  is_frame = x.is_frame;
  code = x.code;
  code_of = x.code_of;
  statement = x.statement;
  arms = x.arms;
  is_phrase = x.is_phrase;
  phrase = x.phrase;
  is_coded = x.is_coded;
  inside = x.inside;
  scope = x.scope;
  scope_in = x.scope_in;
  arms_in = x.arms_in;
  place = x.place;
  regions = x.regions;
  fresh = x.fresh;
  targets = x.targets;
  finds = x.finds;
  upto = x.upto;
  room = record {
    above = x.room.above;
    low = x.room.low;
    floors = x.room.floors;
    order = x.room.order;
    free = free_more H f z v l.owner x.place.slot x.upto x.room.free (λ e a b. let y = le e in omega (arith, y, b));
  };
  fits = x.fits;
  apart = x.apart;
}

pub asks_hold : (W : World) (h : Here) (S : Standing) (H : Hold) (f z v : ℕ) (D : Dictionary) (F : Floor) (q : ℕ) (numbers : List ℕ) (chain : List Enabled) → F f ≤ z
    → Asks W h S H D F q numbers chain → Asks W h S (hold_more H f z v) D F q numbers chain
asks_hold W h S H f z v D F q numbers chain le (asks_end here number e is) = asks_end here number e is
asks_hold W h S H f z v D F q numbers chain le (asks_out {q = r} here number waits e is w rest) =
    asks_out here number waits e is w (asks_hold W h S H f z v D F r _ chain le rest)
asks_hold W h S H f z v D F q numbers chain le (asks_arm here owner holder place number why e is lt rest) =
    asks_arm here owner holder place number why e is lt (asks_hold W h S H f z v D F holder numbers chain le rest)
asks_hold W h S H f z v D F q numbers chain le (asks_here {n = n} {l = l} {chain = more} E G held within low high rest) =
    asks_here E G (held_more W (h ∷ bare S) E H G l q n f z v held (λ e. let y = ap F e in omega (arith, high, y, le))) within low high
    (asks_hold W h S H f z v E G q _ more (let y = low f in omega (arith, y, le)) rest)

-- the site in which the hidden word at a slot is held, and the context of what takes those behind it
abbrev pub held_ground : Ground → (f z v : ℕ) → Ground
held_ground G f z v = record G { hold = hold_more G.hold f z v }

abbrev pub holding_site : Site → (z v : ℕ) → Site
holding_site K z v = record K { ground = held_ground K.ground K.meant.frame z v }

pub context_holding : (W : World) (K : Site) (points : Points Destination) (around : List ℕ) (from to v : ℕ) → from < to → Context W K points around from to
    → Context W (holding_site K from v) points around (from + 1) to
context_holding W K points around from to v lt h = record {
  code_of = h.code_of;
  scope_in = h.scope_in;
  instance = h.instance;
  is_frame = h.is_frame;
  nested = h.nested;
  fresh = h.fresh;
  targets = h.targets;
  finds = h.finds;
  chain = asks_hold W K.ground.here K.ground.below K.ground.hold K.meant.frame from v K.points K.floor (top K.ground) _ K.meant.chain h.room.low h.chain;
  room = record {
    above = let x = h.room.above in omega (arith, x);
    low = let x = h.room.low in omega (arith, x);
    floors = h.room.floors;
    order = omega (arith, lt);
    free = free_more K.ground.hold K.meant.frame from v K.meant.frame (from + 1) to (λ y a b. h.room.free y (omega (arith, a)) b) (λ e a b. omega (arith, a));
  };
  holds = λ g y u e. ⊎_elim
      (λ d. (own K.ground, record { number = K.meant.frame; procedure = K.ground.here.procedure }, h.is_frame, sym d.0))
      (λ d. h.holds g y u d)
      (held_or K.ground.hold K.meant.frame from v g y u e);
}
