-- In a numbered statement: two points more, its start and the place after it.
use Rattle.std.proofs.Common.{◌≡◌, ⊎_elim, inl, inr, ℕ, ◌<◌, ◌≤◌, ◌⊎◌, List, Bool, true, false, Option, Some, None, refl, sym, ap, ◌∙◌, subst, le_refl, arith}
use Rattle.std.specs.Prelude.{◌&&◌, nat_eq, if◌then◌else◌}
use Rattle.std.proofs.lemmas.Bool.{true≢false, eq-eqb, eqb-true, ne_eqb, and_parts, and_from, and_right}
use Rattle.std.proofs.lemmas.Option.{none-some, same_Some}
use Rattle.mesa_types.specs.Typed.{Point, Start, After, At, Leave}
use Rattle.mesa_types.specs.Sound.{Scope}
use Rattle.mesa_types.specs.Sound as sound
use Rattle.machine_rules.specs.State.{Target}
use Rattle.code_rules.specs.Points.{Points, Way, NoWay, OutOf, here_if, in_marked}
use Rattle.code_rules.specs.Reading.{Destination, Offset, Caller}
use Rattle.agreement_laws.specs.World.{World}
use Rattle.agreement_laws.specs.Standing.{bare, Numbered, frame_at, LiesIn}
use Rattle.agreement_laws.specs.Relation.{Ground, heres, top, own}
use Rattle.agreement_laws.specs.Chains.{Dictionary, Within, IsTarget, Targets, goal_of, Away, Leads, Finds, Fresh}
use Rattle.agreement_laws.specs.Contexts.{Site, Context, table}
use Rattle.agreement_laws.proofs.Chained.{asks_wider}
use Rattle.agreement_laws.proofs.Stacks.{here_top}

-- an offset of the topmost activation
abbrev pub here_to : Ground → (offset : ℕ) → Target
here_to G offset = record { place = top G; owner = own G; goal = Some offset }

abbrev pub mark_points : Dictionary → (f n : ℕ) → (start after : Target) → Dictionary
mark_points D f n start after g (Start k) = if nat_eq f g && nat_eq n k then Some start else D g (Start k)
mark_points D f n start after g (After k) = if nat_eq f g && nat_eq n k then Some after else D g (After k)
mark_points D f n start after g (At l) = D g (At l)
mark_points D f n start after g Leave = D g Leave

-- the site of a numbered statement whose code is from a to b
abbrev pub marked_site : Site → (n a b : ℕ) → Site
marked_site K n a b = record K {
  scope = sound.in_marked n K.scope;
  points = mark_points K.points K.meant.frame n (here_to K.ground a) (here_to K.ground b);
}

is_that : (f n : ℕ) → nat_eq f f && nat_eq n n ≡ true
is_that f n = and_from (nat_eq f f) (nat_eq n n) (eq-eqb f f refl) (eq-eqb n n refl)

-- it is the new point, or an old one
mark_or : (b : Bool) (x : Target) (o : Option Target) (t : Target) → (if b then Some x else o) ≡ Some t → ((b ≡ true) × (x ≡ t)) ⊎ (o ≡ Some t)
mark_or true x o t e = inl (refl, same_Some x t e)
mark_or false x o t e = inr e

kept_mark : (b : Bool) (x : Target) (o : Option Target) (t : Target) → (b ≡ true → o ≡ None) → o ≡ Some t → (if b then Some x else o) ≡ Some t
kept_mark true x o t none e = absurd (none-some t (sym (none refl) ∙ e))
kept_mark false x o t none e = e

marks_within : (D : Dictionary) (f n : ℕ) (start after : Target) (Γ : Scope) → Fresh D f Γ → Γ.statements ≤ n → Within D (mark_points D f n start after)
marks_within D f n start after Γ fresh le g (Start k) t e =
    kept_mark (nat_eq f g && nat_eq n k) start (D g (Start k)) t
    (λ b. let p = and_parts (nat_eq f g) (nat_eq n k) b in
    ap (λ x. D x (Start k)) (sym (eqb-true f g p.0)) ∙ ap (λ x. D f (Start x)) (sym (eqb-true n k p.1)) ∙ fresh.starts n le) e
marks_within D f n start after Γ fresh le g (After k) t e =
    kept_mark (nat_eq f g && nat_eq n k) after (D g (After k)) t
    (λ b. let p = and_parts (nat_eq f g) (nat_eq n k) b in
    ap (λ x. D x (After k)) (sym (eqb-true f g p.0)) ∙ ap (λ x. D f (After x)) (sym (eqb-true n k p.1)) ∙ fresh.afters n le) e
marks_within D f n start after Γ fresh le g (At l) t e = e
marks_within D f n start after Γ fresh le g Leave t e = e

none_later : (b : Bool) (x : Target) (o : Option Target) → b ≡ false → o ≡ None → (if b then Some x else o) ≡ None
none_later true x o e none = absurd (true≢false e)
none_later false x o e none = none

not_that : (f k n : ℕ) → n < k → nat_eq f f && nat_eq n k ≡ false
not_that f k n lt = and_right (nat_eq f f) (nat_eq n k) (ne_eqb n k (λ e. omega (arith, e, lt)))

marks_fresh : (D : Dictionary) (f n : ℕ) (start after : Target) (Γ : Scope) → Fresh D f Γ → Γ.statements ≤ n → Fresh (mark_points D f n start after) f (sound.in_marked n Γ)
unfolding sound.in_marked
marks_fresh D f n start after Γ fresh le = record {
  starts = λ k l. none_later (nat_eq f f && nat_eq n k) start (D f (Start k)) (not_that f k n (omega (arith, l))) (fresh.starts k (omega (arith, l, le)));
  afters = λ k l. none_later (nat_eq f f && nat_eq n k) after (D f (After k)) (not_that f k n (omega (arith, l))) (fresh.afters k (omega (arith, l, le)));
  labels = fresh.labels;
}

pub target_in : (W : World) (G : Ground) (f : ℕ) (k : Numbered) (offset : ℕ) → frame_at (heres G) (own G) ≡ Some k → k.number ≡ f → k.procedure ≡ G.here.procedure
    → LiesIn (table W G) G.here.part offset → IsTarget W (heres G) f (here_to G offset)
target_in W G f k offset e number procedure lies = record {
  frame = k;
  is_frame = e;
  number = number;
  aimed = G.here;
  is_there = here_top G.here (bare G.below);
  owned = refl;
  same_procedure = sym procedure;
  aims = lies;
}

marks_targets : (W : World) (G : Ground) (D : Dictionary) (f n a b : ℕ) → ((offset : ℕ) → (offset ≡ a) ⊎ (offset ≡ b) → IsTarget W (heres G) f (here_to G offset)) → Targets W (heres G) D
    → Targets W (heres G) (mark_points D f n (here_to G a) (here_to G b))
marks_targets W G D f n a b there targets g (Start k) t e =
    ⊎_elim
    (λ x. subst (λ (u : Target). IsTarget W (heres G) g u) x.1 (subst (λ h. IsTarget W (heres G) h (here_to G a)) (eqb-true f g (and_parts (nat_eq f g) (nat_eq n k) x.0).0) (there a (inl refl))))
    (λ x. targets g (Start k) t x)
    (mark_or (nat_eq f g && nat_eq n k) (here_to G a) (D g (Start k)) t e)
marks_targets W G D f n a b there targets g (After k) t e =
    ⊎_elim
    (λ x. subst (λ (u : Target). IsTarget W (heres G) g u) x.1 (subst (λ h. IsTarget W (heres G) h (here_to G b)) (eqb-true f g (and_parts (nat_eq f g) (nat_eq n k) x.0).0) (there b (inr refl))))
    (λ x. targets g (After k) t x)
    (mark_or (nat_eq f g && nat_eq n k) (here_to G b) (D g (After k)) t e)
marks_targets W G D f n a b there targets g (At l) t e = targets g (At l) t e
marks_targets W G D f n a b there targets g Leave t e = targets g Leave t e

-- what is found further out is found here
pub leads_within : (D E : Dictionary) (f own q : ℕ) (p : Point) (arms : ℕ) (to : Destination) → Within D E → Leads D f own q p arms to → Leads E f own q p arms to
leads_within D E f own q p arms to within h =
    record { target = h.target; found = within f p h.target h.found; owner = h.owner; goal = h.goal; away = h.away }

-- a point of this activation
lead_here : (G : Ground) (E : Dictionary) (f : ℕ) (p : Point) (offset arms : ℕ) (to : Destination) → E f p ≡ Some (here_to G offset)
    → ◌≡◌ {A = Way Destination} (OutOf 0 (Offset offset)) (OutOf arms to) → Leads E f (own G) (top G) p arms to
lead_here G E f p offset arms to found e =
    let z : 0 ≡ arms = ap (λ (w : Way Destination). elim w [ NoWay ↦ 0 | OutOf k d ↦ k ]) e in
    let d : Offset offset ≡ to = ap (λ (w : Way Destination). elim w [ NoWay ↦ Caller | OutOf k d ↦ d ]) e in
    record {
      target = here_to G offset;
      found = found;
      owner = refl;
      goal = ap goal_of d;
      away = subst (λ k. Away k (top G) (top G)) z refl;
    }

marks_finds : (W : World) (G : Ground) (D : Dictionary) (f n a b : ℕ) (points : Points Destination) → Within D (mark_points D f n (here_to G a) (here_to G b))
    → Finds D f (own G) (top G) points → Finds (mark_points D f n (here_to G a) (here_to G b)) f (own G) (top G) (in_marked n (Offset a) (Offset b) points)
marks_finds W G D f n a b points within finds (Start k) arms to e = by (nat_eq n k) refl e
  where
    by : (z : Bool) → nat_eq n k ≡ z → here_if z (Offset a) (points (Start k)) ≡ OutOf arms to → Leads (mark_points D f n (here_to G a) (here_to G b)) f (own G) (top G) (Start k) arms to
    by true z e = lead_here G (mark_points D f n (here_to G a) (here_to G b)) f (Start k) a arms to
        (ap (λ c. if c then Some (here_to G a) else D f (Start k)) (and_from (nat_eq f f) (nat_eq n k) (eq-eqb f f refl) z)) e
    by false z e = leads_within D (mark_points D f n (here_to G a) (here_to G b)) f (own G) (top G) (Start k) arms to within (finds (Start k) arms to e)
marks_finds W G D f n a b points within finds (After k) arms to e = by (nat_eq n k) refl e
  where
    by : (z : Bool) → nat_eq n k ≡ z → here_if z (Offset b) (points (After k)) ≡ OutOf arms to → Leads (mark_points D f n (here_to G a) (here_to G b)) f (own G) (top G) (After k) arms to
    by true z e = lead_here G (mark_points D f n (here_to G a) (here_to G b)) f (After k) b arms to
        (ap (λ c. if c then Some (here_to G b) else D f (After k)) (and_from (nat_eq f f) (nat_eq n k) (eq-eqb f f refl) z)) e
    by false z e = leads_within D (mark_points D f n (here_to G a) (here_to G b)) f (own G) (top G) (After k) arms to within (finds (After k) arms to e)
marks_finds W G D f n a b points within finds (At l) arms to e = leads_within D _ f (own G) (top G) (At l) arms to within (finds (At l) arms to e)
marks_finds W G D f n a b points within finds Leave arms to e = leads_within D _ f (own G) (top G) Leave arms to within (finds Leave arms to e)

-- in a numbered statement all is in order
pub context_marked : (W : World) (K : Site) (points : Points Destination) (around : List ℕ) (from to n a b : ℕ) → K.scope.statements ≤ n
    → LiesIn (table W K.ground) K.ground.here.part a → LiesIn (table W K.ground) K.ground.here.part b → Context W K points around from to
    → Context W (marked_site K n a b) (in_marked n (Offset a) (Offset b) points) around from to
unfolding sound.in_marked
context_marked W K points around from to n a b le first last h =
    let f = K.meant.frame in
    let k : Numbered = record { number = f; procedure = K.ground.here.procedure } in
    let E = mark_points K.points f n (here_to K.ground a) (here_to K.ground b) in
    let within = marks_within K.points f n (here_to K.ground a) (here_to K.ground b) K.scope h.fresh le in
    record {
      code_of = h.code_of;
      scope_in = record {
        globals = h.scope_in.globals;
        locals = h.scope_in.locals;
        takes = h.scope_in.takes;
        gives = h.scope_in.gives;
        procedures = h.scope_in.procedures;
        signals = h.scope_in.signals;
        imports = h.scope_in.imports;
        strings = h.scope_in.strings;
      };
      instance = h.instance;
      is_frame = h.is_frame;
      nested = h.nested;
      fresh = marks_fresh K.points f n (here_to K.ground a) (here_to K.ground b) K.scope h.fresh le;
      targets = marks_targets W K.ground K.points f n a b (λ o d. ⊎_elim
          (λ e. target_in W K.ground f k o h.is_frame refl refl (subst (λ x. LiesIn (table W K.ground) K.ground.here.part x) (sym e) first))
          (λ e. target_in W K.ground f k o h.is_frame refl refl (subst (λ x. LiesIn (table W K.ground) K.ground.here.part x) (sym e) last)) d) h.targets;
      finds = marks_finds W K.ground K.points f n a b points within h.finds;
      chain = asks_wider W K.ground.here K.ground.below K.ground.hold K.points E K.floor K.floor (top K.ground) _ K.meant.chain within (λ g. le_refl (K.floor g)) h.chain;
      room = h.room;
      holds = h.holds;
    }
