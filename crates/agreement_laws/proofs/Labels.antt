-- Where labels are visible: a point more for each, the statement of the label.
use Rattle.std.proofs.Common.{◌≡◌, ⊎_elim, inl, inr, ℕ, suc, ◌<◌, ◌≤◌, ◌⊎◌, List, [], ◌∷◌, ◌++◌, Bool, true, false, Option, Some, None, refl, sym, ap, ◌∙◌, subst, le_refl, arith}
use Rattle.std.specs.Prelude.{All, nat_eq, if◌then◌else◌}
use Rattle.std.proofs.lemmas.Bool.{false≢true, eq-eqb, eqb-true, or_cases}
use Rattle.std.proofs.lemmas.Option.{none-some, same_Some}
use Rattle.mesa_types.specs.Typed.{Start, After, At, Leave, Exits, NoExits, AndExit}
use Rattle.mesa_types.specs.Sound.{LabelsIn, labels_in}
use Rattle.mesa_types.specs.Sound as sound
use Rattle.machine_rules.specs.State.{Target}
use Rattle.code_rules.specs.CodeFor.{ExitsCode, no_exits, and_exit, label_at}
use Rattle.code_rules.specs.Points.{Points, Way, NoWay, OutOf, here_or, in_labelled, is_among}
use Rattle.code_rules.specs.Reading.{Coded, Destination, Offset, Caller, Place}
use Rattle.code_rules.proofs.Whole.{stmt_run, exits_run}
use Rattle.agreement_laws.specs.World.{World}
use Rattle.agreement_laws.specs.Standing.{Numbered, frame_at, LiesIn}
use Rattle.agreement_laws.specs.Relation.{Ground, heres, top, own}
use Rattle.agreement_laws.specs.Chains.{Dictionary, Within, IsTarget, Targets, goal_of, Away, Leads, Finds, Fresh}
use Rattle.agreement_laws.specs.Contexts.{Site, Context, table}
use Rattle.agreement_laws.proofs.Marks.{here_to, target_in, leads_within}
use Rattle.agreement_laws.proofs.Moving.{run_order, onward_run}
use Rattle.agreement_laws.proofs.Chained.{asks_wider}

abbrev pub or_else : Option Target → Option Target → Option Target
or_else None o = o
or_else (Some t) o = Some t

abbrev pub target_to : Ground → Option Destination → Option Target
target_to G None = None
target_to G (Some to) = Some (record { place = top G; owner = own G; goal = goal_of to })

abbrev pub label_points : Dictionary → (f : ℕ) → (find : ℕ → Option Target) → Dictionary
label_points D f find g (Start k) = D g (Start k)
label_points D f find g (After k) = D g (After k)
label_points D f find g (At l) = if nat_eq f g then or_else (find l) (D g (At l)) else D g (At l)
label_points D f find g Leave = D g Leave

abbrev pub found_label : Ground → Exits → (offsets : List ℕ) → ℕ → Option Target
found_label G es offsets l = target_to G (label_at es offsets l)

-- the site where the labels are visible, whose numbers are below `past`
abbrev pub labelled_site : Site → (past : ℕ) → Exits → (offsets : List ℕ) → Site
labelled_site K past es offsets = record K {
  scope = sound.in_labelled past es K.scope;
  points = label_points K.points K.meant.frame (found_label K.ground es offsets);
}

-- The numbers of labels.

after_all : (P : ℕ → Type 0) (xs ys : List ℕ) → All P (xs ++ ys) → All P ys
after_all P [] ys h = h
after_all P (x ∷ xs) ys h = after_all P xs ys (λ i d lt. h (suc i) d (omega (arith, lt)))

among_all : (P : ℕ → Type 0) (l : ℕ) (xs ys : List ℕ) → is_among l xs ≡ true → All P (xs ++ ys) → P l
among_all P l [] ys e h = absurd (false≢true e)
among_all P l (x ∷ xs) ys e h =
    ⊎_elim
    (λ a. subst P (sym (eqb-true l x a)) (h 0 x (omega arith)))
    (λ a. among_all P l xs ys a (λ i d lt. h (suc i) d (omega (arith, lt))))
    (or_cases (nat_eq l x) (is_among l xs) e)

label_by : (b : Bool) (P : Type 0) (offset : ℕ) (o : Option Destination) (to : Destination) → (if b then Some (Offset offset) else o) ≡ Some to → (b ≡ true → P) → (o ≡ Some to → P) → P
label_by true P offset o to e here there = here refl
label_by false P offset o to e here there = there e

-- a label that is found is among them
pub label_among : (P : ℕ → Type 0) (es : Exits) (offsets : List ℕ) (l : ℕ) (to : Destination) → All P (labels_in es) → label_at es offsets l ≡ Some to → P l
unfolding labels_in
label_among P NoExits offsets l to h e = absurd (none-some to e)
label_among P (AndExit ls s es) [] l to h e = absurd (none-some to e)
label_among P (AndExit ls s es) (offset ∷ offsets) l to h e =
    label_by (is_among l ls) (P l) offset (label_at es offsets l) to e
    (λ a. among_all P l ls (labels_in es) a h)
    (λ d. label_among P es offsets l to (after_all P ls (labels_in es) h) d)

-- the statements of labels begin at offsets of their code
pub record LabelThere (a b : ℕ) (to : Destination) : Type 0 where
  pub offset : ℕ
  pub is : to ≡ Offset offset
  pub low : a ≤ offset
  pub high : offset ≤ b

pub label_there : {P : Coded} {w : Place} {es : Exits} {offsets : List ℕ} {end a b : ℕ} → ExitsCode P w es offsets end a b → (l : ℕ) (to : Destination)
    → label_at es offsets l ≡ Some to → LabelThere a b to
label_there no_exits l to e = absurd (none-some to e)
label_there {a = a} {b = b} (and_exit {labels = ls} {es = es} {offsets = offsets} c d s on more) l to e =
    let low = run_order (stmt_run s) in let mid = run_order (onward_run on) in let high = run_order (exits_run more) in
    label_by (is_among l ls) (LabelThere a b to) a (label_at es offsets l) to e
    (λ t. record { offset = a; is = sym (same_to (is_among l ls) a (label_at es offsets l) to t e); low = omega arith; high = omega (arith, low, mid, high) })
    (λ x. let r = label_there more l to x in let y = r.low in let z = r.high in
    record { offset = r.offset; is = r.is; low = omega (arith, low, mid, y); high = omega (arith, z) })
  where
    same_to : (t : Bool) (a : ℕ) (o : Option Destination) (to : Destination) → t ≡ true → (if t then Some (Offset a) else o) ≡ Some to → Offset a ≡ to
    same_to true a o to t e = same_Some (Offset a) to e
    same_to false a o to t e = absurd (false≢true t)

-- The dictionary.

label_or : (b : Bool) (x o : Option Target) (t : Target) → (if b then or_else x o else o) ≡ Some t → ((b ≡ true) × (x ≡ Some t)) ⊎ (o ≡ Some t)
label_or true None o t e = inr e
label_or true (Some x) o t e = inl (refl, e)
label_or false x o t e = inr e

kept_label : (b : Bool) (x o : Option Target) (t : Target) → (b ≡ true → (u : Target) → x ≡ Some u → o ≡ None) → o ≡ Some t → (if b then or_else x o else o) ≡ Some t
kept_label true None o t none e = e
kept_label true (Some x) o t none e = absurd (none-some t (sym (none refl x refl) ∙ e))
kept_label false x o t none e = e

-- what is found here leads to a label
found_is : (G : Ground) (o : Option Destination) (t : Target) → target_to G o ≡ Some t → (to : Destination) × (o ≡ Some to) × (t ≡ record { place = top G; owner = own G; goal = goal_of to })
found_is G None t e = absurd (none-some t e)
found_is G (Some to) t e = (to, refl, sym (same_Some (record { place = top G; owner = own G; goal = goal_of to }) t e))

not_found : (G : Ground) (o : Option Destination) → ((to : Destination) → o ≡ Some to → ⊥) → target_to G o ≡ None
not_found G None h = refl
not_found G (Some to) h = absurd (h to refl)

module _ (W : World) (K : Site) (past : ℕ) (es : Exits) (offsets : List ℕ) (labels : LabelsIn K.scope past es) where
  abbrev f : ℕ
  f = K.meant.frame

  abbrev E : Dictionary
  E = label_points K.points f (found_label K.ground es offsets)

  within : Fresh K.points f K.scope → Within K.points E
  unfolding LabelsIn
  within fresh g (Start k) t e = e
  within fresh g (After k) t e = e
  within fresh g (At l) t e = kept_label (nat_eq f g) (found_label K.ground es offsets l) (K.points g (At l)) t (λ b u x.
      let z = found_is K.ground (label_at es offsets l) u x in
      let y = label_among (λ l. (K.scope.labels ≤ l) × (l < past)) es offsets l z.0 labels.1 z.1 in
      ap (λ h. K.points h (At l)) (sym (eqb-true f g b)) ∙ fresh.labels l y.0) e
  within fresh g Leave t e = e

  is_fresh : Fresh K.points f K.scope → Fresh E f (sound.in_labelled past es K.scope)
  unfolding LabelsIn sound.in_labelled
  is_fresh fresh = record {
    starts = fresh.starts;
    afters = fresh.afters;
    labels = λ l le.
        none_by (nat_eq f f) (found_label K.ground es offsets l) (K.points f (At l))
        (not_found K.ground (label_at es offsets l) (λ to e.
        let y = label_among (λ l. (K.scope.labels ≤ l) × (l < past)) es offsets l to labels.1 e in let lt = y.1 in omega (arith, lt, le)))
        (fresh.labels l (let low = labels.0 in omega (arith, low, le)));
  }
    where
      none_by : (b : Bool) (x o : Option Target) → x ≡ None → o ≡ None → (if b then or_else x o else o) ≡ None
      none_by true None o e d = d
      none_by true (Some x) o e d = absurd (none-some x (sym e))
      none_by false x o e d = d

  are_targets : (k : Numbered) → frame_at (heres K.ground) (own K.ground) ≡ Some k → k.number ≡ f → k.procedure ≡ K.ground.here.procedure
      → ((l : ℕ) (to : Destination) → label_at es offsets l ≡ Some to → (offset : ℕ) × (to ≡ Offset offset) × LiesIn (table W K.ground) K.ground.here.part offset)
      → Targets W (heres K.ground) K.points → Targets W (heres K.ground) E
  are_targets k is number procedure there targets g (Start n) t e = targets g (Start n) t e
  are_targets k is number procedure there targets g (After n) t e = targets g (After n) t e
  are_targets k is number procedure there targets g Leave t e = targets g Leave t e
  are_targets k is number procedure there targets g (At l) t e =
      ⊎_elim
      (λ x.
      let z = found_is K.ground (label_at es offsets l) t x.1 in
      let y = there l z.0 z.1 in
      let same : here_to K.ground y.0 ≡ t = ap (λ (to : Destination). record { place = top K.ground; owner = own K.ground; goal = goal_of to }) (sym y.1) ∙ sym z.2 in
      subst (λ (u : Target). IsTarget W (heres K.ground) g u) same
      (subst (λ h. IsTarget W (heres K.ground) h (here_to K.ground y.0)) (eqb-true f g x.0) (target_in W K.ground f k y.0 is number procedure y.2)))
      (λ x. targets g (At l) t x)
      (label_or (nat_eq f g) (found_label K.ground es offsets l) (K.points g (At l)) t e)

  -- a label here, or one further out
  leads_label : (l : ℕ) (o : Option Destination) (outer : Way Destination) (arms : ℕ) (to : Destination) → label_at es offsets l ≡ o → here_or o outer ≡ OutOf arms to
      → (outer ≡ OutOf arms to → Leads E f (own K.ground) (top K.ground) (At l) arms to) → Leads E f (own K.ground) (top K.ground) (At l) arms to
  leads_label l None outer arms to is e h = h e
  leads_label l (Some d) outer arms to is e h =
      let z : 0 ≡ arms = ap (λ (w : Way Destination). elim w [ NoWay ↦ 0 | OutOf k d ↦ k ]) e in
      let y : d ≡ to = ap (λ (w : Way Destination). elim w [ NoWay ↦ Caller | OutOf k d ↦ d ]) e in
      record {
        target = record { place = top K.ground; owner = own K.ground; goal = goal_of d };
        found =
            ap (λ b. if b then or_else (found_label K.ground es offsets l) (K.points f (At l)) else K.points f (At l)) (eq-eqb f f refl)
            ∙ ap (λ o. or_else (target_to K.ground o) (K.points f (At l))) is;
        owner = refl;
        goal = ap goal_of y;
        away = subst (λ k. Away k (top K.ground) (top K.ground)) z refl;
      }

  finds : (points : Points Destination) → Within K.points E → Finds K.points f (own K.ground) (top K.ground) points
      → Finds E f (own K.ground) (top K.ground) (in_labelled (label_at es offsets) points)
  finds points in_it found (Start k) arms to e = leads_within K.points E f (own K.ground) (top K.ground) (Start k) arms to in_it (found (Start k) arms to e)
  finds points in_it found (After k) arms to e = leads_within K.points E f (own K.ground) (top K.ground) (After k) arms to in_it (found (After k) arms to e)
  finds points in_it found Leave arms to e = leads_within K.points E f (own K.ground) (top K.ground) Leave arms to in_it (found Leave arms to e)
  finds points in_it found (At l) arms to e =
      leads_label l (label_at es offsets l) (points (At l)) arms to refl e (λ x. leads_within K.points E f (own K.ground) (top K.ground) (At l) arms to in_it (found (At l) arms to x))

  -- where labels are visible all is in order
  pub context_labelled : (points : Points Destination) (around : List ℕ) (from to : ℕ)
      → ((l : ℕ) (to : Destination) → label_at es offsets l ≡ Some to → (offset : ℕ) × (to ≡ Offset offset) × LiesIn (table W K.ground) K.ground.here.part offset)
      → Context W K points around from to → Context W (labelled_site K past es offsets) (in_labelled (label_at es offsets) points) around from to
  unfolding sound.in_labelled
  context_labelled points around from to there h =
      let inside = within h.fresh in
      record {
        code_of = h.code_of;
        scope_in = record {
          globals = h.scope_in.globals;
          locals = h.scope_in.locals;
          takes = h.scope_in.takes;
          gives = h.scope_in.gives;
          procedures = h.scope_in.procedures;
          signals = h.scope_in.signals;
          imports = h.scope_in.imports;
          strings = h.scope_in.strings;
        };
        instance = h.instance;
        is_frame = h.is_frame;
        nested = h.nested;
        fresh = is_fresh h.fresh;
        targets = are_targets (record { number = f; procedure = K.ground.here.procedure }) h.is_frame refl refl there h.targets;
        finds = finds points inside h.finds;
        chain = asks_wider W K.ground.here K.ground.below K.ground.hold K.points E K.floor K.floor (top K.ground) _ K.meant.chain inside (λ g. le_refl (K.floor g)) h.chain;
        room = h.room;
        holds = h.holds;
      }
