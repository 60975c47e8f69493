-- Labels: a jump to one of them comes to its statement; jumps to others go further out.
use Rattle.std.proofs.Common.{◌≡◌, ℕ, suc, ◌+◌, List, [], ◌∷◌, get_or, Bool, true, false, Option, Some, None, refl, sym, ap, ◌∙◌, subst, arith}
use Rattle.std.specs.Prelude.{◌||◌, nat_eq, if◌then◌else◌}
use Rattle.std.proofs.lemmas.Bool.{true≢false, false≢true, eqb-true}
use Rattle.std.proofs.lemmas.Option.{none-some, same_Some}
use Rattle.mesa_types.specs.declared.typed_parts.Label.{Label}
use Rattle.mesa_types.specs.declared.typed_parts.Label.TheVariants.{OnAny, OnUnwind, OnOwn, OnLinked, OnBounds, OnZero}
use Rattle.mesa_types.specs.Typed.{Kinds, Point, Start, After, At, Leave, Stmt, Exits, NoExits, AndExit}
use Rattle.mesa_types.specs.Counts.{hidden, hidden_exits}
use Rattle.mesa_types.specs.Sound as sound
use Rattle.mesa_types.specs.Sound.{ExitsIn}
use Rattle.source_meaning.specs.State.{State, Answer, Normal, Gives, Go, Resumed, Rejected, Retried, Continued, Uncaught, Spent, FrameLimit, Broken, Run, give, branch, labelled_of}
use Rattle.source_meaning.specs.Meaning.{does, exits, has_label}
use Rattle.machine_rules.specs.State.{Target, Store, Stepped}
use Rattle.code_rules.specs.CodeFor as row
use Rattle.code_rules.specs.CodeFor.{ExitsCode, label_at}
use Rattle.code_rules.specs.Points.{is_among}
use Rattle.code_rules.specs.Reading.{Destination, Offset, Caller, Place, beyond}
use Rattle.code_rules.proofs.Whole.{stmt_run, exits_run}
use Rattle.agreement_laws.specs.World.{World}
use Rattle.agreement_laws.specs.Standing.{Frames}
use Rattle.agreement_laws.specs.Relation.{Ground, Agrees, standing}
use Rattle.agreement_laws.specs.Chains.{Dictionary}
use Rattle.agreement_laws.specs.Contexts.{Site, InPlace, Inside}
use Rattle.agreement_laws.specs.Answers.{Jumps, Done}
use Rattle.agreement_laws.specs.Promises.{next, here, Now, Follows}
use Rattle.agreement_laws.proofs.Arriving.{comes_there}
use Rattle.agreement_laws.proofs.Doing.{Did, did_later, onward_done}
use Rattle.agreement_laws.proofs.Labels.{or_else, target_to, label_points, found_label, labelled_site}
use Rattle.agreement_laws.proofs.Marks.{here_to}
use Rattle.agreement_laws.proofs.Moving.{place_part, place_first, run_order, onward_run, inside_part}

-- What a label's statement is.

same_labels : (l : ℕ) (ls : List ℕ) → has_label l ls ≡ is_among l ls
unfolding has_label
same_labels l [] = refl
same_labels l (x ∷ xs) = ap (λ b. nat_eq l x || b) (same_labels l xs)

abbrev pub ExitsFollow : World → ℕ → Exits → Type 0
ExitsFollow W n es = (K : Site) (w : Place) (offsets : List ℕ) (end a b l x : ℕ) (μ : Frames) (m : Store) (σ : State)
    → ExitsCode K.code w es offsets end a b → ExitsIn K.scope es → label_at es offsets l ≡ Some (Offset x) → InPlace W K w (hidden_exits es) → Inside W K.ground a b
    → Now W (suc n) K μ m σ
    → Done W (suc n) K w.around end (here K x [] μ m) (exits W.program (next W n) es K.meant l σ).answer (exits W.program (next W n) es K.meant l σ).state

-- a label that is none of them
pub no_label : (W : World) (n : ℕ) (K : Site) {w : Place} {es : Exits} {offsets : List ℕ} {end a b : ℕ} → ExitsCode K.code w es offsets end a b → (l : ℕ) (σ : State)
    → label_at es offsets l ≡ None → exits W.program (next W n) es K.meant l σ ≡ give (Go K.meant.frame (At l)) σ
unfolding exits branch
no_label W n K row.no_exits l σ e = refl
no_label W n K (row.and_exit {labels = ls} {s = s} {es = es} {offsets = offsets} {a = a} c d code onward more) l σ e =
    ap (λ z. branch z (does W.program (next W n) s K.meant) (exits W.program (next W n) es K.meant l) σ) (same_labels l ls)
    ∙ by (is_among l ls) e (λ d. no_label W n K more l σ d)
  where
    by : (z : Bool) → (if z then Some (Offset a) else label_at es offsets l) ≡ None
        → (label_at es offsets l ≡ None → exits W.program (next W n) es K.meant l σ ≡ give (Go K.meant.frame (At l)) σ)
        → branch z (does W.program (next W n) s K.meant) (exits W.program (next W n) es K.meant l) σ ≡ give (Go K.meant.frame (At l)) σ
    by true d others = absurd (none-some (Offset a) (sym d))
    by false d others = others d

module _ (W : World) (n : ℕ) where
  pub no_exits_follow : ExitsFollow W n NoExits
  no_exits_follow K w offsets end a b l x μ m σ row.no_exits sound e place inside now = absurd (none-some (Offset x) e)

  pub exits_follow : (ls : List ℕ) (s : Stmt) (es : Exits) → Follows W n s → ExitsFollow W n es → ExitsFollow W n (AndExit ls s es)
  unfolding exits hidden_exits ExitsIn branch
  exits_follow ls s es follows others K w offsets end a b l x μ m σ (row.and_exit {offsets = more} c d code onward rest) sound e place inside now =
      let P = W.program in
      let low = run_order (stmt_run code) in let mid = run_order (onward_run onward) in let last = run_order (exits_run rest) in
      let size = hidden s + hidden_exits es in
      subst (λ z. Did W (suc n) K w.around end (standing K.ground x [] μ m) (branch z (does P (next W n) s K.meant) (exits P (next W n) es K.meant l) σ)) (sym (same_labels l ls))
      (by (is_among l ls) e
      (λ q. subst (λ o. Did W (suc n) K w.around end (standing K.ground o [] μ m) (does P (next W n) s K.meant σ)) q
      (onward_done W (suc n) K w (w.slot + size) place w end c d (standing K.ground a [] μ m) (does P (next W n) s K.meant σ) onward
      (follows K w a c μ m σ code sound.1 (place_first W K w size (hidden s) (omega arith) place) (inside_part W K.ground a b a c (omega arith) (omega (arith, mid, last)) inside) now)))
      (λ q. others K (beyond (hidden s) w) more end d b l x μ m σ rest sound.2 q (place_part W K w size (hidden s) (hidden_exits es) (omega arith) place)
      (inside_part W K.ground a b d b (omega (arith, low, mid)) (omega arith) inside) now))
    where
      by : (z : Bool) → (if z then Some (Offset a) else label_at es more l) ≡ Some (Offset x)
          → (a ≡ x → Did W (suc n) K w.around end (standing K.ground x [] μ m) (does W.program (next W n) s K.meant σ))
          → (label_at es more l ≡ Some (Offset x) → Did W (suc n) K w.around end (standing K.ground x [] μ m) (exits W.program (next W n) es K.meant l σ))
          → Did W (suc n) K w.around end (standing K.ground x [] μ m) (branch z (does W.program (next W n) s K.meant) (exits W.program (next W n) es K.meant l) σ)
      by true q here there = here (ap (λ o. elim o [ Offset y ↦ y | Caller ↦ 0 ]) (same_Some (Offset a) (Offset x) q))
      by false q here there = there q

-- Where labels are visible.

abbrev jumps_found : (W : World) (bound : ℕ) (G : Ground) (D E : Dictionary) (around : List ℕ) (s : Stepped) (f : ℕ) (p : Point) (σ : State)
    → ((t : Target) → E f p ≡ Some t → D f p ≡ Some t) → Jumps W bound G E around s f p σ → Jumps W bound G D around s f p σ
jumps_found W bound G D E around s f p σ old h = record {
  target = h.target;
  found = old h.target h.found;
  frames = h.frames;
  store = h.store;
  agrees = h.agrees;
  on_way = h.on_way;
  is_on_way = h.is_on_way;
  reaches = h.reaches;
}

module _ (W : World) (bound : ℕ) (K : Site) (around : List ℕ) (past : ℕ) (es : Exits) (offsets : List ℕ) where
  abbrev f : ℕ
  f = K.meant.frame

  abbrev E : Dictionary
  E = label_points K.points f (found_label K.ground es offsets)

  -- what a label gives is said of the module alone
  label_gives : (js : Kinds) (l : Label) → sound.LabelGives (sound.in_labelled past es K.scope) js l → sound.LabelGives K.scope js l
  unfolding sound.in_labelled sound.LabelGives sound.UsedItem
  label_gives js OnAny h = h
  label_gives js OnUnwind h = h
  label_gives js (OnOwn n) h = h
  label_gives js (OnLinked i n) h = h
  label_gives js OnBounds h = h
  label_gives js OnZero h = h

  points_by : (z : Bool) (o : Option Destination) (old : Option Target) (t : Target) → z ≡ false
      → (if z then or_else (target_to K.ground o) old else old) ≡ Some t → old ≡ Some t
  points_by true o old t e d = absurd (true≢false e)
  points_by false o old t e d = d

  none_by : (z : Bool) (o : Option Destination) (old : Option Target) (t : Target) → o ≡ None
      → (if z then or_else (target_to K.ground o) old else old) ≡ Some t → old ≡ Some t
  none_by true o old t e d = sym (ap (λ x. or_else (target_to K.ground x) old) e) ∙ d
  none_by false o old t e d = d

  some_by : (z : Bool) (o : Option Destination) (old : Option Target) (t : Target) (x : ℕ) → z ≡ true → o ≡ Some (Offset x)
      → (if z then or_else (target_to K.ground o) old else old) ≡ Some t → t ≡ here_to K.ground x
  some_by true o old t x e is d = sym (same_Some (here_to K.ground x) t (sym (ap (λ x. or_else (target_to K.ground x) old) is) ∙ d))
  some_by false o old t x e is d = absurd (false≢true e)

  module _ (b : ℕ) (k : ℕ → Run) (s : Stepped) (σ : State)
      (all : (l : ℕ) (to : Destination) → label_at es offsets l ≡ Some to → (x : ℕ) × (to ≡ Offset x))
      (follow : (l x : ℕ) (μ : Frames) (m : Store) → label_at es offsets l ≡ Some (Offset x) → Agrees W bound K.ground μ m σ → Did W bound K around b (standing K.ground x [] μ m) (k l σ))
      (none : (l : ℕ) → label_at es offsets l ≡ None → k l σ ≡ give (Go f (At l)) σ) where
    here_label : (l g : ℕ) (o : Option Destination) → label_at es offsets l ≡ o → nat_eq f g ≡ true → Jumps W bound K.ground E around s g (At l) σ
        → (f ≡ g) → Did W bound K around b s (k l σ)
    unfolding give
    here_label l g None e z h same =
        subst (λ r. Did W bound K around b s r) (sym (none l e)) (
          tt,
          subst (λ q. Jumps W bound K.ground K.points around s q (At l) σ) (sym same)
              (jumps_found W bound K.ground K.points E around s g (At l) σ (λ t d. none_by (nat_eq f g) (label_at es offsets l) (K.points g (At l)) t e d) h),
        )
    here_label l g (Some to) e z h same =
        let x = all l to e in
        let is = e ∙ ap Some x.1 in
        let c = comes_there W bound K.ground E around s g (At l) σ x.0 h (some_by (nat_eq f g) (label_at es offsets l) (K.points g (At l)) h.target x.0 z is h.found) in
        did_later W bound K around b s (standing K.ground x.0 [] c.frames c.store) (k l σ) c.reaches (follow l x.0 c.frames c.store is c.agrees)

    at_label : (z : Bool) (l g : ℕ) → nat_eq f g ≡ z → (z ≡ true → f ≡ g) → Jumps W bound K.ground E around s g (At l) σ
        → Did W bound K around b s (branch z (k l) (give (Go g (At l))) σ)
    unfolding branch give
    at_label true l g e same h = here_label l g (label_at es offsets l) refl e h (same refl)
    at_label false l g e same h =
        (tt, jumps_found W bound K.ground K.points E around s g (At l) σ (λ t d. points_by (nat_eq f g) (label_at es offsets l) (K.points g (At l)) t e d) h)

    -- what is done where the labels are visible
    pub labelled_row : (a : Answer) → Done W bound (labelled_site K past es offsets) around b s a σ → Did W bound K around b s (labelled_of f k a σ)
    unfolding labelled_of give sound.in_labelled
    labelled_row Normal h = h
    labelled_row (Gives vs) h = h
    labelled_row (Go g (Start j)) h = (h.0, jumps_found W bound K.ground K.points E around s g (Start j) σ (λ t e. e) h.1)
    labelled_row (Go g (After j)) h = (h.0, jumps_found W bound K.ground K.points E around s g (After j) σ (λ t e. e) h.1)
    labelled_row (Go g (At l)) h = at_label (nat_eq f g) l g refl (λ e. eqb-true f g e) h.1
    labelled_row (Go g Leave) h = (h.0, jumps_found W bound K.ground K.points E around s g Leave σ (λ t e. e) h.1)
    labelled_row (Resumed vs) h = record {
      kinds = h.kinds;
      labels = λ i d lt. label_gives h.kinds (get_or K.scope.arm i d) (h.labels i d lt);
      in_arm = h.in_arm;
      offset = h.offset;
      is_there = h.is_there;
      words = h.words;
      shown = h.shown;
      comes = h.comes;
    }
    labelled_row Rejected h = record { in_arm = h.in_arm; offset = h.offset; is_there = h.is_there; comes = h.comes }
    labelled_row (Retried j) h = record { in_arm = h.in_arm; jumps = jumps_found W bound K.ground K.points E around s f (Start j) σ (λ t e. e) h.jumps; below = h.below }
    labelled_row (Continued j) h = record { in_arm = h.in_arm; jumps = jumps_found W bound K.ground K.points E around s f (After j) σ (λ t e. e) h.jumps; below = h.below }
    labelled_row (Uncaught signal) h = h
    labelled_row Spent h = h
    labelled_row FrameLimit h = h
    labelled_row Broken h = h

  module _ (b : ℕ) (k : ℕ → Run) (s : Stepped) (σ : State) (none : (l : ℕ) → label_at es offsets l ≡ None → k l σ ≡ give (Go f (At l)) σ) where
    out_label : (l : ℕ) (o : Option Destination) → label_at es offsets l ≡ o → ((to : Destination) → label_at es offsets l ≡ Some to → K.points f (At l) ≡ None)
        → Jumps W bound K.ground K.points around s f (At l) σ → Did W bound K around b s (k l σ)
    unfolding give
    out_label l None e fresh h = subst (λ r. Did W bound K around b s r) (sym (none l e)) (tt, h)
    out_label l (Some to) e fresh h = absurd (none-some h.target (sym (fresh to e) ∙ h.found))

    past_label : (z : Bool) (l g : ℕ) → (z ≡ true → f ≡ g) → ((to : Destination) → label_at es offsets l ≡ Some to → K.points f (At l) ≡ None)
        → Jumps W bound K.ground K.points around s g (At l) σ → Did W bound K around b s (branch z (k l) (give (Go g (At l))) σ)
    unfolding branch give
    past_label true l g same fresh h =
        out_label l (label_at es offsets l) refl fresh (subst (λ q. Jumps W bound K.ground K.points around s q (At l) σ) (sym (same refl)) h)
    past_label false l g same fresh h = (tt, h)

    -- what is done where they are not: no jump of it is to one of them
    pub unlabelled_row : ((l : ℕ) (to : Destination) → label_at es offsets l ≡ Some to → K.points f (At l) ≡ None) → (a : Answer) → Done W bound K around b s a σ
        → Did W bound K around b s (labelled_of f k a σ)
    unfolding labelled_of give
    unlabelled_row fresh Normal h = h
    unlabelled_row fresh (Gives vs) h = h
    unlabelled_row fresh (Go g (Start j)) h = h
    unlabelled_row fresh (Go g (After j)) h = h
    unlabelled_row fresh (Go g (At l)) h = past_label (nat_eq f g) l g (λ e. eqb-true f g e) (fresh l) h.1
    unlabelled_row fresh (Go g Leave) h = h
    unlabelled_row fresh (Resumed vs) h = h
    unlabelled_row fresh Rejected h = h
    unlabelled_row fresh (Retried j) h = h
    unlabelled_row fresh (Continued j) h = h
    unlabelled_row fresh (Uncaught signal) h = h
    unlabelled_row fresh Spent h = h
    unlabelled_row fresh FrameLimit h = h
    unlabelled_row fresh Broken h = h
