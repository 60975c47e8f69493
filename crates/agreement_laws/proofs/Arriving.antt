-- A jump arrives at its target's activation, and goes on there. A numbered statement is run again, or ended, by jumps to its points.
use Rattle.std.proofs.Common.{◌≡◌, ℕ, suc, ◌<◌, List, [], ◌∷◌, length, get_or, Bool, true, false, Option, Some, refl, sym, ap, ◌∙◌, arith}
use Rattle.std.specs.Prelude.{◌&&◌, nat_eq, if◌then◌else◌}
use Rattle.std.proofs.lemmas.Bool.{true≢false, false≢true, eq-eqb}
use Rattle.std.proofs.lemmas.Option.{same_Some}
use Rattle.mesa_types.specs.declared.typed_parts.Label.{Label}
use Rattle.mesa_types.specs.declared.typed_parts.Label.TheVariants.{OnAny, OnUnwind, OnOwn, OnLinked, OnBounds, OnZero}
use Rattle.mesa_types.specs.Typed.{Kinds, Point, Start, After, At, Leave}
use Rattle.mesa_types.specs.Sound as sound
use Rattle.source_meaning.specs.State.{State, Answer, Normal, Gives, Go, Resumed, Rejected, Retried, Continued, Uncaught, Spent, FrameLimit, Broken, Run, give, branch, marked_of}
use Rattle.machine_rules.specs.State.{Target, Store, Leaves, Stepped}
use Rattle.machine_rules.specs.Words.{push}
use Rattle.machine_rules.specs.Moves.{go_to}
use Rattle.machine_rules.specs.Leaving.{arrived, leave_step}
use Rattle.machine_rules.specs.Steps.{step}
use Rattle.agreement_rules.specs.Reaches.{Reaches}
use Rattle.agreement_rules.proofs.Lifted.{reaches_on}
use Rattle.agreement_laws.specs.World.{World}
use Rattle.agreement_laws.specs.Standing.{Frames, at, filled, fill}
use Rattle.agreement_laws.specs.Relation.{Ground, heres, top, Agrees, standing}
use Rattle.agreement_laws.specs.Chains.{Dictionary}
use Rattle.agreement_laws.specs.Contexts.{Site}
use Rattle.agreement_laws.specs.Answers.{Comes, OnItsWay, has_arrived, passes, Jumps, HasSpent, GoesBack, Done}
use Rattle.agreement_laws.proofs.Going.{reaches_step, reaches_same, done_later}
use Rattle.agreement_laws.proofs.Keeping.{agreed_bound}
use Rattle.agreement_laws.proofs.Marks.{here_to, mark_points, marked_site}
use Rattle.agreement_laws.proofs.Stacks.{fill_long}

-- the topmost activation goes on at the offset, without operands
pub arrives : (W : World) (G : Ground) (around : List ℕ) (t : Target) (μ : Frames) (m : Store) (offset : ℕ) (u : Stepped) → OnItsWay W G around t μ m u → t.place ≡ top G
    → t.goal ≡ Some offset → Reaches W.image u (standing G offset [] μ m)
unfolding arrived go_to step leave_step
arrives W G around t μ m offset u (has_arrived o operands e) place goal =
    reaches_same W.image (arrived W.image t.goal (filled μ (at G.here o operands)) (fill μ G.below) m) (standing G offset [] μ m)
    (ap (λ g. arrived W.image g (filled μ (at G.here o operands)) (fill μ G.below) m) goal)
arrives W G around t μ m offset u (passes seek o operands e) place goal =
    let a = filled μ (at G.here o operands) in
    let S = fill μ G.below in
    reaches_step W.image (Leaves t seek (fill μ (at G.here o operands ∷ G.below)) m) (standing G offset [] μ m)
    (there (nat_eq (length S) t.place) (arrived W.image t.goal a S m) _ (eq-eqb (length S) t.place (fill_long μ G.below ∙ sym place))
    ∙ ap (λ g. arrived W.image g a S m) goal)
  where
    there : (b : Bool) (x y : Stepped) → b ≡ true → (if b then x else y) ≡ x
    there true x y e = refl
    there false x y e = absurd (false≢true e)

-- a jump to a point of this activation
pub comes_there : (W : World) (bound : ℕ) (G : Ground) (D : Dictionary) (around : List ℕ) (s : Stepped) (f : ℕ) (p : Point) (σ : State) (offset : ℕ)
    → (h : Jumps W bound G D around s f p σ) → h.target ≡ here_to G offset → Comes W bound G offset [] s σ
comes_there W bound G D around s f p σ offset h e = record {
  frames = h.frames;
  store = h.store;
  agrees = h.agrees;
  reaches =
      reaches_on W.image s h.on_way (standing G offset [] h.frames h.store) h.reaches
      (arrives W G around h.target h.frames h.store offset h.on_way h.is_on_way (ap (λ (t : Target). t.place) e) (ap (λ (t : Target). t.goal) e));
}

-- A larger bound.

pub comes_bound : (W : World) (n : ℕ) (G : Ground) (o : ℕ) (operands : List ℕ) (s : Stepped) (σ : State) → Comes W n G o operands s σ → Comes W (suc n) G o operands s σ
comes_bound W n G o operands s σ h = record {
  frames = h.frames;
  store = h.store;
  agrees = agreed_bound W n (suc n) G.control G.hold (heres G) h.frames h.store σ (let lt = h.agrees.enough in omega (arith, lt)) h.agrees;
  reaches = h.reaches;
}

abbrev pub jumps_bound : (W : World) (n : ℕ) (G : Ground) (D : Dictionary) (around : List ℕ) (s : Stepped) (f : ℕ) (p : Point) (σ : State) → Jumps W n G D around s f p σ
    → Jumps W (suc n) G D around s f p σ
jumps_bound W n G D around s f p σ h = record {
  target = h.target;
  found = h.found;
  frames = h.frames;
  store = h.store;
  agrees = agreed_bound W n (suc n) G.control G.hold (heres G) h.frames h.store σ (let lt = h.agrees.enough in omega (arith, lt)) h.agrees;
  on_way = h.on_way;
  is_on_way = h.is_on_way;
  reaches = h.reaches;
}

spent_bound : (n : ℕ) (p : Point) (σ : State) → HasSpent n p σ → HasSpent (suc n) p σ
spent_bound n (Start k) σ h = omega (arith, h)
spent_bound n (After k) σ h = h
spent_bound n (At l) σ h = h
spent_bound n Leave σ h = h

pub done_bound : (W : World) (n : ℕ) (K : Site) (around : List ℕ) (o : ℕ) (s : Stepped) (a : Answer) (σ : State) → Done W n K around o s a σ → Done W (suc n) K around o s a σ
done_bound W n K around o s Normal σ h = comes_bound W n K.ground o [] s σ h
done_bound W n K around o s (Gives vs) σ h = h
done_bound W n K around o s (Go f p) σ h = (spent_bound n p σ h.0, jumps_bound W n K.ground K.points around s f p σ h.1)
done_bound W n K around o s (Resumed vs) σ h = record {
  kinds = h.kinds;
  labels = h.labels;
  in_arm = h.in_arm;
  offset = h.offset;
  is_there = h.is_there;
  words = h.words;
  shown = h.shown;
  comes = comes_bound W n K.ground h.offset (push h.words []) s σ h.comes;
}
done_bound W n K around o s Rejected σ h = record { in_arm = h.in_arm; offset = h.offset; is_there = h.is_there; comes = comes_bound W n K.ground h.offset [] s σ h.comes }
done_bound W n K around o s (Retried k) σ h = record { in_arm = h.in_arm; jumps = jumps_bound W n K.ground K.points around s K.meant.frame _ σ h.jumps; below = h.below }
done_bound W n K around o s (Continued k) σ h = record { in_arm = h.in_arm; jumps = jumps_bound W n K.ground K.points around s K.meant.frame _ σ h.jumps; below = h.below }
done_bound W n K around o s (Uncaught signal) σ h = h
done_bound W n K around o s Spent σ h = h
done_bound W n K around o s FrameLimit σ h = h
done_bound W n K around o s Broken σ h = h

-- A numbered statement.

-- what a label gives is said of the module alone
label_gives : (Γ : sound.Scope) (k : ℕ) (js : Kinds) (l : Label) → sound.LabelGives (sound.in_marked k Γ) js l → sound.LabelGives Γ js l
unfolding sound.in_marked sound.LabelGives sound.UsedItem
label_gives Γ k js OnAny h = h
label_gives Γ k js OnUnwind h = h
label_gives Γ k js (OnOwn n) h = h
label_gives Γ k js (OnLinked i n) h = h
label_gives Γ k js OnBounds h = h
label_gives Γ k js OnZero h = h

-- of the points of the numbered statement and those further out
mark_is : (b : Bool) (x : Target) (o : Option Target) (t : Target) → b ≡ true → (if b then Some x else o) ≡ Some t → t ≡ x
mark_is true x o t e d = sym (same_Some x t d)
mark_is false x o t e d = absurd (false≢true e)

mark_not : (b : Bool) (x : Target) (o : Option Target) (t : Target) → b ≡ false → (if b then Some x else o) ≡ Some t → o ≡ Some t
mark_not true x o t e d = absurd (true≢false e)
mark_not false x o t e d = d

further_out : (W : World) (bound : ℕ) (G : Ground) (D E : Dictionary) (around : List ℕ) (s : Stepped) (f : ℕ) (p : Point) (σ : State)
    → ((t : Target) → E f p ≡ Some t → D f p ≡ Some t) → Jumps W bound G E around s f p σ → Jumps W bound G D around s f p σ
further_out W bound G D E around s f p σ old h = record {
  target = h.target;
  found = old h.target h.found;
  frames = h.frames;
  store = h.store;
  agrees = h.agrees;
  on_way = h.on_way;
  is_on_way = h.is_on_way;
  reaches = h.reaches;
}

module _ (W : World) (n : ℕ) (K : Site) (around : List ℕ) (k a b : ℕ) where
  abbrev f : ℕ
  f = K.meant.frame

  abbrev E : Dictionary
  E = mark_points K.points f k (here_to K.ground a) (here_to K.ground b)

  started : (z : Bool) (again : Run) (s : Stepped) (g j : ℕ) (σ : State) → nat_eq f g && nat_eq k j ≡ z
      → ((μ : Frames) (m : Store) (τ : State) → Agrees W n K.ground μ m τ → Done W n K around b (standing K.ground a [] μ m) (again τ).answer (again τ).state)
      → suc σ.turns < suc n → Jumps W (suc n) K.ground E around s g (Start j) σ
      → Done W (suc n) K around b s (branch z again (give (Go g (Start j))) σ).answer (branch z again (give (Go g (Start j))) σ).state
  unfolding branch give
  started true again s g j σ e run lt h =
      let c = comes_there W (suc n) K.ground E around s g (Start j) σ a h
      (mark_is (nat_eq f g && nat_eq k j) (here_to K.ground a) (K.points g (Start j)) h.target e h.found) in
      let agrees = agreed_bound W (suc n) n K.ground.control K.ground.hold (heres K.ground) c.frames c.store σ (omega (arith, lt)) c.agrees in
      done_later W (suc n) K around b s (standing K.ground a [] c.frames c.store) (again σ).answer (again σ).state c.reaches
      (done_bound W n K around b (standing K.ground a [] c.frames c.store) (again σ).answer (again σ).state (run c.frames c.store σ agrees))
  started false again s g j σ e run lt h = (
    lt,
    further_out W (suc n) K.ground K.points E around s g (Start j) σ
        (λ t d. mark_not (nat_eq f g && nat_eq k j) (here_to K.ground a) (K.points g (Start j)) t e d) h,
  )

  ended : (z : Bool) (s : Stepped) (g j : ℕ) (σ : State) → nat_eq f g && nat_eq k j ≡ z → Jumps W (suc n) K.ground E around s g (After j) σ
      → Done W (suc n) K around b s (branch z (give Normal) (give (Go g (After j))) σ).answer (branch z (give Normal) (give (Go g (After j))) σ).state
  unfolding branch give
  ended true s g j σ e h =
      comes_there W (suc n) K.ground E around s g (After j) σ b h (mark_is (nat_eq f g && nat_eq k j) (here_to K.ground b) (K.points g (After j)) h.target e h.found)
  ended false s g j σ e h = (
    tt,
    further_out W (suc n) K.ground K.points E around s g (After j) σ
        (λ t d. mark_not (nat_eq f g && nat_eq k j) (here_to K.ground b) (K.points g (After j)) t e d) h,
  )

  -- what leads below is further out
  old_below : (z : Bool) (offset : ℕ) (o : Option Target) (t : Target) → (if z then Some (here_to K.ground offset) else o) ≡ Some t → t.place < top K.ground → o ≡ Some t
  old_below true offset o t e lt =
      let d = ap (λ (x : Target). x.place) (same_Some (here_to K.ground offset) t e) in absurd (omega (arith, d, lt))
  old_below false offset o t e lt = e

  goes_back : (p : Point) (s : Stepped) (σ : State) (Γ : sound.Scope) → (h : GoesBack W (suc n) K.ground Γ E around f p s σ)
      → K.points f p ≡ Some h.jumps.target → sound.IsForRaises K.scope.arm → GoesBack W (suc n) K.ground K.scope K.points around f p s σ
  goes_back p s σ Γ h old arm = record {
    in_arm = arm;
    jumps = record {
      target = h.jumps.target;
      found = old;
      frames = h.jumps.frames;
      store = h.jumps.store;
      agrees = h.jumps.agrees;
      on_way = h.jumps.on_way;
      is_on_way = h.jumps.is_on_way;
      reaches = h.jumps.reaches;
    };
    below = h.below;
  }

  -- its code is from a to b; run again it has the same promise, of fewer turns
  pub marked_row : (again : Run) (s : Stepped) (x : Answer) (σ : State)
      → ((μ : Frames) (m : Store) (τ : State) → Agrees W n K.ground μ m τ → Done W n K around b (standing K.ground a [] μ m) (again τ).answer (again τ).state)
      → Done W (suc n) (marked_site K k a b) around b s x σ → Done W (suc n) K around b s (marked_of f k again x σ).answer (marked_of f k again x σ).state
  unfolding marked_of give sound.in_marked sound.LabelGives sound.UsedItem
  marked_row again s Normal σ run h = h
  marked_row again s (Gives vs) σ run h = absurd h
  marked_row again s (Go g (Start j)) σ run h = started (nat_eq f g && nat_eq k j) again s g j σ refl run h.0 h.1
  marked_row again s (Go g (After j)) σ run h = ended (nat_eq f g && nat_eq k j) s g j σ refl h.1
  marked_row again s (Go g (At l)) σ run h = (h.0, further_out W (suc n) K.ground K.points E around s g (At l) σ (λ t e. e) h.1)
  marked_row again s (Go g Leave) σ run h = (h.0, further_out W (suc n) K.ground K.points E around s g Leave σ (λ t e. e) h.1)
  marked_row again s (Resumed vs) σ run h = record {
    kinds = h.kinds;
    labels = λ i d lt. label_gives K.scope k h.kinds (get_or K.scope.arm i d) (h.labels i d lt);
    in_arm = h.in_arm;
    offset = h.offset;
    is_there = h.is_there;
    words = h.words;
    shown = h.shown;
    comes = h.comes;
  }
  marked_row again s Rejected σ run h = record { in_arm = h.in_arm; offset = h.offset; is_there = h.is_there; comes = h.comes }
  marked_row again s (Retried j) σ run h =
      goes_back (Start j) s σ (sound.in_marked k K.scope) h (old_below (nat_eq f f && nat_eq k j) a (K.points f (Start j)) h.jumps.target h.jumps.found h.below) h.in_arm
  marked_row again s (Continued j) σ run h =
      goes_back (After j) s σ (sound.in_marked k K.scope) h (old_below (nat_eq f f && nat_eq k j) b (K.points f (After j)) h.jumps.target h.jumps.found h.below) h.in_arm
  marked_row again s (Uncaught signal) σ run h = h
  marked_row again s Spent σ run h = h
  marked_row again s FrameLimit σ run h = h
  marked_row again s Broken σ run h = h
