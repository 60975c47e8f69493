-- A jump goes out through a phrase, whose UNWIND arm may run.
use Rattle.std.proofs.Common.{◌≡◌, ⊎_elim, ℕ, zero, suc, ◌+◌, ◌-◌, ◌<◌, ◌≤◌, ◌≢◌, List, [], ◌∷◌, ◌++◌, length, Bool, true, false, Some, None, refl, sym, ap, ◌∙◌, subst, arith}
use Rattle.std.specs.Prelude.{All, nat_eq, slice_get, position, take, if◌then◌else◌}
use Rattle.std.proofs.lemmas.Bool.{eq-eqb, eqb-true, eqb-false, ne_eqb, false≢true}
use Rattle.std.proofs.lemmas.Option.{same_Some}
use Rattle.mesa_types.specs.declared.typed_parts.Label.{Label}
use Rattle.mesa_types.specs.declared.typed_parts.Label.TheVariants.{OnAny, OnUnwind, OnOwn, OnLinked, OnBounds, OnZero}
use Rattle.mesa_types.specs.Typed.{Point, Arms, Phrase, Catch, Stmt}
use Rattle.mesa_types.specs.Counts.{hidden_arms}
use Rattle.mesa_types.specs.Sound.{Scope, NamesSignal, AreLabels, IsForRaises, ArmsIn, in_arm}
use Rattle.code_forms.specs.declared.instruction.Instruction.TheVariants as i
use Rattle.code_forms.specs.declared.module_code.Arm.{Arm}
use Rattle.code_forms.specs.declared.module_code.Phrase as code_phrase
use Rattle.code_forms.specs.Regions.{region_at}
use Rattle.signaller.specs.declared.search.Search.{Search}
use Rattle.signaller.specs.Laws.{outer}
use Rattle.signaller.specs.Search.{arms_of, arms_before, asked, beyond, search_from, place_at, first_place, numbered, fits_jump, unwind_next}
use Rattle.source_meaning.specs.State.{State, Answer, Normal, Gives, Go, Resumed, Rejected, Retried, Continued, Uncaught, Spent, FrameLimit, Broken, Result, give, carry, after, leave, branch}
use Rattle.source_meaning.specs.Signals as signal
use Rattle.source_meaning.specs.Signals.{is_unwind, some_label, first_arm, arm_in, NoArm, TheArm, arm_answer, arm_body, run_unwind_arm, unwind, through_of}
use Rattle.source_meaning.specs.Variables.{Enabled}
use Rattle.machine_rules.specs.State.{Target, ForJump, Active, Activations, Store, Leaves, Stepped}
use Rattle.machine_rules.specs.Words.{put_words}
use Rattle.machine_rules.specs.LookUps.{procedure_under, phrases_under, instruction_at}
use Rattle.machine_rules.specs.Activations.{own_frame}
use Rattle.machine_rules.specs.Moves as moves
use Rattle.machine_rules.specs.Signals as steps
use Rattle.machine_rules.specs.Leaving.{left_to_ask, arrived, dropped, unwound, leave_step}
use Rattle.machine_rules.specs.Steps.{step, perform}
use Rattle.code_rules.specs.CodeFor.{ArmsCode}
use Rattle.code_rules.specs.Reading.{Place, phrases_around, in_region}
use Rattle.code_rules.specs.Slots.{local_slot, words_from}
use Rattle.agreement_rules.specs.Reaches.{Reaches}
use Rattle.agreement_rules.proofs.Lifted.{reaches_on}
use Rattle.agreement_laws.specs.World.{World, Ready}
use Rattle.agreement_laws.specs.Standing.{Part, IsFrame, IsArm, Here, Standing, at, bare, Frames, filled, fill, here_at, owner_of, Numbered, frame_at, region_of, HeldBehind, Apart, Falling, PartStands, Nested}
use Rattle.agreement_laws.specs.Relation.{Ground, heres, top, own, Agrees, standing, leaving}
use Rattle.agreement_laws.specs.Chains.{IsTarget, Held, Asks}
use Rattle.agreement_laws.specs.Contexts.{Site, Context, table, asked_from}
use Rattle.agreement_laws.specs.Answers.{Comes, OnItsWay, has_arrived, passes, Jumps, HasSpent, Passed, Done}
use Rattle.agreement_laws.specs.Promises.{next, NextFollows}
use Rattle.agreement_laws.proofs.Arms.{Asked, own_stands, entered, enters, arm_site, arm_place, arm_context, arm_inside, arm_entered}
use Rattle.agreement_laws.proofs.Codes.{own_here, table_is}
use Rattle.agreement_laws.proofs.Control.{begun_more, agreed_begun}
use Rattle.agreement_laws.proofs.Entering.{agreed_in, agreed_out, laid_nothing, fitting}
use Rattle.agreement_laws.proofs.Going.{reaches_step, reaches_alike, done_later}
use Rattle.agreement_laws.proofs.Moving.{room_part}
use Rattle.agreement_laws.proofs.Raising.{arm_end_is, performed, spent_more, ended_left, drop_step}
use Rattle.agreement_laws.proofs.Regions.{asks_beyond, beyond_raise, beyond_jump}
use Rattle.agreement_laws.proofs.Searching.{FirstArm, IsFirst, first_is, unwinds_agree}
use Rattle.agreement_laws.proofs.Spending.{spend_on, enter_on}
use Rattle.agreement_laws.proofs.Stacks.{fill_long, here_top, here_within, one_place, number_below, with_words}

-- an UNWIND arm is for no raise
names_no_unwind : (Γ : Scope) (label : Label) → NamesSignal Γ label → is_unwind label ≡ true → ⊥
unfolding NamesSignal is_unwind
names_no_unwind Γ OnAny h e = h
names_no_unwind Γ OnUnwind h e = h
names_no_unwind Γ (OnOwn n) h e = false≢true e
names_no_unwind Γ (OnLinked k n) h e = false≢true e
names_no_unwind Γ OnBounds h e = false≢true e
names_no_unwind Γ OnZero h e = false≢true e

pub not_for_raises : (Γ : Scope) (ls : List Label) → AreLabels Γ ls → some_label is_unwind ls ≡ true → IsForRaises ls → ⊥
unfolding AreLabels some_label is_unwind IsForRaises
not_for_raises Γ ls are e raises = ⊎_elim
    (λ (x : ls ≡ OnAny ∷ []). false≢true (sym (ap (λ l. some_label is_unwind l) x) ∙ e))
    (λ y. ⊎_elim
    (λ (x : ls ≡ OnUnwind ∷ []). subst (λ l. IsForRaises l) x raises)
    (λ (x : (ls ≢ []) × All (NamesSignal Γ) ls). let f = fitting is_unwind (NamesSignal Γ) ls x.1 e in names_no_unwind Γ f.label f.is f.fit) y) are

-- nothing above a place is held by it
holds_none : (W : World) (B : List Here) (h : Here) (q n : ℕ) → PartStands W h.procedure h.part B → length B ≤ q → HeldBehind h.part q n
holds_none W B h q n stands le = by h.part stands
  where
    by : (part : Part) → PartStands W h.procedure part B → HeldBehind part q n
    by (IsFrame number) x = tt
    by (IsArm own holder place number why) x = λ e. let lt = here_within B holder x.above x.is_holder in absurd (omega (arith, lt, le, e))

pub apart_top : (W : World) (B : List Here) (q n : ℕ) → Nested W B → length B ≤ suc q → Apart B q n
apart_top W [] q n nested le = tt
apart_top W (h ∷ B) q n nested le = (holds_none W B h q n nested.0 (omega (arith, le)), apart_top W B q n nested.1 (omega (arith, le)))

take_none : (k : ℕ) → take {A = ℕ} k [] ≡ []
take_none zero = refl
take_none (suc k) = refl

-- The phrase of the topmost activation, in whose range the code begins so.

pub record Ranges (W : World) (K : Site) (w : Place) (num : ℕ) (from to : ℕ) (statement : ℕ) (arms : Arms) (regions : List Arm) : Type 0 where
  pub is_coded : slice_get K.code.routine.phrases num ≡ Some (record { from = from; to = to; arms = regions })
  pub arms_code : ArmsCode K.code (in_region w) arms regions
  pub arms_in : ArmsIn K.scope statement arms
  pub inner : List ℕ
  pub begins : phrases_around K.code.routine.phrases from ≡ inner ++ num ∷ w.around
  pub region : region_at K.code.routine.phrases from ≡ region_of K.ground.here.part

module _ (W : World) (ready : Ready W) (n : ℕ) (ih : NextFollows W n) (K : Site) (w : Place) (hi : ℕ) (ctx : Context W K w.points w.around w.slot hi)
    (num from to statement : ℕ) (arms : Arms) (regions : List Arm) (x : Ranges W K w num from to statement arms regions)
    (fit : w.slot + hidden_arms arms ≤ hi) where
  abbrev G : Ground
  G = K.ground

  abbrev ph : Phrase
  ph = Catch statement arms

  abbrev pub enabled : Enabled
  enabled = record { owner = K.meant.frame; instance = K.meant.instance; phrase = ph }

  abbrev coded : code_phrase.Phrase
  coded = record { from = from; to = to; arms = regions }

  abbrev pub held_here : Held W (heres G) K.points G.hold K.floor enabled (top G) num
  held_here = record {
    here = G.here;
    is_there = here_top G.here (bare G.below);
    instance = ctx.instance;
    is_frame = ctx.is_frame;
    code = K.code;
    code_of = ctx.code_of;
    statement = statement;
    arms = arms;
    is_phrase = refl;
    phrase = coded;
    is_coded = x.is_coded;
    inside = x.region;
    scope = K.scope;
    scope_in = ctx.scope_in;
    arms_in = x.arms_in;
    place = w;
    regions = x.arms_code;
    fresh = ctx.fresh;
    targets = ctx.targets;
    finds = ctx.finds;
    upto = w.slot + hidden_arms arms;
    room = room_part W G.here.procedure (heres G) G.hold K.floor K.meant.frame w.slot hi w.slot (w.slot + hidden_arms arms) (omega arith)
        (omega arith) fit ctx.room;
    fits = omega arith;
    apart = apart_top W (heres G) (top G) num ctx.nested (omega arith);
  }

  pub outward : beyond true (table W G) num ≡ asked_from W G w.around
  outward =
      beyond_raise W G.here.procedure K.code ctx.code_of num coded w.around x.inner x.is_coded x.begins
      ∙ ap (λ r. w.around ++ outer true (table W G) r) (ap (λ t. region_at t from) (table_is W G.here.procedure K.code ctx.code_of) ∙ x.region)

  pub inward : beyond false (table W G) num ≡ w.around
  inward = beyond_jump W G.here.procedure K.code ctx.code_of num coded w.around x.inner x.is_coded x.begins

  -- those outside of the phrase ask the rest of the chain
  pub rest_here : Asks W G.here G.below G.hold K.points K.floor (top G) (beyond true (table W G) num) K.meant.chain
  rest_here = subst (λ numbers. Asks W G.here G.below G.hold K.points K.floor (top G) numbers K.meant.chain) (sym outward) ctx.chain

  abbrev Out : Stepped → Result → Type 0
  Out s r = Passed W (suc n) K w.around s r.answer r.state

  abbrev beyond_it : Search
  beyond_it = search_from (beyond false (table W G) num)

  asks_outside : asked false (table W G) beyond_it.phrase ≡ w.around
  asks_outside = asks_beyond false (table W G) num ∙ inward

  -- the jump goes on outside of the phrase
  jumps_outside : (s : Stepped) (f : ℕ) (p : Point) (t : Target) (o : ℕ) (operands : List ℕ) (μ : Frames) (m : Store) (σ : State) → K.points f p ≡ Some t
      → Agrees W (suc n) G μ m σ → Reaches W.image s (leaving t beyond_it (at G.here o operands ∷ G.below) μ m) → Jumps W (suc n) G K.points w.around s f p σ
  jumps_outside s f p t o operands μ m σ found h r = record {
    target = t;
    found = found;
    frames = μ;
    store = m;
    agrees = h;
    on_way = leaving t beyond_it (at G.here o operands ∷ G.below) μ m;
    is_on_way = passes beyond_it o operands asks_outside;
    reaches = r;
  }

  goes_outside : (s : Stepped) (f : ℕ) (p : Point) (t : Target) (o : ℕ) (operands : List ℕ) (μ : Frames) (m : Store) (σ : State) → HasSpent (suc n) p σ
      → K.points f p ≡ Some t → Agrees W (suc n) G μ m σ → Reaches W.image s (leaving t beyond_it (at G.here o operands ∷ G.below) μ m) → Out s (give (Go f p) σ)
  unfolding give
  goes_outside s f p t o operands μ m σ spent found h r = (spent, jumps_outside s f p t o operands μ m σ found h r)

  -- The target's frame is this one exactly where its owner is.

  abbrev frame : Numbered
  frame = record { number = K.meant.frame; procedure = G.here.procedure }

  same_owner : (fresh f : ℕ) (t : Target) → Falling fresh (heres G) → IsTarget W (heres G) f t → f ≡ K.meant.frame → t.owner ≡ own G
  same_owner fresh f t falling is e = one_place fresh (heres G) t.owner (own G) is.frame frame falling is.is_frame ctx.is_frame (is.number ∙ e)

  other_owner : (f : ℕ) (t : Target) → IsTarget W (heres G) f t → (f ≡ K.meant.frame → ⊥) → own G ≡ t.owner → ⊥
  other_owner f t is never e =
      let same = same_Some frame is.frame (sym ctx.is_frame ∙ ap (λ q. frame_at (heres G) q) e ∙ is.is_frame) in
      never (sym (ap (λ (k : Numbered). k.number) same ∙ is.number))

  other_place : (f : ℕ) (t : Target) → IsTarget W (heres G) f t → (f ≡ K.meant.frame → ⊥) → top G ≡ t.place → ⊥
  other_place f t is never e =
      let there = same_Some G.here is.aimed (sym (here_top G.here (bare G.below)) ∙ ap (λ q. here_at (heres G) q) e ∙ is.is_there) in
      other_owner f t is never (ap (λ (h : Here). owner_of h.part (top G)) there ∙ ap (λ q. owner_of is.aimed.part q) e ∙ is.owned)

  -- Within the target's frame no phrase is asked.

  stay_if : (b c : Bool) (t : Target) (one other : Search) (a : Active) (S : Activations) (m : Store) → c ≡ true
      → (if b then arrived W.image t.goal a S m else
      (if c then dropped W.image t a.role S m else unwound W.image t a (unwind_next (phrases_under W.image a) one) S m))
      ≡ (if b then arrived W.image t.goal a S m else
      (if c then dropped W.image t a.role S m else unwound W.image t a (unwind_next (phrases_under W.image a) other) S m))
  stay_if true c t one other a S m e = refl
  stay_if false true t one other a S m e = refl
  stay_if false false t one other a S m e = absurd (false≢true e)

  stays : (t : Target) (one other : Search) (o : ℕ) (operands : List ℕ) (μ : Frames) (m : Store) → t.owner ≡ own G
      → step W.image (Leaves t one (fill μ (at G.here o operands ∷ G.below)) m) ≡ step W.image (Leaves t other (fill μ (at G.here o operands ∷ G.below)) m)
  unfolding step leave_step
  stays t one other o operands μ m e =
      let a = filled μ (at G.here o operands) in
      let S = fill μ G.below in
      stay_if (nat_eq (length S) t.place) (nat_eq (own_frame a S) t.owner) t one other a S m
      (eq-eqb (own_frame a S) t.owner (own_here μ G.here o operands G.below ∙ sym e))

  pub stays_inside : (s : Stepped) (f : ℕ) (p : Point) (σ : State) → f ≡ K.meant.frame → Jumps W (suc n) G K.points (num ∷ w.around) s f p σ
      → Jumps W (suc n) G K.points w.around s f p σ
  stays_inside s f p σ e j = by j.on_way j.is_on_way j.reaches
    where
      by : (y : Stepped) → OnItsWay W G (num ∷ w.around) j.target j.frames j.store y → Reaches W.image s y → Jumps W (suc n) G K.points w.around s f p σ
      by y (has_arrived o ops at_top) r = record {
        target = j.target;
        found = j.found;
        frames = j.frames;
        store = j.store;
        agrees = j.agrees;
        on_way = y;
        is_on_way = has_arrived o ops at_top;
        reaches = r;
      }
      by y (passes search o ops asks) r =
          jumps_outside s f p j.target o ops j.frames j.store σ j.found j.agrees
          (reaches_on W.image s _ _ r (reaches_alike W.image _ _
          (stays j.target search beyond_it o ops j.frames j.store (same_owner σ.store.fresh f j.target j.agrees.falling (ctx.targets f p j.target j.found) e))))

  same_frame : (s : Stepped) (f : ℕ) (p : Point) (σ : State) → f ≡ K.meant.frame → HasSpent (suc n) p σ → Jumps W (suc n) G K.points (num ∷ w.around) s f p σ
      → Out s (give (Go f p) σ)
  unfolding give
  same_frame s f p σ e spent j = (spent, stays_inside s f p σ e j)

  -- The phrase of another frame is asked.

  asks_it : (t : Target) (search : Search) (o : ℕ) (operands : List ℕ) (μ : Frames) (m : Store) → (top G ≡ t.place → ⊥) → (own G ≡ t.owner → ⊥)
      → step W.image (Leaves t search (fill μ (at G.here o operands ∷ G.below)) m)
      ≡ unwound W.image t (filled μ (at G.here o operands))
      (numbered false (table W G) (first_place fits_jump (table W G) (asked false (table W G) search.phrase))) (fill μ G.below) m
  unfolding step leave_step phrases_under procedure_under
  asks_it t search o operands μ m place owner =
      let a = filled μ (at G.here o operands) in
      let S = fill μ G.below in
      ap (λ b. if b then arrived W.image t.goal a S m else (if nat_eq (own_frame a S) t.owner then dropped W.image t a.role S m
      else unwound W.image t a (unwind_next (phrases_under W.image a) search) S m)) (ne_eqb (length S) t.place (λ e. place (sym (fill_long μ G.below) ∙ e)))
      ∙ ap (λ b. if b then dropped W.image t a.role S m else unwound W.image t a (unwind_next (phrases_under W.image a) search) S m)
      (ne_eqb (own_frame a S) t.owner (λ e. owner (sym (own_here μ G.here o operands G.below) ∙ e)))

  -- its UNWIND arm
  module _ (f : ℕ) (p : Point) (t : Target) (found : K.points f p ≡ Some t) (o : ℕ) (operands : List ℕ) (first count : ℕ) (body : Stmt)
      (arm : FirstArm K.code (in_region w) K.scope statement (hidden_arms arms) is_unwind fits_jump first count body regions) where
    abbrev T : Standing
    T = at G.here o operands ∷ G.below

    abbrev A : Asked W
    A = record {
      over = G.here;
      below = G.below;
      hold = G.hold;
      control = G.control;
      offset = o;
      operands = operands;
      nested = ctx.nested;
      holds = ctx.holds;
      points = K.points;
      floor = K.floor;
      enabled = enabled;
      holder = top G;
      phrase = num;
      held = held_here;
      chain = K.meant.chain;
      rest = rest_here;
      why = ForJump t beyond_it;
      fits = is_unwind;
      test = fits_jump;
      first = first;
      count = count;
      statement = body;
      arm = arm;
    }

    abbrev L : Site
    L = arm_site W A

    goes_on : (s : Stepped) (μ : Frames) (m : Store) (σ : State) (g : ℕ) (q : Point) (u : Target) → K.points g q ≡ Some u → Agrees W n L.ground μ m σ
        → Reaches W.image s (leaving u beyond_it T μ m) → Out s (give (Go g q) (record σ { standing = σ.standing - 1 }))
    goes_on s μ m σ g q u is h r =
        goes_outside s g q u o operands μ m (record σ { standing = σ.standing - 1 }) (spent_more n q (record σ { standing = σ.standing - 1 }) h.enough) is
        (agreed_out W n G.control G.hold (heres G) _ _ _ _ _ _ μ m σ h) r

    rejected : (s : Stepped) (z : ℕ) (σ : State) → instruction_at K.code.entries z ≡ Some i.ArmEnd → Comes W n L.ground z [] s σ
        → Out s (give (Go f p) (record σ { standing = σ.standing - 1 }))
    unfolding perform steps.reject
    rejected s z σ is h =
        goes_on s h.frames (begun_more h.store) σ f p t found (agreed_begun W n L.ground h.frames h.store σ h.agrees)
        (reaches_on W.image s _ _ h.reaches (performed W L.ground K.code ctx.code_of h.frames h.store z [] i.ArmEnd is arm_end_is))

    jumped : (s : Stepped) (g : ℕ) (q : Point) (σ : State) → Jumps W n L.ground K.points [] s g q σ
        → Out s (give (Go g q) (record σ { standing = σ.standing - 1 }))
    unfolding dropped left_to_ask
    jumped s g q σ j = by j.on_way j.is_on_way j.reaches
      where
        below : j.target.place < length (heres G)
        below = let is = ctx.targets g q j.target j.found in here_within (heres G) j.target.place is.aimed is.is_there

        by : (y : Stepped) → OnItsWay W L.ground [] j.target j.frames j.store y → Reaches W.image s y
            → Out s (give (Go g q) (record σ { standing = σ.standing - 1 }))
        by y (has_arrived z ops e) r = let lt = below in absurd (omega (arith, lt, e))
        by y (passes search z ops e) r =
            goes_on s j.frames j.store σ g q j.target j.found j.agrees
            (reaches_on W.image s _ _ r (reaches_step W.image (Leaves j.target search (fill j.frames (at L.ground.here z ops ∷ T)) j.store) _
            (drop_step W j.target search L.ground.here z ops T j.frames j.store below e)))

    unwind_done : (s : Stepped) (a : Answer) (σ : State) → Done W n L [] arm.finish s a σ
        → Out s (carry (leave (arm_answer K.meant.frame a σ)) (signal.unwound (Go f p)))
    unfolding carry leave arm_answer signal.unwound give in_arm
    unwind_done s Normal σ h = rejected s arm.finish σ (own_stands arm.ends) h
    unwind_done s (Gives us) σ h = absurd h
    unwind_done s (Go g q) σ h = jumped s g q σ h.1
    unwind_done s (Resumed us) σ h = absurd (not_for_raises K.scope arm.labels arm.are_labels arm.fit h.in_arm)
    unwind_done s Rejected σ h = rejected s h.offset σ h.is_there h.comes
    unwind_done s (Retried k) σ h = absurd (not_for_raises K.scope arm.labels arm.are_labels arm.fit h.in_arm)
    unwind_done s (Continued k) σ h = absurd (not_for_raises K.scope arm.labels arm.are_labels arm.fit h.in_arm)
    unwind_done s (Uncaught z) σ h = ended_left W (Uncaught z) s σ (σ.standing - 1) h
    unwind_done s Spent σ h = ended_left W Spent s σ (σ.standing - 1) h
    unwind_done s FrameLimit σ h = ended_left W FrameLimit s σ (σ.standing - 1) h
    unwind_done s Broken σ h = ended_left W Broken s σ (σ.standing - 1) h

    unwind_runs : (s : Stepped) (μ : Frames) (m : Store) (σ : State) → Agrees W (suc n) G μ m σ
        → Reaches W.image s (entered W G.here.procedure (arms_before (table W G) num + arm.number) (own G) (ForJump t beyond_it) [] (fill μ T) m)
        → Out s (after (run_unwind_arm (next W n) enabled K.meant.chain body) (signal.unwound (Go f p)) σ)
    unfolding run_unwind_arm arm_body after carry signal.unwound give
    unwind_runs s μ m σ h r =
        let g = K.meant.frame in
        let slot = local_slot K.code first in
        let ν = with_words μ g (put_words (μ g) slot []) in
        let entered_it = subst (λ y. Reaches W.image s y) (arm_entered W A σ.store.fresh μ [] m h.falling) r in
        let laid = laid_nothing W G.hold μ σ.store g slot (number_below σ.store.fresh (heres G) (own G) frame h.falling ctx.is_frame) h.laid in
        let bare_it = subst (λ ws. Reaches W.image s (moves.spend m (λ m1.
        moves.enter (filled (with_words μ g (put_words (μ g) slot ws)) (at L.ground.here arm.start [])) (fill (with_words μ g (put_words (μ g) slot ws)) T) m1)))
        (take_none (words_from K.code.locals first count)) entered_it in
        spend_on W n G.control G.hold (heres G) (λ s r. Out s (carry r (signal.unwound (Go f p)))) s μ m σ _ _ bare_it h (λ z. z) (λ turns e h1 r1.
        let m1 = record m { turns = turns } in
        let σ1 : State = record σ { turns = turns } in
        enter_on W n G.control G.hold (heres G) (λ s r. Out s (carry r (signal.unwound (Go f p)))) s _ (fill ν T) m1 σ1 _
        (h.count ∙ sym (fill_long ν T)) r1 h1.beside (λ z. z) (λ r2.
        let τ : State = record σ1 { standing = σ.standing + 1 } in
        let y = next W n body L.meant τ in
        unwind_done s y.answer y.state
        (done_later W n L [] arm.finish s (standing L.ground arm.start [] ν m1) y.answer y.state r2
        (ih.statement body L (arm_place W A) arm.start arm.finish ν m1 τ arm.code arm.sound (arm_context W A) (arm_inside W A)
        (agreed_in W n G.control G.hold (heres G) G.here.procedure (own G) (top G) _ _ (ForJump t beyond_it) μ ν m1 σ1 σ.store
        (record { globals = refl; started = refl; procedures = refl; fresh = refl }) laid h1)))))

  -- whether it has one
  unwind_by : (s : Stepped) (f : ℕ) (p : Point) (t : Target) (o : ℕ) (operands : List ℕ) (μ : Frames) (m : Store) (σ : State) → HasSpent (suc n) p σ
      → K.points f p ≡ Some t
      → (f ≡ K.meant.frame → ⊥) → Agrees W (suc n) G μ m σ → (search : Search) → asked false (table W G) search.phrase ≡ num ∷ w.around
      → Reaches W.image s (leaving t search (at G.here o operands ∷ G.below) μ m) → (z : signal.Arm)
      → IsFirst K.code (in_region w) K.scope statement (hidden_arms arms) is_unwind fits_jump regions z → Out s (unwind (next W n) K.meant ph z (Go f p) σ)
  unfolding unwind first_place unwound give
  unwind_by s f p t o operands μ m σ spent found never h search asks r NoArm none =
      let is = ctx.targets f p t found in
      let a = filled μ (at G.here o operands) in
      let there : position fits_jump (arms_of (slice_get (table W G) num)) ≡ None =
      ap (λ y. position fits_jump (arms_of (slice_get y num))) (table_is W G.here.procedure K.code ctx.code_of)
      ∙ ap (λ y. position fits_jump (arms_of y)) x.is_coded ∙ none in
      goes_outside s f p t o operands μ m σ spent found h
      (reaches_on W.image s _ _ r (reaches_alike W.image _ _
      (asks_it t search o operands μ m (other_place f t is never) (other_owner f t is never)
      ∙ ap (λ numbers. unwound W.image t a (numbered false (table W G) (first_place fits_jump (table W G) numbers)) (fill μ G.below) m) asks
      ∙ ap (λ y. unwound W.image t a (numbered false (table W G) (place_at num y (first_place fits_jump (table W G) w.around))) (fill μ G.below) m) there
      ∙ ap (λ numbers. unwound W.image t a (numbered false (table W G) (first_place fits_jump (table W G) numbers)) (fill μ G.below) m) (sym asks_outside)
      ∙ sym (asks_it t beyond_it o operands μ m (other_place f t is never) (other_owner f t is never)))))
  unwind_by s f p t o operands μ m σ spent found never h search asks r (TheArm first count body) arm =
      let is = ctx.targets f p t found in
      let a = filled μ (at G.here o operands) in
      let there : position fits_jump (arms_of (slice_get (table W G) num)) ≡ Some arm.number =
      ap (λ y. position fits_jump (arms_of (slice_get y num))) (table_is W G.here.procedure K.code ctx.code_of)
      ∙ ap (λ y. position fits_jump (arms_of y)) x.is_coded ∙ arm.found in
      let number = arms_before (table W G) num + arm.number in
      let T = at G.here o operands ∷ G.below in
      unwind_runs f p t found o operands first count body arm s μ m σ h
      (reaches_on W.image s _ _ r (reaches_step W.image (Leaves t search (fill μ T) m) _
      (asks_it t search o operands μ m (other_place f t is never) (other_owner f t is never)
      ∙ ap (λ numbers. unwound W.image t a (numbered false (table W G) (first_place fits_jump (table W G) numbers)) (fill μ G.below) m) asks
      ∙ ap (λ y. unwound W.image t a (numbered false (table W G) (place_at num y (first_place fits_jump (table W G) w.around))) (fill μ G.below) m) there
      ∙ enters W μ (at G.here o operands) number (length (fill μ G.below)) (ForJump t beyond_it) [] (fill μ T) m
      ∙ ap (λ q. entered W G.here.procedure number (owner_of G.here.part q) (ForJump t beyond_it) [] (fill μ T) m) (fill_long μ G.below))))

  other_frame : (s : Stepped) (f : ℕ) (p : Point) (σ : State) → (f ≡ K.meant.frame → ⊥) → HasSpent (suc n) p σ
      → Jumps W (suc n) G K.points (num ∷ w.around) s f p σ
      → Out s (unwind (next W n) K.meant ph (first_arm is_unwind ph) (Go f p) σ)
  unfolding first_arm
  other_frame s f p σ never spent j = by j.on_way j.is_on_way j.reaches
    where
      by : (y : Stepped) → OnItsWay W G (num ∷ w.around) j.target j.frames j.store y → Reaches W.image s y
          → Out s (unwind (next W n) K.meant ph (arm_in is_unwind arms) (Go f p) σ)
      by y (has_arrived o ops at_top) r = absurd (other_place f j.target (ctx.targets f p j.target j.found) never (sym at_top))
      by y (passes search o ops asks) r =
          unwind_by s f p j.target o ops j.frames j.store σ spent j.found never j.agrees search asks r (arm_in is_unwind arms)
          (first_is K.code K.scope statement is_unwind fits_jump (λ ls sound first count a b. unwinds_agree K.code.imports ls) x.arms_code x.arms_in)

  -- a jump goes through the phrase
  pub goes_through : (s : Stepped) (f : ℕ) (p : Point) (σ : State) → HasSpent (suc n) p σ → Jumps W (suc n) G K.points (num ∷ w.around) s f p σ
      → Out s (through_of (next W n) K.meant ph (Go f p) σ)
  unfolding through_of branch
  goes_through s f p σ spent j = by (nat_eq f K.meant.frame) refl
    where
      by : (b : Bool) → nat_eq f K.meant.frame ≡ b → Out s (branch b (give (Go f p)) (unwind (next W n) K.meant ph (first_arm is_unwind ph) (Go f p)) σ)
      by true e = same_frame s f p σ (eqb-true f K.meant.frame e) spent j
      by false e = other_frame s f p σ (eqb-false f K.meant.frame e) spent j
