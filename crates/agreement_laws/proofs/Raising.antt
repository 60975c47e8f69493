-- A raise: the phrases of the chain are asked, whose arms reject, resume, jump or end the run.
use Rattle.std.proofs.Common.{◌≡◌, ℕ, suc, ◌+◌, ◌-◌, ◌<◌, List, [], ◌∷◌, length, Bool, true, false, Some, None, refl, sym, ap, ◌∙◌, subst, arith}
use Rattle.std.specs.Prelude.{nat_eq, slice_get, position, take, option_and_then, ◌&&◌, if◌then◌else◌}
use Rattle.std.proofs.lemmas.Bool.{eq-eqb, ne_eqb}
use Rattle.std.proofs.lemmas.Option.{none-some, same_Some}
use Rattle.mesa_types.specs.Typed.{Kinds, Point, Start, After, At, Leave, Catch, Stmt}
use Rattle.mesa_types.specs.Counts.{hidden_arms}
use Rattle.mesa_types.specs.Plain.{kinds_of}
use Rattle.mesa_types.specs.Shapes.{words_in_all, count_in}
use Rattle.mesa_types.specs.Sound.{in_arm}
use Rattle.code_forms.specs.declared.instruction.Instruction.{Instruction}
use Rattle.code_forms.specs.declared.instruction.Instruction.TheVariants as i
use Rattle.code_forms.specs.declared.module_code.Arm.{Arm}
use Rattle.code_forms.specs.declared.module_code.CodeProcedure.{CodeProcedure}
use Rattle.signaller.specs.declared.search.Search.{Search}
use Rattle.signaller.specs.declared.signal_id.SignalId.{SignalId}
use Rattle.signaller.specs.Search.{arms_of, arms_before, around, asked, beyond, search_from, search_at, place_at, first_place, numbered, fits_signal, fits_jump, unwind_next}
use Rattle.signaller.proofs.Surrounding.{asks_all}
use Rattle.source_meaning.specs.Value.{Values, how_many}
use Rattle.source_meaning.specs.Program as source
use Rattle.source_meaning.specs.Program.{Signal, SignalOf, resumes}
use Rattle.source_meaning.specs.State as meaning
use Rattle.source_meaning.specs.State.{State, Answer, Normal, Gives, Go, Resumed, Rejected, Retried, Continued, Uncaught, Spent, FrameLimit, Broken, Result, Run, give, carry, after, change, leave, branch}
use Rattle.source_meaning.specs.Signals as signal
use Rattle.source_meaning.specs.Signals.{is_for, first_arm, arm_in, NoArm, TheArm, arm_answer, arm_body, put_parameters, run_arm, ask_arm, ask}
use Rattle.source_meaning.specs.Variables.{Enabled}
use Rattle.machine_rules.specs.declared.end.End.TheVariants as end
use Rattle.machine_rules.specs.State as machine
use Rattle.machine_rules.specs.State.{Target, ForRaise, Why, Activations, Store, Runs, Seeks, Leaves, Stepped, Goes}
use Rattle.machine_rules.specs.Words.{push, popped, put_words}
use Rattle.machine_rules.specs.LookUps.{procedure_under, phrases_under, instruction_at, instruction_under, links_of}
use Rattle.machine_rules.specs.Activations.{own_frame}
use Rattle.machine_rules.specs.Moves as moves
use Rattle.machine_rules.specs.Moves.{with}
use Rattle.machine_rules.specs.Signals as steps
use Rattle.machine_rules.specs.Leaving.{left_to_ask, arrived, dropped, unwound, leave_step}
use Rattle.machine_rules.specs.Steps.{stops, step, run, begin, worked, works_in, perform}
use Rattle.machine_rules.specs.Working.{works}
use Rattle.code_rules.specs.Modules.{kind_code}
use Rattle.code_rules.specs.Points.{Points}
use Rattle.code_rules.specs.Slots.{local_slot, words_from}
use Rattle.code_rules.specs.Reading.{Coded, Destination, phrases_around, in_region}
use Rattle.agreement_rules.specs.Agreement.{id_of, EndsAs}
use Rattle.agreement_rules.specs.Layout.{Show}
use Rattle.agreement_rules.specs.Reaches.{Reaches}
use Rattle.agreement_rules.proofs.Lifted.{reaches_on}
use Rattle.agreement_rules.proofs.Memory.{popped_all}
use Rattle.agreement_laws.specs.World.{World, Ready, CodeOf, texts_of}
use Rattle.agreement_laws.specs.Standing.{Here, Act, Standing, at, bare, Frames, role_of, filled, fill, act_at, here_at, owner_of, Numbered, frame_at, table_of, PartStands}
use Rattle.agreement_laws.specs.Relation.{Ground, heres, top, own, Agrees, standing, leaving}
use Rattle.agreement_laws.specs.Chains.{Dictionary, Within, Floor, Held, Asks, asks_end, asks_out, asks_arm, asks_here}
use Rattle.agreement_laws.specs.Contexts.{Site, Context, Inside, table, asked_from}
use Rattle.agreement_laws.specs.Answers.{Comes, OnItsWay, has_arrived, passes, Jumps, HasSpent, Ended, Answered, ResumesWith, Done}
use Rattle.agreement_laws.specs.Promises.{next, SignalHas, NextFollows, RaiseFollows}
use Rattle.agreement_laws.proofs.Arms.{Asked, own_stands, entered, found_on, sought, seek_is, frame_here, arm_site, arm_place, arm_context, arm_inside, arm_entered, in_table, number, scope_here}
use Rattle.agreement_laws.proofs.Codes.{entries_are, table_is}
use Rattle.agreement_laws.proofs.Control.{IsControl, begun_more, agreed_begun}
use Rattle.agreement_laws.proofs.Entering.{only_parameters, agreed_in, agreed_out, label_gives, parameters_put}
use Rattle.agreement_laws.proofs.Going.{reaches_step, reaches_same, done_later}
use Rattle.agreement_laws.proofs.Keeping.{agreed_bound, agreed_named}
use Rattle.agreement_laws.proofs.Linked.{GivesBack, has_same, signal_there, kinds_count}
use Rattle.agreement_laws.proofs.Parameters.{how_many_values}
use Rattle.agreement_laws.proofs.Places.{under}
use Rattle.agreement_laws.proofs.Pushing.{act_within}
use Rattle.agreement_laws.proofs.Regions.{asks_beyond, raise_asks, jump_asks}
use Rattle.agreement_laws.proofs.Searching.{FirstArm, IsFirst, first_is, labels_agree}
use Rattle.agreement_laws.proofs.Spending.{spend_on, enter_on}
use Rattle.agreement_laws.proofs.Stacks.{act_of, bare_long, fill_long, fill_at, act_push, here_top, here_push, here_within, number_below, with_words}

-- Instructions that end an arm.

pub arm_end_is : IsControl i.ArmEnd
unfolding works
arm_end_is texts of v = refl

pub resume_is : (n : ℕ) → IsControl (i.Resume n)
unfolding works
resume_is n texts of v = refl

-- the machine performs what stands at an offset of the topmost activation
pub performed : (W : World) (G : Ground) (C : Coded) → CodeOf W G.here.procedure C → (μ : Frames) (m : Store) (o : ℕ) (operands : List ℕ) (j : Instruction)
    → instruction_at C.entries o ≡ Some j → IsControl j
    → Reaches W.image (standing G o operands μ m) (perform W.image j (filled μ (at G.here o operands)) (fill μ G.below) (begun_more m))
unfolding step run begin works_in worked with instruction_under procedure_under
performed W G C c μ m o operands j is control =
    let a = filled μ (at G.here o operands) in
    let S = fill μ G.below in
    let there : instruction_under W.image a ≡ Some j =
    ap (λ p. option_and_then (λ (x : CodeProcedure). instruction_at x.code o) p) c.is_there
    ∙ ap (λ es. instruction_at es o) (entries_are W G.here.procedure C c) ∙ is in
    reaches_step W.image (Runs (fill μ (at G.here o operands ∷ G.below)) m) _
    (ap (λ x. with x m (λ j. begin W.image j a S m)) there ∙ ap (λ y. worked W.image j y a S (begun_more m)) (control _ _ _))

-- Turns.

pub spent_more : (n : ℕ) (p : Point) (σ : State) → σ.turns < n → HasSpent (suc n) p σ
spent_more n (Start k) σ lt = omega (arith, lt)
spent_more n (After k) σ lt = tt
spent_more n (At k) σ lt = tt
spent_more n Leave σ lt = tt

-- an activation less
pub ended_left : (W : World) (a : Answer) (s : Stepped) (σ : State) (standing : ℕ) → Ended W a s σ → Ended W a s (record σ { standing = standing })
ended_left W a s σ standing h =
    record { end = h.end; last = h.last; ends = h.ends; alike = h.alike; output = h.output; turns = h.turns; input = h.input }

-- A jump drops the topmost activation, whose phrases are asked.

drop_if : (b : Bool) (W : World) (t : Target) (search : Search) (h : Here) (o : ℕ) (operands : List ℕ) (S : Activations) (μ : Frames) (m : Store)
    → asked false (table_of W h.procedure) search.phrase ≡ []
    → (if b then dropped W.image t (role_of μ h.part) S m else unwound W.image t (filled μ (at h o operands)) (unwind_next (table_of W h.procedure) search) S m)
    ≡ dropped W.image t (role_of μ h.part) S m
unfolding unwound first_place
drop_if true W t search h o operands S μ m e = refl
drop_if false W t search h o operands S μ m e =
    ap (λ numbers. unwound W.image t (filled μ (at h o operands))
    (numbered false (table_of W h.procedure) (first_place fits_jump (table_of W h.procedure) numbers)) S m) e

pub drop_step : (W : World) (t : Target) (search : Search) (h : Here) (o : ℕ) (operands : List ℕ) (T : Standing) (μ : Frames) (m : Store)
    → t.place < length (bare T)
    → asked false (table_of W h.procedure) search.phrase ≡ []
    → step W.image (Leaves t search (fill μ (at h o operands ∷ T)) m) ≡ dropped W.image t (role_of μ h.part) (fill μ T) m
unfolding step leave_step phrases_under procedure_under
drop_step W t search h o operands T μ m lt e =
    let a = filled μ (at h o operands) in
    let S = fill μ T in
    let other : nat_eq (length S) t.place ≡ false = ap (λ n. nat_eq n t.place) (fill_long μ T) ∙ ne_eqb (length (bare T)) t.place (λ x. omega (arith, lt, x)) in
    ap (λ b. if b then arrived W.image t.goal a S m else (if nat_eq (own_frame a S) t.owner then dropped W.image t a.role S m
    else unwound W.image t a (unwind_next (phrases_under W.image a) search) S m)) other
    ∙ drop_if (nat_eq (own_frame a S) t.owner) W t search h o operands S μ m e

-- The search of a frame, by its place.

pub seek_frame : (W : World) (μ : Frames) (T : Standing) (q : ℕ) (k : Numbered) → frame_at (bare T) q ≡ Some k
    → (signal : SignalId) (args : List ℕ) (search : Search) (m : Store)
    → step W.image (Seeks signal args q search (fill μ T) m) ≡ sought W signal args k.procedure q (asked true (table_of W k.procedure) search.phrase) (fill μ T) m
seek_frame W μ T q k e signal args search m =
    let f = frame_here (bare T) q k e in
    let a = act_of T q f.here f.is_there in
    seek_is W μ T q a.act signal args search m a.is
    ∙ ap (λ (h : Here). sought W signal args h.procedure (owner_of h.part q) (asked true (table_of W h.procedure) search.phrase) (fill μ T) m) a.here
    ∙ ap (λ part. sought W signal args f.here.procedure (owner_of part q) (asked true (table_of W f.here.procedure) search.phrase) (fill μ T) m) f.part
    ∙ ap (λ p. sought W signal args p q (asked true (table_of W p) search.phrase) (fill μ T) m) f.procedure

-- What gives back values is resumed.

pub gives_same : (W : World) (signal : Signal) (takes gives ks : Kinds) → GivesBack W signal ks → SignalHas W signal takes gives → gives ≡ ks
gives_same W signal takes gives ks b h =
    (has_same W (SignalOf b.instance b.number) takes (kinds_of b.given.takes) gives (kinds_of b.given.gives) (subst (λ s. SignalHas W s takes gives) b.is h)
    (b.given, b.there, refl, refl)).1 ∙ b.kinds

pub is_resumed : (W : World) (signal : Signal) (ks : Kinds) (k : ℕ) → GivesBack W signal ks → k ≡ count_in ks → resumes W.program signal k ≡ true
unfolding resumes source.takes_back source.is_signal
is_resumed W signal ks k b e =
    let many : k ≡ length b.given.gives = e ∙ ap count_in (sym b.kinds) ∙ kinds_count b.given.gives in
    ap (λ s. resumes W.program s k) b.is
    ∙ ap (λ o. source.takes_back o k) b.there
    ∙ ap (λ x. source.is_signal x && nat_eq k (length b.given.gives)) b.kind
    ∙ eq-eqb k (length b.given.gives) many

pub is_taken_back : (W : World) → Ready W → (signal : Signal) (ks : Kinds) → GivesBack W signal ks
    → steps.takes_back W.image (id_of signal) (words_in_all ks) ≡ true
unfolding steps.takes_back steps.takes_in steps.takes_of id_of
is_taken_back W ready signal ks b =
    ap (λ s. steps.takes_back W.image (id_of s) (words_in_all ks)) b.is
    ∙ ap (λ o. steps.takes_in o (words_in_all ks)) (signal_there W ready b.instance b.number b.given b.there)
    ∙ ap (λ x. steps.takes_of (kind_code x) (words_in_all (kinds_of b.given.gives)) (words_in_all ks)) b.kind
    ∙ eq-eqb (words_in_all (kinds_of b.given.gives)) (words_in_all ks) (ap words_in_all b.kinds)

-- The raise.

module _ (W : World) (ready : Ready W) (n : ℕ) (ih : NextFollows W n) (K : Site) (points : Points Destination) (near : List ℕ) (from to : ℕ)
    (ctx : Context W K points near from to) (sig : Signal) (takes gives : Kinds) (vs : Values) (words : List ℕ) (has : SignalHas W sig takes gives)
    (shown : Show (texts_of W) takes vs words) (o : ℕ) (operands : List ℕ) (around_it : phrases_around K.code.routine.phrases o ≡ near)
    (inside : Inside W K.ground o o)
    (Given : Stepped → Values → State → Type 0)
    (back : (s : Stepped) (us : Values) (given : List ℕ) (ν : Frames) (l : Store) (τ : State) → resumes W.program sig (how_many us) ≡ true
    → Show (texts_of W) gives us given → Agrees W (suc n) K.ground ν l τ
    → Reaches W.image s (moves.give W.image 0 given (filled ν (at K.ground.here o operands) ∷ fill ν K.ground.below) l) → Given s us τ) where
  abbrev G : Ground
  G = K.ground

  abbrev T : Standing
  T = at G.here o operands ∷ G.below

  abbrev Ok : Stepped → Result → Type 0
  Ok s r = Answered W (suc n) K near Given s r.answer r.state

  -- an arm of a phrase of the chain
  module _ (E : Dictionary) (F : Floor) (smaller : Within E K.points) (l : Enabled) (q num : ℕ) (held : Held W (heres G) E G.hold F l q num)
      (chain : List Enabled)
      (rest : Asks W G.here G.below G.hold E F q (beyond true (table_of W held.here.procedure) num) chain) (others : Run)
      (on : (μ : Frames) (m : Store) (σ : State) (s : Stepped) → Agrees W (suc n) G μ m σ
      → Reaches W.image s (sought W (id_of sig) words held.here.procedure (owner_of held.here.part q) (beyond true (table_of W held.here.procedure) num)
      (fill μ T) m)
      → Ok s (others σ)) where
    abbrev beyond_it : Search
    beyond_it = search_from (beyond true (table_of W held.here.procedure) num)

    abbrev why : Why
    why = ForRaise (id_of sig) words beyond_it

    abbrev test : Arm → Bool
    test a = fits_signal (links_of W.image held.here.procedure.instance) (id_of sig) a

    module _ (first count : ℕ) (t : Stmt)
        (arm : FirstArm held.code (in_region held.place) held.scope held.statement (hidden_arms held.arms)
        (is_for W.program held.here.procedure.instance sig) test first count t held.phrase.arms) where
      abbrev A : Asked W
      A = record {
        over = G.here;
        below = G.below;
        hold = G.hold;
        control = G.control;
        offset = o;
        operands = operands;
        nested = ctx.nested;
        holds = ctx.holds;
        points = E;
        floor = F;
        enabled = l;
        holder = q;
        phrase = num;
        held = held;
        chain = chain;
        rest = rest;
        why = why;
        fits = is_for W.program held.here.procedure.instance sig;
        test = test;
        first = first;
        count = count;
        statement = t;
        arm = arm;
      }

      abbrev L : Site
      L = arm_site W A

      -- the search goes on
      goes_on : (s : Stepped) (μ : Frames) (m : Store) (σ : State) → Agrees W n L.ground μ m σ
          → Reaches W.image s (Goes (Seeks (id_of sig) words (owner_of held.here.part q) beyond_it (fill μ T) m))
          → Ok s (others (record σ { standing = σ.standing - 1 }))
      goes_on s μ m σ h r =
          let f : Numbered = record { number = l.owner; procedure = held.here.procedure } in
          on μ m (record σ { standing = σ.standing - 1 }) s (agreed_out W n G.control G.hold (heres G) _ _ _ _ _ _ μ m σ h)
          (reaches_on W.image s _ _ r (reaches_step W.image (Seeks (id_of sig) words (owner_of held.here.part q) beyond_it (fill μ T) m) _
          (seek_frame W μ T (owner_of held.here.part q) f held.is_frame (id_of sig) words beyond_it m
          ∙ ap (λ numbers. sought W (id_of sig) words held.here.procedure (owner_of held.here.part q) numbers (fill μ T) m)
          (asks_beyond true (table_of W held.here.procedure) num))))

      -- the arm rejects
      rejected : (s : Stepped) (x : ℕ) (σ : State) → instruction_at held.code.entries x ≡ Some i.ArmEnd → Comes W n L.ground x [] s σ
          → Ok s (others (record σ { standing = σ.standing - 1 }))
      unfolding perform steps.reject
      rejected s x σ is h =
          goes_on s h.frames (begun_more h.store) σ (agreed_begun W n L.ground h.frames h.store σ h.agrees)
          (reaches_on W.image s _ _ h.reaches (performed W L.ground held.code held.code_of h.frames h.store x [] i.ArmEnd is arm_end_is))

      -- it resumes
      resumed : (s : Stepped) (us : Values) (σ : State) → ResumesWith W n L.ground L.scope L.code s us σ → Given s us (record σ { standing = σ.standing - 1 })
      unfolding in_arm perform steps.resume steps.resumed steps.can_resume
      resumed s us σ y =
          let h = y.comes in
          let scope = scope_here W A in
          let b = label_gives W ready held.here.procedure held.code held.code_of L.scope scope sig arm.labels y.kinds arm.fit y.labels in
          let size = words_in_all y.kinds in
          let off : popped size (push y.words []) ≡ y.words = ap (λ k. popped k (push y.words [])) (sym y.shown.size) ∙ popped_all y.words [] in
          back s us y.words h.frames (begun_more h.store) (record σ { standing = σ.standing - 1 })
          (is_resumed W sig y.kinds (how_many us) b (ap how_many y.shown.worth ∙ how_many_values (texts_of W) _ 0 y.kinds))
          (subst (λ ks. Show (texts_of W) ks us y.words) (sym (gives_same W sig takes gives y.kinds b has)) y.shown)
          (agreed_out W n G.control G.hold (heres G) _ _ _ _ _ _ h.frames (begun_more h.store) σ (agreed_begun W n L.ground h.frames h.store σ h.agrees))
          (reaches_on W.image s _ _ h.reaches
          (subst (λ x. Reaches W.image (standing L.ground y.offset (push y.words []) h.frames h.store) x)
          (ap (λ z. steps.resumed z W.image (popped size (push y.words [])) (role_of h.frames L.ground.here.part) (fill h.frames T) (begun_more h.store))
          (is_taken_back W ready sig y.kinds b)
          ∙ ap (λ ws. moves.give W.image 0 ws (fill h.frames T) (begun_more h.store)) off)
          (performed W L.ground held.code held.code_of h.frames h.store y.offset (push y.words []) (i.Resume size) y.is_there (resume_is size))))

      -- it jumps
      jumped : (s : Stepped) (f : ℕ) (p : Point) (σ : State) → Jumps W n L.ground E [] s f p σ
          → Ok s (record { answer = Go f p; state = record σ { standing = σ.standing - 1 } })
      unfolding dropped left_to_ask phrases_under procedure_under
      jumped s f p σ j = (spent_more n p (record σ { standing = σ.standing - 1 }) j.agrees.enough, by j.on_way j.is_on_way j.reaches)
        where
          below : j.target.place < length (heres G)
          below = let x = held.targets f p j.target j.found in here_within (heres G) j.target.place x.aimed x.is_there

          by : (y : Stepped) → OnItsWay W L.ground [] j.target j.frames j.store y → Reaches W.image s y
              → Jumps W (suc n) G K.points near s f p (record σ { standing = σ.standing - 1 })
          by y (has_arrived x ops e) r = let lt = below in absurd (omega (arith, lt, e))
          by y (passes search x ops e) r = record {
            target = j.target;
            found = smaller f p j.target j.found;
            frames = j.frames;
            store = j.store;
            agrees = agreed_out W n G.control G.hold (heres G) _ _ _ _ _ _ j.frames j.store σ j.agrees;
            on_way = leaving j.target (search_at false (table W G) o) T j.frames j.store;
            is_on_way = passes (search_at false (table W G) o) o operands
                (asks_all false (table W G) (length (table W G)) o
                ∙ jump_asks W G.here.procedure K.code ctx.code_of G.here.part o near (inside o (omega arith) (omega arith)) around_it);
            reaches = reaches_on W.image s _ _ r (reaches_step W.image (Leaves j.target search (fill j.frames (at L.ground.here x ops ∷ T)) j.store) _
                (drop_step W j.target search L.ground.here x ops T j.frames j.store below e));
          }

      arm_done : (s : Stepped) (a : Answer) (σ : State) → Done W n L [] arm.finish s a σ
          → Ok s (carry (leave (arm_answer l.owner a σ)) (signal.asked W.program sig others))
      unfolding carry leave arm_answer signal.asked give branch in_arm
      arm_done s Normal σ h = rejected s arm.finish σ (own_stands arm.ends) h
      arm_done s (Gives us) σ h = absurd h
      arm_done s (Go f p) σ h = jumped s f p σ h.1
      arm_done s (Resumed us) σ h =
          let b = label_gives W ready held.here.procedure held.code held.code_of L.scope
          (scope_here W A)
          sig arm.labels h.kinds arm.fit h.labels in
          subst (λ z. Ok s (branch z (give (Gives us)) others (record σ { standing = σ.standing - 1 })))
          (sym (is_resumed W sig h.kinds (how_many us) b (ap how_many h.shown.worth ∙ how_many_values (texts_of W) _ 0 h.kinds))) (resumed s us σ h)
      arm_done s Rejected σ h = rejected s h.offset σ h.is_there h.comes
      arm_done s (Retried k) σ h = jumped s l.owner (Start k) σ h.jumps
      arm_done s (Continued k) σ h = jumped s l.owner (After k) σ h.jumps
      arm_done s (Uncaught x) σ h = ended_left W (Uncaught x) s σ (σ.standing - 1) h
      arm_done s Spent σ h = ended_left W Spent s σ (σ.standing - 1) h
      arm_done s FrameLimit σ h = ended_left W FrameLimit s σ (σ.standing - 1) h
      arm_done s Broken σ h = ended_left W Broken s σ (σ.standing - 1) h

      -- the machine finds the arm, and it runs
      arm_found : (S : Activations) (m : Store)
          → sought W (id_of sig) words held.here.procedure (owner_of held.here.part q) (num ∷ beyond true (table_of W held.here.procedure) num) S m
          ≡ entered W held.here.procedure (arms_before (table_of W held.here.procedure) num + arm.number) (owner_of held.here.part q) why words S m
      unfolding first_place
      arm_found S m =
          let table = table_of W held.here.procedure in
          let there : position test (arms_of (slice_get table num)) ≡ Some arm.number =
          ap (λ x. position test (arms_of x))
          (in_table W A) ∙ arm.found in
          ap (λ x. found_on W (id_of sig) words held.here.procedure (owner_of held.here.part q)
          (numbered true table (place_at num x (first_place test table (beyond true table num)))) S m) there

      arm_runs : (s : Stepped) (μ : Frames) (m : Store) (σ : State) → Agrees W (suc n) G μ m σ
          → Reaches W.image s (sought W (id_of sig) words held.here.procedure (owner_of held.here.part q)
          (num ∷ beyond true (table_of W held.here.procedure) num) (fill μ T) m)
          → Ok s (after (run_arm (next W n) l chain first count t vs) (signal.asked W.program sig others) σ)
      unfolding run_arm arm_body after carry change signal.asked give
      arm_runs s μ m σ h r =
          let p = held.here.procedure in
          let frame : Numbered = record { number = l.owner; procedure = p } in
          let ν = with_words μ l.owner (put_words (μ l.owner) (local_slot held.code first) (take (words_from held.code.locals first count) words)) in
          let new : meaning.Store = put_parameters l first count vs σ.store in
          let entered_it = subst (λ x. Reaches W.image s x)
          (arm_found (fill μ T) m
          ∙ arm_entered W A σ.store.fresh μ words m h.falling) r in
          let laid = parameters_put W ready p held.code held.code_of held.scope held.scope_in sig G.hold μ σ.store l
          (number_below σ.store.fresh (heres G) (owner_of held.here.part q) frame h.falling held.is_frame)
          (agreed_named W (suc n) G.control G.hold (heres G) μ m σ (owner_of held.here.part q) frame h held.is_frame) h.laid
          arm.labels arm.fit first takes gives has vs words shown arm.kinds count arm.as_many arm.locals arm.given in
          spend_on W n G.control G.hold (heres G) (λ s r. Ok s (carry r (signal.asked W.program sig others))) s μ m σ _ _ entered_it h (λ z. z) (λ turns e h1 r1.
          let m1 = record m { turns = turns } in
          let σ1 : State = record σ { turns = turns } in
          enter_on W n G.control G.hold (heres G) (λ s r. Ok s (carry r (signal.asked W.program sig others))) s _ (fill ν T) m1 σ1 _
          (h.count ∙ sym (fill_long ν T)) r1 h1.beside (λ z. z) (λ r2.
          let τ : State = record σ1 { standing = σ.standing + 1; store = new } in
          let x = next W n t L.meant τ in
          arm_done s x.answer x.state
          (done_later W n L [] arm.finish s (standing L.ground arm.start [] ν m1) x.answer x.state r2
          (ih.statement t L (arm_place W A) arm.start arm.finish ν m1 τ arm.code arm.sound (arm_context W A) (arm_inside W A)
          (agreed_in W n G.control G.hold (heres G) p (owner_of held.here.part q) q _ _ why μ ν m1 σ1 new (only_parameters l first count vs σ.store) laid h1)))))

    -- a phrase is asked
    phrase_asked : (x : signal.Arm) → IsFirst held.code (in_region held.place) held.scope held.statement (hidden_arms held.arms)
        (is_for W.program held.here.procedure.instance sig) test held.phrase.arms x
        → (s : Stepped) (μ : Frames) (m : Store) (σ : State) → Agrees W (suc n) G μ m σ
        → Reaches W.image s (sought W (id_of sig) words held.here.procedure (owner_of held.here.part q)
        (num ∷ beyond true (table_of W held.here.procedure) num) (fill μ T) m)
        → Ok s (ask_arm W.program (next W n) sig x l chain vs others σ)
    unfolding ask_arm first_place
    phrase_asked NoArm none s μ m σ h r =
        let table = table_of W held.here.procedure in
        let there : position test (arms_of (slice_get table num)) ≡ None =
        ap (λ x. position test (arms_of (slice_get x num))) (table_is W held.here.procedure held.code held.code_of)
        ∙ ap (λ x. position test (arms_of x)) held.is_coded ∙ none in
        on μ m σ s h (subst (λ x. Reaches W.image s x)
        (ap (λ x. found_on W (id_of sig) words held.here.procedure (owner_of held.here.part q)
        (numbered true table (place_at num x (first_place test table (beyond true table num)))) (fill μ T) m) there) r)
    phrase_asked (TheArm first count t) arm s μ m σ h r = arm_runs first count t arm s μ m σ h r

  -- the same frame, and its procedure
  sought_same : (a b : Here) (q r : ℕ) (numbers : List ℕ) (S : Activations) (m : Store) → a.procedure ≡ b.procedure → owner_of a.part q ≡ owner_of b.part r
      → sought W (id_of sig) words a.procedure (owner_of a.part q) numbers S m ≡ sought W (id_of sig) words b.procedure (owner_of b.part r) numbers S m
  sought_same a b q r numbers S m e d =
      ap (λ p. sought W (id_of sig) words p (owner_of a.part q) numbers S m) e ∙ ap (λ own. sought W (id_of sig) words b.procedure own numbers S m) d

  -- past a frame are the phrases around the activation under it
  goes_under : (r : ℕ) (waits : Act) → act_at G.below r ≡ Some waits → (μ : Frames) (m : Store)
      → Reaches W.image (steps.outward W.image (id_of sig) words (suc r) (fill μ T) m)
      (sought W (id_of sig) words waits.here.procedure (owner_of waits.here.part r)
      (around true (table_of W waits.here.procedure) (length (table_of W waits.here.procedure)) waits.offset) (fill μ T) m)
  unfolding steps.outward with steps.around phrases_under procedure_under
  goes_under r waits e μ m =
      let lt = act_within G.below r waits e in
      let there = act_push (at G.here o operands) G.below r lt ∙ e in
      let table = table_of W waits.here.procedure in
      reaches_on W.image _ _ _
      (reaches_same W.image _ (Goes (Seeks (id_of sig) words r (search_at true table waits.offset) (fill μ T) m))
      (ap (λ x. with x m λ b. Goes (Seeks (id_of sig) words r (steps.around W.image b) (fill μ T) m)) (fill_at μ T r waits there)))
      (reaches_step W.image (Seeks (id_of sig) words r (search_at true table waits.offset) (fill μ T) m) _
      (seek_is W μ T r waits (id_of sig) words (search_at true table waits.offset) m there
      ∙ ap (λ numbers. sought W (id_of sig) words waits.here.procedure (owner_of waits.here.part r) numbers (fill μ T) m)
      (asks_all true table (length table) waits.offset)))

  here_of_act : (S : Standing) (q : ℕ) (a : Act) → act_at S q ≡ Some a → here_at (bare S) q ≡ Some a.here
  here_of_act [] q a e = absurd (none-some a e)
  here_of_act (c ∷ S) q a e = ap (λ k. if nat_eq q k then Some c.here else here_at (bare S) q) (bare_long S)
      ∙ by (λ d. here_of_act S q a d) (nat_eq q (length S)) e
    where
      by : (act_at S q ≡ Some a → here_at (bare S) q ≡ Some a.here) → (b : Bool) → (if b then Some c else act_at S q) ≡ Some a
          → (if b then Some c.here else here_at (bare S) q) ≡ Some a.here
      by h true e = ap (λ (x : Act). Some x.here) (same_Some c a e)
      by h false e = h e

  -- the chain is asked
  ask_follows : (D : Dictionary) (F : Floor) (q : ℕ) (numbers : List ℕ) (chain : List Enabled) → Asks W G.here G.below G.hold D F q numbers chain
      → Within D K.points
      → (h : Here) → here_at (heres G) q ≡ Some h → (s : Stepped) (μ : Frames) (m : Store) (σ : State) → Agrees W (suc n) G μ m σ
      → Reaches W.image s (sought W (id_of sig) words h.procedure (owner_of h.part q) numbers (fill μ T) m) → Ok s (ask W.program (next W n) sig vs chain σ)
  unfolding ask first_arm first_place give steps.outward EndsAs
  ask_follows D F q numbers chain (asks_end here number e part) smaller h is s μ m σ agrees r =
      let same : owner_of h.part 0 ≡ 0 = ap (λ (x : Here). owner_of x.part 0) (same_Some h here (sym is ∙ e)) ∙ ap (λ x. owner_of x 0) part in
      let r2 = subst (λ own. Reaches W.image s (steps.outward W.image (id_of sig) words own (fill μ T) m)) same r in
      record {
        end = machine.Ended (end.Uncaught (id_of sig));
        last = m;
        ends = r2.by (machine.Ended (end.Uncaught (id_of sig))) m (stops (machine.Ended (end.Uncaught (id_of sig))) m);
        alike = refl;
        output = agrees.beside.output;
        turns = agrees.beside.turns;
        input = agrees.beside.input;
      }
  ask_follows D F q numbers chain (asks_out {q = x} here number waits e part w rest) smaller h is s μ m σ agrees r =
      let same : owner_of h.part (suc x) ≡ suc x = ap (λ (y : Here). owner_of y.part (suc x)) (same_Some h here (sym is ∙ e))
      ∙ ap (λ y. owner_of y (suc x)) part in
      let r2 = subst (λ own. Reaches W.image s (steps.outward W.image (id_of sig) words own (fill μ T) m)) same r in
      let lt = act_within G.below x waits w in
      let there = here_push G.here (bare G.below) x (let long = bare_long G.below in omega (arith, long, lt)) ∙ here_of_act G.below x waits w in
      ask_follows D F x _ chain rest smaller waits.here there s μ m σ agrees (reaches_on W.image s _ _ r2 (goes_under x waits w μ m))
  ask_follows D F q numbers chain (asks_arm here own holder place number why e part lt rest) smaller h is s μ m σ agrees r =
      let same = same_Some h here (sym is ∙ e) in
      let u = under W (heres G) ctx.nested q here e in
      let a = subst (λ x. PartStands W here.procedure x u.below) part u.stands in
      ask_follows D F holder numbers chain rest smaller a.above (u.heres holder a.above a.is_holder) s μ m σ agrees
      (subst (λ x. Reaches W.image s x)
      (sought_same h a.above q holder numbers (fill μ T) m (ap (λ (x : Here). x.procedure) same ∙ sym a.same_procedure)
      (ap (λ (x : Here). owner_of x.part q) same ∙ ap (λ x. owner_of x q) part ∙ sym a.same_frame)) r)
  ask_follows D F q numbers chain (asks_here {n = num} {l = l} {chain = more} E C held within low top rest) smaller h is s μ m σ agrees r =
      let same = same_Some h held.here (sym is ∙ held.is_there) in
      let less : Within E K.points = λ f p t e. smaller f p t (within f p t e) in
      let fits = is_for W.program held.here.procedure.instance sig in
      let test : Arm → Bool = λ a. fits_signal (links_of W.image held.here.procedure.instance) (id_of sig) a in
      let x = first_is held.code held.scope held.statement fits test
      (λ ls sound first count a b. labels_agree W ready held.here.procedure held.code held.code_of held.scope held.scope_in sig ls sound)
      held.regions held.arms_in in
      subst (λ ph. Ok s (ask_arm W.program (next W n) sig (first_arm (is_for W.program l.instance sig) ph) l more vs
      (ask W.program (next W n) sig vs more) σ)) (sym held.is_phrase)
      (subst (λ j. Ok s (ask_arm W.program (next W n) sig (first_arm (is_for W.program j sig) (Catch held.statement held.arms)) l more vs
      (ask W.program (next W n) sig vs more) σ)) held.instance
      (phrase_asked E C less l q num held more rest (ask W.program (next W n) sig vs more)
      (λ μ m σ s agrees r. ask_follows E C q _ more rest less held.here held.is_there s μ m σ agrees r)
      (arm_in fits held.arms) x s μ m σ agrees
      (subst (λ x. Reaches W.image s x)
      (sought_same h held.here q q (num ∷ beyond true (table_of W held.here.procedure) num) (fill μ T) m (ap (λ (x : Here). x.procedure) same)
      (ap (λ (x : Here). owner_of x.part q) same)) r)))

  act_top : (a : Act) (S : Standing) → act_at (a ∷ S) (length (bare S)) ≡ Some a
  act_top a S = ap (λ b. if b then Some a else act_at S (length (bare S))) (eq-eqb (length (bare S)) (length S) (bare_long S))

  -- a turn is spent, and the chain is asked
  pub raised : (s : Stepped) (μ : Frames) (m : Store) (σ : State) → Agrees W (suc n) G μ m σ
      → Reaches W.image s (steps.raise W.image (id_of sig) words (filled μ (at G.here o operands)) (fill μ G.below) m)
      → Ok s (signal.raise W.program (next W n) K.meant sig vs σ)
  unfolding steps.raise signal.raise steps.around phrases_under procedure_under give
  raised s μ m σ agrees r =
      spend_on W n G.control G.hold (heres G) Ok s μ m σ _ (ask W.program (next W n) sig vs K.meant.chain) r agrees (λ z. z) (λ turns e h1 r1.
      let m1 = record m { turns = turns } in
      let search = search_at true (table W G) o in
      let a = at G.here o operands in
      let lt = h1.enough in
      ask_follows K.points K.floor (top G) (asked_from W G near) K.meant.chain ctx.chain (λ f p t e. e) G.here (here_top G.here (bare G.below)) s μ m1
      (record σ { turns = turns })
      (agreed_bound W n (suc n) G.control G.hold (heres G) μ m1 (record σ { turns = turns }) (omega (arith, lt)) h1)
      (reaches_on W.image s _ _ r1
      (reaches_on W.image _ _ _ (reaches_same W.image _ _ (ap (λ q. Goes (Seeks (id_of sig) words q search (fill μ T) m1)) (fill_long μ G.below)))
      (reaches_step W.image (Seeks (id_of sig) words (top G) search (fill μ T) m1) _
      (seek_is W μ T (top G) a (id_of sig) words search m1 (act_top a G.below)
      ∙ ap (λ numbers. sought W (id_of sig) words G.here.procedure (own G) numbers (fill μ T) m1)
      (asks_all true (table W G) (length (table W G)) o
      ∙ raise_asks W G.here.procedure K.code ctx.code_of G.here.part o near (inside o (omega arith) (omega arith)) around_it))))))

pub raise_follows : (W : World) → Ready W → (n : ℕ) → NextFollows W n → RaiseFollows W n
raise_follows W ready n ih K points near from to sig takes gives vs words o operands μ m σ Given ctx around_it inside has shown agrees back s r =
    raised W ready n ih K points near from to ctx sig takes gives vs words has shown o operands around_it inside Given back s μ m σ agrees r
