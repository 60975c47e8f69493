-- An arm of a phrase that is asked runs on top of what stands: its site, and how the machine and the meaning enter it.
use Rattle.std.proofs.Common.{◌≡◌, ⊎_elim, ℕ, ◌+◌, ◌<◌, List, [], ◌∷◌, length, Bool, true, Some, refl, ap, ◌∙◌, arith}
use Rattle.std.specs.Prelude.{nat_le, nat_lt, slice_get, flat_map, take}
use Rattle.std.proofs.lemmas.Bool.{and_from, le-leb, lt-ltb}
use Rattle.std.proofs.lemmas.Option.{none-some, slice_get_within}
use Rattle.mesa_types.specs.declared.typed_parts.Label.{Label}
use Rattle.mesa_types.specs.Typed.{Stmt}
use Rattle.mesa_types.specs.Counts.{hidden, hidden_arms}
use Rattle.mesa_types.specs.Sound.{in_arm}
use Rattle.code_forms.specs.declared.module_code.Arm.{Arm}
use Rattle.code_forms.specs.declared.module_code.Phrase.{Phrase}
use Rattle.code_forms.specs.declared.instruction.Instruction.{Instruction}
use Rattle.code_forms.specs.Instructions.{bytes_of}
use Rattle.agreement_rules.proofs.Lifted.{found_there}
use Rattle.code_forms.specs.Regions.{region_at}
use Rattle.signaller.specs.declared.place.Place as phrase_place
use Rattle.signaller.specs.declared.search.Found.{Found}
use Rattle.signaller.specs.declared.search.Found.TheVariants.{Arm as FoundArm, Beyond}
use Rattle.signaller.specs.declared.search.Search.{Search}
use Rattle.signaller.specs.declared.signal_id.SignalId.{SignalId}
use Rattle.signaller.specs.Search.{arms_of, arms_before, asked, beyond, numbered, first_place, fits_signal, next_arm}
use Rattle.signaller.proofs.Numbering.{numbers_arms}
use Rattle.source_meaning.specs.State.{ProcedureId}
use Rattle.source_meaning.specs.Variables.{Enabled}
use Rattle.machine_rules.specs.State.{Why, ForRaise, InArm, Active, Activations, Store, Seeks, Stepped}
use Rattle.machine_rules.specs.Words.{put_words}
use Rattle.machine_rules.specs.LookUps.{procedure_under, phrases_under, arm_under, instruction_at, links_of}
use Rattle.machine_rules.specs.Activations.{variables_in, variables_of, set_variables}
use Rattle.machine_rules.specs.Moves as moves
use Rattle.machine_rules.specs.Moves.{with}
use Rattle.machine_rules.specs.Signals as signals
use Rattle.machine_rules.specs.Signals.{put_at, enter_arm, outward}
use Rattle.machine_rules.specs.Steps.{step}
use Rattle.code_rules.specs.CodeFor.{arm_from}
use Rattle.code_rules.specs.Reading.{Coded, Place, Own, in_region, one_more, no_more}
use Rattle.agreement_laws.specs.World.{World, ScopeIn}
use Rattle.agreement_laws.specs.Standing.{IsFrame, IsArm, Here, Act, Standing, at, bare, Frames, filled, fill, act_at, here_at, owner_of, Numbered, numbered as numbered_here, frame_at, table_of, Falling, Nested}
use Rattle.agreement_laws.specs.Relation.{Hold, Ground}
use Rattle.agreement_laws.specs.Chains.{Dictionary, Floor, HoldsStanding, Held, Asks, asks_arm}
use Rattle.agreement_laws.specs.Contexts.{Site, Context, Inside}
use Rattle.agreement_laws.proofs.Codes.{table_is}
use Rattle.agreement_laws.proofs.Moving.{room_part}
use Rattle.agreement_laws.proofs.Pushing.{targets_push, holds_push, room_push, arm_finds, asks_push}
use Rattle.agreement_laws.proofs.Regions.{beyond_below}
use Rattle.agreement_laws.proofs.Searching.{FirstArm}
use Rattle.agreement_laws.proofs.Stacks.{fill_at, owner_same, here_top, here_push, frame_push, here_within, frame_within, frame_cases, numbered_part, numbered_procedure, frame_found, fill_set, with_words}

-- The machine's search.

-- the arm of a number of the phrases of a procedure is run, for a frame at a place
abbrev pub entered : World → ProcedureId → (number own : ℕ) → Why → List ℕ → Activations → Store → Stepped
entered W p number own why words S m =
    with (slice_get (flat_map (λ (q : Phrase). q.arms) (table_of W p)) number) m λ arm.
    moves.spend m λ m1. moves.enter (record {
      instance = p.instance;
      procedure = p.number;
      offset = arm.start;
      operands = [];
      role = InArm own number why;
    }) (put_at S own arm.slot (take arm.words words)) m1

pub enters : (W : World) (μ : Frames) (a : Act) (number q : ℕ) (why : Why) (words : List ℕ) (S : Activations) (m : Store)
    → enter_arm W.image number (filled μ a) q why words S m ≡ entered W a.here.procedure number (owner_of a.here.part q) why words S m
unfolding enter_arm arm_under phrases_under procedure_under
enters W μ a number q why words S m = ap (λ own. entered W a.here.procedure number own why words S m) (owner_same μ a.here.part q)

-- what is found of the phrases of a procedure, for a frame at a place
abbrev pub found_on : World → SignalId → List ℕ → ProcedureId → (own : ℕ) → Found → Activations → Store → Stepped
found_on W signal args p own Beyond S m = outward W.image signal args own S m
found_on W signal args p own (FoundArm number rest) S m = entered W p number own (ForRaise signal args rest) args S m

abbrev pub sought : World → SignalId → List ℕ → ProcedureId → (own : ℕ) → (numbers : List ℕ) → Activations → Store → Stepped
sought W signal args p own numbers S m =
    found_on W signal args p own (numbered true (table_of W p) (first_place (fits_signal (links_of W.image p.instance) signal) (table_of W p) numbers)) S m

asked_is : (W : World) (μ : Frames) (a : Act) (signal : SignalId) (args : List ℕ) (q : ℕ) (found : Found) (S : Activations) (m : Store)
    → signals.asked W.image signal args (filled μ a) q found S m ≡ found_on W signal args a.here.procedure (owner_of a.here.part q) found S m
unfolding signals.asked
asked_is W μ a signal args q Beyond S m = ap (λ own. outward W.image signal args own S m) (owner_same μ a.here.part q)
asked_is W μ a signal args q (FoundArm number rest) S m = enters W μ a number q (ForRaise signal args rest) args S m

pub seek_is : (W : World) (μ : Frames) (T : Standing) (q : ℕ) (a : Act) (signal : SignalId) (args : List ℕ) (search : Search) (m : Store) → act_at T q ≡ Some a
    → step W.image (Seeks signal args q search (fill μ T) m)
    ≡ sought W signal args a.here.procedure (owner_of a.here.part q) (asked true (table_of W a.here.procedure) search.phrase) (fill μ T) m
unfolding step signals.seek with phrases_under procedure_under
seek_is W μ T q a signal args search m e =
    ap (λ o. with o m (λ b. signals.asked W.image signal args b q (next_arm (phrases_under W.image b) search (links_of W.image b.instance) signal)
    (fill μ T) m)) (fill_at μ T q a e)
    ∙ asked_is W μ a signal args q _ (fill μ T) m

-- the frame itself, by its place
pub record FrameHere (B : List Here) (q : ℕ) (k : Numbered) : Type 0 where
  pub here : Here
  pub is_there : here_at B q ≡ Some here
  pub part : here.part ≡ IsFrame k.number
  pub procedure : here.procedure ≡ k.procedure

pub frame_here : (B : List Here) (q : ℕ) (k : Numbered) → frame_at B q ≡ Some k → FrameHere B q k
frame_here [] q k e = absurd (none-some k e)
frame_here (h ∷ B) q k e = ⊎_elim
    (λ (d : (q ≡ length B) × (numbered_here h.procedure h.part ≡ Some k)). record {
      here = h;
      is_there = ap (λ n. here_at (h ∷ B) n) d.0 ∙ here_top h B;
      part = numbered_part h.procedure h.part k d.1;
      procedure = numbered_procedure h.procedure h.part k d.1;
    })
    (λ (d : frame_at B q ≡ Some k).
    let x = frame_here B q k d in
    record { here = x.here; is_there = here_push h B q (frame_within B q k d) ∙ x.is_there; part = x.part; procedure = x.procedure })
    (frame_cases h B q k e)

-- one instruction

pub own_ends : {P : Coded} {w : Place} {i : Instruction} {a b : ℕ} → Own P w (i ∷ []) a b → b ≡ a + bytes_of i
own_ends (one_more r no_more) = refl

pub own_stands : {P : Coded} {w : Place} {i : Instruction} {a b : ℕ} → Own P w (i ∷ []) a b → instruction_at P.entries a ≡ Some i
own_stands {P = P} {a = a} (one_more r no_more) = (found_there P.entries a _ _ r).0

-- The arm of a phrase of the chain, over a stack: the activation on top, those below, the hidden words that are held; the phrase with its
-- points, floor and place in the chain; why it runs; and which arm it is.
pub record Asked (W : World) : Type 0 where
  pub over : Here
  pub below : Standing
  pub hold : Hold
  pub control : List ℕ
  pub offset : ℕ
  pub operands : List ℕ
  pub nested : Nested W (over ∷ bare below)
  pub holds : HoldsStanding (over ∷ bare below) hold
  pub points : Dictionary
  pub floor : Floor
  pub enabled : Enabled
  pub holder : ℕ
  pub phrase : ℕ
  pub held : Held W (over ∷ bare below) points hold floor enabled holder phrase
  pub chain : List Enabled
  pub rest : Asks W over below hold points floor holder (beyond true (table_of W held.here.procedure) phrase) chain
  pub why : Why
  pub fits : Label → Bool
  pub test : Arm → Bool
  pub first : ℕ
  pub count : ℕ
  pub statement : Stmt
  pub arm : FirstArm held.code (in_region held.place) held.scope held.statement (hidden_arms held.arms) fits test first count statement held.phrase.arms

module _ (W : World) (x : Asked W) where
  abbrev pub stack : Standing
  stack = at x.over x.offset x.operands ∷ x.below

  abbrev B : List Here
  B = x.over ∷ bare x.below

  abbrev p : ProcedureId
  p = x.held.here.procedure

  abbrev pub own : ℕ
  own = owner_of x.held.here.part x.holder

  abbrev place : phrase_place.Place
  place = record { phrase = x.phrase; arm = x.arm.number }

  abbrev pub number : ℕ
  number = arms_before (table_of W p) x.phrase + x.arm.number

  abbrev region : Arm
  region = arm_from x.held.code x.arm.labels x.first x.count x.arm.start x.arm.end

  abbrev arm_here : Here
  arm_here = record { procedure = p; part = IsArm own x.holder place number x.why }

  abbrev pub arm_ground : Ground
  arm_ground = record { here = arm_here; below = stack; hold = x.hold; control = x.control }

  abbrev pub arm_site : Site
  arm_site = record {
    ground = arm_ground;
    code = x.held.code;
    scope = in_arm x.held.statement x.arm.labels x.held.scope;
    meant = record { frame = x.enabled.owner; instance = x.enabled.instance; chain = x.chain };
    points = x.points;
    floor = x.floor;
  }

  abbrev pub arm_place : Place
  arm_place = record (in_region x.held.place) { slot = x.arm.slot }

  abbrev frame : Numbered
  frame = record { number = x.enabled.owner; procedure = p }

  within : x.holder < length B
  within = here_within B x.holder x.held.here x.held.is_there

  pub in_table : slice_get (table_of W p) x.phrase ≡ Some x.held.phrase
  in_table = ap (λ t. slice_get t x.phrase) (table_is W p x.held.code x.held.code_of) ∙ x.held.is_coded

  pub region_there : slice_get (arms_of (slice_get (table_of W p) x.phrase)) x.arm.number ≡ Some region
  region_there = ap (λ y. slice_get (arms_of y) x.arm.number) in_table ∙ x.arm.is_region

  pub arm_there : slice_get (flat_map (λ (y : Phrase). y.arms) (table_of W p)) number ≡ Some region
  arm_there =
      numbers_arms (table_of W p) place (record { phrase = x.held.phrase; is = in_table; arm = slice_get_within x.held.phrase.arms x.arm.number region x.arm.is_region })
      ∙ region_there

  pub scope_here : ScopeIn W p (in_arm x.held.statement x.arm.labels x.held.scope)
  unfolding in_arm
  scope_here = record {
    globals = x.held.scope_in.globals;
    locals = x.held.scope_in.locals;
    takes = x.held.scope_in.takes;
    gives = x.held.scope_in.gives;
    procedures = x.held.scope_in.procedures;
    signals = x.held.scope_in.signals;
    imports = x.held.scope_in.imports;
    strings = x.held.scope_in.strings;
  }

  pub arm_context : Context W arm_site arm_place.points [] arm_place.slot (arm_place.slot + hidden x.statement)
  unfolding in_arm
  arm_context = record {
    code_of = x.held.code_of;
    scope_in = scope_here;
    instance = x.held.instance;
    is_frame = frame_push arm_here B own (frame_within B own frame x.held.is_frame) ∙ x.held.is_frame;
    nested = (
      record {
        frame = x.enabled.owner;
        is_frame = x.held.is_frame;
        above = x.held.here;
        is_holder = x.held.is_there;
        same_frame = refl;
        same_procedure = refl;
        phrase = x.held.phrase;
        is_phrase = in_table;
        arm = region;
        is_arm = x.arm.is_region;
        its_number = refl;
        held = ap (λ t. region_at t x.held.phrase.from) (table_is W p x.held.code x.held.code_of) ∙ x.held.inside;
        apart = x.held.apart;
      },
      x.nested,
    );
    fresh = record { starts = x.held.fresh.starts; afters = x.held.fresh.afters; labels = x.held.fresh.labels };
    targets = targets_push W arm_here B x.points x.held.targets;
    finds = arm_finds x.points x.enabled.owner own x.holder (length B) x.held.place.points within x.held.finds;
    chain = asks_arm arm_here own x.holder place number x.why (here_top arm_here B) refl within
        (asks_push W arm_here x.over x.offset x.operands x.below x.hold x.points x.floor x.holder (beyond true (table_of W p) x.phrase) x.chain
        (omega arith, λ e. beyond_below true (table_of W p) x.phrase) x.rest);
    room =
        let low = x.arm.low in let high = x.arm.high in let fit = x.held.fits in
        room_push W p arm_here B x.hold x.floor x.enabled.owner x.arm.slot (x.arm.slot + hidden x.statement)
        (room_part W p B x.hold x.floor x.enabled.owner x.held.place.slot x.held.upto x.arm.slot (x.arm.slot + hidden x.statement) low (omega arith)
        (omega (arith, high, fit)) x.held.room);
    holds = holds_push arm_here B x.hold x.holds;
  }

  pub arm_inside : Inside W arm_ground x.arm.start x.arm.finish
  arm_inside z low high =
      let end = own_ends x.arm.ends in
      (region, region_there, and_from (nat_le x.arm.start z) (nat_lt z x.arm.end) (le-leb x.arm.start z low) (lt-ltb z x.arm.end (omega (arith, high, end))))

  abbrev entering : (start : ℕ) → Active
  entering start = record { instance = p.instance; procedure = p.number; offset = start; operands = []; role = InArm own number x.why }

  -- the machine enters it
  pub arm_entered : (fresh : ℕ) (μ : Frames) (words : List ℕ) (m : Store) → Falling fresh B
      → entered W p number own x.why words (fill μ stack) m
      ≡ moves.spend m (λ m1.
      let ν = with_words μ x.enabled.owner (put_words (μ x.enabled.owner) region.slot (take region.words words)) in
      moves.enter (filled ν (at arm_here x.arm.start [])) (fill ν stack) m1)
  unfolding with put_at variables_of variables_in
  arm_entered fresh μ words m falling =
      let f = frame_found μ stack own frame x.held.is_frame in
      let taken = take region.words words in
      ap (λ y. with y m λ a. moves.spend m λ m1. moves.enter (entering a.start) (put_at (fill μ stack) own a.slot (take a.words words)) m1) arm_there
      ∙ ap (λ y. moves.spend m λ m1. moves.enter (entering x.arm.start) (set_variables (fill μ stack) own (put_words (variables_of y) region.slot taken)) m1) f.is
      ∙ ap (λ r. moves.spend m λ m1. moves.enter (entering x.arm.start)
      (set_variables (fill μ stack) own (put_words (variables_in r) region.slot taken)) m1) f.role
      ∙ ap (λ T. moves.spend m λ m1. moves.enter (entering x.arm.start) T m1)
      (fill_set fresh μ stack own frame (put_words (μ x.enabled.owner) region.slot taken) falling x.held.is_frame)
