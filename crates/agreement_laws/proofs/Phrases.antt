-- Code in the range of a phrase: its site, and what comes out through the phrase.
use Rattle.std.proofs.Common.{◌≡◌, ℕ, suc, ◌+◌, ◌<◌, ◌≤◌, List, ◌∷◌, ◌++◌, Bool, true, false, Option, Some, refl, sym, ap, ◌∙◌, subst, arith}
use Rattle.std.specs.Prelude.{nat_eq, if◌then◌else◌}
use Rattle.std.proofs.lemmas.Bool.{eq-eqb, eqb-true}
use Rattle.std.proofs.lemmas.Option.{same_Some}
use Rattle.mesa_types.specs.Typed.{Start, After, Arms, Phrase, NoPhrase, Catch}
use Rattle.mesa_types.specs.Counts.{hidden_arms, hidden_phrase}
use Rattle.mesa_types.specs.Sound.{PhraseIn}
use Rattle.code_forms.specs.declared.module_code.Arm.{Arm}
use Rattle.code_forms.specs.Regions.{region_at}
use Rattle.source_meaning.specs.Value.{Values}
use Rattle.source_meaning.specs.State.{State, Answer, Normal, Gives, Go, Resumed, Rejected, Retried, Continued, Uncaught, Spent, FrameLimit, Broken, Result, give, branch}
use Rattle.source_meaning.specs.Signals.{catching, first_arm, unwind, through_of}
use Rattle.machine_rules.specs.State.{Target, Stepped}
use Rattle.code_rules.specs.CodeFor.{PhraseCode, no_phrase, no_range, catch}
use Rattle.code_rules.specs.Laws.{Run, ends, goes}
use Rattle.code_rules.specs.Reading.{Coded, Place, phrases_around}
use Rattle.agreement_rules.proofs.Lifted.{found_there}
use Rattle.agreement_laws.specs.World.{World, Ready}
use Rattle.agreement_laws.specs.Standing.{Here, Numbered, frame_at}
use Rattle.agreement_laws.specs.Relation.{Ground, heres, top, own}
use Rattle.agreement_laws.specs.Chains.{Floor, FloorStands, Room, Asks, asks_here}
use Rattle.agreement_laws.specs.Contexts.{Site, Context, InPlace, Inside, asked_from}
use Rattle.agreement_laws.specs.Answers.{Answered, Done}
use Rattle.agreement_laws.specs.Promises.{next, NextFollows, floor_from, caught, PhraseFollows, PhrasesFollow}
use Rattle.agreement_laws.proofs.Codes.{table_is}
use Rattle.agreement_laws.proofs.Going.{passed_answered, passed_done}
use Rattle.agreement_laws.proofs.Chained.{asks_wider}
use Rattle.agreement_laws.proofs.Regions.{region_in}
use Rattle.agreement_laws.proofs.Unwinding.{Ranges, enabled, held_here, outward, rest_here, stays_inside, goes_through}

-- The floor of the hidden words of the phrase's arms.

floor_here : (F : Floor) (f z : ℕ) → floor_from F f z f ≡ z
floor_here F f z = ap (λ b. if b then z else F f) (eq-eqb f f refl)

floor_more : (F : Floor) (f z : ℕ) → F f ≤ z → (g : ℕ) → F g ≤ floor_from F f z g
floor_more F f z le g = by (nat_eq g f) refl
  where
    by : (b : Bool) → nat_eq g f ≡ b → F g ≤ (if b then z else F g)
    by true e = let same = ap F (eqb-true g f e) in omega (arith, le, same)
    by false e = omega arith

floor_stands : (B : List Here) (F : Floor) (f z q : ℕ) (k : Numbered) → frame_at B q ≡ Some k → k.number ≡ f → FloorStands B F → FloorStands B (floor_from F f z)
floor_stands B F f z q k is number x g v = by (nat_eq g f) refl
  where
    by : (b : Bool) → nat_eq g f ≡ b → (if b then z else F g) ≡ suc v → (r : ℕ) × (n : Numbered) × (frame_at B r ≡ Some n) × (n.number ≡ g)
    by true e h = (q, k, is, number ∙ sym (eqb-true g f e))
    by false e h = x g v h

-- the range begins with the phrases around it
begins : {P : Coded} {around : List ℕ} {a b : ℕ} → Run P around a b → a < b → (inner : List ℕ) × (phrases_around P.routine.phrases a ≡ inner ++ around)
begins ends lt = absurd (omega (arith, lt))
begins {P = P} {a = a} (goes r inner is inside p) lt = (inner, (found_there P.entries a (phrases_around P.routine.phrases a) r is).1 ∙ inside)

-- one point has one target
below_same : (o : Option Target) (t u : Target) (q : ℕ) → o ≡ Some t → o ≡ Some u → t.place < q → u.place < q
below_same o t u q e d lt = let same = ap (λ (x : Target). x.place) (same_Some t u (sym e ∙ d)) in omega (arith, same, lt)

module _ (W : World) (ready : Ready W) (n : ℕ) (ih : NextFollows W n) (K : Site) where
  abbrev G : Ground
  G = K.ground

  -- room over the hidden words of the arms
  room_above : (w : Place) (used words : ℕ) → InPlace W K w (used + words)
      → Room W G.here.procedure (heres G) G.hold (floor_from K.floor K.meant.frame (w.slot + used)) K.meant.frame (w.slot + used) (w.slot + (used + words))
  room_above w used words ctx =
      let room = ctx.room in
      let above = room.above in
      let here = floor_here K.floor K.meant.frame (w.slot + used) in
      record {
        above = omega (arith, above);
        low = omega (arith, here);
        floors = floor_stands (heres G) K.floor K.meant.frame (w.slot + used) (own G)
            (record { number = K.meant.frame; procedure = G.here.procedure }) ctx.is_frame refl room.floors;
        order = omega arith;
        free = λ z low high. room.free z (omega (arith, low)) high;
      }

  -- No phrase.

  module _ (w : Place) (words : ℕ) (ctx : InPlace W K w (hidden_phrase NoPhrase + words)) where
    abbrev upto : ℕ
    upto = w.slot + hidden_phrase NoPhrase

    none_context : Context W (caught NoPhrase upto K) w.points w.around upto (w.slot + (hidden_phrase NoPhrase + words))
    unfolding catching
    none_context = record {
      code_of = ctx.code_of;
      scope_in = ctx.scope_in;
      instance = ctx.instance;
      is_frame = ctx.is_frame;
      nested = ctx.nested;
      fresh = ctx.fresh;
      targets = ctx.targets;
      finds = ctx.finds;
      chain = asks_wider W G.here G.below G.hold K.points K.points K.floor (floor_from K.floor K.meant.frame upto) (top G)
          (asked_from W G w.around) K.meant.chain (λ f p t e. e)
          (floor_more K.floor K.meant.frame upto (let low = ctx.room.low in omega (arith, low))) ctx.chain;
      room = room_above w (hidden_phrase NoPhrase) words ctx;
      holds = ctx.holds;
    }

    branch_same : (b : Bool) (a : Answer) (σ : State) (Q : Result → Type 0) → Q (give a σ) → Q (branch b (give a) (give a) σ)
    unfolding branch
    branch_same true a σ Q h = h
    branch_same false a σ Q h = h

    none_answered : (Given : Stepped → Values → State → Type 0) (s : Stepped) (a : Answer) (σ : State)
        → Answered W (suc n) (caught NoPhrase upto K) w.around Given s a σ
        → Answered W (suc n) K w.around Given s (through_of (next W n) K.meant NoPhrase a σ).answer (through_of (next W n) K.meant NoPhrase a σ).state
    unfolding through_of give unwind first_arm
    none_answered Given s Normal σ h = h
    none_answered Given s (Gives vs) σ h = h
    none_answered Given s (Go f p) σ h = branch_same (nat_eq f K.meant.frame) (Go f p) σ (λ r. Answered W (suc n) K w.around Given s r.answer r.state) h
    none_answered Given s (Resumed vs) σ h = h
    none_answered Given s Rejected σ h = h
    none_answered Given s (Retried k) σ h = h
    none_answered Given s (Continued k) σ h = h
    none_answered Given s (Uncaught x) σ h = h
    none_answered Given s Spent σ h = h
    none_answered Given s FrameLimit σ h = h
    none_answered Given s Broken σ h = h

    none_done : (o : ℕ) (s : Stepped) (a : Answer) (σ : State) → Done W (suc n) (caught NoPhrase upto K) w.around o s a σ
        → Done W (suc n) K w.around o s (through_of (next W n) K.meant NoPhrase a σ).answer (through_of (next W n) K.meant NoPhrase a σ).state
    unfolding through_of give unwind first_arm catching
    none_done o s Normal σ h = h
    none_done o s (Gives vs) σ h = h
    none_done o s (Go f p) σ h = branch_same (nat_eq f K.meant.frame) (Go f p) σ (λ r. Done W (suc n) K w.around o s r.answer r.state) h
    none_done o s (Resumed vs) σ h = h
    none_done o s Rejected σ h = h
    none_done o s (Retried k) σ h = h
    none_done o s (Continued k) σ h = h
    none_done o s (Uncaught x) σ h = h
    none_done o s Spent σ h = h
    none_done o s FrameLimit σ h = h
    none_done o s Broken σ h = h

  -- A phrase with a range.

  module _ (w : Place) (words num from to statement : ℕ) (arms : Arms) (regions : List Arm) (ctx : InPlace W K w (hidden_phrase (Catch statement arms) + words))
      (x : Ranges W K w num from to statement arms regions) where
    abbrev ph : Phrase
    ph = Catch statement arms

    abbrev hi : ℕ
    hi = w.slot + (hidden_phrase ph + words)

    abbrev past : ℕ
    past = w.slot + hidden_phrase ph

    fit : w.slot + hidden_arms arms ≤ hi
    unfolding hidden_phrase
    fit = omega arith

    abbrev inner : Place
    inner = record w { around = num ∷ w.around }

    caught_context : Context W (caught ph past K) inner.points inner.around past hi
    unfolding catching hidden_phrase
    caught_context =
        let low = ctx.room.low in
        let here = floor_here K.floor K.meant.frame past in
        record {
          code_of = ctx.code_of;
          scope_in = ctx.scope_in;
          instance = ctx.instance;
          is_frame = ctx.is_frame;
          nested = ctx.nested;
          fresh = ctx.fresh;
          targets = ctx.targets;
          finds = ctx.finds;
          chain = subst (λ numbers. Asks W G.here G.below G.hold K.points (floor_from K.floor K.meant.frame past) (top G) (num ∷ numbers)
              (enabled W ready n ih K w hi ctx num from to statement arms regions x fit ∷ K.meant.chain))
              (outward W ready n ih K w hi ctx num from to statement arms regions x fit)
              (asks_here K.points K.floor (held_here W ready n ih K w hi ctx num from to statement arms regions x fit) (λ f p t e. e)
              (floor_more K.floor K.meant.frame past (omega (arith, low))) (omega (arith, here))
              (rest_here W ready n ih K w hi ctx num from to statement arms regions x fit));
          room = room_above w (hidden_phrase ph) words ctx;
          holds = ctx.holds;
        }

    caught_answered : (Given : Stepped → Values → State → Type 0) (s : Stepped) (a : Answer) (σ : State)
        → Answered W (suc n) (caught ph past K) inner.around Given s a σ
        → Answered W (suc n) K w.around Given s (through_of (next W n) K.meant ph a σ).answer (through_of (next W n) K.meant ph a σ).state
    unfolding through_of give
    caught_answered Given s Normal σ h = h
    caught_answered Given s (Gives vs) σ h = h
    caught_answered Given s (Go f p) σ h =
        let r = through_of (next W n) K.meant ph (Go f p) σ in
        passed_answered W (suc n) K w.around Given s r.answer r.state
        (goes_through W ready n ih K w hi ctx num from to statement arms regions x fit s f p σ h.0 h.1)
    caught_answered Given s (Resumed vs) σ h = h
    caught_answered Given s Rejected σ h = h
    caught_answered Given s (Retried k) σ h = h
    caught_answered Given s (Continued k) σ h = h
    caught_answered Given s (Uncaught y) σ h = h
    caught_answered Given s Spent σ h = h
    caught_answered Given s FrameLimit σ h = h
    caught_answered Given s Broken σ h = h

    caught_done : (o : ℕ) (s : Stepped) (a : Answer) (σ : State) → Done W (suc n) (caught ph past K) inner.around o s a σ
        → Done W (suc n) K w.around o s (through_of (next W n) K.meant ph a σ).answer (through_of (next W n) K.meant ph a σ).state
    unfolding through_of give catching
    caught_done o s Normal σ h = h
    caught_done o s (Gives vs) σ h = h
    caught_done o s (Go f p) σ h =
        let r = through_of (next W n) K.meant ph (Go f p) σ in
        passed_done W (suc n) K w.around o s r.answer r.state (goes_through W ready n ih K w hi ctx num from to statement arms regions x fit s f p σ h.0 h.1)
    caught_done o s (Resumed vs) σ h = h
    caught_done o s Rejected σ h = h
    caught_done o s (Retried k) σ h =
        let j = stays_inside W ready n ih K w hi ctx num from to statement arms regions x fit s K.meant.frame
        (Start k) σ refl h.jumps in
        record { in_arm = h.in_arm; jumps = j; below = below_same (K.points K.meant.frame (Start k)) h.jumps.target j.target (top G) h.jumps.found j.found h.below }
    caught_done o s (Continued k) σ h =
        let j = stays_inside W ready n ih K w hi ctx num from to statement arms regions x fit s K.meant.frame
        (After k) σ refl h.jumps in
        record { in_arm = h.in_arm; jumps = j; below = below_same (K.points K.meant.frame (After k)) h.jumps.target j.target (top G) h.jumps.found j.found h.below }
    caught_done o s (Uncaught y) σ h = h
    caught_done o s Spent σ h = h
    caught_done o s FrameLimit σ h = h
    caught_done o s Broken σ h = h

  phrase_by : (w v : Place) (ph : Phrase) (from to words : ℕ) → PhraseCode K.code w ph from to v → PhraseIn K.scope ph → from < to → Run K.code v.around from to
      → InPlace W K w (hidden_phrase ph + words) → Inside W K.ground from to → PhraseFollows W n K w v ph words
  unfolding PhraseIn
  phrase_by w v ph from to words no_phrase sound lt run ctx inside = record {
    context = none_context w words ctx;
    expression = λ Given keeps s r h. none_answered w words ctx Given s r.answer r.state h;
    statement = λ o s r h. none_done w words ctx o s r.answer r.state h;
  }
  phrase_by w v ph from to words no_range sound lt run ctx inside = absurd (omega (arith, lt))
  phrase_by w v ph from to words (catch {statement = statement} {arms = arms} num regions longer is code) sound lt run ctx inside =
      let b = begins run lt in
      let x : Ranges W K w num from to statement arms regions = record {
        is_coded = is;
        arms_code = code;
        arms_in = sound.3;
        inner = b.0;
        begins = b.1;
        region =
            ap (λ t. region_at t from) (sym (table_is W G.here.procedure K.code ctx.code_of))
            ∙ region_in W G.here.procedure K.code ctx.code_of G.here.part from (inside from (omega arith) (omega (arith, lt)));
      } in
      record {
        context = caught_context w words num from to statement arms regions ctx x;
        expression = λ Given keeps s r h. caught_answered w words num from to statement arms regions ctx x Given s r.answer r.state h;
        statement = λ o s r h. caught_done w words num from to statement arms regions ctx x o s r.answer r.state h;
      }

pub phrases_follow : (W : World) → Ready W → (n : ℕ) → NextFollows W n → PhrasesFollow W n
phrases_follow W ready n ih K w v ph from to words code sound lt run ctx inside = phrase_by W ready n ih K w v ph from to words code sound lt run ctx inside
