-- How the machine goes on: one step after the other, and what is said of where it comes to is said of where it began.
use Rattle.std.proofs.Common.{◌≡◌, ℕ, List, [], refl, sym, subst}
use Rattle.mesa_types.specs.Typed.{Kinds, Point}
use Rattle.object_files.specs.declared.image.Image.{Image}
use Rattle.source_meaning.specs.Value.{Values}
use Rattle.source_meaning.specs.State.{State, Answer, Normal, Gives, Go, Resumed, Rejected, Retried, Continued, Uncaught, Spent, FrameLimit, Broken, Result, Run, give, value_then}
use Rattle.machine_rules.specs.State as machine
use Rattle.machine_rules.specs.State.{Store, Stepped, Goes}
use Rattle.machine_rules.specs.Words.{push}
use Rattle.machine_rules.specs.Steps.{step, Ends, goes}
use Rattle.agreement_rules.specs.Layout.{Show}
use Rattle.agreement_rules.specs.Reaches.{Reaches}
use Rattle.agreement_rules.proofs.Lifted.{reaches_itself, reaches_on}
use Rattle.agreement_laws.specs.World.{World, texts_of}
use Rattle.agreement_laws.specs.Standing.{Frames}
use Rattle.agreement_laws.specs.Relation.{Ground, Agrees, standing}
use Rattle.agreement_laws.specs.Chains.{Dictionary, Within}
use Rattle.agreement_laws.specs.Contexts.{Site}
use Rattle.agreement_laws.specs.Answers.{Comes, Gave, Jumps, Ended, Answered, Passed, Valued, Done}

-- Steps.

pub reaches_step : (image : Image) (s : machine.State) (t : Stepped) → step image s ≡ t → Reaches image (Goes s) t
reaches_step image s t e = record { by = λ end last x. goes s end last (subst (λ y. Ends image y end last) (sym e) x) }

ends_after : {image : Image} {s : machine.State} {end : machine.Ending} {last : Store} → Ends image (Goes s) end last → Ends image (step image s) end last
ends_after (goes s end last x) = x

-- where two states step alike, the machine ends alike from the one and from the other
pub reaches_back : (image : Image) (s : machine.State) → Reaches image (step image s) (Goes s)
reaches_back image s = record { by = λ end last x. ends_after x }

pub reaches_alike : (image : Image) (s t : machine.State) → step image s ≡ step image t → Reaches image (Goes s) (Goes t)
reaches_alike image s t e = reaches_on image (Goes s) (step image s) (Goes t) (reaches_step image s (step image s) refl)
    (subst (λ x. Reaches image x (Goes t)) (sym e) (reaches_back image t))

pub reaches_same : (image : Image) (s t : Stepped) → s ≡ t → Reaches image s t
reaches_same image s t e = subst (λ x. Reaches image s x) e (reaches_itself image s)

-- What is said of where it comes to.

module _ (W : World) (bound : ℕ) where
  pub comes_later : (G : Ground) (o : ℕ) (operands : List ℕ) (s t : Stepped) (σ : State) → Reaches W.image s t → Comes W bound G o operands t σ → Comes W bound G o operands s σ
  comes_later G o operands s t σ r h = record {
    frames = h.frames;
    store = h.store;
    agrees = h.agrees;
    reaches = reaches_on W.image s t (standing G o operands h.frames h.store) r h.reaches;
  }

  pub gave_later : (G : Ground) (ks : Kinds) (o : ℕ) (rest : List ℕ) (s t : Stepped) (vs : Values) (σ : State) → Reaches W.image s t
      → Gave W bound G ks o rest t vs σ → Gave W bound G ks o rest s vs σ
  gave_later G ks o rest s t vs σ r h =
      record { words = h.words; shown = h.shown; comes = comes_later G o (push h.words rest) s t σ r h.comes }

  abbrev pub jumps_later : (G : Ground) (D : Dictionary) (around : List ℕ) (s t : Stepped) (f : ℕ) (p : Point) (σ : State) → Reaches W.image s t
      → Jumps W bound G D around t f p σ → Jumps W bound G D around s f p σ
  jumps_later G D around s t f p σ r h = record {
    target = h.target;
    found = h.found;
    frames = h.frames;
    store = h.store;
    agrees = h.agrees;
    on_way = h.on_way;
    is_on_way = h.is_on_way;
    reaches = reaches_on W.image s t h.on_way r h.reaches;
  }

  -- in a larger dictionary
  pub jumps_within : (G : Ground) (D E : Dictionary) (around : List ℕ) (s : Stepped) (f : ℕ) (p : Point) (σ : State) → Within D E
      → Jumps W bound G D around s f p σ → Jumps W bound G E around s f p σ
  jumps_within G D E around s f p σ w h = record {
    target = h.target;
    found = w f p h.target h.found;
    frames = h.frames;
    store = h.store;
    agrees = h.agrees;
    on_way = h.on_way;
    is_on_way = h.is_on_way;
    reaches = h.reaches;
  }

  pub ended_later : (a : Answer) (s t : Stepped) (σ : State) → Reaches W.image s t → Ended W a t σ → Ended W a s σ
  ended_later a s t σ r h = record {
    end = h.end;
    last = h.last;
    ends = r.by h.end h.last h.ends;
    alike = h.alike;
    output = h.output;
    turns = h.turns;
    input = h.input;
  }

  -- what is said of values is said of where it began
  abbrev pub Keeps : (Stepped → Values → State → Type 0) → Type 0
  Keeps Given = (s t : Stepped) (vs : Values) (σ : State) → Reaches W.image s t → Given t vs σ → Given s vs σ

  module _ (K : Site) (around : List ℕ) where
    pub answered_later : (Given : Stepped → Values → State → Type 0) → Keeps Given → (s t : Stepped) (a : Answer) (σ : State) → Reaches W.image s t
        → Answered W bound K around Given t a σ → Answered W bound K around Given s a σ
    answered_later Given keeps s t Normal σ r h = h
    answered_later Given keeps s t (Gives vs) σ r h = keeps s t vs σ r h
    answered_later Given keeps s t (Go f p) σ r h = (h.0, jumps_later K.ground K.points around s t f p σ r h.1)
    answered_later Given keeps s t (Resumed vs) σ r h = h
    answered_later Given keeps s t Rejected σ r h = h
    answered_later Given keeps s t (Retried n) σ r h = h
    answered_later Given keeps s t (Continued n) σ r h = h
    answered_later Given keeps s t (Uncaught signal) σ r h = ended_later (Uncaught signal) s t σ r h
    answered_later Given keeps s t Spent σ r h = ended_later Spent s t σ r h
    answered_later Given keeps s t FrameLimit σ r h = ended_later FrameLimit s t σ r h
    answered_later Given keeps s t Broken σ r h = ended_later Broken s t σ r h

    -- what passes out of every construct
    pub passed_answered : (Given : Stepped → Values → State → Type 0) (s : Stepped) (a : Answer) (σ : State) → Passed W bound K around s a σ → Answered W bound K around Given s a σ
    passed_answered Given s Normal σ h = h
    passed_answered Given s (Gives vs) σ h = absurd h
    passed_answered Given s (Go f p) σ h = h
    passed_answered Given s (Resumed vs) σ h = h
    passed_answered Given s Rejected σ h = h
    passed_answered Given s (Retried n) σ h = h
    passed_answered Given s (Continued n) σ h = h
    passed_answered Given s (Uncaught signal) σ h = h
    passed_answered Given s Spent σ h = h
    passed_answered Given s FrameLimit σ h = h
    passed_answered Given s Broken σ h = h

    pub passed_done : (o : ℕ) (s : Stepped) (a : Answer) (σ : State) → Passed W bound K around s a σ → Done W bound K around o s a σ
    passed_done o s Normal σ h = absurd h
    passed_done o s (Gives vs) σ h = h
    passed_done o s (Go f p) σ h = h
    passed_done o s (Resumed vs) σ h = absurd h
    passed_done o s Rejected σ h = absurd h
    passed_done o s (Retried n) σ h = absurd h
    passed_done o s (Continued n) σ h = absurd h
    passed_done o s (Uncaught signal) σ h = h
    passed_done o s Spent σ h = h
    passed_done o s FrameLimit σ h = h
    passed_done o s Broken σ h = h

    pub done_later : (o : ℕ) (s t : Stepped) (a : Answer) (σ : State) → Reaches W.image s t → Done W bound K around o t a σ → Done W bound K around o s a σ
    done_later o s t Normal σ r h = comes_later K.ground o [] s t σ r h
    done_later o s t (Gives vs) σ r h = h
    done_later o s t (Go f p) σ r h = (h.0, jumps_later K.ground K.points around s t f p σ r h.1)
    done_later o s t (Resumed vs) σ r h = record {
      kinds = h.kinds;
      labels = h.labels;
      in_arm = h.in_arm;
      offset = h.offset;
      is_there = h.is_there;
      words = h.words;
      shown = h.shown;
      comes = comes_later K.ground h.offset (push h.words []) s t σ r h.comes;
    }
    done_later o s t Rejected σ r h =
        record { in_arm = h.in_arm; offset = h.offset; is_there = h.is_there; comes = comes_later K.ground h.offset [] s t σ r h.comes }
    done_later o s t (Retried n) σ r h = record { in_arm = h.in_arm; jumps = jumps_later K.ground K.points around s t K.meant.frame _ σ r h.jumps; below = h.below }
    done_later o s t (Continued n) σ r h = record { in_arm = h.in_arm; jumps = jumps_later K.ground K.points around s t K.meant.frame _ σ r h.jumps; below = h.below }
    done_later o s t (Uncaught signal) σ r h = ended_later (Uncaught signal) s t σ r h
    done_later o s t Spent σ r h = ended_later Spent s t σ r h
    done_later o s t FrameLimit σ r h = ended_later FrameLimit s t σ r h
    done_later o s t Broken σ r h = ended_later Broken s t σ r h

    -- What follows values. Q says what is wanted, and is kept backward; what passes out of every construct is in it.
    module _ (Q : Stepped → Result → Type 0) (later : (s t : Stepped) (r : Result) → Reaches W.image s t → Q t r → Q s r)
        (out : (s : Stepped) (a : Answer) (σ : State) → Passed W bound K around s a σ → Q s (record { answer = a; state = σ })) where
      pub answered_on : (Given : Stepped → Values → State → Type 0) (k : Values → Run) (s : Stepped) (a : Answer) (σ : State) → Answered W bound K around Given s a σ
          → ((vs : Values) → Given s vs σ → Q s (k vs σ)) → Q s (value_then k a σ)
      unfolding value_then give
      answered_on Given k s Normal σ h on = absurd h
      answered_on Given k s (Gives vs) σ h on = on vs h
      answered_on Given k s (Go f p) σ h on = out s (Go f p) σ h
      answered_on Given k s (Resumed vs) σ h on = absurd h
      answered_on Given k s Rejected σ h on = absurd h
      answered_on Given k s (Retried n) σ h on = absurd h
      answered_on Given k s (Continued n) σ h on = absurd h
      answered_on Given k s (Uncaught signal) σ h on = out s (Uncaught signal) σ h
      answered_on Given k s Spent σ h on = out s Spent σ h
      answered_on Given k s FrameLimit σ h on = out s FrameLimit σ h
      answered_on Given k s Broken σ h on = out s Broken σ h

      pub values_on : (ks : Kinds) (c : ℕ) (rest : List ℕ) (k : Values → Run) (s : Stepped) (r : Result) → Valued W bound K around ks c rest s r
          → ((vs : Values) (words : List ℕ) (μ : Frames) (m : Store) → Show (texts_of W) ks vs words → Agrees W bound K.ground μ m r.state
          → Q (standing K.ground c (push words rest) μ m) (k vs r.state)) → Q s (value_then k r.answer r.state)
      values_on ks c rest k s r h on =
          answered_on (λ s vs σ. Gave W bound K.ground ks c rest s vs σ) k s r.answer r.state h (λ vs g.
          later s (standing K.ground c (push g.words rest) g.comes.frames g.comes.store) (k vs r.state) g.comes.reaches
          (on vs g.words g.comes.frames g.comes.store g.shown g.comes.agrees))
