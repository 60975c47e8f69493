-- The rows of conditions: AND and OR by need, and jumps on what is true.
use Rattle.std.proofs.Common.{◌≡◌, ⊎_elim, ℕ, ◌+◌, ◌<◌, ◌≤◌, List, [], ◌∷◌, Bool, true, false, not, refl, sym, ap, ◌∙◌, subst, arith}
use Rattle.std.specs.Prelude.{nat_le, nat_lt, if◌then◌else◌}
use Rattle.std.proofs.lemmas.Bool.{true≢false, false≢true, cases_lt, lt-ltb, le-ltb, le-leb, lt-leb}
use Rattle.mesa_types.specs.declared.typed_parts.Base.{Base}
use Rattle.mesa_base.specs.declared.relation.Relation.{Relation}
use Rattle.mesa_base.specs.declared.relation.Relation.TheVariants.{Equal, NotEqual, Less, AtMost, Greater, AtLeast}
use Rattle.mesa_types.specs.Sound.{a_word}
use Rattle.code_forms.specs.Instructions.{bytes_of}
use Rattle.mesa_types.specs.Operators.{differ, is_true, truth, related, shifted}
use Rattle.code_forms.specs.declared.instruction.Instruction.TheVariants as i
use Rattle.source_meaning.specs.Value.{Word, Values, nth, word}
use Rattle.source_meaning.specs.Value as value
use Rattle.source_meaning.specs.State.{State, Answer, Normal, Gives, Go, Resumed, Rejected, Retried, Continued, Uncaught, Spent, FrameLimit, Broken, Result, Run, carry, after, give, give_value, give_word, branch, value_then, on_values, on_word}
use Rattle.machine_rules.specs.State.{Store, Stepped}
use Rattle.machine_rules.specs.Words.{push}
use Rattle.code_rules.specs.OwnCode.{comparison, is_opposite, relation_code, relation_jump, jump_where}
use Rattle.code_rules.specs.Laws.{behind_all}
use Rattle.code_rules.specs.Reading.{Place, Own, no_more, one_more, behind}
use Rattle.code_rules.proofs.Whole.{own_code_joins}
use Rattle.agreement_rules.specs.Layout.{Show}
use Rattle.agreement_rules.specs.Reaches.{Reaches}
use Rattle.agreement_rules.proofs.Lifted.{reaches_itself}
use Rattle.agreement_laws.specs.World.{World, texts_of}
use Rattle.agreement_laws.specs.Standing.{Frames}
use Rattle.agreement_laws.specs.Relation.{Ground, Agrees, standing}
use Rattle.agreement_laws.specs.Contexts.{Site, Context}
use Rattle.agreement_laws.specs.Answers.{Comes, Gave, Answered, Passed, Valued}
use Rattle.agreement_laws.specs.Promises.{Branched}
use Rattle.agreement_laws.proofs.Control.{jump_goes, branch_goes}
use Rattle.agreement_laws.proofs.Going.{comes_later, Keeps, answered_later, passed_answered, answered_on}
use Rattle.agreement_laws.proofs.Following.{word_on}
use Rattle.agreement_laws.proofs.Owning.{law, own_gives}
use Rattle.agreement_laws.proofs.Shown.{the_word, show_word}

-- what AND and OR give is a truth, which is known where control comes to
pub record Chosen (W : World) (bound : ℕ) (G : Ground) (sense : Bool) (target b : ℕ) (rest : List ℕ) (s : Stepped) (vs : Values) (σ : State) : Type 0 where
  pub answer : Bool
  pub is : vs ≡ value.one (Word (truth answer))
  pub comes : Comes W bound G (if differ answer sense then b else target) rest s σ

truth_small : (t : Bool) → truth t < 65536
unfolding truth
truth_small true = omega arith
truth_small false = omega arith

pub truth_true : (t : Bool) → is_true (truth t) ≡ t
unfolding is_true truth
truth_true true = refl
truth_true false = refl

module _ (W : World) (bound : ℕ) (K : Site) (around : List ℕ) where
  -- the answer of a condition
  abbrev pub Led : (sense : Bool) → (target b : ℕ) → (rest : List ℕ) → Stepped → Result → Type 0
  Led sense target b rest s r = Answered W bound K around (λ s vs σ. Branched W bound K.ground sense target b rest s vs σ) s r.answer r.state

  branched_keeps : (sense : Bool) (target b : ℕ) (rest : List ℕ) → Keeps W bound (λ s vs σ. Branched W bound K.ground sense target b rest s vs σ)
  branched_keeps sense target b rest s t vs σ r h = record {
    word = h.word;
    is = h.is;
    comes = comes_later W bound K.ground (if differ (is_true h.word) sense then b else target) rest s t σ r h.comes;
  }

  pub led_later : (sense : Bool) (target b : ℕ) (rest : List ℕ) (s t : Stepped) (r : Result) → Reaches W.image s t → Led sense target b rest t r → Led sense target b rest s r
  led_later sense target b rest s t r k h =
      answered_later W bound K around (λ s vs σ. Branched W bound K.ground sense target b rest s vs σ) (branched_keeps sense target b rest) s t r.answer r.state k h

  pub led_out : (sense : Bool) (target b : ℕ) (rest : List ℕ) (s : Stepped) (a : Answer) (σ : State) → Passed W bound K around s a σ
      → Led sense target b rest s (record { answer = a; state = σ })
  led_out sense target b rest s a σ h = passed_answered W bound K around (λ s vs σ. Branched W bound K.ground sense target b rest s vs σ) s a σ h

  -- a truth that is known: control has come where it leads
  pub led_here : (sense : Bool) (target b x : ℕ) (rest : List ℕ) (s : Stepped) (σ : State)
      → Comes W bound K.ground (if differ (is_true x) sense then b else target) rest s σ → Led sense target b rest s (give_word x σ)
  unfolding give_word give_value give
  led_here sense target b x rest s σ c = record { word = x; is = refl; comes = c }

  abbrev pub Chose : (sense : Bool) → (target b : ℕ) → (rest : List ℕ) → Stepped → Result → Type 0
  Chose sense target b rest s r = Answered W bound K around (λ s vs σ. Chosen W bound K.ground sense target b rest s vs σ) s r.answer r.state

  chosen_keeps : (sense : Bool) (target b : ℕ) (rest : List ℕ) → Keeps W bound (λ s vs σ. Chosen W bound K.ground sense target b rest s vs σ)
  chosen_keeps sense target b rest s t vs σ r h = record {
    answer = h.answer;
    is = h.is;
    comes = comes_later W bound K.ground (if differ h.answer sense then b else target) rest s t σ r h.comes;
  }

  pub chosen_later : (sense : Bool) (target b : ℕ) (rest : List ℕ) (s t : Stepped) (r : Result) → Reaches W.image s t → Chose sense target b rest t r → Chose sense target b rest s r
  chosen_later sense target b rest s t r k h =
      answered_later W bound K around (λ s vs σ. Chosen W bound K.ground sense target b rest s vs σ) (chosen_keeps sense target b rest) s t r.answer r.state k h

  pub chosen_out : (sense : Bool) (target b : ℕ) (rest : List ℕ) (s : Stepped) (a : Answer) (σ : State) → Passed W bound K around s a σ
      → Chose sense target b rest s (record { answer = a; state = σ })
  chosen_out sense target b rest s a σ h = passed_answered W bound K around (λ s vs σ. Chosen W bound K.ground sense target b rest s vs σ) s a σ h

  chosen_here : (sense : Bool) (target b : ℕ) (t : Bool) (rest : List ℕ) (s : Stepped) (σ : State)
      → Comes W bound K.ground (if differ t sense then b else target) rest s σ → Chose sense target b rest s (give_word (truth t) σ)
  unfolding give_word give_value give
  chosen_here sense target b t rest s σ c = record { answer = t; is = refl; comes = c }

  -- the answer as that of a condition
  pub chosen_led : (sense : Bool) (target b : ℕ) (rest : List ℕ) (s : Stepped) (r : Result) → Chose sense target b rest s r → Led sense target b rest s r
  chosen_led sense target b rest s r h = by r.answer r.state h
    where
      by : (a : Answer) (σ : State) → Answered W bound K around (λ s vs σ. Chosen W bound K.ground sense target b rest s vs σ) s a σ
          → Answered W bound K around (λ s vs σ. Branched W bound K.ground sense target b rest s vs σ) s a σ
      by Normal σ h = h
      by (Gives vs) σ h = record {
        word = truth h.answer;
        is = h.is;
        comes = subst (λ t. Comes W bound K.ground (if differ t sense then b else target) rest s σ) (sym (truth_true h.answer)) h.comes;
      }
      by (Go f p) σ h = h
      by (Resumed vs) σ h = h
      by Rejected σ h = h
      by (Retried k) σ h = h
      by (Continued k) σ h = h
      by (Uncaught signal) σ h = h
      by Spent σ h = h
      by FrameLimit σ h = h
      by Broken σ h = h

  module _ (Q : Stepped → Result → Type 0) (later : (s t : Stepped) (r : Result) → Reaches W.image s t → Q t r → Q s r)
      (out : (s : Stepped) (a : Answer) (σ : State) → Passed W bound K around s a σ → Q s (record { answer = a; state = σ })) where
    led_by : (t : Bool) (sense : Bool) (target b : ℕ) (rest : List ℕ) (s : Stepped) (σ : State) (r : Result)
        → Comes W bound K.ground (if t then b else target) rest s σ
        → (t ≡ true → (μ : Frames) (m : Store) → Agrees W bound K.ground μ m σ → Q (standing K.ground b rest μ m) r)
        → (t ≡ false → (μ : Frames) (m : Store) → Agrees W bound K.ground μ m σ → Q (standing K.ground target rest μ m) r) → Q s r
    led_by true sense target b rest s σ r c on off = later s (standing K.ground b rest c.frames c.store) r c.reaches (on refl c.frames c.store c.agrees)
    led_by false sense target b rest s σ r c on off = later s (standing K.ground target rest c.frames c.store) r c.reaches (off refl c.frames c.store c.agrees)

    -- it goes on at b, or at the target
    pub led_on : (sense : Bool) (target b : ℕ) (rest : List ℕ) (k : ℕ → Run) (s : Stepped) (r : Result) → Led sense target b rest s r
        → ((x : ℕ) → differ (is_true x) sense ≡ true → (μ : Frames) (m : Store) → Agrees W bound K.ground μ m r.state → Q (standing K.ground b rest μ m) (k x r.state))
        → ((x : ℕ) → differ (is_true x) sense ≡ false → (μ : Frames) (m : Store) → Agrees W bound K.ground μ m r.state → Q (standing K.ground target rest μ m) (k x r.state))
        → Q s (value_then (λ vs. k (word (nth vs 0))) r.answer r.state)
    unfolding nth word value.one
    led_on sense target b rest k s r h on off =
        answered_on W bound K around Q later out (λ s vs σ. Branched W bound K.ground sense target b rest s vs σ) (λ vs. k (word (nth vs 0))) s r.answer r.state h (λ vs x.
        subst (λ v. Q s (k (word (nth v 0)) r.state)) (sym x.is)
        (led_by (differ (is_true x.word) sense) sense target b rest s r.state (k x.word r.state) x.comes (on x.word) (off x.word)))

  -- AND and OR: an operand, and the others by need
  pub both_row : (target c b : ℕ) (rest : List ℕ) (others : Run) (s : Stepped) (r : Result) → Led false target c rest s r
      → ((μ : Frames) (m : Store) → Agrees W bound K.ground μ m r.state → Chose false target b rest (standing K.ground c rest μ m) (others r.state))
      → Chose false target b rest s (value_then (λ vs. branch (is_true (word (nth vs 0))) others (give_word (truth false))) r.answer r.state)
  unfolding differ branch truth is_true
  both_row target c b rest others s r h others_follow =
      led_on (Chose false target b rest) (chosen_later false target b rest) (chosen_out false target b rest) false target c rest (λ x. branch (is_true x) others (give_word (truth false))) s r h
      (λ x e μ m agrees. goes_on (is_true x) e μ m agrees) (λ x e μ m agrees. stops (is_true x) e μ m agrees)
    where
      goes_on : (t : Bool) → differ t false ≡ true → (μ : Frames) (m : Store) → Agrees W bound K.ground μ m r.state
          → Chose false target b rest (standing K.ground c rest μ m) (branch t others (give_word (truth false)) r.state)
      goes_on true e μ m agrees = others_follow μ m agrees
      goes_on false e μ m agrees = absurd (false≢true e)

      stops : (t : Bool) → differ t false ≡ false → (μ : Frames) (m : Store) → Agrees W bound K.ground μ m r.state
          → Chose false target b rest (standing K.ground target rest μ m) (branch t others (give_word (truth false)) r.state)
      stops true e μ m agrees = absurd (true≢false e)
      stops false e μ m agrees =
          chosen_here false target b false rest (standing K.ground target rest μ m) r.state
          (record { frames = μ; store = m; agrees = agrees; reaches = reaches_itself W.image (standing K.ground target rest μ m) })

  pub either_row : (target c b : ℕ) (rest : List ℕ) (others : Run) (s : Stepped) (r : Result) → Led true target c rest s r
      → ((μ : Frames) (m : Store) → Agrees W bound K.ground μ m r.state → Chose true target b rest (standing K.ground c rest μ m) (others r.state))
      → Chose true target b rest s (value_then (λ vs. branch (is_true (word (nth vs 0))) (give_word (truth true)) others) r.answer r.state)
  unfolding differ branch truth is_true
  either_row target c b rest others s r h others_follow =
      led_on (Chose true target b rest) (chosen_later true target b rest) (chosen_out true target b rest) true target c rest (λ x. branch (is_true x) (give_word (truth true)) others) s r h
      (λ x e μ m agrees. goes_on (is_true x) e μ m agrees) (λ x e μ m agrees. stops (is_true x) e μ m agrees)
    where
      goes_on : (t : Bool) → differ t true ≡ true → (μ : Frames) (m : Store) → Agrees W bound K.ground μ m r.state
          → Chose true target b rest (standing K.ground c rest μ m) (branch t (give_word (truth true)) others r.state)
      goes_on true e μ m agrees = absurd (false≢true e)
      goes_on false e μ m agrees = others_follow μ m agrees

      stops : (t : Bool) → differ t true ≡ false → (μ : Frames) (m : Store) → Agrees W bound K.ground μ m r.state
          → Chose true target b rest (standing K.ground target rest μ m) (branch t (give_word (truth true)) others r.state)
      stops true e μ m agrees =
          chosen_here true target b true rest (standing K.ground target rest μ m) r.state
          (record { frames = μ; store = m; agrees = agrees; reaches = reaches_itself W.image (standing K.ground target rest μ m) })
      stops false e μ m agrees = absurd (true≢false e)

  -- no operand: control is at b
  pub no_operand_row : (sense : Bool) (target b : ℕ) (rest : List ℕ) (μ : Frames) (m : Store) (σ : State) → Agrees W bound K.ground μ m σ
      → Chose sense target b rest (standing K.ground b rest μ m) (give_word (truth (not sense)) σ)
  unfolding truth is_true differ
  no_operand_row true target b rest μ m σ agrees =
      chosen_here true target b false rest (standing K.ground b rest μ m) σ (record { frames = μ; store = m; agrees = agrees; reaches = reaches_itself W.image (standing K.ground b rest μ m) })
  no_operand_row false target b rest μ m σ agrees =
      chosen_here false target b true rest (standing K.ground b rest μ m) σ (record { frames = μ; store = m; agrees = agrees; reaches = reaches_itself W.image (standing K.ground b rest μ m) })

  -- NOT
  pub turned_row : (sense : Bool) (target b : ℕ) (rest : List ℕ) (s : Stepped) (r : Result) → Led (not sense) target b rest s r
      → Led sense target b rest s (value_then (λ vs. give_word (truth (not (is_true (word (nth vs 0)))))) r.answer r.state)
  unfolding differ truth is_true
  turned_row sense target b rest s r h =
      led_on (Led sense target b rest) (led_later sense target b rest) (led_out sense target b rest) (not sense) target b rest (λ x. give_word (truth (not (is_true x)))) s r h
      (λ x e μ m agrees. led_here sense target b (truth (not (is_true x))) rest (standing K.ground b rest μ m) r.state
      (subst (λ t. Comes W bound K.ground (if t then b else target) rest (standing K.ground b rest μ m) r.state) (sym (turned (is_true x) sense ∙ e))
      (record { frames = μ; store = m; agrees = agrees; reaches = reaches_itself W.image (standing K.ground b rest μ m) })))
      (λ x e μ m agrees. led_here sense target b (truth (not (is_true x))) rest (standing K.ground target rest μ m) r.state
      (subst (λ t. Comes W bound K.ground (if t then b else target) rest (standing K.ground target rest μ m) r.state) (sym (turned (is_true x) sense ∙ e))
      (record { frames = μ; store = m; agrees = agrees; reaches = reaches_itself W.image (standing K.ground target rest μ m) })))
    where
      turned : (t sense : Bool) → differ (is_true (truth (not t))) sense ≡ differ t (not sense)
      turned true true = refl
      turned true false = refl
      turned false true = refl
      turned false false = refl

module _ (W : World) (bound : ℕ) (K : Site) (w : Place) (hi : ℕ) (ctx : Context W K w.points w.around w.slot hi) where
  -- a value, and a jump on it
  pub value_led_row : (sense : Bool) (target c b : ℕ) (rest : List ℕ) (s : Stepped) (r : Result) → Valued W bound K w.around a_word c rest s r
      → Own K.code w (jump_where sense target ∷ []) c b → Led W bound K w.around sense target b rest s r
  value_led_row sense target c b rest s r h own = led_of r.answer r.state h
    where
      led_of : (a : Answer) (σ : State) → Answered W bound K w.around (λ s vs σ. Gave W bound K.ground a_word c rest s vs σ) s a σ
          → Answered W bound K w.around (λ s vs σ. Branched W bound K.ground sense target b rest s vs σ) s a σ
      led_of Normal σ h = h
      led_of (Gives vs) σ h =
          let i = the_word (texts_of W) vs h.words h.shown in
          let c2 = h.comes in
          let x = branch_goes W K w.points w.around w.slot hi ctx bound w sense target i.word c b rest c2.frames c2.store σ own c2.agrees in
          record {
            word = i.word;
            is = i.is;
            comes = comes_later W bound K.ground (if differ (is_true i.word) sense then b else target) rest s (standing K.ground c (i.word ∷ rest) c2.frames c2.store) σ
                (subst (λ l. Reaches W.image s (standing K.ground c (push l rest) c2.frames c2.store)) i.words c2.reaches) x;
          }
      led_of (Go f p) σ h = h
      led_of (Resumed vs) σ h = h
      led_of Rejected σ h = h
      led_of (Retried k) σ h = h
      led_of (Continued k) σ h = h
      led_of (Uncaught signal) σ h = h
      led_of Spent σ h = h
      led_of FrameLimit σ h = h
      led_of Broken σ h = h

  -- control is where the answer is known: the truth is pushed there
  pub chosen_value_row : (sense : Bool) (target c b : ℕ) (rest : List ℕ) (s : Stepped) (r : Result) → Chose W bound K w.around sense target c rest s r
      → ((μ : Frames) (m : Store) (σ : State) → Agrees W bound K.ground μ m σ → Comes W bound K.ground b (truth (not sense) ∷ rest) (standing K.ground c rest μ m) σ)
      → ((μ : Frames) (m : Store) (σ : State) → Agrees W bound K.ground μ m σ → Comes W bound K.ground b (truth sense ∷ rest) (standing K.ground target rest μ m) σ)
      → Valued W bound K w.around a_word b rest s r
  unfolding differ
  chosen_value_row sense target c b rest s r h ended known = by r.answer r.state h
    where
      pushed : (t sense : Bool) (σ : State) → Comes W bound K.ground (if differ t sense then c else target) rest s σ
          → ((μ : Frames) (m : Store) (σ : State) → Agrees W bound K.ground μ m σ → Comes W bound K.ground b (truth (not sense) ∷ rest) (standing K.ground c rest μ m) σ)
          → ((μ : Frames) (m : Store) (σ : State) → Agrees W bound K.ground μ m σ → Comes W bound K.ground b (truth sense ∷ rest) (standing K.ground target rest μ m) σ)
          → Comes W bound K.ground b (truth t ∷ rest) s σ
      pushed true true σ x ended known =
          comes_later W bound K.ground b (truth true ∷ rest) s (standing K.ground target rest x.frames x.store) σ x.reaches (known x.frames x.store σ x.agrees)
      pushed true false σ x ended known =
          comes_later W bound K.ground b (truth true ∷ rest) s (standing K.ground c rest x.frames x.store) σ x.reaches (ended x.frames x.store σ x.agrees)
      pushed false true σ x ended known =
          comes_later W bound K.ground b (truth false ∷ rest) s (standing K.ground c rest x.frames x.store) σ x.reaches (ended x.frames x.store σ x.agrees)
      pushed false false σ x ended known =
          comes_later W bound K.ground b (truth false ∷ rest) s (standing K.ground target rest x.frames x.store) σ x.reaches (known x.frames x.store σ x.agrees)

      by : (a : Answer) (σ : State) → Answered W bound K w.around (λ s vs σ. Chosen W bound K.ground sense target c rest s vs σ) s a σ
          → Answered W bound K w.around (λ s vs σ. Gave W bound K.ground a_word b rest s vs σ) s a σ
      by Normal σ h = h
      by (Gives vs) σ h = record {
        words = truth h.answer ∷ [];
        shown = subst (λ v. Show (texts_of W) a_word v (truth h.answer ∷ [])) (sym h.is) (show_word (texts_of W) (truth h.answer) (truth_small h.answer));
        comes = pushed h.answer sense σ h.comes ended known;
      }
      by (Go f p) σ h = h
      by (Resumed vs) σ h = h
      by Rejected σ h = h
      by (Retried k) σ h = h
      by (Continued k) σ h = h
      by (Uncaught signal) σ h = h
      by Spent σ h = h
      by FrameLimit σ h = h
      by Broken σ h = h

  -- where no operand has told the answer, control jumps
  pub chosen_turned_row : (sense : Bool) (target c b : ℕ) (rest : List ℕ) (s : Stepped) (r : Result) → Chose W bound K w.around sense b c rest s r
      → Own K.code w (i.Jump target ∷ []) c b → Led W bound K w.around (not sense) target b rest s r
  unfolding differ
  chosen_turned_row sense target c b rest s r h own = by r.answer r.state h
    where
      jumped : (t sense : Bool) (σ : State) → Comes W bound K.ground (if differ t sense then c else b) rest s σ
          → ((μ : Frames) (m : Store) (σ : State) → Agrees W bound K.ground μ m σ → Comes W bound K.ground target rest (standing K.ground c rest μ m) σ)
          → Comes W bound K.ground (if differ t (not sense) then b else target) rest s σ
      jumped true true σ x on = x
      jumped true false σ x on = comes_later W bound K.ground target rest s (standing K.ground c rest x.frames x.store) σ x.reaches (on x.frames x.store σ x.agrees)
      jumped false true σ x on = comes_later W bound K.ground target rest s (standing K.ground c rest x.frames x.store) σ x.reaches (on x.frames x.store σ x.agrees)
      jumped false false σ x on = x

      by : (a : Answer) (σ : State) → Answered W bound K w.around (λ s vs σ. Chosen W bound K.ground sense b c rest s vs σ) s a σ
          → Answered W bound K w.around (λ s vs σ. Branched W bound K.ground (not sense) target b rest s vs σ) s a σ
      by Normal σ h = h
      by (Gives vs) σ h = record {
        word = truth h.answer;
        is = h.is;
        comes = subst (λ t. Comes W bound K.ground (if differ t (not sense) then b else target) rest s σ) (sym (truth_true h.answer))
            (jumped h.answer sense σ h.comes (λ μ m σ agrees. jump_goes W K w.points w.around w.slot hi ctx bound w target c b rest μ m σ own agrees));
      }
      by (Go f p) σ h = h
      by (Resumed vs) σ h = h
      by Rejected σ h = h
      by (Retried k) σ h = h
      by (Continued k) σ h = h
      by (Uncaught signal) σ h = h
      by Spent σ h = h
      by FrameLimit σ h = h
      by Broken σ h = h

  -- a truth is pushed, and control jumps on
  pub pushed_goes : (x a b c : ℕ) (rest : List ℕ) (μ : Frames) (m : Store) (σ : State) → Own K.code w (i.Lit x ∷ i.Jump b ∷ []) a c → Agrees W bound K.ground μ m σ
      → Comes W bound K.ground b (x ∷ rest) (standing K.ground a rest μ m) σ
  pushed_goes x a b c rest μ m σ (one_more r next) agrees =
      let d = a + bytes_of (i.Lit x) in
      let g = own_gives W K w hi ctx bound μ m σ (i.Lit x ∷ []) a d [] (x ∷ []) rest (one_more r no_more) ((law W K w hi ctx μ m).number_leaf x) agrees in
      comes_later W bound K.ground b (x ∷ rest) (standing K.ground a rest μ m) (standing K.ground d (x ∷ rest) g.frames g.store) σ g.reaches
      (jump_goes W K w.points w.around w.slot hi ctx bound (behind K.code (i.Lit x) w) b d c (x ∷ rest) g.frames g.store σ next g.agrees)

-- A relation with a jump: where the relation is an opposite its code tests the other one, and the jump is turned.

abbrev pub plain : Relation → Relation
plain Equal = Equal
plain NotEqual = Equal
plain Less = Less
plain AtMost = Greater
plain Greater = Greater
plain AtLeast = Less

comparison_is : (b : Base) (o : Relation) → relation_code b (plain o) ≡ comparison b o
comparison_is b Equal = refl
comparison_is b NotEqual = refl
comparison_is b Less = refl
comparison_is b AtMost = refl
comparison_is b Greater = refl
comparison_is b AtLeast = refl

pub less_turned : (x y : ℕ) → nat_le x y ≡ not (nat_lt y x)
less_turned x y = ⊎_elim
    (λ (h : y < x). lt-leb x y h ∙ sym (ap not (lt-ltb y x h)))
    (λ (h : x ≤ y). le-leb x y h ∙ sym (ap not (le-ltb y x h)))
    (cases_lt y x)

related_turned : (o : Relation) (b : Base) (x y : ℕ) → differ (is_opposite o) (related (plain o) b x y) ≡ related o b x y
unfolding differ related
related_turned Equal b x y = refl
related_turned NotEqual b x y = refl
related_turned Less b x y = refl
related_turned AtMost b x y = sym (less_turned (shifted b x) (shifted b y))
related_turned Greater b x y = refl
related_turned AtLeast b x y = sym (less_turned (shifted b y) (shifted b x))

pub differ_turned : (t opposite sense : Bool) → differ t (differ opposite sense) ≡ differ (differ opposite t) sense
unfolding differ
differ_turned true true true = refl
differ_turned true true false = refl
differ_turned true false true = refl
differ_turned true false false = refl
differ_turned false true true = refl
differ_turned false true false = refl
differ_turned false false true = refl
differ_turned false false false = refl

module _ (W : World) (bound : ℕ) (K : Site) (w : Place) (hi : ℕ) (ctx : Context W K w.points w.around w.slot hi) where
  -- the two words are on the operands
  pub related_goes : (base : Base) (o : Relation) (sense : Bool) (target a b x y : ℕ) (rest : List ℕ) (μ : Frames) (m : Store) (σ : State)
      → Own K.code w (relation_jump base o sense target) a b → Agrees W bound K.ground μ m σ
      → Comes W bound K.ground (if differ (related o base x y) sense then b else target) rest (standing K.ground a (y ∷ x ∷ rest) μ m) σ
  related_goes base o sense target a b x y rest μ m σ own agrees =
      let turned = is_opposite o in
      let t = related (plain o) base x y in
      let parts = own_code_joins.splits K.code w (comparison base o) (jump_where (differ turned sense) target ∷ []) a b own in
      let c = parts.0 in
      let first : Own K.code w (relation_code base (plain o)) a c = subst (λ l. Own K.code w l a c) (sym (comparison_is base o)) parts.1 in
      let g = own_gives W K w hi ctx bound μ m σ (relation_code base (plain o)) a c (x ∷ y ∷ []) (truth t ∷ []) rest first ((law W K w hi ctx μ m).relation base (plain o) x y) agrees in
      let j = branch_goes W K w.points w.around w.slot hi ctx bound (behind_all K.code (comparison base o) w) (differ turned sense) target (truth t) c b rest g.frames g.store σ parts.2 g.agrees in
      comes_later W bound K.ground (if differ (related o base x y) sense then b else target) rest (standing K.ground a (y ∷ x ∷ rest) μ m)
      (standing K.ground c (truth t ∷ rest) g.frames g.store) σ g.reaches
      (subst (λ z. Comes W bound K.ground (if z then b else target) rest (standing K.ground c (truth t ∷ rest) g.frames g.store) σ)
      (ap (λ z. differ z (differ turned sense)) (truth_true t) ∙ differ_turned t turned sense ∙ ap (λ z. differ z sense) (related_turned o base x y)) j)

  pub relation_led_row : (base : Base) (o : Relation) (sense : Bool) (target f c b : ℕ) (rest : List ℕ) (second : Run) (s : Stepped) (r : Result)
      → Valued W bound K w.around a_word f rest s r
      → ((x : ℕ) (μ : Frames) (m : Store) → Agrees W bound K.ground μ m r.state
      → Valued W bound K w.around a_word c (x ∷ rest) (standing K.ground f (x ∷ rest) μ m) (second r.state))
      → Own K.code w (relation_jump base o sense target) c b
      → Led W bound K w.around sense target b rest s
      (value_then (λ vs. on_word second (λ y. give_word (truth (related o base (word (nth vs 0)) y)))) r.answer r.state)
  unfolding on_word on_values after carry
  relation_led_row base o sense target f c b rest second s r h second_follows own =
      let Q = Led W bound K w.around sense target b rest in
      let later = led_later W bound K w.around sense target b rest in
      let out = led_out W bound K w.around sense target b rest in
      word_on W bound K w.around Q later out f rest (λ x. on_word second (λ y. give_word (truth (related o base x y)))) s r h (λ x μ m lt agrees.
      word_on W bound K w.around Q later out c (x ∷ rest) (λ y. give_word (truth (related o base x y))) (standing K.ground f (x ∷ rest) μ m) (second r.state)
      (second_follows x μ m agrees) (λ y ν l ly agrees.
      led_here W bound K w.around sense target b (truth (related o base x y)) rest (standing K.ground c (y ∷ x ∷ rest) ν l) (second r.state).state
      (subst (λ z. Comes W bound K.ground (if differ z sense then b else target) rest (standing K.ground c (y ∷ x ∷ rest) ν l) (second r.state).state)
      (sym (truth_true (related o base x y))) (related_goes base o sense target c b x y rest ν l (second r.state).state own agrees))))
