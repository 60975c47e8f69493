-- What follows the answer of an expression: a word, a value of some kind, values.
use Rattle.std.proofs.Common.{ℕ, ◌<◌, List, ◌∷◌, sym, subst}
use Rattle.mesa_types.specs.Typed.{Kind, Kinds}
use Rattle.mesa_types.specs.Shapes.{one}
use Rattle.mesa_types.specs.Sound.{a_word, a_long}
use Rattle.mesa_types.specs.Longs.{two_words}
use Rattle.source_meaning.specs.Value.{Value, nth, word, long}
use Rattle.source_meaning.specs.Value as value
use Rattle.source_meaning.specs.State.{State, Answer, Result, Run, value_then}
use Rattle.machine_rules.specs.State.{Store, Stepped}
use Rattle.machine_rules.specs.Words.{push}
use Rattle.agreement_rules.specs.Layout.{slots_of, value_at, Show}
use Rattle.agreement_rules.specs.Reaches.{Reaches}
use Rattle.agreement_laws.specs.World.{World, texts_of}
use Rattle.agreement_laws.specs.Standing.{Frames}
use Rattle.agreement_laws.specs.Relation.{Agrees, standing}
use Rattle.agreement_laws.specs.Contexts.{Site}
use Rattle.agreement_laws.specs.Answers.{Gave, Passed, Valued}
use Rattle.agreement_laws.proofs.Going.{Keeps, gave_later, answered_later, passed_answered, values_on}
use Rattle.agreement_laws.proofs.Shown.{the_word, the_long, the_value}

module _ (W : World) (bound : ℕ) (K : Site) (around : List ℕ) where
  pub gave_keeps : (ks : Kinds) (o : ℕ) (rest : List ℕ) → Keeps W bound (λ s vs σ. Gave W bound K.ground ks o rest s vs σ)
  gave_keeps ks o rest s t vs σ r h = gave_later W bound K.ground ks o rest s t vs σ r h

  pub valued_later : (ks : Kinds) (o : ℕ) (rest : List ℕ) (s t : Stepped) (r : Result) → Reaches W.image s t → Valued W bound K around ks o rest t r → Valued W bound K around ks o rest s r
  valued_later ks o rest s t r k h = answered_later W bound K around (λ s vs σ. Gave W bound K.ground ks o rest s vs σ) (gave_keeps ks o rest) s t r.answer r.state k h

  pub valued_out : (ks : Kinds) (o : ℕ) (rest : List ℕ) (s : Stepped) (a : Answer) (σ : State) → Passed W bound K around s a σ
      → Valued W bound K around ks o rest s (record { answer = a; state = σ })
  valued_out ks o rest s a σ h = passed_answered W bound K around (λ s vs σ. Gave W bound K.ground ks o rest s vs σ) s a σ h

  module _ (Q : Stepped → Result → Type 0) (later : (s t : Stepped) (r : Result) → Reaches W.image s t → Q t r → Q s r)
      (out : (s : Stepped) (a : Answer) (σ : State) → Passed W bound K around s a σ → Q s (record { answer = a; state = σ })) where
    -- a word has come
    pub word_on : (c : ℕ) (rest : List ℕ) (k : ℕ → Run) (s : Stepped) (r : Result) → Valued W bound K around a_word c rest s r
        → ((x : ℕ) (μ : Frames) (m : Store) → x < 65536 → Agrees W bound K.ground μ m r.state → Q (standing K.ground c (x ∷ rest) μ m) (k x r.state))
        → Q s (value_then (λ vs. k (word (nth vs 0))) r.answer r.state)
    unfolding nth word value.one
    word_on c rest k s r h on = values_on W bound K around Q later out a_word c rest (λ vs. k (word (nth vs 0))) s r h (λ vs words μ m shown agrees.
        let i = the_word (texts_of W) vs words shown in
        subst (λ l. Q (standing K.ground c (push l rest) μ m) (k (word (nth vs 0)) r.state)) (sym i.words)
        (subst (λ v. Q (standing K.ground c (i.word ∷ rest) μ m) (k (word (nth v 0)) r.state)) (sym i.is) (on i.word μ m i.small agrees)))

    -- a LONG number has come
    pub long_on : (c : ℕ) (rest : List ℕ) (k : ℕ → Run) (s : Stepped) (r : Result) → Valued W bound K around a_long c rest s r
        → ((x : ℕ) (μ : Frames) (m : Store) → x < 4294967296 → Agrees W bound K.ground μ m r.state → Q (standing K.ground c (push (two_words x) rest) μ m) (k x r.state))
        → Q s (value_then (λ vs. k (long (nth vs 0))) r.answer r.state)
    unfolding nth long value.one
    long_on c rest k s r h on = values_on W bound K around Q later out a_long c rest (λ vs. k (long (nth vs 0))) s r h (λ vs words μ m shown agrees.
        let i = the_long (texts_of W) vs words shown in
        subst (λ l. Q (standing K.ground c (push l rest) μ m) (k (long (nth vs 0)) r.state)) (sym i.words)
        (subst (λ v. Q (standing K.ground c (push (two_words i.long) rest) μ m) (k (long (nth v 0)) r.state)) (sym i.is) (on i.long μ m i.small agrees)))

    -- a value has come
    pub value_on : (j : Kind) (c : ℕ) (rest : List ℕ) (k : Value → Run) (s : Stepped) (r : Result) → Valued W bound K around (one j) c rest s r
        → ((words : List ℕ) (μ : Frames) (m : Store) → Show (texts_of W) (one j) (value.one (value_at (texts_of W) (slots_of words) 0 j)) words
        → Agrees W bound K.ground μ m r.state → Q (standing K.ground c (push words rest) μ m) (k (value_at (texts_of W) (slots_of words) 0 j) r.state))
        → Q s (value_then (λ vs. k (nth vs 0)) r.answer r.state)
    unfolding nth value.one
    value_on j c rest k s r h on = values_on W bound K around Q later out (one j) c rest (λ vs. k (nth vs 0)) s r h (λ vs words μ m shown agrees.
        let e = the_value (texts_of W) j vs words shown in
        subst (λ v. Q (standing K.ground c (push words rest) μ m) (k (nth v 0) r.state)) (sym e)
        (on words μ m (subst (λ v. Show (texts_of W) (one j) v words) e shown) agrees))
