-- The rows of assignments.
use Rattle.std.proofs.Common.{◌≡◌, ℕ, ◌+◌, List, [], ◌∷◌, subst, arith}
use Rattle.mesa_types.specs.declared.typed_parts.Home.{Home}
use Rattle.mesa_types.specs.Typed.{Kind, Suffixes}
use Rattle.mesa_types.specs.Shapes.{one, words_in}
use Rattle.mesa_types.specs.Sound.{VariableIn, SuffixesIn}
use Rattle.source_meaning.specs.Value.{Value, nth, path_of}
use Rattle.source_meaning.specs.State.{Normal, Result, Run, give, change, value_then}
use Rattle.source_meaning.specs.Variables.{store_part}
use Rattle.machine_rules.specs.State.{Store, Stepped}
use Rattle.code_rules.specs.Reading.{Place, Own}
use Rattle.code_rules.specs.Slots.{store, store_within, fields_of, HasNoIndex}
use Rattle.agreement_rules.specs.Layout.{slots_of, value_at}
use Rattle.agreement_rules.specs.Reaches.{Reaches}
use Rattle.agreement_laws.specs.World.{World, texts_of}
use Rattle.agreement_laws.specs.Standing.{Frames}
use Rattle.agreement_laws.specs.Relation.{Agrees, standing}
use Rattle.agreement_laws.specs.Contexts.{Site, Context}
use Rattle.agreement_laws.specs.Answers.{Answered, Valued}
use Rattle.agreement_laws.specs.Promises.{Found}
use Rattle.agreement_laws.proofs.Doing.{Did, did_later, did_out}
use Rattle.agreement_laws.proofs.Following.{value_on}
use Rattle.agreement_laws.proofs.Going.{answered_on}
use Rattle.agreement_laws.proofs.Stores.{stored_comes, stored_within_comes}
use Rattle.agreement_laws.proofs.Variables.{static, static_at}

module _ (W : World) (bound : ℕ) (K : Site) (w : Place) (hi : ℕ) (ctx : Context W K w.points w.around w.slot hi) where
  -- what is put in a part of a variable
  abbrev pub puts : Home → List ℕ → Value → Run
  puts h path v = change (store_part K.meant h path v) (give Normal)

  -- to a part along fields
  pub assign_row : (h : Home) (s : Suffixes) (j k : Kind) (size c b : ℕ) (u : Place) (from : Stepped) (r : Result) → HasNoIndex s → VariableIn K.scope h j → SuffixesIn K.scope s j k
      → size ≡ words_in k → u.around ≡ w.around → Own K.code u (store K.code h (fields_of s) size ∷ []) c b → Valued W bound K w.around (one k) c [] from r
      → Did W bound K w.around b from (value_then (λ vs. puts h (path_of (static s)) (nth vs 0)) r.answer r.state)
  unfolding change give
  assign_row h s j k size c b u from r static_s there sound words same own valued =
      value_on W bound K w.around (λ s r. Did W bound K w.around b s r) (λ s t r k h. did_later W bound K w.around b s t r k h) (λ s a σ h. did_out W bound K w.around b s a σ h)
      k c [] (λ v. puts h (path_of (static s)) v) from r valued (λ ws μ m shown agrees.
      stored_comes W bound K w hi ctx h j k (path_of (static s)) (fields_of s) c b (value_at (texts_of W) (slots_of ws) 0 k) ws [] u μ m r.state same there
      (static_at K.scope s j k static_s sound) shown (subst (λ z. Own K.code u (store K.code h (fields_of s) z ∷ []) c b) words own) agrees)

  -- to an element, whose offset is on the operands when the value is evaluated
  pub assign_element_row : (h : Home) (j k : Kind) (size d f b : ℕ) (u : Place) (second : Run) (from : Stepped) (r : Result) → VariableIn K.scope h j
      → size ≡ words_in k → u.around ≡ w.around → Own K.code u (store_within K.code h size ∷ []) f b
      → Answered W bound K w.around (λ s vs σ. Found W bound K.ground j k d 0 [] s vs σ) from r.answer r.state
      → ((offset : ℕ) (μ : Frames) (m : Store) → Agrees W bound K.ground μ m r.state → Valued W bound K w.around (one k) f (offset ∷ []) (standing K.ground d (offset ∷ []) μ m) (second r.state))
      → Did W bound K w.around b from (value_then (λ p τ. value_then (λ vs. puts h (path_of p) (nth vs 0)) (second τ).answer (second τ).state) r.answer r.state)
  unfolding change give
  assign_element_row h j k size d f b u second from r there words same own answered valued =
      answered_on W bound K w.around (λ s r. Did W bound K w.around b s r) (λ s t r k h. did_later W bound K w.around b s t r k h) (λ s a σ h. did_out W bound K w.around b s a σ h)
      (λ s vs σ. Found W bound K.ground j k d 0 [] s vs σ) (λ p τ. value_then (λ vs. puts h (path_of p) (nth vs 0)) (second τ).answer (second τ).state) from r.answer r.state answered
      (λ vs x.
      let c = x.comes in
      let o = x.offset in
      let e : 0 + o ≡ o = omega arith in
      let q = second r.state in
      did_later W bound K w.around b from (standing K.ground d (o ∷ []) c.frames c.store) (value_then (λ us. puts h (path_of vs) (nth us 0)) q.answer q.state)
      (subst (λ y. Reaches W.image from (standing K.ground d (y ∷ []) c.frames c.store)) e c.reaches)
      (value_on W bound K w.around (λ s r. Did W bound K w.around b s r) (λ s t r k h. did_later W bound K w.around b s t r k h) (λ s a σ h. did_out W bound K w.around b s a σ h)
      k f (o ∷ []) (λ v. puts h (path_of vs) v) (standing K.ground d (o ∷ []) c.frames c.store) q (valued o c.frames c.store c.agrees) (λ ws μ m shown agrees.
      stored_within_comes W bound K w hi ctx h j k (path_of vs) o f b (value_at (texts_of W) (slots_of ws) 0 k) ws [] u μ m q.state same there
      x.path_at shown (subst (λ z. Own K.code u (store_within K.code h z ∷ []) f b) words own) agrees)))
