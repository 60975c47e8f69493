-- The rows of IF, and of calls that are statements.
use Rattle.std.proofs.Common.{◌≡◌, ℕ, List, [], length, Bool, true, false, refl, sym, ◌∙◌, subst}
use Rattle.std.specs.Prelude.{if◌then◌else◌}
use Rattle.mesa_types.specs.Typed.{Kinds}
use Rattle.mesa_types.specs.Shapes.{words_in_all}
use Rattle.mesa_types.specs.Operators.{differ, is_true}
use Rattle.source_meaning.specs.Value.{nth, word}
use Rattle.source_meaning.specs.Value as value
use Rattle.source_meaning.specs.State.{State, Answer, Normal, Gives, Go, Resumed, Rejected, Retried, Continued, Uncaught, Spent, FrameLimit, Broken, Result, Run, give, branch, value_then, dropped_of}
use Rattle.machine_rules.specs.State.{Store, Stepped}
use Rattle.machine_rules.specs.Words.{push}
use Rattle.code_rules.specs.CodeFor.{Onward}
use Rattle.code_rules.specs.OwnCode.{pop_code}
use Rattle.code_rules.specs.Reading.{Place, Own, scratch}
use Rattle.agreement_rules.specs.Own as own
use Rattle.agreement_rules.specs.Own.{Given}
use Rattle.agreement_rules.proofs.Lifted.{lifted}
use Rattle.agreement_rules.proofs.Rows.{pop_works}
use Rattle.agreement_laws.specs.World.{World, texts_of}
use Rattle.agreement_laws.specs.Standing.{Frames}
use Rattle.agreement_laws.specs.Relation.{Agrees, standing}
use Rattle.agreement_laws.specs.Contexts.{Site, Context}
use Rattle.agreement_laws.specs.Answers.{Comes, Gave, Answered, Valued}
use Rattle.agreement_laws.specs.Promises.{Branched}
use Rattle.agreement_laws.proofs.Branches.{Led}
use Rattle.agreement_laws.proofs.Doing.{Did, did_later, did_out, onward_done}
use Rattle.agreement_laws.proofs.Going.{answered_on, comes_later}
use Rattle.agreement_laws.proofs.Owning.{Leads, own_gives}

module _ (W : World) (bound : ℕ) (K : Site) (w : Place) (hi : ℕ) (ctx : Context W K w.points w.around w.slot hi) where
  -- control has come where the truth leads
  either : (t : Bool) (c elsewhere b : ℕ) (first other : Run) (s : Stepped) (σ : State) → Comes W bound K.ground (if differ t false then c else elsewhere) [] s σ
      → ((μ : Frames) (m : Store) → Agrees W bound K.ground μ m σ → Did W bound K w.around b (standing K.ground c [] μ m) (first σ))
      → ((μ : Frames) (m : Store) → Agrees W bound K.ground μ m σ → Did W bound K w.around b (standing K.ground elsewhere [] μ m) (other σ))
      → Did W bound K w.around b s (branch t first other σ)
  unfolding branch differ
  either true c elsewhere b first other s σ h here there =
      did_later W bound K w.around b s (standing K.ground c [] h.frames h.store) (first σ) h.reaches (here h.frames h.store h.agrees)
  either false c elsewhere b first other s σ h here there =
      did_later W bound K w.around b s (standing K.ground elsewhere [] h.frames h.store) (other σ) h.reaches (there h.frames h.store h.agrees)

  -- a condition, where false leads elsewhere
  pub branched_on : (c elsewhere b : ℕ) (first other : Run) (s : Stepped) (r : Result) → Led W bound K w.around false elsewhere c [] s r
      → ((μ : Frames) (m : Store) → Agrees W bound K.ground μ m r.state → Did W bound K w.around b (standing K.ground c [] μ m) (first r.state))
      → ((μ : Frames) (m : Store) → Agrees W bound K.ground μ m r.state → Did W bound K w.around b (standing K.ground elsewhere [] μ m) (other r.state))
      → Did W bound K w.around b s (value_then (λ vs. branch (is_true (word (nth vs 0))) first other) r.answer r.state)
  unfolding nth word value.one
  branched_on c elsewhere b first other s r h here there =
      answered_on W bound K w.around (λ s r. Did W bound K w.around b s r) (λ s t r k h. did_later W bound K w.around b s t r k h)
      (λ s a σ h. did_out W bound K w.around b s a σ h) (λ s vs σ. Branched W bound K.ground false elsewhere c [] s vs σ)
      (λ vs. branch (is_true (word (nth vs 0))) first other) s r.answer r.state h (λ vs x.
      subst (λ v. Did W bound K w.around b s (branch (is_true (word (nth v 0))) first other r.state)) (sym x.is)
      (either (is_true x.word) c elsewhere b first other s r.state x.comes here there))

  pub if_row : (v : Place) (c d elsewhere b : ℕ) (first other : Run) (s : Stepped) (r : Result) → Led W bound K w.around false elsewhere c [] s r → Onward K.code v b d elsewhere
      → ((μ : Frames) (m : Store) → Agrees W bound K.ground μ m r.state → Did W bound K w.around d (standing K.ground c [] μ m) (first r.state))
      → ((μ : Frames) (m : Store) → Agrees W bound K.ground μ m r.state → Did W bound K w.around b (standing K.ground elsewhere [] μ m) (other r.state))
      → Did W bound K w.around b s (value_then (λ vs. branch (is_true (word (nth vs 0))) first other) r.answer r.state)
  if_row v c d elsewhere b first other s r h code here there =
      branched_on c elsewhere b first other s r h
      (λ μ m agrees. onward_done W bound K w hi ctx v b d elsewhere (standing K.ground c [] μ m) (first r.state) code (here μ m agrees)) there

  -- Values that nobody takes.

  pub drops : (μ : Frames) (m : Store) (words : List ℕ) → Leads W K w hi ctx μ m (pop_code (length words)) words (Given [])
  unfolding own.Comes
  drops μ m words =
      let vs = μ K.meant.frame in let gs = m.globals K.ground.here.procedure.instance in
      lifted W.image K.code ctx.code_of.number vs gs (pop_code (length words)) words (Given [])
      (λ rest. subst (λ d. own.Comes (scratch K.code) rest vs gs (Given []) d) (sym (pop_works (texts_of W) ctx.code_of.number vs gs words rest)) (refl, (λ n x. refl), refl))

  dropped_then : (ks : Kinds) (c b size : ℕ) (s : Stepped) (a : Answer) (σ : State)
      → Answered W bound K w.around (λ s vs σ. Gave W bound K.ground ks c [] s vs σ) s a σ → words_in_all ks ≡ size → Own K.code w (pop_code size) c b
      → Did W bound K w.around b s (dropped_of a σ)
  unfolding dropped_of give
  dropped_then ks c b size s Normal σ h e code = absurd h
  dropped_then ks c b size s (Gives vs) σ h e code =
      let words = h.words in
      let g = own_gives W K w hi ctx bound h.comes.frames h.comes.store σ (pop_code (length words)) c b words [] []
      (subst (λ n. Own K.code w (pop_code n) c b) (sym (h.shown.size ∙ e)) code) (drops h.comes.frames h.comes.store words) h.comes.agrees in
      comes_later W bound K.ground b [] s (standing K.ground c (push words []) h.comes.frames h.comes.store) σ h.comes.reaches g
  dropped_then ks c b size s (Go f p) σ h e code = h
  dropped_then ks c b size s (Resumed vs) σ h e code = absurd h
  dropped_then ks c b size s Rejected σ h e code = absurd h
  dropped_then ks c b size s (Retried n) σ h e code = absurd h
  dropped_then ks c b size s (Continued n) σ h e code = absurd h
  dropped_then ks c b size s (Uncaught signal) σ h e code = h
  dropped_then ks c b size s Spent σ h e code = h
  dropped_then ks c b size s FrameLimit σ h e code = h
  dropped_then ks c b size s Broken σ h e code = h

  pub dropped_row : (ks : Kinds) (c b size : ℕ) (s : Stepped) (r : Result) → Valued W bound K w.around ks c [] s r → words_in_all ks ≡ size
      → Own K.code w (pop_code size) c b → Did W bound K w.around b s (dropped_of r.answer r.state)
  dropped_row ks c b size s r h e code = dropped_then ks c b size s r.answer r.state h e code
