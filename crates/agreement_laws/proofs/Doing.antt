-- What follows the answer of a statement; and the way on from its end.
use Rattle.std.proofs.Common.{ℕ, List, []}
use Rattle.source_meaning.specs.State.{State, Answer, Normal, Gives, Go, Resumed, Rejected, Retried, Continued, Uncaught, Spent, FrameLimit, Broken, Result, give}
use Rattle.machine_rules.specs.State.{Store, Stepped}
use Rattle.code_rules.specs.CodeFor.{Onward, falls, jumps}
use Rattle.code_rules.specs.Reading.{Place}
use Rattle.agreement_rules.specs.Reaches.{Reaches}
use Rattle.agreement_rules.proofs.Lifted.{reaches_itself}
use Rattle.agreement_laws.specs.World.{World}
use Rattle.agreement_laws.specs.Standing.{Frames}
use Rattle.agreement_laws.specs.Relation.{Agrees, standing}
use Rattle.agreement_laws.specs.Contexts.{Site, Context}
use Rattle.agreement_laws.specs.Answers.{Comes, Passed, Done}
use Rattle.agreement_laws.proofs.Control.{jump_goes}
use Rattle.agreement_laws.proofs.Going.{comes_later, passed_done, done_later}

module _ (W : World) (bound : ℕ) (K : Site) (around : List ℕ) where
  -- a result of a statement whose code ends at an offset
  abbrev pub Did : (o : ℕ) → Stepped → Result → Type 0
  Did o s r = Done W bound K around o s r.answer r.state

  pub did_later : (o : ℕ) (s t : Stepped) (r : Result) → Reaches W.image s t → Did o t r → Did o s r
  did_later o s t r k h = done_later W bound K around o s t r.answer r.state k h

  pub did_out : (o : ℕ) (s : Stepped) (a : Answer) (σ : State) → Passed W bound K around s a σ → Did o s (record { answer = a; state = σ })
  did_out o s a σ h = passed_done W bound K around o s a σ h

  -- the code ends here
  pub comes_here : (o : ℕ) (μ : Frames) (m : Store) (σ : State) → Agrees W bound K.ground μ m σ → Comes W bound K.ground o [] (standing K.ground o [] μ m) σ
  comes_here o μ m σ h = record { frames = μ; store = m; agrees = h; reaches = reaches_itself W.image (standing K.ground o [] μ m) }

  pub null_row : (o : ℕ) (μ : Frames) (m : Store) (σ : State) → Agrees W bound K.ground μ m σ → Did o (standing K.ground o [] μ m) (give Normal σ)
  unfolding give
  null_row o μ m σ h = comes_here o μ m σ h

  -- the code goes on elsewhere
  pub done_moved : (c b : ℕ) → ((μ : Frames) (m : Store) (σ : State) → Agrees W bound K.ground μ m σ → Comes W bound K.ground b [] (standing K.ground c [] μ m) σ)
      → (s : Stepped) (a : Answer) (σ : State) → Done W bound K around c s a σ → Done W bound K around b s a σ
  done_moved c b move s Normal σ h =
      comes_later W bound K.ground b [] s (standing K.ground c [] h.frames h.store) σ h.reaches (move h.frames h.store σ h.agrees)
  done_moved c b move s (Gives vs) σ h = h
  done_moved c b move s (Go f p) σ h = h
  done_moved c b move s (Resumed vs) σ h = h
  done_moved c b move s Rejected σ h = h
  done_moved c b move s (Retried n) σ h = h
  done_moved c b move s (Continued n) σ h = h
  done_moved c b move s (Uncaught signal) σ h = h
  done_moved c b move s Spent σ h = h
  done_moved c b move s FrameLimit σ h = h
  done_moved c b move s Broken σ h = h

module _ (W : World) (bound : ℕ) (K : Site) (w : Place) (hi : ℕ) (ctx : Context W K w.points w.around w.slot hi) where
  onward_comes : (v : Place) (target a b : ℕ) (μ : Frames) (m : Store) (σ : State) → Onward K.code v target a b → Agrees W bound K.ground μ m σ
      → Comes W bound K.ground target [] (standing K.ground a [] μ m) σ
  onward_comes v target a b μ m σ falls h = comes_here W bound K w.around target μ m σ h
  onward_comes v target a b μ m σ (jumps own) h = jump_goes W K w.points w.around w.slot hi ctx bound v target a b [] μ m σ own h

  -- the statement's end leads on to a target
  pub onward_done : (v : Place) (target a b : ℕ) (s : Stepped) (r : Result) → Onward K.code v target a b → Did W bound K w.around a s r → Did W bound K w.around target s r
  onward_done v target a b s r code h =
      done_moved W bound K w.around a target (λ μ m σ agrees. onward_comes v target a b μ m σ code agrees) s r.answer r.state h
