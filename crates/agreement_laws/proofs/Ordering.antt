-- Statements in order: the next follows where one has come to its end.
use Rattle.std.proofs.Common.{ℕ, List, []}
use Rattle.source_meaning.specs.State.{State, Answer, Normal, Gives, Go, Resumed, Rejected, Retried, Continued, Uncaught, Spent, FrameLimit, Broken, Run, give, normal_then}
use Rattle.machine_rules.specs.State.{Store, Stepped}
use Rattle.agreement_laws.specs.World.{World}
use Rattle.agreement_laws.specs.Standing.{Frames}
use Rattle.agreement_laws.specs.Relation.{Agrees, standing}
use Rattle.agreement_laws.specs.Contexts.{Site}
use Rattle.agreement_laws.specs.Answers.{Done}
use Rattle.agreement_laws.proofs.Going.{done_later}

pub then_row : (W : World) (bound : ℕ) (K : Site) (around : List ℕ) (c b : ℕ) (others : Run) (s : Stepped) (a : Answer) (σ : State) → Done W bound K around c s a σ
    → ((μ : Frames) (m : Store) → Agrees W bound K.ground μ m σ → Done W bound K around b (standing K.ground c [] μ m) (others σ).answer (others σ).state)
    → Done W bound K around b s (normal_then others a σ).answer (normal_then others a σ).state
unfolding normal_then give
then_row W bound K around c b others s Normal σ h on =
    done_later W bound K around b s (standing K.ground c [] h.frames h.store) (others σ).answer (others σ).state h.reaches (on h.frames h.store h.agrees)
then_row W bound K around c b others s (Gives vs) σ h on = h
then_row W bound K around c b others s (Go f p) σ h on = h
then_row W bound K around c b others s (Resumed vs) σ h on = h
then_row W bound K around c b others s Rejected σ h on = h
then_row W bound K around c b others s (Retried n) σ h on = h
then_row W bound K around c b others s (Continued n) σ h on = h
then_row W bound K around c b others s (Uncaught signal) σ h on = h
then_row W bound K around c b others s Spent σ h on = h
then_row W bound K around c b others s FrameLimit σ h on = h
then_row W bound K around c b others s Broken σ h on = h
