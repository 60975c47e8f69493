-- Loops by rounds: the condition, the body, the jump back with its turn, what is done at the end.
use Rattle.std.proofs.Common.{◌≡◌, ℕ, suc, ◌≤◌, [], ◌∷◌, Bool, true, false, not, refl, arith}
use Rattle.std.proofs.lemmas.Bool.{true≢false, false≢true}
use Rattle.mesa_types.specs.Typed.{Stmt, Finish, NoFinish, Finished, Condition, Always, While, Until}
use Rattle.mesa_types.specs.Counts.{hidden_condition}
use Rattle.mesa_types.specs.Operators.{differ, truth, is_true}
use Rattle.mesa_types.specs.Sound.{ConditionIn}
use Rattle.code_forms.specs.declared.instruction.Instruction.TheVariants as i
use Rattle.source_meaning.specs.Value.{nth, word}
use Rattle.source_meaning.specs.Value as value
use Rattle.source_meaning.specs.State.{State, Answer, Normal, Gives, Go, Resumed, Rejected, Retried, Continued, Uncaught, Spent, FrameLimit, Broken, Result, Run, carry, after, give, give_value, give_word, branch, value_then, on_values, on_word, spend}
use Rattle.source_meaning.specs.Meaning as meaning
use Rattle.source_meaning.specs.Meaning.{does, condition, finish}
use Rattle.machine_rules.specs.State.{Store, Stepped}
use Rattle.machine_rules.specs.Moves.{go_to}
use Rattle.machine_rules.specs.Steps.{perform}
use Rattle.machine_rules.specs.Working.{works}
use Rattle.code_rules.specs.CodeFor as row
use Rattle.code_rules.specs.CodeFor.{ConditionCode, FinishCode}
use Rattle.code_rules.specs.Loops.{Counter, NoCounter, CountedIn}
use Rattle.code_rules.specs.Reading.{Place, Own, no_more, one_more}
use Rattle.agreement_rules.specs.Reaches.{Reaches}
use Rattle.agreement_laws.specs.World.{World}
use Rattle.agreement_laws.specs.Standing.{Frames}
use Rattle.agreement_laws.specs.Relation.{heres, Agrees, standing}
use Rattle.agreement_laws.specs.Contexts.{Site, Context, InPlace, Inside}
use Rattle.agreement_laws.specs.Answers.{Ended, Passed}
use Rattle.agreement_laws.specs.Promises.{next, Now, ExpressionsFollow}
use Rattle.agreement_laws.proofs.Branches.{led_on}
use Rattle.agreement_laws.proofs.Control.{IsControl, begun_more, agreed_begun, reaches_performed}
use Rattle.agreement_laws.proofs.Doing.{Did, null_row, onward_done}
use Rattle.agreement_laws.proofs.Moving.{run_order, onward_run}
use Rattle.agreement_laws.proofs.Spending.{spend_on}

-- the control ends such a loop
abbrev pub CanEnd : Condition → Counter → Type 0
CanEnd Always NoCounter = ⊥
CanEnd Always (CountedIn z g down) = Unit {0}
CanEnd (While e) k = Unit {0}
CanEnd (Until e) k = Unit {0}

pub counted_ends : (cond : Condition) (z : ℕ) (g : _) (down : Bool) → CanEnd cond (CountedIn z g down)
counted_ends Always z g down = tt
counted_ends (While e) z g down = tt
counted_ends (Until e) z g down = tt

-- The condition.

module _ (W : World) (n : ℕ) (exprs : ExpressionsFollow W n) (K : Site) (w : Place) (Q : Stepped → Result → Type 0)
    (later : (s t : Stepped) (r : Result) → Reaches W.image s t → Q t r → Q s r)
    (out : (s : Stepped) (a : Answer) (σ : State) → Passed W (suc n) K w.around s a σ → Q s (record { answer = a; state = σ })) where
  true_by : (t : Bool) (x y : Run) (s : Stepped) (σ : State) → t ≡ true → Q s (x σ) → Q s (branch t x y σ)
  unfolding branch
  true_by true x y s σ e h = h
  true_by false x y s σ e h = absurd (false≢true e)

  false_by : (t : Bool) (x y : Run) (s : Stepped) (σ : State) → t ≡ false → Q s (y σ) → Q s (branch t x y σ)
  unfolding branch
  false_by true x y s σ e h = absurd (true≢false e)
  false_by false x y s σ e h = h

  differ_false : (t z : Bool) → differ t false ≡ z → t ≡ z
  unfolding differ
  differ_false true z e = e
  differ_false false z e = e

  turned : (t z : Bool) → differ t true ≡ z → is_true (truth (not t)) ≡ z
  unfolding differ truth is_true
  turned true z e = e
  turned false z e = e

  -- a round goes on behind it, or the loop is done
  pub condition_on : (k : Counter) (cond : Condition) (done a b : ℕ) (goes_on ends : Run) (μ : Frames) (m : Store) (σ : State) → ConditionCode K.code w cond done a b
      → ConditionIn K.scope cond → InPlace W K w (hidden_condition cond) → Inside W K.ground a b → Now W (suc n) K μ m σ
      → ((ν : Frames) (l : Store) (τ : State) → Agrees W (suc n) K.ground ν l τ → Q (standing K.ground b [] ν l) (goes_on τ))
      → (CanEnd cond k → (ν : Frames) (l : Store) (τ : State) → Agrees W (suc n) K.ground ν l τ → Q (standing K.ground done [] ν l) (ends τ))
      → Q (standing K.ground a [] μ m) (on_word (condition W.program (next W n) cond K.meant) (λ x. branch (is_true x) goes_on ends) σ)
  unfolding condition ConditionIn hidden_condition on_word on_values after carry value_then give_word give_value give nth word value.one truth is_true branch
  condition_on k Always done a b goes_on ends μ m σ row.always sound place inside now here there = here μ m σ now
  condition_on k (While e) done a b goes_on ends μ m σ (row.while code) sound place inside now here there =
      let r = meaning.value W.program (next W n) e K.meant σ in
      led_on W (suc n) K w.around Q later out false done b [] (λ x. branch (is_true x) goes_on ends) (standing K.ground a [] μ m) r
      (exprs.branch e K w false done a b [] μ m σ code sound place inside now)
      (λ x t ν l agrees. true_by (is_true x) goes_on ends (standing K.ground b [] ν l) r.state (differ_false (is_true x) true t) (here ν l r.state agrees))
      (λ x t ν l agrees. false_by (is_true x) goes_on ends (standing K.ground done [] ν l) r.state (differ_false (is_true x) false t) (there tt ν l r.state agrees))
  condition_on k (Until e) done a b goes_on ends μ m σ (row.until code) sound place inside now here there =
      let r = meaning.value W.program (next W n) e K.meant σ in
      let R = λ (s : Stepped) (q : Result). Q s (value_then (λ vs. branch (is_true (word (nth vs 0))) goes_on ends) q.answer q.state) in
      led_on W (suc n) K w.around R (λ s t q k h. later s t (value_then (λ vs. branch (is_true (word (nth vs 0))) goes_on ends) q.answer q.state) k h) (λ s a τ h. passed s a τ h)
      true done b [] (λ x. give_word (truth (not (is_true x)))) (standing K.ground a [] μ m) r
      (exprs.branch e K w true done a b [] μ m σ code sound place inside now)
      (λ x t ν l agrees. true_by (is_true (truth (not (is_true x)))) goes_on ends (standing K.ground b [] ν l) r.state (turned (is_true x) true t) (here ν l r.state agrees))
      (λ x t ν l agrees. false_by (is_true (truth (not (is_true x)))) goes_on ends (standing K.ground done [] ν l) r.state (turned (is_true x) false t) (there tt ν l r.state agrees))
    where
      passed : (s : Stepped) (a : Answer) (τ : State) → Passed W (suc n) K w.around s a τ → Q s (value_then (λ vs. branch (is_true (word (nth vs 0))) goes_on ends) a τ)
      passed s Normal τ h = absurd h
      passed s (Gives vs) τ h = absurd h
      passed s (Go f p) τ h = out s (Go f p) τ h
      passed s (Resumed vs) τ h = absurd h
      passed s Rejected τ h = absurd h
      passed s (Retried j) τ h = absurd h
      passed s (Continued j) τ h = absurd h
      passed s (Uncaught signal) τ h = out s (Uncaught signal) τ h
      passed s Spent τ h = out s Spent τ h
      passed s FrameLimit τ h = out s FrameLimit τ h
      passed s Broken τ h = out s Broken τ h

-- The jump back, with its turn.

jump_back_is : (target : ℕ) → IsControl (i.JumpBack target)
unfolding works
jump_back_is target texts number v = refl

pub back_on : (W : World) (n : ℕ) (K : Site) (w : Place) (hi : ℕ) (ctx : Context W K w.points w.around w.slot hi) (Q : Stepped → Result → Type 0)
    (later : (s t : Stepped) (r : Result) → Reaches W.image s t → Q t r → Q s r) (v : Place) (target a b : ℕ) (run : Run) (μ : Frames) (m : Store) (σ : State)
    → Own K.code v (i.JumpBack target ∷ []) a b → Agrees W (suc n) K.ground μ m σ
    → (Ended W Spent (standing K.ground a [] μ m) σ → Q (standing K.ground a [] μ m) (give Spent σ))
    → ((l : Store) (τ : State) → Agrees W n K.ground μ l τ → Q (standing K.ground target [] μ l) (run τ))
    → Q (standing K.ground a [] μ m) (spend run σ)
unfolding perform go_to
back_on W n K w hi ctx Q later v target a b run μ m σ (one_more r no_more) agrees out on =
    let s = standing K.ground a [] μ m in
    spend_on W n K.ground.control K.ground.hold (heres K.ground) Q s μ (begun_more m) σ
    (λ m1. standing K.ground target [] μ m1) run
    (reaches_performed W K w.points w.around w.slot hi ctx μ m a v.depth [] (i.JumpBack target) v.around r (jump_back_is target))
    (agreed_begun W (suc n) K.ground μ m σ agrees) out
    (λ t e less reaches. later s (standing K.ground target [] μ (record (begun_more m) { turns = t })) (run (record σ { turns = t })) reaches
    (on (record (begun_more m) { turns = t }) (record σ { turns = t }) less))

-- What is done where the control has ended the loop.

pub finish_on : (W : World) (n : ℕ) (K : Site) (w : Place) (hi : ℕ) (ctx : Context W K w.points w.around w.slot hi) (k : Counter) (cond : Condition) (fin : Finish) (end a b : ℕ)
    (μ : Frames) (m : Store) (σ : State) → FinishCode K.code w k cond fin end a b → CanEnd cond k → Agrees W (suc n) K.ground μ m σ
    → ((s : Stmt) (c : ℕ) → fin ≡ Finished s → row.StmtCode K.code w s a c → c ≤ b → Did W (suc n) K w.around c (standing K.ground a [] μ m) (does W.program (next W n) s K.meant σ))
    → Did W (suc n) K w.around end (standing K.ground a [] μ m) (finish W.program (next W n) fin K.meant σ)
unfolding finish give
finish_on W n K w hi ctx k cond NoFinish end a b μ m σ (row.no_finish onward) ends agrees follows =
    onward_done W (suc n) K w hi ctx w end a b (standing K.ground a [] μ m) (give Normal σ) onward (null_row W (suc n) K w.around a μ m σ agrees)
finish_on W n K w hi ctx k cond (Finished s) end a b μ m σ (row.finished c code onward) ends agrees follows =
    let le = run_order (onward_run onward) in
    onward_done W (suc n) K w hi ctx w end c b (standing K.ground a [] μ m) (does W.program (next W n) s K.meant σ) onward (follows s c refl code (omega (arith, le)))
finish_on W n K w hi ctx k cond fin end a b μ m σ row.never ends agrees follows = absurd ends
