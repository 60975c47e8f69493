-- Instructions that touch more than the activation: the machine performs them where it stands. Jumps within a region.
use Rattle.std.proofs.Common.{◌≡◌, ℕ, zero, suc, List, [], ◌∷◌, Bool, true, false, Some, refl, ap, ◌∙◌, subst, arith}
use Rattle.std.specs.Prelude.{option_and_then, nat_eq, if◌then◌else◌}
use Rattle.std.proofs.lemmas.Bool.{ne_eqb}
use Rattle.mesa_types.specs.Operators.{differ, is_true}
use Rattle.code_forms.specs.declared.instruction.Instruction.{Instruction}
use Rattle.code_forms.specs.declared.instruction.Instruction.TheVariants as i
use Rattle.code_forms.specs.declared.module_code.CodeProcedure.{CodeProcedure}
use Rattle.source_meaning.specs.State.{State}
use Rattle.machine_rules.specs.State.{Store, Runs}
use Rattle.machine_rules.specs.LookUps.{procedure_under, instruction_at, instruction_under}
use Rattle.machine_rules.specs.Moves.{with, onward, go_to}
use Rattle.machine_rules.specs.Working.{Work, Touches, works}
use Rattle.machine_rules.specs.Steps.{worked, works_in, begin, run, step, perform}
use Rattle.code_rules.specs.OwnCode.{jump_where}
use Rattle.code_rules.specs.Points.{Points}
use Rattle.code_rules.specs.Reading.{Destination, Place, Own, no_more, one_more, read, phrases_around}
use Rattle.agreement_rules.specs.Layout.{Strings}
use Rattle.agreement_rules.specs.Reaches.{Reaches}
use Rattle.agreement_rules.proofs.Lifted.{found_there}
use Rattle.agreement_laws.specs.World.{World}
use Rattle.agreement_laws.specs.Standing.{Frames, at, filled, fill}
use Rattle.agreement_laws.specs.Relation.{Ground, Agrees, standing}
use Rattle.agreement_laws.specs.Contexts.{Site, Context}
use Rattle.agreement_laws.specs.Answers.{Comes}
use Rattle.agreement_laws.proofs.Codes.{entries_are}
use Rattle.agreement_laws.proofs.Going.{reaches_step}
use Rattle.agreement_laws.proofs.Keeping.{beside_begun}

-- one instruction more was begun
abbrev pub begun_more : Store → Store
begun_more m = record m { begun = suc m.begun }

pub agreed_begun : (W : World) (bound : ℕ) (G : Ground) (μ : Frames) (m : Store) (σ : State) → Agrees W bound G μ m σ → Agrees W bound G μ (begun_more m) σ
agreed_begun W bound G μ m σ h = record {
  laid = h.laid;
  beside = beside_begun W G.control m σ (suc m.begun) h.beside;
  count = h.count;
  falling = h.falling;
  named = h.named;
  enough = h.enough;
}

-- the machine does not work it
abbrev pub IsControl : Instruction → Type 0
IsControl i = (texts : Strings) (number : ℕ) (v : Work) → works texts number i v ≡ Touches

pub jump_is : (target : ℕ) → IsControl (i.Jump target)
unfolding works
jump_is target texts number v = refl

pub jump_if_is : (target : ℕ) → IsControl (i.JumpIf target)
unfolding works
jump_if_is target texts number v = refl

pub jump_if_not_is : (target : ℕ) → IsControl (i.JumpIfNot target)
unfolding works
jump_if_not_is target texts number v = refl

some_is_no_zero : (x : ℕ) → nat_eq (suc x) 0 ≡ false
some_is_no_zero x = ne_eqb (suc x) 0 (λ e. omega (arith, e))

module _ (W : World) (K : Site) (points : Points Destination) (around : List ℕ) (from to : ℕ) (ctx : Context W K points around from to) where
  -- what is read there is the instruction at which the topmost activation stands
  pub stands_at : (μ : Frames) (o d : ℕ) (operands : List ℕ) (j : Instruction) (near : List ℕ)
      → read K.code o ≡ Some (record { instruction = j; depth = d; around = near }) → instruction_under W.image (filled μ (at K.ground.here o operands)) ≡ Some j
  unfolding instruction_under procedure_under
  stands_at μ o d operands j near is =
      let c = ctx.code_of in
      let found = found_there K.code.entries o (phrases_around K.code.routine.phrases o) (record { instruction = j; depth = d; around = near }) is in
      ap (λ p. option_and_then (λ (x : CodeProcedure). instruction_at x.code o) p) c.is_there
      ∙ ap (λ es. instruction_at es o) (entries_are W K.ground.here.procedure K.code c) ∙ found.0

  pub performs : (μ : Frames) (m : Store) (o d : ℕ) (operands : List ℕ) (j : Instruction) (near : List ℕ)
      → read K.code o ≡ Some (record { instruction = j; depth = d; around = near }) → IsControl j
      → step W.image (Runs (fill μ (at K.ground.here o operands ∷ K.ground.below)) m)
      ≡ perform W.image j (filled μ (at K.ground.here o operands)) (fill μ K.ground.below) (begun_more m)
  unfolding step run begin works_in worked with
  performs μ m o d operands j near is control =
      let a = filled μ (at K.ground.here o operands) in
      let S = fill μ K.ground.below in
      ap (λ x. with x m (λ j. begin W.image j a S m)) (stands_at μ o d operands j near is)
      ∙ ap (λ y. worked W.image j y a S (begun_more m)) (control _ _ _)

  pub reaches_performed : (μ : Frames) (m : Store) (o d : ℕ) (operands : List ℕ) (j : Instruction) (near : List ℕ)
      → read K.code o ≡ Some (record { instruction = j; depth = d; around = near }) → IsControl j
      → Reaches W.image (standing K.ground o operands μ m) (perform W.image j (filled μ (at K.ground.here o operands)) (fill μ K.ground.below) (begun_more m))
  reaches_performed μ m o d operands j near is control =
      reaches_step W.image (Runs (fill μ (at K.ground.here o operands ∷ K.ground.below)) m) _ (performs μ m o d operands j near is control)

  -- a jump
  pub jump_goes : (bound : ℕ) (w : Place) (target a b : ℕ) (operands : List ℕ) (μ : Frames) (m : Store) (σ : State) → Own K.code w (i.Jump target ∷ []) a b
      → Agrees W bound K.ground μ m σ → Comes W bound K.ground target operands (standing K.ground a operands μ m) σ
  unfolding perform go_to
  jump_goes bound w target a b operands μ m σ (one_more r no_more) h = record {
    frames = μ;
    store = begun_more m;
    agrees = agreed_begun W bound K.ground μ m σ h;
    reaches = reaches_performed μ m a w.depth operands (i.Jump target) w.around r (jump_is target);
  }

  -- a jump on a word: to the target, or on to b
  pub branch_goes : (bound : ℕ) (w : Place) (sense : Bool) (target x a b : ℕ) (rest : List ℕ) (μ : Frames) (m : Store) (σ : State)
      → Own K.code w (jump_where sense target ∷ []) a b → Agrees W bound K.ground μ m σ
      → Comes W bound K.ground (if differ (is_true x) sense then b else target) rest (standing K.ground a (x ∷ rest) μ m) σ
  unfolding perform go_to onward is_true differ
  branch_goes bound w true target zero a b rest μ m σ (one_more r no_more) h = record {
    frames = μ;
    store = begun_more m;
    agrees = agreed_begun W bound K.ground μ m σ h;
    reaches = reaches_performed μ m a w.depth (0 ∷ rest) (i.JumpIf target) w.around r (jump_if_is target);
  }
  branch_goes bound w true target (suc x) a b rest μ m σ (one_more r no_more) h = record {
    frames = μ;
    store = begun_more m;
    agrees = agreed_begun W bound K.ground μ m σ h;
    reaches = subst (λ t. Reaches W.image (standing K.ground a (suc x ∷ rest) μ m) t)
        (ap (λ z. if z then onward (i.JumpIf target) rest (filled μ (at K.ground.here a (suc x ∷ rest))) (fill μ K.ground.below) (begun_more m)
        else go_to target rest (filled μ (at K.ground.here a (suc x ∷ rest))) (fill μ K.ground.below) (begun_more m)) (some_is_no_zero x))
        (reaches_performed μ m a w.depth (suc x ∷ rest) (i.JumpIf target) w.around r (jump_if_is target));
  }
  branch_goes bound w false target zero a b rest μ m σ (one_more r no_more) h = record {
    frames = μ;
    store = begun_more m;
    agrees = agreed_begun W bound K.ground μ m σ h;
    reaches = reaches_performed μ m a w.depth (0 ∷ rest) (i.JumpIfNot target) w.around r (jump_if_not_is target);
  }
  branch_goes bound w false target (suc x) a b rest μ m σ (one_more r no_more) h = record {
    frames = μ;
    store = begun_more m;
    agrees = agreed_begun W bound K.ground μ m σ h;
    reaches = subst (λ t. Reaches W.image (standing K.ground a (suc x ∷ rest) μ m) t)
        (ap (λ z. if z then go_to target rest (filled μ (at K.ground.here a (suc x ∷ rest))) (fill μ K.ground.below) (begun_more m)
        else onward (i.JumpIfNot target) rest (filled μ (at K.ground.here a (suc x ∷ rest))) (fill μ K.ground.below) (begun_more m)) (some_is_no_zero x))
        (reaches_performed μ m a w.depth (suc x ∷ rest) (i.JumpIfNot target) w.around r (jump_if_not_is target));
  }
