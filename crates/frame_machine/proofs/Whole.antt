-- A whole run: it adds output and takes input, and begins so many instructions at most.
use Rattle.std.proofs.Common.{◌≡◌, ℕ, zero, suc, ◌+◌, ◌*◌, ◌<◌, ◌≤◌, List, [], ◌∷◌, ◌++◌, length, Option, Some, None, refl, sym, ap, subst, ◌∙◌, arith, append_assoc, append-nil}
use Rattle.code_forms.specs.declared.instruction.Instruction.{Instruction}
use Rattle.object_files.specs.declared.image.Image.{Image}
use Rattle.signaller.specs.declared.signal_id.SignalId.{SignalId}
use Rattle.machine_rules.specs.State.{Role, Frame, InArm, Active, Activations, Store, State, Runs, Seeks, Leaves, Ending, Stepped, Goes, Stops}
use Rattle.machine_rules.specs.LookUps.{instruction_under}
use Rattle.machine_rules.specs.Moves.{with, limit}
use Rattle.machine_rules.specs.Steps.{worked, works_in, begin, run, step, Ends, stops, goes}
use Rattle.machine_rules.proofs.Measure.{Owned, weight_of, weight}
use Rattle.machine_rules.proofs.Below.{turns_of, acts_of, fewer, lighter}
use Rattle.machine_rules.proofs.Nearer.{ahead_of, Nearer, lower, further, After, GoesForward, after_step}
use Rattle.machine_activations.proofs.Keeping.{next_part}
use Rattle.frame_machine.specs.Longest.{far}
use Rattle.frame_machine.proofs.Walk.{store_of, Continues, itself, EndingIsRight, AllRight, IsFit, Kept, IsWide, RaisesRight, kept_run, kept_start_next, kept_seek, kept_leaving}

weight_most : (role : Role (List ℕ)) (p : ℕ) → weight_of role p ≤ 2
weight_most (Frame variables) zero = omega arith
weight_most (Frame variables) (suc p) = omega arith
weight_most (InArm own arm why) p = omega arith

pub weight_small : (S : Activations) → weight S ≤ 2 * length S
weight_small [] = omega arith
weight_small (a ∷ S) = let h = weight_most a.role a.procedure in let r = weight_small S in omega (arith, h, r)

far_less : (P P' h h' A : ℕ) → P' < P → h' ≤ A → P' * suc A + h' < P * suc A + h
far_less P P' h h' A less l = let k = next_part P' P (suc A) less in omega (arith, k, l)

abbrev pub distance : Image → ℕ → State → ℕ
distance image A s = far (turns_of s) (weight (acts_of s)) (ahead_of image s) A

nearer_less : (image : Image) (R : SignalId → Type 0) (A : ℕ) (s t : State) → IsFit image R A t → Nearer image s t → distance image A t < distance image A s
nearer_less image R A s t fit (lower (fewer l)) =
    let w = weight_small (acts_of t) in let long : length (acts_of t) ≤ 8192 = fit.long in
    far_less (turns_of s * 16385 + weight (acts_of s)) (turns_of t * 16385 + weight (acts_of t)) (ahead_of image s) (ahead_of image t) A (omega (arith, l, w, long)) fit.ahead
nearer_less image R A s t fit (lower (lighter e l)) =
    far_less (turns_of s * 16385 + weight (acts_of s)) (turns_of t * 16385 + weight (acts_of t)) (ahead_of image s) (ahead_of image t) A (omega (arith, e, l)) fit.ahead
nearer_less image R A s t fit (further e w l) = rw (e, w) (omega (arith, l))

abbrev pub store_in : Stepped → Store
store_in (Goes s) = store_of s
store_in (Stops end m) = m

abbrev pub left_in : Image → ℕ → Stepped → ℕ
left_in image A (Goes s) = suc (distance image A s)
left_in image A (Stops end m) = 0

-- what came of a run from here on
pub record Ran (image : Image) (R : SignalId → Type 0) (A : ℕ) (x : Stepped) (end : Ending) (last : Store) : Type 0 where
  pub written : List ℕ
  pub output : last.output ≡ (store_in x).output ++ written
  pub taken : List ℕ
  pub input : (store_in x).input ≡ taken ++ last.input
  pub more : (store_in x).begun ≤ last.begun
  pub few : last.begun ≤ (store_in x).begun + left_in image A x
  pub right : EndingIsRight R end

abbrev pub CanRunOn : Image → (SignalId → Type 0) → ℕ → Stepped → Type 0
CanRunOn image R A (Goes s) = IsFit image R A s × Owned (acts_of s)
CanRunOn image R A (Stops end m) = EndingIsRight R end

-- a step, which begins one instruction at most
record Stepping (image : Image) (R : SignalId → Type 0) (A : ℕ) (s : State) (x : Stepped) : Type 0 where
  base : Store
  output : base.output ≡ (store_of s).output
  input : base.input ≡ (store_of s).input
  low : (store_of s).begun ≤ base.begun
  high : base.begun ≤ suc (store_of s).begun
  kept : Kept image R A base x

module _ (image : Image) (R : SignalId → Type 0) (A : ℕ) (wide : IsWide image A) (raises : RaisesRight image R) (forward : GoesForward image) where
  begun_so : (a : Active) (S : Activations) (m : Store) → length m.control ≤ A → length (a ∷ S) ≤ limit → AllRight R (a ∷ S) → Owned (a ∷ S) → (o : Option Instruction)
      → Stepping image R A (Runs (a ∷ S) m) (with o m (λ i. begin image i a S m))
  unfolding with begin
  begun_so a S m short l r o None = record { base = m; output = refl; input = refl; low = omega arith; high = omega arith; kept = (tt, itself m) }
  begun_so a S m short l r o (Some i) = record {
    base = record m { begun = suc m.begun };
    output = refl;
    input = refl;
    low = omega arith;
    high = omega arith;
    kept = kept_run image R A wide raises (record m { begun = suc m.begun }) short a S i (works_in image i a S m) l r o;
  }

  stepped : (s : State) → IsFit image R A s → Owned (acts_of s) → Stepping image R A s (step image s)
  unfolding step run
  stepped (Runs [] m) fit o = record { base = m; output = refl; input = refl; low = omega arith; high = omega arith; kept = kept_start_next image R A wide raises m fit.control }
  stepped (Runs (a ∷ S) m) fit o = begun_so a S m fit.control fit.long fit.right o (instruction_under image a)
  stepped (Seeks signal args q search S m) fit o = record {
    base = m;
    output = refl;
    input = refl;
    low = omega arith;
    high = omega arith;
    kept = kept_seek image R A wide raises m fit.control signal args q search S m (itself m) fit.long fit.right o fit.signal fit.ahead;
  }
  stepped (Leaves t search S m) fit o = record {
    base = m;
    output = refl;
    input = refl;
    low = omega arith;
    high = omega arith;
    kept = kept_leaving image R A wide raises m fit.control t search S m (itself m) fit.long fit.right;
  }

  runs_on : (s : State) (x : Stepped) → Stepping image R A s x → After image s x → CanRunOn image R A x
  runs_on s (Goes t) p after = (p.kept.0, after.0)
  runs_on s (Stops end m) p after = p.kept.0

  continued : (base : Store) (x : Stepped) → Kept image R A base x → Continues base (store_in x)
  continued base (Goes t) k = k.1
  continued base (Stops end m) k = k.1

  less_left : (s : State) (x : Stepped) → Stepping image R A s x → After image s x → left_in image A x < left_in image A (Goes s)
  less_left s (Goes t) p after = let h = nearer_less image R A s t p.kept.0 after.1 in omega (arith, h)
  less_left s (Stops end m) p after = omega arith

  one_more : (s : State) (x : Stepped) → Stepping image R A s x → After image s x → (end : Ending) (last : Store) → Ran image R A x end last → Ran image R A (Goes s) end last
  one_more s x p after end last r =
      let c = continued p.base x p.kept in let b = c.begun in
      let low = p.low in let high = p.high in let more = r.more in let few = r.few in let less = less_left s x p after in
      record {
        written = c.written ++ r.written;
        output = r.output ∙ ap (λ o. o ++ r.written) (c.output ∙ ap (λ o. o ++ c.written) p.output) ∙ append_assoc (store_of s).output c.written r.written;
        taken = c.taken ++ r.taken;
        input = sym p.input ∙ c.input ∙ ap (λ i. c.taken ++ i) r.input ∙ sym (append_assoc c.taken r.taken last.input);
        more = omega (arith, b, low, more);
        few = omega (arith, b, high, few, less);
        right = r.right;
      }

  pub ran : (x : Stepped) → CanRunOn image R A x → (end : Ending) (last : Store) → Ends image x end last → Ran image R A x end last
  ran _ fit _ _ (stops end m) = record { written = []; output = sym (append-nil m.output); taken = []; input = refl; more = omega arith; few = omega arith; right = fit }
  ran _ fit _ _ (goes s end m e) =
      let p = stepped s fit.0 fit.1 in let after = after_step image forward s fit.1 in
      one_more s (step image s) p after end m (ran (step image s) (runs_on s (step image s) p after) end m e)

  -- the instruction at which the topmost activation stands is begun
  pub begins_one : (a : Active) (S : Activations) (m : Store) → IsFit image R A (Runs (a ∷ S) m) → Owned (a ∷ S) → (i : Instruction) → instruction_under image a ≡ Some i
      → (end : Ending) (last : Store) → Ends image (Goes (Runs (a ∷ S) m)) end last → suc m.begun ≤ last.begun
  unfolding step run with begin
  begins_one a S m fit o i is _ _ (goes s end last e) =
      let n : Store = record m { begun = suc m.begun } in
      let x : Stepped = worked image i (works_in image i a S m) a S n in
      let there : step image (Runs (a ∷ S) m) ≡ x = ap (λ (k : Option Instruction). with k m (λ i. begin image i a S m)) is in
      let kept : Kept image R A n x = kept_run image R A wide raises n fit.control a S i (works_in image i a S m) fit.long fit.right o in
      let p : Stepping image R A (Runs (a ∷ S) m) x = record { base = n; output = refl; input = refl; low = omega arith; high = omega arith; kept = kept } in
      let after : After image (Runs (a ∷ S) m) x = subst (λ y. After image (Runs (a ∷ S) m) y) there (after_step image forward (Runs (a ∷ S) m) o) in
      let r = ran x (runs_on (Runs (a ∷ S) m) x p after) end last (subst (λ y. Ends image y end last) there e) in
      let more = r.more in let c = continued n x kept in let b = c.begun in omega (arith, more, b)
