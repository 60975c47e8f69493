-- A call through a link over the region is a call of the machine.
use Rattle.std.proofs.Common.{◌≡◌, ◌≢◌, ℕ, zero, suc, ◌<◌, List, [], ◌∷◌, length, Bool, true, false, set, Some, refl, sym, ap, ◌∙◌, arith, nat_eq}
use Rattle.std.specs.Prelude.{slice_get, slice_set, ◌||◌, if◌then◌else◌}
use Rattle.std.proofs.lemmas.Bool.{eqb-true, eqb-false}
use Rattle.std.proofs.lemmas.Option.{same_Some}
use Rattle.code_forms.specs.declared.module_code.CodeProcedure.{CodeProcedure}
use Rattle.object_files.specs.declared.image.Image.{Image}
use Rattle.object_files.specs.declared.image.Link.{Link}
use Rattle.object_files.specs.declared.image.Link.TheVariants.{Wanted, To}
use Rattle.machine_rules.specs.State.{Active, Activations, Store}
use Rattle.machine_rules.specs.Words.{popped, under}
use Rattle.machine_rules.specs.LookUps.{procedure_of, called, Host, host_of}
use Rattle.machine_rules.specs.Moves.{with, spend}
use Rattle.machine_rules.specs.Calls.{set_of, enter_frame, start, call, call_in, call_bound, host}
use Rattle.machine_activations.proofs.Following.{set_own, set_other}
use Rattle.machine_calls.specs.Started.{ShowsStarted}

module _ (image : Image) (a : Active) (S : Activations) (m : Store) where
  -- what the link is bound to is called

  pub host_called : (bound : Link) (wanted : ℕ) (h : Host) → bound ≡ Wanted wanted → host_of image wanted ≡ Some h → call_bound image bound a S m ≡ host image h a S m
  unfolding call_bound with
  host_called bound wanted h is found = ap (λ b. call_bound image b a S m) is ∙ ap (λ o. with o m (λ h. host image h a S m)) found

  pub in_called : (bound : Link) (j n : ℕ) (q : CodeProcedure) → bound ≡ To j n → called image j n ≡ Some q → call_bound image bound a S m ≡ call_in image j n q a S m
  unfolding call_bound with
  in_called bound j n q is found = ap (λ b. call_bound image b a S m) is ∙ ap (λ o. with o m (λ (p : CodeProcedure). call_in image j n p a S m)) found

  pub call_now : (j n : ℕ) (q : CodeProcedure) → (nat_eq a.instance j || m.started j) ≡ true → call_in image j n q a S m ≡ call j n q a S m
  unfolding call_in
  call_now j n q b = ap (λ b. if b then call j n q a S m else start image j (a ∷ S) m) b

  -- the body is entered as a procedure without arguments

  abbrev pub marked : (instance : ℕ) → Store
  marked j = record m { started = set_of m.started j true }

  pub start_now : (j n : ℕ) (q body : CodeProcedure) → (nat_eq a.instance j || m.started j) ≡ false → procedure_of image j 0 ≡ Some body → body.args ≡ 0
      → call_in image j n q a S m ≡ spend (marked j) (λ m1. call j 0 body a S m1)
  unfolding call_in start with call
  start_now j n q body b is none =
      ap (λ b. if b then call j n q a S m else start image j (a ∷ S) m) b
      ∙ ap (λ o. with o m (λ (p : CodeProcedure). spend (marked j) (λ m1. enter_frame j 0 p [] (a ∷ S) m1))) is
      ∙ ap (λ k. spend (marked j) (λ m1. enter_frame j 0 body (popped k a.operands) (record a { operands = under k a.operands } ∷ S) m1)) (sym none)

-- The marks.

get_set_same : (xs : List Bool) (i : ℕ) (y : Bool) → i < length xs → slice_get (set xs i y) i ≡ Some y
get_set_same [] i y less = absurd (omega (arith, less))
get_set_same (x ∷ xs) zero y less = refl
get_set_same (x ∷ xs) (suc i) y less = get_set_same xs i y (omega (arith, less))

get_set_other : (xs : List Bool) (i j : ℕ) (y : Bool) → i ≢ j → slice_get (set xs i y) j ≡ slice_get xs j
get_set_other [] i j y other = refl
get_set_other (x ∷ xs) zero zero y other = absurd (other refl)
get_set_other (x ∷ xs) zero (suc j) y other = refl
get_set_other (x ∷ xs) (suc i) zero y other = refl
get_set_other (x ∷ xs) (suc i) (suc j) y other = get_set_other xs i j y (λ e. other (ap suc e))

-- one more is marked
pub marks_one : (marks : List Bool) (started : ℕ → Bool) (j : ℕ) → j < length marks → ShowsStarted marks started → ShowsStarted (slice_set marks j true) (set_of started j true)
marks_one marks started j within shown i b at = marks_by (nat_eq i j) refl
  where
    marks_by : (x : Bool) → nat_eq i j ≡ x → set_of started j true i ≡ b
    marks_by true e =
        let same : i ≡ j = eqb-true i j e in
        ap (λ k. set_of started j true k) same ∙ set_own started j true
        ∙ same_Some true b (sym (get_set_same marks j true within) ∙ ap (λ k. slice_get (set marks j true) k) (sym same) ∙ at)
    marks_by false e =
        let other : i ≢ j = (λ (s : i ≡ j). eqb-false i j e s) in
        set_other started j true i other ∙ shown i b (sym (get_set_other marks j i true (λ s. other (sym s))) ∙ at)
