-- A call over the region is a call of the machine.
use Rattle.std.proofs.Common.{◌≡◌, ℕ, zero, suc, ◌+◌, ◌-◌, ◌<◌, ◌≤◌, List, ◌∷◌, length, false, get_or, Some, refl, sym, ap, subst, ◌∙◌, arith, nat_eq}
use Rattle.std.specs.Prelude.{slice_get, option_map}
use Rattle.std.proofs.Math.Logic.{∥∥₁_elim}
use Rattle.std.proofs.Math.Bridge.{le_prop}
use Rattle.std.proofs.Math.ListN.{length-map}
use Rattle.std.proofs.lemmas.Option.{same_Some, slice_get-map, slice_get-get_or, slice_get_within, get_or_from_slice_get}
use Rattle.code_forms.specs.declared.instruction.Instruction.{Instruction}
use Rattle.code_forms.specs.declared.instruction.Instruction.TheVariants.{Call}
use Rattle.code_forms.specs.declared.module_code.CodeEntry.{CodeEntry}
use Rattle.code_forms.specs.declared.module_code.CodeProcedure.{CodeProcedure}
use Rattle.code_forms.specs.declared.module_code.ModuleCode.{ModuleCode}
use Rattle.code_forms.specs.Operands.{OperandsFit}
use Rattle.code_forms.specs.Regions.{region_at}
use Rattle.code_forms.specs.Routine.{routine, moves, words_of, words_there, goes_on}
use Rattle.code_forms.specs.Running.{EntryRuns}
use Rattle.object_files.specs.declared.image.Image.{Image}
use Rattle.machine_rules.specs.declared.end.End.TheVariants.{Spent}
use Rattle.machine_rules.specs.State.{Active, Activations, Store, Runs, Ended, Stepped, Stops}
use Rattle.machine_rules.specs.LookUps.{code_of, procedure_of, called as called_procedure}
use Rattle.machine_rules.specs.Moves.{with, spend_of, spend}
use Rattle.machine_rules.specs.Calls.{call}
use Rattle.machine_rules.specs.Steps.{perform, worked, works_in, begin, run, step}
use Rattle.machine_rules.specs.Working.{works}
use Rattle.machine_topmost.specs.declared.registers.Registers.{Registers}
use Rattle.machine_topmost.proofs.Pausing.{entry_runs, depth_below}
use Rattle.machine_activations.specs.declared.row.Layout.{Layout}
use Rattle.machine_activations.specs.declared.row.Row.{Row}
use Rattle.machine_activations.specs.Below.{Called, GoesOn, Waits}
use Rattle.machine_activations.specs.Shows.{IsPrepared, Shows}
use Rattle.machine_activations.proofs.Located.{InCode, in_code, stands_at}
use Rattle.machine_activations.proofs.Following.{began, spent_by}
use Rattle.machine_activations.proofs.Standing.{procedure_there}

-- arguments and results are words of the frame
pub words_fit : (m : ModuleCode) (n : ℕ) (p : CodeProcedure) → slice_get m.procedures n ≡ Some p → p.args + p.results ≤ p.frame
words_fit m n p there = ∥∥₁_elim m.ranges le_prop (λ r. (
    let same = get_or_from_slice_get m.procedures n p p there in
    subst (λ (q : CodeProcedure). q.args + q.results ≤ q.frame) same (r.each_procedure n p (slice_get_within m.procedures n p there)).words))

called_by : (image : Image) (j n : ℕ) → 0 < n → called_procedure image j n ≡ procedure_of image j n
unfolding called_procedure
called_by image j zero some = absurd (omega (arith, some))
called_by image j (suc n) some = refl

pub waits_by : (image : Image) (j n : ℕ) (p called : CodeProcedure) (entry count : ℕ) → 0 < n → procedure_of image j n ≡ Some called → GoesOn p entry (count + called.results) → Waits image (Called j n) p entry count
unfolding Waits
waits_by image j zero p called entry count some is next = absurd (omega (arith, some))
waits_by image j (suc n) p called entry count some is next = (called, is, next)

-- what a call finds
pub record CallFits (code : ModuleCode) (p : CodeProcedure) (entry number depth : ℕ) : Type 0 where
  pub some : 0 < number
  pub called : CodeProcedure
  pub there : slice_get code.procedures number ≡ Some called
  pub enough : called.args ≤ depth
  pub next : GoesOn p entry (depth - called.args + called.results)
  pub below : depth ≤ p.depth

module _ (image : Image) (layout : Layout) (prepared : IsPrepared image layout) (code : ModuleCode) (j n : ℕ) (p : CodeProcedure) (is_code : code_of image j ≡ Some code) (is : procedure_of image j n ≡ Some p) where
  abbrev inside : InCode image j n p
  inside = in_code image layout prepared j n p is

  same_code : inside.code ≡ code
  same_code = same_Some inside.code code (sym inside.is ∙ is_code)

  there : slice_get code.procedures n ≡ Some p
  there = procedure_there image j n p code is_code is

  pub runs_here : (entry : ℕ) (e : CodeEntry) → slice_get p.code entry ≡ Some e → EntryRuns (routine code p) p entry e
  runs_here entry e at = subst (λ (m : ModuleCode). EntryRuns (routine m p) p entry e) same_code (entry_runs inside.code p inside.valid inside.depths (n, inside.there) entry e at)

  pub below_here : (entry : ℕ) (e : CodeEntry) → slice_get p.code entry ≡ Some e → e.depth ≤ p.depth
  below_here entry e at = depth_below inside.code p inside.valid inside.depths (n, inside.there) entry e at

  pub call_fits : (entry number : ℕ) (e : CodeEntry) → slice_get p.code entry ≡ Some e → e.instruction ≡ Call number → CallFits code p entry number e.depth
  call_fits entry number e at calls =
      let runs = runs_here entry e at in
      let own : (0 < number) × (number < length (routine code p).procedures) = subst (λ i. OperandsFit (routine code p) (region_at p.phrases e.at) i) calls runs.operands.own in
      let long : length (routine code p).procedures ≡ length code.procedures = length-map code.procedures words_of in
      let less : number < length code.procedures = (let l = own.1 in omega (arith, l, long)) in
      let at_number = slice_get-get_or code.procedures number p less in
      let words : moves (routine code p) (Call number) ≡ words_of (get_or code.procedures number p) = ap words_there (slice_get-map words_of code.procedures number ∙ ap (λ o. option_map words_of o) at_number) in
      let takes : (moves (routine code p) e.instruction).takes ≡ (get_or code.procedures number p).args = ap (λ i. (moves (routine code p) i).takes) calls ∙ ap (λ w. w.takes) words in
      let puts : (moves (routine code p) e.instruction).puts ≡ (get_or code.procedures number p).results = ap (λ i. (moves (routine code p) i).puts) calls ∙ ap (λ w. w.puts) words in
      let next = runs.next (ap (λ i. goes_on (routine code p) i) calls) in
      let enough = runs.enough in
      record {
        some = own.0;
        called = get_or code.procedures number p;
        there = at_number;
        enough = omega (arith, takes, enough);
        next = record { next = next.0; is = next.1; deep = let d = next.2 in omega (arith, d, takes, puts) };
        below = below_here entry e at;
      }

module _ (image : Image) (layout : Layout) (prepared : IsPrepared image layout) (region : List ℕ) (table : List Row) (r : Registers) (p : CodeProcedure) (a : Active) (S : Activations)
    (shows : Shows image layout region table r p a S) (m : Store) (e : CodeEntry) (fetched : slice_get p.code r.entry ≡ Some e) where
  pub step_here : step image (Runs (a ∷ S) m) ≡ worked image e.instruction (works_in image e.instruction a S m) a S (began m)
  unfolding step run begin with
  step_here = ap (λ o. with o m (λ (i : Instruction). worked image i (works_in image i a S m) a S (began m))) (stands_at image layout prepared a p shows.is r.entry e fetched shows.begins)

  module _ (number : ℕ) (calls : e.instruction ≡ Call number) (some : 0 < number) (called : CodeProcedure) (is : procedure_of image a.instance number ≡ Some called) where
    abbrev then_called : Store → Stepped
    then_called m1 = call a.instance number called a S m1

    call_step : step image (Runs (a ∷ S) m) ≡ spend_of m.turns (began m) then_called
    unfolding worked works_in works perform with spend
    call_step =
        step_here
        ∙ ap (λ i. worked image i (works_in image i a S m) a S (began m)) calls
        ∙ ap (λ o. with o (began m) (λ (q : CodeProcedure). spend_of m.turns (began m) (λ m1. call a.instance number q a S m1))) (called_by image a.instance number some ∙ is)

    -- no turn is left
    none_left : (n : ℕ) (k : Store → Stepped) → n ≡ 0 → spend_of n (began m) k ≡ Stops (Ended Spent) (began m)
    unfolding spend_of
    none_left zero k none = refl
    none_left (suc n) k none = absurd (omega (arith, none))

    pub spent_step : m.turns ≡ 0 → step image (Runs (a ∷ S) m) ≡ Stops (Ended Spent) (record m { begun = suc m.begun })
    spent_step none = call_step ∙ none_left m.turns then_called none

    pub turn_step : nat_eq m.turns 0 ≡ false → step image (Runs (a ∷ S) m) ≡ call a.instance number called a S (record m { begun = suc m.begun; turns = m.turns - 1 })
    turn_step left = call_step ∙ spent_by m.turns (began m) then_called left
