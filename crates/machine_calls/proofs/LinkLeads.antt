-- Where a call through a link stands, and where it leads.
use Rattle.std.proofs.Common.{◌≡◌, ℕ, zero, suc, ◌-◌, List, ◌∷◌, length, false, get_or, Option, Some, refl, sym, ap, subst, ◌∙◌, arith, nat_eq}
use Rattle.std.specs.Prelude.{slice_get, IsSome}
use Rattle.std.proofs.lemmas.Bool.{ne_eqb}
use Rattle.std.proofs.lemmas.Option.{slice_get-get_or, same_Some}
use Rattle.code_forms.specs.declared.instruction.Instruction.{Instruction}
use Rattle.code_forms.specs.declared.instruction.Instruction.TheVariants.{CallLink}
use Rattle.code_forms.specs.declared.module_code.CodeEntry.{CodeEntry}
use Rattle.code_forms.specs.declared.module_code.CodeProcedure.{CodeProcedure}
use Rattle.code_forms.proofs.Ordered.{blank, spot_within}
use Rattle.object_files.specs.declared.image.Image.{Image}
use Rattle.object_files.specs.declared.image.Link.{Link}
use Rattle.machine_rules.specs.declared.end.End.TheVariants.{Spent}
use Rattle.machine_rules.specs.State.{Active, Activations, Store, Runs, Ended, Stuck, Stepped, Goes, Stops}
use Rattle.machine_rules.specs.LookUps.{procedure_of, instruction_under}
use Rattle.machine_rules.specs.Moves.{with, spend_of, spend}
use Rattle.machine_rules.specs.Calls.{call_bound, pending}
use Rattle.machine_rules.specs.Steps.{perform, worked, works_in, step, Ends, stops}
use Rattle.machine_rules.specs.Working.{works}
use Rattle.machine_topmost.specs.declared.registers.Registers.{Registers}
use Rattle.machine_activations.specs.declared.row.Layout.{Layout}
use Rattle.machine_activations.specs.declared.row.Row.{Row}
use Rattle.machine_activations.specs.Calling.{CallsThen}
use Rattle.machine_activations.specs.Frames.{row_at}
use Rattle.machine_activations.specs.Reaching.{Reaches, IsUnstuck, Shown}
use Rattle.machine_activations.specs.Shows.{IsPrepared, Shows}
use Rattle.machine_activations.proofs.Called.{step_here}
use Rattle.machine_activations.proofs.Following.{began, spent_by}
use Rattle.machine_activations.proofs.Located.{in_code, stands_at}
use Rattle.machine_activations.proofs.Placing.{fetched_here}
use Rattle.machine_activations.proofs.Reach.{one_step, two_ways, ends_alike}
use Rattle.machine_activations.proofs.Tables.{row_there}
use Rattle.machine_calls.specs.Linking.{StandsAt, CallsLink}
use Rattle.machine_calls.proofs.LinkFits.{LinkIs, link_is}

-- where the topmost activation stands
module _ (image : Image) (layout : Layout) (prepared : IsPrepared image layout) (region : List ℕ) (table : List Row) (r : Registers) (p : CodeProcedure) (a : Active) (S : Activations)
    (shows : Shows image layout region table r p a S) where
  abbrev pub here_entry : CodeEntry
  here_entry = get_or p.code r.entry blank

  pub here_there : slice_get p.code r.entry ≡ Some here_entry
  here_there = slice_get-get_or p.code r.entry blank (spot_within p.code r.entry shows.begins.spot shows.begins.is)

  here_is : instruction_under image a ≡ Some here_entry.instruction
  here_is = stands_at image layout prepared a p shows.is r.entry here_entry here_there shows.begins

  -- at a call of a link
  pub link_of_call : (k : ℕ) (e : CodeEntry) → slice_get p.code r.entry ≡ Some e → e.instruction ≡ CallLink k → LinkIs image p r.entry a.instance k e.depth
  link_of_call k e fetched calls =
      let c = in_code image layout prepared a.instance a.procedure p shows.is in
      link_is image layout prepared c.code a.instance a.procedure p c.is shows.is r.entry k e fetched calls

  unfoldable pub calls_link_at : (k : ℕ) (e : CodeEntry) → slice_get p.code r.entry ≡ Some e → e.instruction ≡ CallLink k → CallsLink image layout region table r k
  calls_link_at k e fetched calls =
      let l = link_of_call k e fetched calls in
      record { top = a; rest = S; procedure = p; shows = shows; entry = e; fetched = fetched; calls = calls; bound = l.bound; is_bound = l.is_bound }

  -- Its step.

  module _ (k : ℕ) (e : CodeEntry) (fetched : slice_get p.code r.entry ≡ Some e) (calls : e.instruction ≡ CallLink k) (m : Store) where
    abbrev bound : Link
    bound = (link_of_call k e fetched calls).bound

    abbrev then_bound : Store → Stepped
    then_bound m1 = call_bound image bound a S m1

    link_step : step image (Runs (a ∷ S) m) ≡ spend_of m.turns (began m) then_bound
    unfolding worked works_in works perform with spend
    link_step =
        step_here image layout prepared region table r p a S shows m e fetched
        ∙ ap (λ i. worked image i (works_in image i a S m) a S (began m)) calls
        ∙ ap (λ o. with o (began m) (λ (l : Link). spend_of m.turns (began m) (λ m1. call_bound image l a S m1))) (link_of_call k e fetched calls).is_bound

    none_left : (n : ℕ) (k : Store → Stepped) → n ≡ 0 → spend_of n (began m) k ≡ Stops (Ended Spent) (began m)
    unfolding spend_of
    none_left zero k none = refl
    none_left (suc n) k none = absurd (omega (arith, none))

    pub link_spent : (s : Stepped) → Reaches image s (Goes (Runs (a ∷ S) m)) → m.turns ≡ 0 → Ends image s (Ended Spent) (record m { begun = suc m.begun })
    link_spent s reaches none =
        ends_alike image _ _ (two_ways image s _ _ reaches (one_step image (Runs (a ∷ S) m) _ (link_step ∙ none_left m.turns then_bound none))) (Ended Spent) _ (stops (Ended Spent) _)

    pub link_reaches : (s : Stepped) → Reaches image s (Goes (Runs (a ∷ S) m)) → (turns : ℕ) → m.turns ≡ turns → (turns ≡ 0 → ⊥)
        → Reaches image s (call_bound image bound a S (record m { begun = suc m.begun; turns = turns - 1 }))
    link_reaches s reaches turns turns_are some =
        let left : nat_eq m.turns 0 ≡ false = ne_eqb m.turns 0 (λ none. some (sym turns_are ∙ none)) in
        subst (λ t. Reaches image s (call_bound image bound a S (record m { begun = suc m.begun; turns = t - 1 }))) turns_are
        (two_ways image s _ _ reaches (one_step image (Runs (a ∷ S) m) _ (link_step ∙ spent_by m.turns (began m) then_bound left)))

  -- A call that waited.

  module _ (s : Stepped) (m : Store) (unstuck : IsUnstuck image s) (reaches : Reaches image s (with (instruction_under image a) m (λ i. pending image i a S m))) where
    then_pending : Reaches image s (pending image here_entry.instruction a S m)
    unfolding with
    then_pending = subst (λ o. Reaches image s (with o m (λ i. pending image i a S m))) here_is reaches

    no_stop : (i : Instruction) → Reaches image s (pending image i a S m) → pending image i a S m ≡ Stops Stuck m → ⊥
    no_stop i reaches stuck = unstuck Stuck m (ends_alike image _ _ reaches Stuck m (subst (λ x. Ends image x Stuck m) (sym stuck) (stops Stuck m))) refl

    link_by : (i : Instruction) → Reaches image s (pending image i a S m) → (k : ℕ) × (i ≡ CallLink k)
    unfolding pending
    link_by (CallLink k) reaches = (k, refl)
    link_by i reaches = absurd (no_stop i reaches refl)

    pub link_waiting : (k : ℕ) × (here_entry.instruction ≡ CallLink k)
    link_waiting = link_by here_entry.instruction then_pending

    pub waiting_reaches : (k : ℕ) (calls : here_entry.instruction ≡ CallLink k) → Reaches image s (call_bound image (link_of_call k here_entry here_there calls).bound a S m)
    unfolding pending with
    waiting_reaches k calls =
        subst (λ o. Reaches image s (with o m (λ (l : Link). call_bound image l a S m))) (link_of_call k here_entry here_there calls).is_bound
        (subst (λ i. Reaches image s (pending image i a S m)) calls then_pending)

-- Where some activations are shown.

pub fetched_there : (image : Image) (layout : Layout) → IsPrepared image layout → (region : List ℕ) (table : List Row) (r : Registers) (k : ℕ) (at : StandsAt image table r (CallLink k))
    → (s : Stepped) (m : Store) (shown : Shown image layout region table r s m) → slice_get (shown.procedure).code r.entry ≡ Some at.at.entry
fetched_there image layout prepared region table r k at s m shown =
    fetched_here image layout prepared region table r shown.procedure shown.top shown.rest shown.shows at.code at.is_code (CallLink k) at.at

pub calls_link_there : (image : Image) (layout : Layout) → IsPrepared image layout → (region : List ℕ) (table : List Row) (r : Registers) (k : ℕ) → StandsAt image table r (CallLink k)
    → (s : Stepped) (m : Store) → Shown image layout region table r s m → CallsLink image layout region table r k
calls_link_there image layout prepared region table r k at s m shown =
    calls_link_at image layout prepared region table r shown.procedure shown.top shown.rest shown.shows k at.at.entry
    (fetched_there image layout prepared region table r k at s m shown) at.at.at

-- Where a call waited.

module _ (image : Image) (layout : Layout) (prepared : IsPrepared image layout) (region : List ℕ) (table : List Row) (r : Registers) (s : Stepped) (m : Store) (unstuck : IsUnstuck image s)
    (then : CallsThen image layout region table r s m) where
  row_here : row_at table r.top ≡ then.shows.rowed.row
  row_here = ap (λ q. row_at table q) then.shows.top ∙ row_there table (length then.rest) then.shows.rowed.row then.shows.rowed.there

  module _ (row : Row) (row_is : row ≡ row_at table r.top) where
    its_procedure : procedure_of image row.instance row.procedure ≡ Some then.procedure
    its_procedure =
        ap (λ (x : Row). procedure_of image x.instance x.procedure) (row_is ∙ row_here)
        ∙ ap (λ j. procedure_of image j then.shows.rowed.row.procedure) then.shows.rowed.same_instance
        ∙ ap (λ n. procedure_of image then.top.instance n) then.shows.rowed.same_procedure ∙ then.shows.is

    pub procedure_waiting : IsSome (procedure_of image row.instance row.procedure)
    procedure_waiting = subst (λ (o : Option CodeProcedure). IsSome o) (sym its_procedure) refl

    module _ (x : CodeProcedure) (found : procedure_of image row.instance row.procedure ≡ Some x) where
      its_entry : slice_get x.code r.entry ≡ Some (here_entry image layout prepared region table r then.procedure then.top then.rest then.shows)
      its_entry =
          let same : then.procedure ≡ x = same_Some then.procedure x (sym its_procedure ∙ found) in
          ap (λ (p : CodeProcedure). slice_get p.code r.entry) (sym same) ∙ here_there image layout prepared region table r then.procedure then.top then.rest then.shows

      pub entry_waiting : IsSome (slice_get x.code r.entry)
      entry_waiting = subst (λ (o : Option CodeEntry). IsSome o) (sym its_entry) refl

      module _ (number : ℕ) (is : (e : CodeEntry) (link : ℕ) → slice_get x.code r.entry ≡ Some e → e.instruction ≡ CallLink link → number ≡ link) where
        pub its_call : (here_entry image layout prepared region table r then.procedure then.top then.rest then.shows).instruction ≡ CallLink number
        its_call =
            let w = link_waiting image layout prepared region table r then.procedure then.top then.rest then.shows s m unstuck then.reaches in
            w.1 ∙ ap CallLink (sym (is (here_entry image layout prepared region table r then.procedure then.top then.rest then.shows) w.0 its_entry w.1))

        unfoldable pub calls_waiting : CallsLink image layout region table r number
        unfolding calls_link_at
        calls_waiting =
            calls_link_at image layout prepared region table r then.procedure then.top then.rest then.shows number
            (here_entry image layout prepared region table r then.procedure then.top then.rest then.shows)
            (here_there image layout prepared region table r then.procedure then.top then.rest then.shows) its_call

        pub reaches_waiting : Reaches image s (call_bound image calls_waiting.bound calls_waiting.top calls_waiting.rest m)
        unfolding calls_waiting calls_link_at
        reaches_waiting = waiting_reaches image layout prepared region table r then.procedure then.top then.rest then.shows s m unstuck then.reaches number its_call
