-- What a call asks, and where it leads.
use Rattle.std.proofs.Common.{◌≡◌, ℕ, suc, ◌+◌, ◌-◌, List, ◌∷◌, length, false, Some, sym, ap, subst, ◌∙◌, arith, nat_eq}
use Rattle.std.specs.Prelude.{slice_get}
use Rattle.std.proofs.lemmas.Bool.{ne_eqb}
use Rattle.std.proofs.lemmas.Option.{same_Some}
use Rattle.code_forms.specs.declared.instruction.Instruction.TheVariants.{Call}
use Rattle.code_forms.specs.declared.module_code.CodeProcedure.{CodeProcedure}
use Rattle.code_forms.specs.declared.module_code.ModuleCode.{ModuleCode}
use Rattle.object_files.specs.declared.image.Image.{Image}
use Rattle.machine_rules.specs.declared.end.End.TheVariants.{Spent}
use Rattle.machine_rules.specs.State.{Active, Activations, Store, Runs, Ended, Stepped, Goes}
use Rattle.machine_rules.specs.LookUps.{code_of, procedure_of}
use Rattle.machine_rules.specs.Calls.{call}
use Rattle.machine_rules.specs.Steps.{Ends, stops}
use Rattle.machine_topmost.specs.declared.registers.Registers.{Registers}
use Rattle.machine_activations.specs.declared.calling.Sequel.{Sequel}
use Rattle.machine_activations.specs.declared.row.Layout.{Layout}
use Rattle.machine_activations.specs.declared.row.Row.{Row}
use Rattle.machine_activations.specs.Below.{Called, GoesOn, Waits}
use Rattle.machine_activations.specs.Calling.{IsCodeOf, Stands, IsAt, Enters, EntersSome, LeadsTo}
use Rattle.machine_activations.specs.Frames.{row_at}
use Rattle.machine_activations.specs.Shows.{IsPrepared, Shows}
use Rattle.machine_activations.specs.Reaching.{Reaches}
use Rattle.machine_activations.proofs.Called.{CallFits, call_fits, waits_by, spent_step, turn_step}
use Rattle.machine_activations.proofs.Placing.{code_here, fetched_here, row_instance}
use Rattle.machine_activations.proofs.Reach.{one_step, two_ways, ends_alike}
use Rattle.machine_activations.proofs.Standing.{procedure_here}

module _ (image : Image) (layout : Layout) (prepared : IsPrepared image layout) (region : List ℕ) (table : List Row) (r : Registers) (p : CodeProcedure) (a : Active) (S : Activations)
    (shows : Shows image layout region table r p a S) (code : ModuleCode) (is : IsCodeOf image code table r) (number : ℕ) (at : IsAt code table r (Call number)) where
  here : code_of image a.instance ≡ Some code
  here = code_here image layout prepared region table r p a S shows code is

  fetched : slice_get p.code r.entry ≡ Some at.entry
  fetched = fetched_here image layout prepared region table r p a S shows code is (Call number) at

  pub fits : CallFits code p r.entry number at.entry.depth
  fits = call_fits image layout prepared code a.instance a.procedure p here shows.is r.entry number at.entry fetched at.at

  depth_is : length a.operands ≡ at.entry.depth
  depth_is = shows.deep at.entry fetched

  called_is : procedure_of image a.instance number ≡ Some fits.called
  called_is = procedure_here image a.instance number fits.called code here fits.there

  waits_so : Waits image (Called a.instance number) p r.entry (length a.operands - fits.called.args)
  waits_so =
      let d = depth_is in
      let n : length a.operands - fits.called.args ≡ at.entry.depth - fits.called.args = omega (arith, d) in
      waits_by image a.instance number p fits.called r.entry (length a.operands - fits.called.args) fits.some called_is
      (subst (λ k. GoesOn p r.entry (k + fits.called.results)) (sym n) fits.next)

  -- with the values of the code
  pub call_enters : (x : CodeProcedure) (instance : ℕ) → x ≡ fits.called → instance ≡ a.instance → Enters image layout region table r x instance number
  call_enters x instance same_x same_i = record {
    top = a;
    rest = S;
    procedure = p;
    shows = shows;
    is = ap (λ j. procedure_of image j number) same_i ∙ called_is ∙ ap Some (sym same_x);
    enough = let d = depth_is in let enough = fits.enough in let args = ap (λ (q : CodeProcedure). q.args) same_x in omega (arith, d, enough, args);
    waits = subst (λ j. Waits image (Called j number) p r.entry (length a.operands - x.args)) (sym same_i)
        (subst (λ (q : CodeProcedure). Waits image (Called a.instance number) p r.entry (length a.operands - q.args)) (sym same_x) waits_so);
  }

  module _ (s : Stepped) (m : Store) (reaches : Reaches image s (Goes (Runs (a ∷ S) m))) where
    pub call_spent : m.turns ≡ 0 → Ends image s (Ended Spent) (record m { begun = suc m.begun })
    call_spent none =
        ends_alike image _ _
        (two_ways image s _ _ reaches (one_step image (Runs (a ∷ S) m) _ (spent_step image layout prepared region table r p a S shows m at.entry fetched number at.at fits.some fits.called called_is none)))
        (Ended Spent) _ (stops (Ended Spent) _)

    call_reaches : nat_eq m.turns 0 ≡ false → Reaches image s (call a.instance number fits.called a S (record m { begun = suc m.begun; turns = m.turns - 1 }))
    call_reaches left =
        two_ways image s _ _ reaches (one_step image (Runs (a ∷ S) m) _ (turn_step image layout prepared region table r p a S shows m at.entry fetched number at.at fits.some fits.called called_is left))

    pub call_leads : (x : CodeProcedure) (instance turns : ℕ) (layout' : Layout) (region' : List ℕ) (table' : List Row) (sequel : Sequel) → x ≡ fits.called → instance ≡ a.instance → m.turns ≡ turns → (turns ≡ 0 → ⊥)
        → ((e : Enters image layout region table r x instance number) (s : Stepped) (n : Store) → Reaches image s (call instance number x e.top e.rest n) → LeadsTo image layout' region' table' s n sequel)
        → LeadsTo image layout' region' table' s (record m { turns = turns - 1; begun = suc m.begun }) sequel
    unfolding call_enters
    call_leads x instance turns layout' region' table' sequel same_x same_i turns_are some leads =
        let left : nat_eq m.turns 0 ≡ false = ne_eqb m.turns 0 (λ none. some (sym turns_are ∙ none)) in
        subst (λ t. LeadsTo image layout' region' table' s (record m { turns = t - 1; begun = suc m.begun }) sequel) turns_are
        (leads (call_enters x instance same_x same_i) s (record m { turns = m.turns - 1; begun = suc m.begun })
        (subst (λ j. Reaches image s (call j number x a S (record m { begun = suc m.begun; turns = m.turns - 1 }))) (sym same_i)
        (subst (λ (q : CodeProcedure). Reaches image s (call a.instance number q a S (record m { begun = suc m.begun; turns = m.turns - 1 }))) (sym same_x) (call_reaches left))))

-- where some activations are shown
module _ (layout : Layout) (code : ModuleCode) (region : List ℕ) (table : List Row) (r : Registers) (number : ℕ) (stands : Stands code layout region table r) (at : IsAt code table r (Call number)) where
  pub fits_there : (called : CodeProcedure) × (slice_get code.procedures number ≡ Some called)
  fits_there =
      let h = stands.shown in
      let f = fits stands.image layout stands.prepared region table r h.procedure h.top h.rest h.shows code stands.is number at in (f.called, f.there)

  pub enters_there : (x : CodeProcedure) (instance : ℕ) → slice_get code.procedures number ≡ Some x → instance ≡ (row_at table r.top).instance → EntersSome layout region table r x instance number
  enters_there x instance there is =
      let h = stands.shown in
      let f = fits stands.image layout stands.prepared region table r h.procedure h.top h.rest h.shows code stands.is number at in
      record {
        image = stands.image;
        prepared = stands.prepared;
        enters = call_enters stands.image layout stands.prepared region table r h.procedure h.top h.rest h.shows code stands.is number at x instance
            (same_Some x f.called (sym there ∙ f.there))
            (is ∙ row_instance stands.image layout stands.prepared region table r h.procedure h.top h.rest h.shows code stands.is);
      }
