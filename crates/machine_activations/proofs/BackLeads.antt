-- What a return asks of the region, and where it leads.
use Rattle.std.proofs.Common.{◌≡◌, ◌≢◌, ℕ, suc, ◌+◌, ◌-◌, ◌<◌, ◌≤◌, List, [], ◌∷◌, length, Some, sym, ap, subst, ◌∙◌, arith}
use Rattle.std.specs.Prelude.{slice_get}
use Rattle.code_forms.specs.declared.instruction.Instruction.TheVariants.{Return}
use Rattle.code_forms.specs.declared.module_code.CodeProcedure.{CodeProcedure}
use Rattle.code_forms.specs.declared.module_code.ModuleCode.{ModuleCode}
use Rattle.object_files.specs.declared.image.Image.{Image}
use Rattle.machine_rules.specs.State.{Frame, Active, Activations, Store, Runs, Stepped, Goes}
use Rattle.machine_topmost.specs.declared.registers.Registers.{Registers}
use Rattle.machine_topmost.specs.Flat.{part, with_part}
use Rattle.machine_activations.specs.declared.row.Layout.{Layout}
use Rattle.machine_activations.specs.declared.row.Row.{Row}
use Rattle.machine_activations.specs.Below.{Below}
use Rattle.machine_activations.specs.Calling.{IsCodeOf, IsAt, CallsThen}
use Rattle.machine_activations.specs.Frames.{row_at, end_at, back_registers}
use Rattle.machine_activations.specs.Shows.{IsPrepared, IsAmple, Shows}
use Rattle.machine_activations.specs.Reaching.{Reaches, IsUnstuck, Shown}
use Rattle.machine_activations.proofs.GivingBack.{is_frame, source_fits, return_step, returned_none, back_row, HasRoom, called_room, started_room, given, given_up}
use Rattle.machine_activations.proofs.Placing.{row_procedure, procedure_is, fetched_here}
use Rattle.machine_activations.proofs.Reach.{one_step, two_ways}
use Rattle.machine_activations.proofs.Standing.{low}

-- what a return asks
pub record BackRuns (layout : Layout) (region : List ℕ) (table : List Row) (r : Registers) (p : CodeProcedure) (number : ℕ) : Type 0 where
  pub source : r.slots + p.args + p.results ≤ length region
  pub called : 0 < number → HasRoom layout region (back_row table r) (r.top - 1) p.results
  pub started : number ≡ 0 → HasRoom layout region (back_row table r) (r.top - 1) 0

module _ (image : Image) (layout : Layout) (prepared : IsPrepared image layout) (region : List ℕ) (table : List Row) (r : Registers) (p : CodeProcedure) (a : Active)
    (ample : IsAmple layout region table r.top) (code : ModuleCode) (is : IsCodeOf image code table r) (at : IsAt code table r Return)
    (s : Stepped) (unstuck : IsUnstuck image s) (m : Store) where
  frame_of : (S : Activations) (shows : Shows image layout region table r p a S) → Reaches image s (Goes (Runs (a ∷ S) m)) → (variables : List ℕ) × (a.role ≡ Frame variables)
  frame_of S shows reaches =
      is_frame image layout prepared region table r p a S shows m at.entry (fetched_here image layout prepared region table r p a S shows code is Return at) at.at s unstuck reaches

  pub back_runs : (S : Activations) (shows : Shows image layout region table r p a S) → Reaches image s (Goes (Runs (a ∷ S) m)) → 0 < length S → BackRuns layout region table r p a.procedure
  unfolding Below
  back_runs [] shows reaches more = absurd (omega (arith, more))
  back_runs (b ∷ T) shows reaches more =
      let f = frame_of (b ∷ T) shows reaches in
      record {
        source = source_fits image layout prepared region table r p a (b ∷ T) shows m at.entry (fetched_here image layout prepared region table r p a (b ∷ T) shows code is Return at) at.at f.0 f.1 ample;
        called = λ some. called_room image layout prepared region table r p a ample f.0 f.1 b T shows shows.below.0 shows.below.1 shows.below.2 some;
        started = λ none. started_room image layout prepared region table r p a ample f.0 f.1 b T shows shows.below.0 shows.below.1 shows.below.2 none;
      }

  pub back_empty : (S : Activations) (shows : Shows image layout region table r p a S) → Reaches image s (Goes (Runs (a ∷ S) m)) → length S ≡ 0 → Reaches image s (Goes (Runs [] (record m { begun = suc m.begun })))
  back_empty [] shows reaches none =
      let f = frame_of [] shows reaches in
      two_ways image s _ _ reaches (one_step image _ _
      (return_step image layout prepared region table r p a [] shows m at.entry (fetched_here image layout prepared region table r p a [] shows code is Return at) at.at f.0 f.1 ample
      ∙ returned_none image a.procedure _ _))
  back_empty (b ∷ T) shows reaches none = absurd (omega (arith, none))

  pub back_shown : (S : Activations) (shows : Shows image layout region table r p a S) → Reaches image s (Goes (Runs (a ∷ S) m)) → 0 < length S → 0 < a.procedure
      → Shown image layout (with_part region (end_at (back_row table r) (r.top - 1) layout) (part region (r.slots + p.args) p.results)) table
      (back_registers (back_row table r) (r.top - 1) layout p.results ((back_row table r).entry + 1)) s (record m { begun = suc m.begun })
  unfolding Below
  back_shown [] shows reaches more some = absurd (omega (arith, more))
  back_shown (b ∷ T) shows reaches more some =
      let f = frame_of (b ∷ T) shows reaches in
      let g = given image layout prepared region table r p a ample f.0 f.1 b T shows shows.below.0 shows.below.1 shows.below.2 some m at.entry
      (fetched_here image layout prepared region table r p a (b ∷ T) shows code is Return at) at.at in
      record { top = g.top; rest = g.rest; procedure = g.procedure; shows = g.shows; reaches = two_ways image s _ _ reaches (one_step image _ _ g.is) }

  pub back_pending : (S : Activations) (shows : Shows image layout region table r p a S) → Reaches image s (Goes (Runs (a ∷ S) m)) → 0 < length S → a.procedure ≡ 0
      → CallsThen image layout (with_part region (end_at (back_row table r) (r.top - 1) layout) []) table (back_registers (back_row table r) (r.top - 1) layout 0 (back_row table r).entry)
      s (record m { begun = suc m.begun })
  unfolding Below
  back_pending [] shows reaches more none = absurd (omega (arith, more))
  back_pending (b ∷ T) shows reaches more none =
      let f = frame_of (b ∷ T) shows reaches in
      let g = given_up image layout prepared region table r p a ample f.0 f.1 b T shows shows.below.0 shows.below.1 shows.below.2 none m at.entry
      (fetched_here image layout prepared region table r p a (b ∷ T) shows code is Return at) at.at in
      record { top = g.top; rest = g.rest; procedure = g.procedure; shows = g.shows; reaches = two_ways image s _ _ reaches (one_step image _ _ g.is) }

-- With the values of the code.

module _ (image : Image) (layout : Layout) (prepared : IsPrepared image layout) (region : List ℕ) (table : List Row) (r : Registers)
    (ample : IsAmple layout region table r.top) (code : ModuleCode) (is : IsCodeOf image code table r) (at : IsAt code table r Return)
    (s : Stepped) (unstuck : IsUnstuck image s) (m : Store) (shown : Shown image layout region table r s m) where
  abbrev a : Active
  a = shown.top

  number_is : (row_at table r.top).procedure ≡ a.procedure
  number_is = row_procedure image layout prepared region table r shown.procedure shown.top shown.rest shown.shows code is

  pub there : slice_get code.procedures (row_at table r.top).procedure ≡ Some shown.procedure
  there = procedure_is image layout prepared region table r shown.procedure shown.top shown.rest shown.shows code is

  more : (r.top ≡ 0 → ⊥) → 0 < length shown.rest
  more some = let t = shown.shows.top in let n : r.top ≢ 0 = some in omega (arith, t, n)

  pub runs_back : (r.top ≡ 0 → ⊥) → BackRuns layout region table r shown.procedure (row_at table r.top).procedure
  runs_back some = subst (λ n. BackRuns layout region table r shown.procedure n) (sym number_is)
      (back_runs image layout prepared region table r shown.procedure shown.top ample code is at s unstuck m shown.rest shown.shows shown.reaches (more some))

  pub top_low : r.top < 8192
  top_low = low image layout prepared region table r shown.procedure shown.top shown.rest shown.shows ample

  pub leads_empty : r.top ≡ 0 → Reaches image s (Goes (Runs [] (record m { begun = suc m.begun })))
  leads_empty none =
      back_empty image layout prepared region table r shown.procedure shown.top ample code is at s unstuck m shown.rest shown.shows shown.reaches
      (let t = shown.shows.top in omega (arith, t, none))

  module _ (row below : Row) (row_is : row ≡ row_at table r.top) (below_is : below ≡ back_row table r) (some : r.top ≡ 0 → ⊥) (region' : List ℕ) (r' : Registers) where
    number : row.procedure ≡ a.procedure
    number = ap (λ (x : Row). x.procedure) row_is ∙ number_is

    pub leads_back : (args results : ℕ) → args ≡ (shown.procedure).args → results ≡ (shown.procedure).results → (row.procedure ≡ 0 → ⊥)
        → region' ≡ with_part region (end_at below (r.top - 1) layout) (part region (r.slots + args) results)
        → r' ≡ back_registers below (r.top - 1) layout results (below.entry + 1)
        → Shown image layout region' table r' s (record m { begun = suc m.begun })
    leads_back args results args_are results_are called region_is registers_are =
        let p = shown.procedure in
        let e1 : region' ≡ with_part region (end_at (back_row table r) (r.top - 1) layout) (part region (r.slots + (shown.procedure).args) (shown.procedure).results) =
        region_is
        ∙ ap (λ (b : Row). with_part region (end_at b (r.top - 1) layout) (part region (r.slots + args) results)) below_is
        ∙ ap (λ k. with_part region (end_at (back_row table r) (r.top - 1) layout) (part region (r.slots + k) results)) args_are
        ∙ ap (λ k. with_part region (end_at (back_row table r) (r.top - 1) layout) (part region (r.slots + (shown.procedure).args) k)) results_are in
        let e2 : r' ≡ back_registers (back_row table r) (r.top - 1) layout (shown.procedure).results ((back_row table r).entry + 1) =
        registers_are
        ∙ ap (λ (b : Row). back_registers b (r.top - 1) layout results (b.entry + 1)) below_is
        ∙ ap (λ k. back_registers (back_row table r) (r.top - 1) layout k ((back_row table r).entry + 1)) results_are in
        let n = number in
        let up : 0 < a.procedure = (let c : row.procedure ≢ 0 = called in omega (arith, n, c)) in
        subst (λ (w : List ℕ). Shown image layout w table r' s (record m { begun = suc m.begun })) (sym e1)
        (subst (λ (k : Registers). Shown image layout (with_part region (end_at (back_row table r) (r.top - 1) layout) (part region (r.slots + (shown.procedure).args) (shown.procedure).results)) table k s (record m { begun = suc m.begun })) (sym e2)
        (back_shown image layout prepared region table r shown.procedure shown.top ample code is at s unstuck m shown.rest shown.shows shown.reaches (more some) up))

    pub leads_pending : (from : ℕ) → row.procedure ≡ 0 → region' ≡ with_part region (end_at below (r.top - 1) layout) (part region from 0)
        → r' ≡ back_registers below (r.top - 1) layout 0 below.entry → CallsThen image layout region' table r' s (record m { begun = suc m.begun })
    leads_pending from body region_is registers_are =
        let e1 : region' ≡ with_part region (end_at (back_row table r) (r.top - 1) layout) [] =
        region_is ∙ ap (λ (b : Row). with_part region (end_at b (r.top - 1) layout) []) below_is in
        let e2 : r' ≡ back_registers (back_row table r) (r.top - 1) layout 0 (back_row table r).entry =
        registers_are ∙ ap (λ (b : Row). back_registers b (r.top - 1) layout 0 b.entry) below_is in
        let n = number in
        subst (λ (w : List ℕ). CallsThen image layout w table r' s (record m { begun = suc m.begun })) (sym e1)
        (subst (λ (k : Registers). CallsThen image layout (with_part region (end_at (back_row table r) (r.top - 1) layout) []) table k s (record m { begun = suc m.begun })) (sym e2)
        (back_pending image layout prepared region table r shown.procedure shown.top ample code is at s unstuck m shown.rest shown.shows shown.reaches (more some) (omega (arith, n, body))))
