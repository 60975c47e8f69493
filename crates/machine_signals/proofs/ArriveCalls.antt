-- Where jumps arrive, with the values of the code.
use Rattle.std.proofs.Common.{◌≡◌, ◌≢◌, ℕ, ◌+◌, ◌-◌, ◌*◌, ◌<◌, ◌≤◌, List, [], length, Some, None, refl, sym, ap, subst, ◌∙◌, arith}
use Rattle.std.specs.Prelude.{IsSome}
use Rattle.std.proofs.lemmas.Option.{same_Some}
use Rattle.code_forms.specs.declared.module_code.CodeEntry.{CodeEntry}
use Rattle.code_forms.specs.declared.module_code.CodeProcedure.{CodeProcedure}
use Rattle.code_forms.specs.Ranges.{InOrder}
use Rattle.code_forms.specs.Routine.{Begins, IsStart, spots}
use Rattle.object_files.specs.declared.image.Image.{Image}
use Rattle.machine_rules.specs.State.{Store, Stepped}
use Rattle.machine_rules.specs.LookUps.{procedure_of}
use Rattle.machine_topmost.specs.declared.registers.Registers.{Registers}
use Rattle.machine_topmost.specs.Flat.{part, with_part}
use Rattle.machine_activations.specs.declared.row.Layout.{Layout}
use Rattle.machine_activations.specs.declared.row.Row.{Row}
use Rattle.machine_activations.specs.Calling.{CallsThen}
use Rattle.machine_activations.specs.Frames.{row_at, owner_place, end_at, back_registers}
use Rattle.machine_activations.specs.Reaching.{IsUnstuck, Shown}
use Rattle.machine_activations.specs.Shows.{IsPrepared, IsAmple}
use Rattle.machine_activations.proofs.GivingBack.{HasRoom}
use Rattle.machine_activations.proofs.Located.{in_code}
use Rattle.machine_signals.specs.Indexed.{IsAsked}
use Rattle.machine_signals.specs.Leaving.{Arrives, emptied}
use Rattle.machine_signals.specs.Raising.{FindsNone}
use Rattle.machine_signals.proofs.ArmStarts.{order}
use Rattle.machine_signals.proofs.Arrived.{a, told, p, go_shown, results, return_source, return_room, return_shown, pending_room, return_pending}

-- a row that is read
module _ (image : Image) (layout : Layout) (prepared : IsPrepared image layout) (table : List Row) (place : ℕ) (asked : IsAsked image table place) (row : Row) (row_is : row ≡ row_at table place) where
  code_is : procedure_of image row.instance row.procedure ≡ Some asked.read.procedure
  code_is = ap (λ (x : Row). procedure_of image x.instance x.procedure) row_is ∙ asked.read.is

  pub some_there : IsSome (procedure_of image row.instance row.procedure)
  some_there = subst (λ o. IsSome o) (sym code_is) refl

  pub code_there : (q : CodeProcedure) → procedure_of image row.instance row.procedure ≡ Some q → procedure_of image (row_at table place).instance (row_at table place).procedure ≡ Some q
  code_there q is = ap (λ (x : Row). procedure_of image x.instance x.procedure) (sym row_is) ∙ is

  pub entries_in_order : (q : CodeProcedure) → procedure_of image row.instance row.procedure ≡ Some q → (code : List CodeEntry) → code ≡ q.code → InOrder code
  entries_in_order q is code same =
      let c = in_code image layout prepared row.instance row.procedure q is in
      subst (λ (l : List CodeEntry). InOrder l) (sym same) (order c.code c.valid c.depths row.procedure q c.there)

  pub owner_so : (P : ℕ → Type 0) → P (owner_place (row_at table place).kind place) → P (owner_place row.kind place)
  owner_so P h = subst (λ (x : Row). P (owner_place x.kind place)) (sym row_is) h

module _ (image : Image) (layout : Layout) (prepared : IsPrepared image layout) (region : List ℕ) (table : List Row) (place : ℕ) (ample : IsAmple layout region table place) where
  pub goes_so : (offset : ℕ) (s : Stepped) (m : Store) → Arrives image layout region table place (Some offset) s m → (row : Row) → row ≡ row_at table place
      → (q : CodeProcedure) → procedure_of image row.instance row.procedure ≡ Some q → FindsNone q offset → (code : List CodeEntry) → code ≡ q.code
      → (entry : ℕ) → (IsStart (spots code) offset → Begins (spots code) entry offset) → (r : Registers) → r ≡ emptied row place layout entry → Shown image layout region table r s m
  goes_so offset s m w row row_is q is finds code same entry begins r registers =
      let there = ap (λ (x : Row). procedure_of image x.instance x.procedure) (sym row_is) ∙ is in
      let start : IsStart (spots code) offset = subst (λ (l : List CodeEntry). IsStart (spots l) offset) (sym same) (record { number = finds.number; begins = finds.begins }) in
      let at : Begins (spots q.code) entry offset = subst (λ (l : List CodeEntry). Begins (spots l) entry offset) same (begins start) in
      subst (λ (k : Registers). Shown image layout region table k s m) (sym (registers ∙ ap (λ (x : Row). emptied x place layout entry) row_is))
      (go_shown image layout prepared region table place ample offset s m w q there finds entry at)

  module _ (s : Stepped) (m : Store) (unstuck : IsUnstuck image s) (w : Arrives image layout region table place None s m) (row : Row) (row_is : row ≡ row_at table place)
      (q : CodeProcedure) (is : procedure_of image row.instance row.procedure ≡ Some q) where
    number_is : (a image layout prepared region table place ample s m unstuck w).procedure ≡ row.procedure
    number_is = sym (ap (λ (x : Row). x.procedure) row_is ∙ (told image layout prepared region table place ample s m unstuck w).procedure)

    same : p image layout prepared region table place ample s m unstuck w ≡ q
    same =
        let t = told image layout prepared region table place ample s m unstuck w in
        same_Some (p image layout prepared region table place ample s m unstuck w) q
        (sym t.waiting.is ∙ ap (λ j. procedure_of image j w.top.procedure) (sym t.instance ∙ sym (ap (λ (x : Row). x.instance) row_is))
        ∙ ap (λ n. procedure_of image row.instance n) (sym t.procedure ∙ sym (ap (λ (x : Row). x.procedure) row_is)) ∙ is)

    pub source_so : place * layout.part + q.args + q.results ≤ length region
    source_so = subst (λ (x : CodeProcedure). place * layout.part + x.args + x.results ≤ length region) same (return_source image layout prepared region table place ample s m unstuck w)

    module _ (some : place ≡ 0 → ⊥) (below : Row) (below_is : below ≡ row_at table (place - 1)) where
      up : 0 < place
      up = let k : place ≢ 0 = some in omega (arith, k)

      module _ (called : row.procedure ≡ 0 → ⊥) where
        called_up : 0 < (a image layout prepared region table place ample s m unstuck w).procedure
        called_up = let n = number_is in let k : row.procedure ≢ 0 = called in omega (arith, n, k)

        pub room_so : HasRoom layout region below (place - 1) q.results
        room_so =
            subst (λ (x : Row). HasRoom layout region x (place - 1) q.results) (sym below_is)
            (subst (λ (x : CodeProcedure). HasRoom layout region (row_at table (place - 1)) (place - 1) x.results) same
            (return_room image layout prepared region table place ample s m unstuck w up called_up))

        pub returns_so : (from count : ℕ) → from ≡ place * layout.part + q.args → count ≡ q.results → (region' : List ℕ) (r' : Registers)
            → region' ≡ with_part region (end_at below (place - 1) layout) (part region from count) → r' ≡ back_registers below (place - 1) layout count (below.entry + 1)
            → Shown image layout region' table r' s m
        returns_so from count from_is count_is region' r' region_is registers_is =
            let f : from ≡ place * layout.part + (p image layout prepared region table place ample s m unstuck w).args = from_is ∙ ap (λ (x : CodeProcedure). place * layout.part + x.args) (sym same) in
            let c : count ≡ (p image layout prepared region table place ample s m unstuck w).results = count_is ∙ ap (λ (x : CodeProcedure). x.results) (sym same) in
            let e1 : region' ≡ with_part region (end_at (row_at table (place - 1)) (place - 1) layout) (results image layout prepared region table place ample s m unstuck w) =
            region_is ∙ ap (λ (b : Row). with_part region (end_at b (place - 1) layout) (part region from count)) below_is
            ∙ ap (λ k. with_part region (end_at (row_at table (place - 1)) (place - 1) layout) (part region k count)) f
            ∙ ap (λ k. with_part region (end_at (row_at table (place - 1)) (place - 1) layout) (part region (place * layout.part + (p image layout prepared region table place ample s m unstuck w).args) k)) c in
            let e2 : r' ≡ back_registers (row_at table (place - 1)) (place - 1) layout (p image layout prepared region table place ample s m unstuck w).results ((row_at table (place - 1)).entry + 1) =
            registers_is ∙ ap (λ (b : Row). back_registers b (place - 1) layout count (b.entry + 1)) below_is
            ∙ ap (λ k. back_registers (row_at table (place - 1)) (place - 1) layout k ((row_at table (place - 1)).entry + 1)) c in
            subst (λ (l : List ℕ). Shown image layout l table r' s m) (sym e1)
            (subst (λ (k : Registers). Shown image layout (with_part region (end_at (row_at table (place - 1)) (place - 1) layout) (results image layout prepared region table place ample s m unstuck w)) table k s m) (sym e2)
            (return_shown image layout prepared region table place ample s m unstuck w up called_up))

      module _ (body : row.procedure ≡ 0) where
        pub pending_room_so : HasRoom layout region below (place - 1) 0
        pending_room_so =
            subst (λ (x : Row). HasRoom layout region x (place - 1) 0) (sym below_is) (pending_room image layout prepared region table place ample s m unstuck w up (number_is ∙ body))

        pub pending_so : (from : ℕ) (region' : List ℕ) (r' : Registers) → region' ≡ with_part region (end_at below (place - 1) layout) (part region from 0)
            → r' ≡ back_registers below (place - 1) layout 0 below.entry → CallsThen image layout region' table r' s m
        pending_so from region' r' region_is registers_is =
            let e1 : region' ≡ with_part region (end_at (row_at table (place - 1)) (place - 1) layout) [] = region_is ∙ ap (λ (b : Row). with_part region (end_at b (place - 1) layout) []) below_is in
            let e2 : r' ≡ back_registers (row_at table (place - 1)) (place - 1) layout 0 (row_at table (place - 1)).entry = registers_is ∙ ap (λ (b : Row). back_registers b (place - 1) layout 0 b.entry) below_is in
            subst (λ (l : List ℕ). CallsThen image layout l table r' s m) (sym e1)
            (subst (λ (k : Registers). CallsThen image layout (with_part region (end_at (row_at table (place - 1)) (place - 1) layout) []) table k s m) (sym e2)
            (return_pending image layout prepared region table place ample s m unstuck w up (number_is ∙ body)))
