-- A round of a jump that gives up activations, with the values of the code.
use Rattle.std.proofs.Common.{◌≡◌, ◌≢◌, ◌⊎◌, inl, inr, ℕ, ◌+◌, ◌-◌, ◌<◌, ◌≤◌, List, Some, sym, ap, subst, ◌∙◌, arith}
use Rattle.std.proofs.lemmas.Option.{same_Some}
use Rattle.code_forms.specs.declared.module_code.CodeProcedure.{CodeProcedure}
use Rattle.object_files.specs.declared.image.Image.{Image}
use Rattle.signaller.specs.declared.search.Found.{Found}
use Rattle.signaller.specs.declared.search.Found.TheVariants.{Arm as FoundArm, Beyond}
use Rattle.signaller.specs.declared.search.Search.{Search}
use Rattle.signaller.specs.Search.{unwind_next}
use Rattle.machine_rules.specs.State.{Store, Stepped}
use Rattle.machine_rules.specs.LookUps.{procedure_of}
use Rattle.machine_activations.specs.declared.calling.Sequel.{Sequel}
use Rattle.machine_activations.specs.declared.calling.Sequel.TheVariants.{Goes, Empty, Pending, Ends}
use Rattle.machine_activations.specs.declared.row.Kind.{Kind}
use Rattle.machine_activations.specs.declared.row.Kind.TheVariants.{Frame as FrameRow, Arm as ArmRow}
use Rattle.machine_activations.specs.declared.row.Layout.{Layout}
use Rattle.machine_activations.specs.declared.row.Reason.TheVariants.{Raise as RaiseRow, Jump as JumpRow}
use Rattle.machine_activations.specs.declared.row.Row.{Row}
use Rattle.machine_activations.specs.declared.row.Target.{Target}
use Rattle.machine_activations.specs.Frames.{row_at, owner_place}
use Rattle.machine_signals.specs.declared.seeking.Landed.{Landed}
use Rattle.machine_signals.specs.Arms.{AddsArm, Awaits}
use Rattle.machine_signals.specs.Indexed.{AsksIn, AskedOf, IsAsked}
use Rattle.machine_signals.specs.Leaving.{IsUnwinding, Leaving, LeftThere, StaysLow}
use Rattle.machine_signals.specs.Raising.{ArmsHold, AsksLeft, HoldsOn, KindHolds, LeadsBelow}
use Rattle.machine_signals.proofs.ArmRows.{arms_entered, arms_fewer, asked_alike, code_alike}
use Rattle.machine_signals.proofs.Leaves.{leaving_drops, leaving_runs, after_within}

-- what is asked under a kind that is dropped
pub left_asks : (image : Image) (table : List Row) (q : ℕ) (kind : Kind) → KindHolds image table q kind → AsksLeft image kind (row_at table (q - 1))
left_asks image table q FrameRow h = tt
left_asks image table q (ArmRow own n (RaiseRow signal args beyond)) h = tt
left_asks image table q (ArmRow own n (JumpRow target beyond)) h = h.0

-- it is of the target's frame, or has no UNWIND arm to run
abbrev pub IsPassed : List Row → (place : ℕ) → Target → Search → CodeProcedure → Type 0
IsPassed table place target search p =
    (owner_place (row_at table place).kind place ≡ target.owner) ⊎ ((owner_place (row_at table place).kind place ≢ target.owner) × (unwind_next p.phrases search ≡ Beyond))

module _ (image : Image) (table : List Row) (place : ℕ) (row : Row) (row_is : row ≡ row_at table place) (target : Target) (search : Search) (asked : IsAsked image table place)
    (other : place ≢ target.place) where
  abbrev p : CodeProcedure
  p = asked.read.procedure

  row_code : procedure_of image row.instance row.procedure ≡ Some p
  row_code = ap (λ (x : Row). procedure_of image x.instance x.procedure) row_is ∙ asked.read.is

  own_is : (own : ℕ) → own ≡ owner_place row.kind place → owner_place (row_at table place).kind place ≡ own
  own_is own e = sym (e ∙ ap (λ (x : Row). owner_place x.kind place) row_is)

  module _ (own : ℕ) (own_read : own ≡ owner_place row.kind place) where
    module _ (answer : Found) (said : (q : CodeProcedure) → procedure_of image row.instance row.procedure ≡ Some q → answer ≡ unwind_next q.phrases search) (others : own ≢ target.owner) where
      not_mine : owner_place (row_at table place).kind place ≢ target.owner
      not_mine e = others (sym (own_is own own_read) ∙ e)

      module _ (arm : ℕ) (beyond : Search) (found : answer ≡ FoundArm arm beyond) where
        told : unwind_next p.phrases search ≡ FoundArm arm beyond
        told = sym (said p row_code) ∙ found

        pub unwinding : (top : ℕ) → place ≤ top → target.place ≤ place → IsUnwinding image table top target (record { place = place; arm = arm; beyond = beyond })
        unwinding top low above = record {
          low = low;
          above = omega (arith, above, other);
          asks = λ q is_q. subst (λ (x : CodeProcedure). AsksIn x beyond) (same_Some p q (sym asked.read.is ∙ is_q)) (after_within p search arm beyond told);
        }

        pub unwinds : (layout : Layout) (region : List ℕ) (s : Stepped) (m : Store) → Leaving image layout region table place target search s m
            → Awaits image layout region table place place arm (JumpRow target beyond) 0 0 s m
        unwinds layout region s m w = leaving_runs image layout region table s m target search place w other not_mine p asked.read.is arm beyond told

      pub passed_over : answer ≡ Beyond → IsPassed table place target search p
      passed_over none = inr (not_mine, sym (said p row_code) ∙ none)

    pub of_target : own ≡ target.owner → IsPassed table place target search p
    of_target mine = inl (own_is own own_read ∙ mine)

  module _ (way : IsPassed table place target search p)
      (under : Row) (under_is : under ≡ row_at table (place - 1)) (next : Search) where
    pub asked_next : AskedOf image under next → AskedOf image (row_at table (place - 1)) next
    asked_next h = subst (λ (x : Row). AskedOf image x next) under_is h

    pub drops_so : LeftThere image row.kind under next → 0 < place → (layout : Layout) (region : List ℕ) (s : Stepped) (m : Store) → Leaving image layout region table place target search s m
        → Leaving image layout region table (place - 1) target next s m
    drops_so left some layout region s m w =
        leaving_drops image layout region table s m target search place w some other p asked.read.is way next
        (subst (λ (x : Row). LeftThere image x.kind (row_at table (place - 1)) next) row_is (subst (λ (x : Row). LeftThere image row.kind x next) under_is left))

-- the row of an UNWIND arm that is run tells a search and a jump that can go on
pub unwind_holds : (image : Image) (table : List Row) (top : ℕ) (target : Target) (landed : Landed) → IsUnwinding image table top target landed → LeadsBelow image table (top + 1) target
    → ArmsHold image table top → (table' : List Row) (sequel : Sequel) → AddsArm table landed.place landed.place landed.arm (JumpRow target landed.beyond) table' sequel → HoldsOn image table' sequel
unwind_holds image table top target landed found aims holds table' sequel adds =
    arms_entered image table table' landed.place landed.place landed.arm (JumpRow target landed.beyond) sequel adds (arms_fewer image table top landed.place found.low holds)
    (λ row instance procedure rows same is.
    let above = found.above in
    let here : landed.place ≡ landed.place + 1 - 1 = omega arith in (
      subst (λ k. AskedOf image (row_at rows k) landed.beyond) here
          (asked_alike image (row_at rows landed.place) (row_at table landed.place) (same landed.place (omega arith)) landed.beyond found.asks),
      record {
        low = omega (arith, above);
        goal = λ p is_p. aims.goal p (code_alike image (row_at rows target.place) (row_at table target.place) (same target.place (omega (arith, above))) ∙ is_p);
      },
    ))

-- where a jump arrives, at a place no higher, the rows are as they were
pub arrived_holds : (image : Image) (table : List Row) (top place : ℕ) → place ≤ top → ArmsHold image table top
    → (table' : List Row) → table' ≡ table → (sequel : Sequel) → StaysLow place sequel → HoldsOn image table' sequel
arrived_holds image table top place under holds table' same (Goes r) low =
    subst (λ t. ArmsHold image t r.top) (sym same) (arms_fewer image table top r.top (omega (arith, under, low)) holds)
arrived_holds image table top place under holds table' same Empty low = tt
arrived_holds image table top place under holds table' same (Pending r) low =
    subst (λ t. ArmsHold image t r.top) (sym same) (arms_fewer image table top r.top (omega (arith, under, low)) holds)
arrived_holds image table top place under holds table' same (Ends end) low = tt
