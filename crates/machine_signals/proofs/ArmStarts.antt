-- Where the region of an arm begins, an instruction begins that finds no operands; and the words of the arm are in the frame.
use Rattle.std.proofs.Common.{◌≡◌, ⊎_elim, ℕ, ◌+◌, ◌<◌, ◌≤◌, List, length, get_or, Some, refl, sym, ap, subst, ◌∙◌, arith}
use Rattle.std.specs.Prelude.{slice_get, IsTrue}
use Rattle.std.proofs.Math.Logic.{∥∥₁_elim}
use Rattle.std.proofs.Props.{props}
use Rattle.std.proofs.lemmas.Option.{none-some, same_Some, slice_get_within, slice_get-get_or, get_or_from_slice_get}
use Rattle.code_forms.specs.declared.instruction.Instruction.{Instruction}
use Rattle.code_forms.specs.declared.instruction.Instruction.TheVariants.{Jump, JumpIf, JumpIfNot}
use Rattle.code_forms.specs.declared.module_code.Arm.{Arm}
use Rattle.code_forms.specs.declared.module_code.CodeEntry.{CodeEntry}
use Rattle.code_forms.specs.declared.module_code.CodeProcedure.{CodeProcedure}
use Rattle.code_forms.specs.declared.module_code.ModuleCode.{ModuleCode}
use Rattle.code_forms.specs.declared.region.Region.{Region}
use Rattle.code_forms.specs.declared.region.Region.TheVariants.{ArmOf}
use Rattle.code_forms.specs.Depths.{Settled, at_none, at_first, Leads, Reaches, forward_target}
use Rattle.code_forms.specs.Instructions.{bytes_of}
use Rattle.code_forms.specs.Jumps.{JumpsRightly}
use Rattle.code_forms.specs.Ranges.{InOrder}
use Rattle.code_forms.specs.Regions.{region_at, arm_in, arm_of}
use Rattle.code_forms.specs.Routine.{Routine, Spot, IsStart, routine, spots, goes_on}
use Rattle.code_forms.specs.Valid.{Valid, HasDepths, RoutineIsValid, SpotIsRight}
use Rattle.code_forms.proofs.Ordered.{blank, at_less, same_spot, spot_within}
use Rattle.signaller.specs.declared.place.Place.{Place}
use Rattle.signaller.specs.Sought.{IsPlace}
use Rattle.machine_rules.proofs.Located.{start_below}
use Rattle.machine_rules.proofs.Holding.{ArmAtPlace, arm_at_place, arm_filled, has_from, has_is, has_of, region_of}
use Rattle.machine_activations.proofs.Located.{at_offset, joined}

order_once : (code : List CodeEntry) → IsProp (InOrder code)
order_once code = hlevel props

forward_region : (r : Routine) (at : ℕ) (i : Instruction) (offset : ℕ) → forward_target i ≡ Some offset → JumpsRightly r at i
    → region_at r.phrases offset ≡ region_at r.phrases at
forward_region r at (Jump target) offset e g = subst (λ k. region_at r.phrases k ≡ region_at r.phrases at) (same_Some target offset e) g.region
forward_region r at (JumpIf target) offset e g = subst (λ k. region_at r.phrases k ≡ region_at r.phrases at) (same_Some target offset e) g.region
forward_region r at (JumpIfNot target) offset e g = subst (λ k. region_at r.phrases k ≡ region_at r.phrases at) (same_Some target offset e) g.region
forward_region r at _ offset e g = absurd (none-some offset e)

settled_none : (r : Routine) (i depth : ℕ) → Settled r i depth → ((j : ℕ) → Leads r j i → ⊥) → depth ≡ 0
settled_none r _ _ (at_none i none) f = refl
settled_none r _ _ (at_first i j depth spot is leads earlier settled) f = absurd (f j leads)

module _ (m : ModuleCode) (valid : Valid m) (depths : HasDepths m) (n : ℕ) (p : CodeProcedure) (there : slice_get m.procedures n ≡ Some p) where
  abbrev r : Routine
  r = routine m p

  within : n < length m.procedures
  within = slice_get_within m.procedures n p there

  pub order : InOrder p.code
  order =
      ∥∥₁_elim m.ranges (order_once p.code) (λ k.
      subst (λ (q : CodeProcedure). InOrder q.code) (get_or_from_slice_get m.procedures n p p there) (k.each_procedure n p within).code)

  pub right : RoutineIsValid r
  right = valid n p within there

  module _ (place : Place) (is : IsPlace p.phrases place) where
    abbrev pub arm : Arm
    arm = (arm_at_place p.phrases place is).0

    pub found : ArmAtPlace p.phrases place arm
    found = (arm_at_place p.phrases place is).1

    filled : IsStart (spots p.code) arm.start × (arm.start < arm.end)
    filled = arm_filled (spots p.code) p.phrases right.phrases place arm found

    pub begins : IsStart (spots p.code) arm.start
    begins = filled.0

    region_here : region_at p.phrases arm.start ≡ ArmOf place.phrase place.arm
    region_here = region_of (spots p.code) p.phrases arm.start right.phrases place arm found (has_from arm arm.start (omega arith) filled.1)

    -- an earlier offset is in another region
    not_before : (o : ℕ) → o < arm.start → region_at p.phrases o ≡ region_at p.phrases arm.start → ⊥
    not_before o less same =
        let end = start_below p.code order arm.start begins in
        let h = has_of (spots p.code) p.phrases o right.phrases (omega (arith, less, end)) place arm found (same ∙ region_here) in
        let b = has_is arm o h in let low = b.0 in omega (arith, less, low)

    module _ (i : ℕ) (e : CodeEntry) (at : slice_get p.code i ≡ Some e) (start : e.at ≡ arm.start) where
      spot_right : (j : ℕ) (spot : Spot) → slice_get r.code j ≡ Some spot → SpotIsRight r j spot
      spot_right j spot is_spot = right.spots j spot (slice_get_within r.code j spot is_spot) is_spot

      earlier : (j : ℕ) (spot : Spot) → slice_get r.code j ≡ Some spot → j < i → spot.at < arm.start
      earlier j spot is_spot less =
          let l = at_less p.code j i blank order less (slice_get_within p.code i e at) in
          let one = ap (λ (s : Spot). s.at) (same_spot p.code j blank spot is_spot) in
          let two = ap (λ (x : CodeEntry). x.at) (get_or_from_slice_get p.code i e blank at) in
          omega (arith, l, one, two, start)

      -- none leads here
      next_not : (j : ℕ) (spot : Spot) → slice_get r.code j ≡ Some spot → j < i → i ≡ j + 1 → IsTrue (goes_on r spot.instruction) → ⊥
      next_not j spot is_spot less next goes =
          let s = spot_right j spot is_spot in
          let stays = (s.stack.stays goes).1 in
          let d = get_or p.code j blank in
          let here = slice_get-get_or p.code j blank (spot_within p.code j spot is_spot) in
          let same = same_spot p.code j blank spot is_spot in
          let up = joined m n p there j d e here (ap (λ k. slice_get p.code k) (sym next) ∙ at) in
          let at_end = subst (λ (x : Spot). x.at + bytes_of x.instruction ≡ e.at) same up in
          not_before spot.at (earlier j spot is_spot less) (sym stays ∙ ap (λ k. region_at p.phrases k) (at_end ∙ start))

      jump_not : (j : ℕ) (spot : Spot) → slice_get r.code j ≡ Some spot → j < i → Reaches r.code (forward_target spot.instruction) i → ⊥
      jump_not j spot is_spot less reach =
          let s = spot_right j spot is_spot in
          let here = at_offset p.code i reach.offset e at reach.begins in
          let region = forward_region r spot.at spot.instruction reach.offset reach.is s.jump in
          not_before spot.at (earlier j spot is_spot less) (sym region ∙ ap (λ k. region_at p.phrases k) (sym here ∙ start))

      none_leads : (j : ℕ) → Leads r j i → ⊥
      none_leads j l = ⊎_elim
          (λ (w : (i ≡ j + 1) × IsTrue (goes_on r l.spot.instruction)). next_not j l.spot l.is l.later w.0 w.1)
          (λ (w : Reaches r.code (forward_target l.spot.instruction) i). jump_not j l.spot l.is l.later w)
          l.way

      pub deep_none : 0 ≡ e.depth
      deep_none = sym (settled_none r i e.depth (depths n p within there i e at) none_leads)

    pub params_fit : arm.slot + arm.words ≤ p.frame
    params_fit =
        let s = begins.begins in
        let right_here = right.spots begins.number s.spot (slice_get_within r.code begins.number s.spot s.is) s.is in
        let region = ap (λ k. region_at p.phrases k) s.at ∙ region_here in
        let is_arm : arm_of p.phrases (region_at p.phrases s.spot.at) ≡ Some arm =
        ap (λ (x : Region). arm_of p.phrases x) region ∙ ap (λ o. arm_in o place.arm) found.is ∙ found.there in
        (right_here.operands.arm arm is_arm (sym s.at)).slots
