-- The call that runs an arm: what it finds, and where it leads, with the values of the code.
use Rattle.std.proofs.Common.{◌≡◌, ℕ, ◌+◌, ◌-◌, ◌*◌, ◌<◌, ◌≤◌, List, length, replicate, get_or, Some, refl, sym, ap, subst, ◌∙◌, arith}
use Rattle.std.specs.Prelude.{slice_get, slice_set, IsSome}
use Rattle.std.specs.List.{AllZip}
use Rattle.std.proofs.lemmas.Option.{get_or_from_slice_get, slice_get_within}
use Rattle.code_forms.specs.declared.module_code.Arm.{Arm}
use Rattle.code_forms.specs.declared.module_code.CodeEntry.{CodeEntry}
use Rattle.code_forms.specs.declared.module_code.CodeProcedure.{CodeProcedure}
use Rattle.code_forms.specs.Routine.{Begins, spots}
use Rattle.object_files.specs.declared.image.Image.{Image}
use Rattle.machine_rules.specs.State.{InArm, Store, Stepped}
use Rattle.machine_rules.specs.LookUps.{procedure_of}
use Rattle.machine_rules.specs.Activations.{owner}
use Rattle.machine_topmost.specs.declared.registers.Registers.{Registers}
use Rattle.machine_topmost.specs.Flat.{part}
use Rattle.machine_activations.specs.declared.row.Layout.{Layout}
use Rattle.machine_activations.specs.declared.row.Reason.{Reason}
use Rattle.machine_activations.specs.declared.row.Row.{Row}
use Rattle.machine_activations.specs.Below.{over_by}
use Rattle.machine_activations.specs.Frames.{row_at, owner_place}
use Rattle.machine_activations.specs.Reaching.{Shown}
use Rattle.machine_activations.specs.Shows.{IsPrepared, IsAmple, with_places}
use Rattle.machine_activations.proofs.Grown.{grown_part, grown_more}
use Rattle.machine_activations.proofs.Keeping.{below_same}
use Rattle.machine_ready.specs.declared.openings.Opening.{Opening}
use Rattle.machine_ready.specs.declared.plan.Plan.{Plan}
use Rattle.machine_ready.specs.Openings.{IsOpening, arms_in}
use Rattle.machine_ready.specs.Ready.{IsPlan}
use Rattle.machine_ready.proofs.Each.{zip_at, zip_within}
use Rattle.machine_signals.specs.Arms.{taken, arm_row, with_arm, with_params, arm_registers, Awaits}
use Rattle.machine_signals.proofs.Places.{place_at}
use Rattle.machine_signals.proofs.ArmLeads.{a, own, holder_code, holder_owner, arm_begins, arm_there, params_room, arm_shown}

module _ (image : Image) (layout : Layout) (prepared : IsPrepared image layout) (region : List ℕ) (table : List Row) (top place number : ℕ) (reason : Reason) (from count : ℕ)
    (ample : IsAmple layout region table top) where
  abbrev grown : List ℕ
  grown = with_places region layout (top + 1)

  module _ (s : Stepped) (m : Store) (w : Awaits image layout region table top place number reason from count s m) where
    -- the region may have grown
    pub awaits_grown : Awaits image layout grown table top place number reason from count s m
    awaits_grown =
        let more : List ℕ = replicate ((top + 1 + 1) * layout.part - length region) 0 in
        let wide = ample.wide in
        let up : length w.activations * layout.part ≡ (top + 1) * layout.part = ap (λ q. q * layout.part) w.high in
        record {
          activations = w.activations;
          holder = w.holder;
          why = w.why;
          words = w.words;
          below = below_same image layout prepared.laid table region grown (over_by w.holder.instance w.holder.procedure (InArm (owner w.holder.role place) number w.why)) w.activations
              (λ k n l. grown_part region more k n (omega (arith, l, up, wide))) w.below;
          high = w.high;
          low = w.low;
          there = w.there;
          procedure = w.procedure;
          is = w.is;
          has = w.has;
          same_why = w.same_why;
          source = grown_part region more from count w.inside ∙ w.source;
          inside = (let g = grown_more region layout (top + 1) in let i = w.inside in omega (arith, g, i));
          reaches = w.reaches;
        }

    abbrev g : Awaits image layout grown table top place number reason from count s m
    g = awaits_grown

    room : (top + 1) * layout.part ≤ length grown
    room = let m = grown_more region layout (top + 1) in let wide = ample.wide in omega (arith, m, wide)

    -- what the code reads
    module _ (holder : Row) (holder_is : holder ≡ row_at table place) where
      code_is : procedure_of image holder.instance holder.procedure ≡ Some g.procedure
      code_is = ap (λ (x : Row). procedure_of image x.instance x.procedure) holder_is ∙ holder_code image layout prepared grown table top place number reason from count s m g

      pub procedure_there : IsSome (procedure_of image holder.instance holder.procedure)
      procedure_there = subst (λ o. IsSome o) (sym code_is) refl

      abbrev its_code : List CodeEntry
      its_code = (g.procedure).code

      abbrev its_arms : List Arm
      its_arms = arms_in (g.procedure).phrases

      abbrev its_arm : Arm
      its_arm = a image layout prepared grown table top place number reason from count s m g

      arm_is : slice_get its_arms number ≡ Some its_arm
      arm_is = arm_there image layout prepared grown table top place number reason from count s m g

      number_within : number < length its_arms
      number_within = slice_get_within its_arms number its_arm arm_is

      -- how the arm is entered
      module _ (plan : Plan) (is_plan : (p : CodeProcedure) → procedure_of image holder.instance holder.procedure ≡ Some p → IsPlan p plan)
          (openings : List Opening) (own_openings : openings ≡ plan.openings) where
        its_openings : AllZip (IsOpening its_code) its_arms plan.openings
        its_openings = (is_plan g.procedure code_is).openings

        pub opening_within : number < length openings
        opening_within =
            let l = zip_within (IsOpening its_code) its_arms plan.openings its_openings number number_within in
            let e = ap length own_openings in omega (arith, l, e)

        module _ (d : Opening) (owner_read slot words : ℕ) (owner_is : owner_read ≡ owner_place holder.kind place) (slot_is : slot ≡ (get_or openings number d).slot)
            (words_is : words ≡ taken count (get_or openings number d).words) where
          opened : IsOpening its_code its_arm (get_or openings number d)
          opened =
              subst (λ (l : List Opening). IsOpening its_code its_arm (get_or l number d)) (sym own_openings)
              (subst (λ (b : Arm). IsOpening its_code b (get_or plan.openings number d)) (get_or_from_slice_get its_arms number its_arm its_arm arm_is)
              (zip_at (IsOpening its_code) its_arms plan.openings its_openings number its_arm d number_within))

          slot_same : slot ≡ its_arm.slot
          slot_same = slot_is ∙ opened.slot

          words_same : words ≡ taken count its_arm.words
          words_same = words_is ∙ ap (λ k. taken count k) opened.words

          owner_same : owner_read ≡ own image layout prepared grown table top place number reason from count s m g
          owner_same = owner_is ∙ ap (λ (x : Row). owner_place x.kind place) holder_is ∙ holder_owner image layout prepared grown table top place number reason from count s m g

          pub params_there : (region' : List ℕ) → region' ≡ grown → owner_read * layout.part + slot + words ≤ length region'
          params_there region' region_is =
              let r = params_room image layout prepared grown table top place number reason from count s m g room in
              let o = ap (λ q. q * layout.part) owner_same in
              let l = ap length region_is in
              let e = slot_same in let f = words_same in omega (arith, r, o, l, e, f)

          module _ (entry : ℕ) (entry_is : entry ≡ (get_or openings number d).entry) (base region' : List ℕ) (base_is : base ≡ grown)
              (table' : List Row) (r' : Registers) (region_is : region' ≡ with_params base layout owner_read slot (part base from words))
              (table_is : table' ≡ slice_set table (top + 1) (arm_row holder.instance holder.procedure owner_read number reason))
              (registers_is : r' ≡ arm_registers layout (top + 1) owner_read entry) where
            abbrev x : ℕ
            x = own image layout prepared grown table top place number reason from count s m g

            begins_there : Begins (spots its_code) entry its_arm.start
            begins_there =
                subst (λ k. Begins (spots its_code) k its_arm.start) (sym entry_is)
                (opened.entry (arm_begins image layout prepared grown table top place number reason from count s m g))

            pub arm_goes : (turns : ℕ) → m.turns ≡ turns → (turns ≡ 0 → ⊥) → top + 1 < 8192
                → Shown image layout region' table' r' s (record m { turns = turns - 1 })
            arm_goes turns turns_are some less =
                let y = a image layout prepared grown table top place number reason from count s m g in
                let e1 : region' ≡ with_params grown layout x y.slot (part grown from (taken count y.words)) =
                region_is ∙ ap (λ (b : List ℕ). with_params b layout owner_read slot (part b from words)) base_is
                ∙ ap (λ o. with_params grown layout o slot (part grown from words)) owner_same
                ∙ ap (λ o. with_params grown layout x o (part grown from words)) slot_same
                ∙ ap (λ o. with_params grown layout x y.slot (part grown from o)) words_same in
                let e2 : table' ≡ with_arm table (top + 1) (row_at table place) x number reason =
                table_is ∙ ap (λ (h : Row). slice_set table (top + 1) (arm_row h.instance h.procedure owner_read number reason)) holder_is
                ∙ ap (λ o. with_arm table (top + 1) (row_at table place) o number reason) owner_same in
                let e3 : r' ≡ arm_registers layout (top + 1) x entry = registers_is ∙ ap (λ o. arm_registers layout (top + 1) o entry) owner_same in
                let long = ample.long in
                let shown = arm_shown image layout prepared grown table top place number reason from count s m g (λ none. some (sym turns_are ∙ none)) less room
                (omega (arith, long, less)) entry begins_there in
                subst (λ t. Shown image layout region' table' r' s (record m { turns = t - 1 })) turns_are
                (subst (λ (k : Registers). Shown image layout region' table' k s (record m { turns = m.turns - 1 })) (sym e3)
                (subst (λ (t : List Row). Shown image layout region' t (arm_registers layout (top + 1) x entry) s (record m { turns = m.turns - 1 })) (sym e2)
                (subst (λ (l : List ℕ). Shown image layout l (with_arm table (top + 1) (row_at table place) x number reason) (arm_registers layout (top + 1) x entry) s (record m { turns = m.turns - 1 })) (sym e1) shown)))

-- the topmost one has a row
pub place_small : (image : Image) (layout : Layout) (region : List ℕ) (table : List Row) (top place number : ℕ) (reason : Reason) (from count : ℕ) → IsAmple layout region table top
    → (s : Stepped) (m : Store) → Awaits image layout region table top place number reason from count s m → top < 8192
place_small image layout region table top place number reason from count ample s m w =
    let h = w.high in
    let below = place_at image layout region table _ w.activations top w.below (omega (arith, h)) in
    let l = slice_get_within table top below.waiting.rowed.row below.waiting.rowed.there in
    let long = ample.long in omega (arith, l, long)
