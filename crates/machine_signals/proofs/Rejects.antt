-- An arm that rejects: its signal asks on beyond its phrase, or the jump that it interrupted goes on there.
use Rattle.std.proofs.Common.{◌≡◌, ℕ, ◌+◌, ◌-◌, ◌*◌, ◌<◌, ◌≤◌, List, [], ◌∷◌, length, Some, refl, sym, ap, subst, ◌∙◌, arith}
use Rattle.code_forms.specs.declared.module_code.CodeProcedure.{CodeProcedure}
use Rattle.object_files.specs.declared.image.Image.{Image}
use Rattle.signaller.specs.declared.search.Search.{Search}
use Rattle.signaller.specs.declared.signal_id.SignalId.{SignalId}
use Rattle.machine_rules.specs.State.{Target as Aim, ForRaise, ForJump, Why, Role, Frame, InArm, Active, Activations, Store, Stuck, Stepped, Stops}
use Rattle.machine_rules.specs.LookUps.{procedure_of}
use Rattle.machine_rules.specs.Signals.{reject}
use Rattle.machine_rules.specs.Steps.{Ends, stops}
use Rattle.machine_topmost.specs.declared.registers.Registers.{Registers}
use Rattle.machine_topmost.specs.Flat.{part}
use Rattle.machine_activations.specs.declared.row.Kind.{Kind}
use Rattle.machine_activations.specs.declared.row.Kind.TheVariants.{Frame as FrameRow, Arm as ArmRow}
use Rattle.machine_activations.specs.declared.row.Layout.{Layout}
use Rattle.machine_activations.specs.declared.row.Reason.TheVariants.{Raise as RaiseRow, Jump as JumpRow}
use Rattle.machine_activations.specs.declared.row.Row.{Row}
use Rattle.machine_activations.specs.declared.row.Target.{Target}
use Rattle.machine_activations.specs.Placed.{floor_at}
use Rattle.machine_activations.specs.Rows.{IsTarget, IsWhy, IsKind}
use Rattle.machine_activations.specs.Below.{Raised, over, over_by, args_over, frame_at, OwnedBy, Below}
use Rattle.machine_activations.specs.Frames.{row_at, end_at}
use Rattle.machine_activations.specs.Shows.{IsPrepared, Shows}
use Rattle.machine_activations.specs.Reaching.{IsUnstuck}
use Rattle.machine_activations.proofs.Homes.{frame_within}
use Rattle.machine_activations.proofs.Tables.{row_there}
use Rattle.machine_signals.specs.Indexed.{AskedOf}
use Rattle.machine_signals.specs.Leaving.{Rejects, Leaving}
use Rattle.machine_signals.specs.Raising.{ArmsHold, KindHolds}
use Rattle.machine_signals.specs.Seeking.{Seeking}
use Rattle.machine_signals.proofs.Frames.{frame_is}
use Rattle.machine_signals.proofs.Lefts.{below_left}
use Rattle.machine_signals.proofs.Places.{place_at, home_for, at_instance, at_procedure}
use Rattle.machine_activations.proofs.Reach.{reaches_so, ends_alike}

-- What an activation is, by its row.

pub frame_role : (role : Role (List ℕ)) → IsKind FrameRow role → (variables : List ℕ) × (role ≡ Frame variables)
unfolding IsKind
frame_role (Frame variables) h = (variables, refl)
frame_role (InArm own n why) h = absurd h

pub raise_role : (role : Role (List ℕ)) (own n : ℕ) (signal : SignalId) (count : ℕ) (beyond : Search) → IsKind (ArmRow own n (RaiseRow signal count beyond)) role
    → (args : List ℕ) × (role ≡ InArm own n (ForRaise signal args beyond)) × (count ≡ length args)
unfolding IsKind IsWhy
raise_role (Frame variables) own n signal count beyond h = absurd h
raise_role (InArm own' n' (ForRaise signal' args beyond')) own n signal count beyond h = (
  args,
  ap (λ k. InArm k n' (ForRaise signal' args beyond')) (sym h.0)
      ∙ ap (λ k. InArm own k (ForRaise signal' args beyond')) (sym h.1)
      ∙ ap (λ k. InArm own n (ForRaise k args beyond')) (sym h.2.0)
      ∙ ap (λ k. InArm own n (ForRaise signal args k)) (sym h.2.2),
  h.2.1,
)
raise_role (InArm own' n' (ForJump aim beyond')) own n signal count beyond h = absurd h.2

pub jump_role : (role : Role (List ℕ)) (own n : ℕ) (target : Target) (beyond : Search) → IsKind (ArmRow own n (JumpRow target beyond)) role
    → (aim : Aim) × (role ≡ InArm own n (ForJump aim beyond)) × IsTarget target aim
unfolding IsKind IsWhy
jump_role (Frame variables) own n target beyond h = absurd h
jump_role (InArm own' n' (ForRaise signal' args beyond')) own n target beyond h = absurd h.2
jump_role (InArm own' n' (ForJump aim beyond')) own n target beyond h = (
  aim,
  ap (λ k. InArm k n' (ForJump aim beyond')) (sym h.0)
      ∙ ap (λ k. InArm own k (ForJump aim beyond')) (sym h.1)
      ∙ ap (λ k. InArm own n (ForJump aim k)) (sym h.2.1),
  h.2.0,
)

-- The topmost activation is an arm.

module _ (image : Image) (layout : Layout) (region : List ℕ) (table : List Row) (r : Registers) (p : CodeProcedure) (a : Active) (S : Activations)
    (shows : Shows image layout region table r p a S) where
  pub top_row : row_at table r.top ≡ shows.rowed.row
  top_row = ap (λ q. row_at table q) shows.top ∙ row_there table (length S) shows.rowed.row shows.rowed.there

  pub kind_is : IsKind (row_at table r.top).kind a.role
  kind_is = subst (λ (x : Row). IsKind x.kind a.role) (sym top_row) shows.rowed.same_kind

  pub top_instance : (row_at table r.top).instance ≡ a.instance
  top_instance = ap (λ (x : Row). x.instance) top_row ∙ shows.rowed.same_instance

  pub top_procedure : (row_at table r.top).procedure ≡ a.procedure
  top_procedure = ap (λ (x : Row). x.procedure) top_row ∙ shows.rowed.same_procedure

  home_by : (role : Role (List ℕ)) (own n : ℕ) (why : Why) → role ≡ InArm own n why → OwnedBy role a.instance a.procedure S → frame_at S own ≡ Some (home_for a)
  unfolding OwnedBy
  home_by role own n why is owned = subst (λ x. OwnedBy x a.instance a.procedure S) is owned

  pub arm_home : (own n : ℕ) (why : Why) → a.role ≡ InArm own n why → frame_at S own ≡ Some (home_for a)
  arm_home own n why is = home_by a.role own n why is shows.owned

  pub arm_low : (own n : ℕ) (why : Why) → a.role ≡ InArm own n why → own < r.top
  arm_low own n why is = let l = frame_within S own (home_for a) (arm_home own n why is) in let t = shows.top in omega (arith, l, t)

  -- the frame's row is of its instance and procedure
  pub owner_alike : (own n : ℕ) (why : Why) → a.role ≡ InArm own n why → ((row_at table own).instance ≡ a.instance) × ((row_at table own).procedure ≡ a.procedure)
  owner_alike own n why is =
      let home = arm_home own n why is in
      let less = frame_within S own (home_for a) home in
      let t = place_at image layout region table (over a) S own shows.below less in
      let f = frame_is S own (home_for a) t.active home t.is in
      (at_instance image layout region table S own t ∙ f.0, at_procedure image layout region table S own t ∙ f.1)

over_raise : (role : Role (List ℕ)) (j k own n : ℕ) (signal : SignalId) (args : List ℕ) (beyond : Search) → role ≡ InArm own n (ForRaise signal args beyond) → over_by j k role ≡ Raised signal args
unfolding over_by
over_raise role j k own n signal args beyond is = ap (λ x. over_by j k x) is

module _ (image : Image) (layout : Layout) (prepared : IsPrepared image layout) (region : List ℕ) (table : List Row) (r : Registers)
    (wide : (r.top + 1) * layout.part ≤ length region) where
  -- the arguments stand above the operands of the activation under it
  args_by : (S : Activations) (signal : SignalId) (args : List ℕ) → 0 < length S → r.top ≡ length S → Below image layout region table (Raised signal args) S
      → (part region (end_at (row_at table (r.top - 1)) (r.top - 1) layout) (length args) ≡ args) × (end_at (row_at table (r.top - 1)) (r.top - 1) layout + length args ≤ length region)
  unfolding Below args_over
  args_by [] signal args some top below = absurd (omega (arith, some))
  args_by (b ∷ T) signal args some top below =
      let w = below.0 in
      let place : length T ≡ r.top - 1 = omega (arith, top) in
      let row = row_there table (length T) w.kept.row w.kept.there in
      let count : (row_at table (length T)).count ≡ length b.operands = ap (λ (x : Row). x.count) row ∙ w.kept.same_count in
      let end : end_at (row_at table (length T)) (length T) layout ≡ floor_at layout (length T) + length b.operands = ap (λ k. floor_at layout (length T) + k) count in
      let laid = prepared.laid b.instance b.procedure w.procedure w.is in
      let room = w.room in
      let parts : (r.top + 1) * layout.part ≡ length T * layout.part + layout.part + layout.part = ap (λ q. (q + 1) * layout.part) top ∙ omega arith in
      let fits : floor_at layout (length T) + length b.operands + length args ≤ length region = omega (arith, laid.1, room, parts, wide) in
      subst (λ q. (part region (end_at (row_at table q) q layout) (length args) ≡ args) × (end_at (row_at table q) q layout + length args ≤ length region)) place
      (ap (λ k. part region k (length args)) end ∙ w.args, omega (arith, end, fits))

  module _ (s : Stepped) (m : Store) (w : Rejects image layout region table r s m) where
    abbrev a : Active
    a = w.top

    abbrev S : Activations
    S = w.rest

    -- it is no frame
    pub not_frame : IsUnstuck image s → (row_at table r.top).kind ≡ FrameRow → ⊥
    unfolding reject
    not_frame unstuck frame =
        let f = frame_role a.role (subst (λ (k : Kind). IsKind k a.role) frame (kind_is image layout region table r w.procedure a S w.shows)) in
        let stuck : reject a.role S m ≡ Stops Stuck m = ap (λ role. reject role S m) f.1 in
        unstuck Stuck m (ends_alike image _ _ w.reaches Stuck m (subst (λ x. Ends image x Stuck m) (sym stuck) (stops Stuck m))) refl

    module _ (own n : ℕ) (signal : SignalId) (count : ℕ) (beyond : Search) (raise : (row_at table r.top).kind ≡ ArmRow own n (RaiseRow signal count beyond)) where
      role_is : (args : List ℕ) × (a.role ≡ InArm own n (ForRaise signal args beyond)) × (count ≡ length args)
      role_is = raise_role a.role own n signal count beyond (subst (λ (k : Kind). IsKind k a.role) raise (kind_is image layout region table r w.procedure a S w.shows))

      pub raise_low : own < r.top
      raise_low = arm_low image layout region table r w.procedure a S w.shows own n (ForRaise signal role_is.0 beyond) role_is.1

      -- its search is one of its frame's procedure
      pub raise_asks : ArmsHold image table r.top → AskedOf image (row_at table own) beyond
      raise_asks holds =
          let h : AskedOf image (row_at table r.top) beyond = subst (λ (k : Kind). KindHolds image table r.top k) raise (holds r.top (omega arith)) in
          let o = owner_alike image layout region table r w.procedure a S w.shows own n (ForRaise signal role_is.0 beyond) role_is.1 in
          let j = top_instance image layout region table r w.procedure a S w.shows in
          let k = top_procedure image layout region table r w.procedure a S w.shows in
          λ q is. h q (ap (λ i. procedure_of image i (row_at table r.top).procedure) (j ∙ sym o.0) ∙ ap (λ i. procedure_of image (row_at table own).instance i) (k ∙ sym o.1) ∙ is)

      pub raise_rejects : Seeking image layout region table (r.top - 1) signal (end_at (row_at table (r.top - 1)) (r.top - 1) layout) count own beyond s m
      unfolding reject
      raise_rejects =
          let low = raise_low in
          let t = w.shows.top in
          let e = role_is.2 in
          let below : Below image layout region table (Raised signal role_is.0) S =
          subst (λ x. Below image layout region table x S) (over_raise a.role a.instance a.procedure own n signal role_is.0 beyond role_is.1) w.shows.below in
          let args = args_by S signal role_is.0 (omega (arith, low, t)) t below in
          record {
            activations = S;
            args = role_is.0;
            below = below;
            high = omega (arith, t, low);
            low = omega (arith, low);
            source = ap (λ k. part region (end_at (row_at table (r.top - 1)) (r.top - 1) layout) k) e ∙ args.0;
            inside = (let i = args.1 in omega (arith, i, e));
            reaches = reaches_so image _ _ _ w.reaches (ap (λ role. reject role S m) role_is.1);
          }

    module _ (own n : ℕ) (target : Target) (beyond : Search) (jump : (row_at table r.top).kind ≡ ArmRow own n (JumpRow target beyond)) where
      jump_role_is : (aim : Aim) × (a.role ≡ InArm own n (ForJump aim beyond)) × IsTarget target aim
      jump_role_is = jump_role a.role own n target beyond (subst (λ (k : Kind). IsKind k a.role) jump (kind_is image layout region table r w.procedure a S w.shows))

      pub jump_low : own < r.top
      jump_low = arm_low image layout region table r w.procedure a S w.shows own n (ForJump jump_role_is.0 beyond) jump_role_is.1

      pub jump_rejects : Leaving image layout region table (r.top - 1) target beyond s m
      unfolding reject
      jump_rejects =
          let low = jump_low in
          let t = w.shows.top in
          record {
            activations = S;
            aim = jump_role_is.0;
            below = below_left image layout region table (over a) S w.shows.below;
            high = omega (arith, t, low);
            same = jump_role_is.2;
            reaches = reaches_so image _ _ _ w.reaches (ap (λ role. reject role S m) jump_role_is.1);
          }
