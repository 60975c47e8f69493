-- What the topmost activation does over the region is a step of the machine.
use Rattle.std.proofs.Common.{◌≡◌, ◌≢◌, inl, inr, ℕ, zero, suc, ◌+◌, ◌-◌, ◌≤◌, List, ◌∷◌, Bool, true, false, length, reverse, Some, refl, sym, ap, subst, ◌∙◌, nat_eq, arith}
use Rattle.std.specs.Prelude.{slice_get, slice_index, unwrap_or, IsTrue, if◌then◌else◌}
use Rattle.std.proofs.lemmas.Bool.{false≢true, true≢false, eq-eqb, ne_eqb}
use Rattle.std.proofs.lemmas.List.{length-reverse}
use Rattle.std.proofs.lemmas.Option.{none-some, slice_get-get_or}
use Rattle.code_forms.specs.declared.instruction.Instruction.{Instruction}
use Rattle.code_forms.specs.declared.instruction.Instruction.TheVariants.{Jump, JumpIf, JumpIfNot, JumpBack}
use Rattle.code_forms.specs.declared.module_code.CodeEntry.{CodeEntry}
use Rattle.code_forms.specs.declared.module_code.CodeProcedure.{CodeProcedure}
use Rattle.code_forms.specs.declared.module_code.ModuleCode.{ModuleCode}
use Rattle.code_forms.specs.Depths.{forward_target, backward_target}
use Rattle.code_forms.specs.Instructions.{bytes_of}
use Rattle.code_forms.specs.Routine.{Begins, routine, spots, moves, goes_on}
use Rattle.code_forms.specs.Running.{EntryRuns}
use Rattle.code_forms.specs.Valid.{Valid, HasDepths}
use Rattle.code_forms.proofs.Leading.{begins_there}
use Rattle.code_forms.proofs.Ordered.{blank}
use Rattle.object_files.specs.declared.image.Image.{Image}
use Rattle.machine_rules.specs.State.{Role, Frame, InArm, Active, Activations, Store, Runs, Stepped, Goes}
use Rattle.machine_rules.specs.LookUps.{module_number, text_of, instruction_under}
use Rattle.machine_rules.specs.Activations.{activation_at, owner, own_frame, variables_in, variables_of, variables, with_variables, set_variables}
use Rattle.machine_rules.specs.Calls.{set_of}
use Rattle.machine_rules.specs.Moves.{with, spend_of, spend, onward, go_to}
use Rattle.machine_rules.specs.Steps.{perform, work_of, worked, works_in, begin, run, step}
use Rattle.machine_rules.specs.Working.{Work, works}
use Rattle.machine_topmost.specs.declared.registers.Registers.{Registers}
use Rattle.machine_topmost.specs.Flat.{Flat, Went, part, operand, place, flat}
use Rattle.machine_topmost.specs.Running.{HasTargets, IsProcedureOf, Standing, flat_at}
use Rattle.machine_topmost.specs.Shown.{work_shown, worked_shown, jumps_within}
use Rattle.machine_topmost.proofs.Copied.{length-part}
use Rattle.machine_topmost.proofs.Going.{Way, on, forward, back, goes, went, went_past}
use Rattle.machine_topmost.proofs.Pausing.{entry_runs, depth_below, fits_here, stands_then, same_top, same_slots}
use Rattle.machine_topmost.proofs.Showing.{operands_to}
use Rattle.machine_topmost.proofs.Stepping.{works_as_defined, jump_if_shown, jump_if_not_shown}
use Rattle.machine_activations.specs.declared.row.Layout.{Layout}
use Rattle.machine_activations.specs.declared.row.Row.{Row}
use Rattle.machine_activations.specs.Placed.{slots_from, floor_at, HasVariables, Placed}
use Rattle.machine_activations.specs.Rows.{Rowed}
use Rattle.machine_activations.specs.Below.{over, OwnedBy, Below}
use Rattle.machine_activations.specs.Shows.{IsPrepared, Shows}
use Rattle.machine_activations.specs.Reaching.{Later}
use Rattle.machine_activations.proofs.Located.{joined, stands_at, at_offset}
use Rattle.machine_activations.proofs.Homes.{same_over, same_kind, set_long, owned_set, owned_role, frame_within, set_top, set_lower, at_top, at_lower}
use Rattle.machine_activations.proofs.Keeping.{SameBut, below_same, variables_below, below_stored}
use Rattle.machine_activations.proofs.Locality.{same_outside}

abbrev pub began : Store → Store
began m = record m { begun = suc m.begun }

pub set_own : {A : Type 0} (f : ℕ → A) (j : ℕ) (x : A) → set_of f j x j ≡ x
unfolding set_of
set_own f j x = ap (λ b. if b then x else f j) (eq-eqb j j refl)

pub set_other : {A : Type 0} (f : ℕ → A) (j : ℕ) (x : A) (i : ℕ) → i ≢ j → set_of f j x i ≡ f i
unfolding set_of
set_other f j x i other = ap (λ b. if b then x else f i) (ne_eqb i j other)

pub same_owner : (role : Role (List ℕ)) (new : List ℕ) (q : ℕ) → owner (with_variables role new) q ≡ owner role q
unfolding owner with_variables
same_owner (Frame old) new q = refl
same_owner (InArm own arm why) new q = refl

no_target : (i : Instruction) (offset : ℕ) → jumps_within i ≡ false → forward_target i ≡ Some offset → ⊥
no_target (Jump t) offset j e = true≢false j
no_target (JumpIf t) offset j e = true≢false j
no_target (JumpIfNot t) offset j e = true≢false j
no_target _ offset j e = none-some offset e

no_back : (i : Instruction) (offset : ℕ) → jumps_within i ≡ false → backward_target i ≡ Some offset → ⊥
no_back (JumpBack t) offset j e = true≢false j
no_back _ offset j e = none-some offset e

-- a turn is there
pub spent_by : (n : ℕ) (m : Store) (k : Store → Stepped) → nat_eq n 0 ≡ false → spend_of n m k ≡ k (record m { turns = n - 1 })
unfolding spend_of
spent_by zero m k some = absurd (true≢false some)
spent_by (suc n) m k some = let e : n ≡ suc n - 1 = omega arith in ap (λ t. k (record m { turns = t })) e

-- a step that the region follows
pub record Followed (image : Image) (layout : Layout) (table : List Row) (p : CodeProcedure) (a : Active) (S : Activations) (m : Store) (u : Flat) : Type 0 where
  pub next : Active
  pub rest : Activations
  pub store : Store
  pub same_instance : next.instance ≡ a.instance
  pub same_procedure : next.procedure ≡ a.procedure
  pub same_place : length rest ≡ length S
  pub shows : Shows image layout u.region table u.registers p next rest
  pub later : Later a.instance m 1 u.globals u.turns store
  pub is : step image (Runs (a ∷ S) m) ≡ Goes (Runs (next ∷ rest) store)

module _ (code : ModuleCode) (p : CodeProcedure) (valid : Valid code) (depths : HasDepths code) (of : IsProcedureOf code p) where
  -- where the operands end
  pub record OperandsEnd (region floor sp : ℕ) : Type 0 where
    pub above : floor ≤ sp
    pub full : sp ≤ region

  pub operands_end : (region globals floor : ℕ) (r : Registers) → Standing code p region globals floor r → OperandsEnd region floor r.sp
  operands_end region globals floor r standing =
      let there = slice_get-get_or p.code r.entry blank standing.within in
      let deep = standing.deep _ there in
      let below = depth_below code p valid depths of r.entry _ there in
      let roomy = standing.roomy in
      record { above = omega (arith, deep); full = omega (arith, deep, below, roomy) }

pub operands_long : (region : List ℕ) (floor sp : ℕ) → floor ≤ sp → sp ≤ length region → length (operands_to region floor sp) ≡ sp - floor
operands_long region floor sp above full = length-reverse (part region floor (sp - floor)) ∙ length-part region floor (sp - floor) (omega (arith, above, full))

module _ (image : Image) (layout : Layout) (prepared : IsPrepared image layout) (table : List Row) (code : ModuleCode) (p : CodeProcedure) (valid : Valid code) (depths : HasDepths code)
    (of : IsProcedureOf code p) where
  module _ (s : Flat) (a : Active) (S : Activations) (shows : Shows image layout s.region table s.registers p a S) where
    abbrev floor : ℕ
    floor = floor_at layout (length S)

    -- the variables that it sees
    variables_by : (role : Role (List ℕ)) → a.role ≡ role → HasVariables s.region (slots_from layout (length S)) p.frame role → OwnedBy role a.instance a.procedure S
        → variables_of (activation_at (a ∷ S) (owner role (length S))) ≡ part s.region (slots_from layout (owner role (length S))) p.frame
    unfolding owner HasVariables OwnedBy variables_of variables_in
    variables_by (Frame v) e has owned = ap variables_of (at_top a S) ∙ ap variables_in e ∙ sym has
    variables_by (InArm own arm why) e has owned =
        ap variables_of (at_lower a S own (frame_within S own _ owned))
        ∙ variables_below image layout prepared.laid table own a.instance a.procedure p shows.is s.region (over a) S shows.below owned

    pub variables_are : variables a S ≡ part s.region s.registers.slots p.frame
    unfolding variables own_frame
    variables_are = variables_by a.role refl shows.placed.variables shows.owned ∙ ap (λ k. part s.region k p.frame) (sym shows.slots)

    pub operands_are : a.operands ≡ operands_to s.region floor s.registers.sp
    operands_are =
        let sp = shows.sp in
        let many : length a.operands ≡ s.registers.sp - floor = omega (arith, sp) in
        sym shows.placed.operands ∙ ap (λ n. reverse (part s.region floor n)) many

    pub work_is : (m : Store) → m.globals a.instance ≡ s.globals → work_of a S m ≡ work_shown p.frame floor s
    unfolding work_of
    work_is m same =
        let mk : List ℕ → List ℕ → List ℕ → Work = λ (o v g : List ℕ). record { operands = o; variables = v; globals = g } in
        ap (λ o. mk o (variables a S) (m.globals a.instance)) operands_are
        ∙ ap (λ v. mk (operands_to s.region floor s.registers.sp) v (m.globals a.instance)) variables_are
        ∙ ap (λ g. mk (operands_to s.region floor s.registers.sp) (part s.region s.registers.slots p.frame) g) same

    -- Where it goes on, with these operands and variables.

    module _ (u : Flat) (offset : ℕ) (begins : Begins (spots p.code) u.registers.entry offset)
        (standing : Standing code p (length u.region) (length u.globals) floor u.registers) (top : u.registers.top ≡ s.registers.top) (slots : u.registers.slots ≡ s.registers.slots) where
      abbrev new : List ℕ
      new = part u.region u.registers.slots p.frame

      abbrev pub moved : Active
      moved = record a { offset = offset; operands = operands_to u.region floor u.registers.sp }

      ends : OperandsEnd code p valid depths of (length u.region) floor u.registers.sp
      ends = operands_end code p valid depths of (length u.region) (length u.globals) floor u.registers standing

      many : length (operands_to u.region floor u.registers.sp) ≡ u.registers.sp - floor
      many = operands_long u.region floor u.registers.sp ends.above ends.full

      deep : (e : CodeEntry) → slice_get p.code u.registers.entry ≡ Some e → length (operands_to u.region floor u.registers.sp) ≡ e.depth
      deep e at = let d = standing.deep e at in let n = many in omega (arith, d, n)

      ends_there : u.registers.sp ≡ floor + length (operands_to u.region floor u.registers.sp)
      ends_there = let n = many in let f = ends.above in omega (arith, n, f)

      there : reverse (part u.region floor (length (operands_to u.region floor u.registers.sp))) ≡ operands_to u.region floor u.registers.sp
      there = ap (λ n. reverse (part u.region floor n)) many

      -- the region is as it was
      pub shows_moved : u.region ≡ s.region → Shows image layout u.region table u.registers p moved S
      unfolding own_frame
      shows_moved same = record {
        is = shows.is;
        top = top ∙ shows.top;
        slots = slots ∙ shows.slots;
        sp = ends_there;
        begins = begins;
        deep = deep;
        placed = record {
          variables = subst (λ (r : List ℕ). HasVariables r (slots_from layout (length S)) p.frame a.role) (sym same) shows.placed.variables;
          operands = there;
        };
        rowed = record { row = shows.rowed.row; there = shows.rowed.there; same_instance = shows.rowed.same_instance; same_procedure = shows.rowed.same_procedure; same_kind = shows.rowed.same_kind };
        owned = shows.owned;
        below = subst (λ (r : List ℕ). Below image layout r table (over a) S) (sym same) shows.below;
      }

      pub record IsSet : Type 0 where
        pub next : Active
        pub rest : Activations
        pub is : set_variables (moved ∷ S) (own_frame moved S) new ≡ next ∷ rest
        pub same_instance : next.instance ≡ a.instance
        pub same_procedure : next.procedure ≡ a.procedure
        pub same_place : length rest ≡ length S
        pub shows_it : Shows image layout u.region table u.registers p next rest

      -- words of its frame may have changed
      module _ (same : SameBut s.region u.region s.registers.slots p.frame floor) where
        set_by : (role : Role (List ℕ)) → a.role ≡ role → OwnedBy role a.instance a.procedure S → IsSet
        unfolding owner own_frame HasVariables OwnedBy with_variables
        set_by (Frame v) e owned =
            let own : owner a.role (length S) ≡ length S = ap (λ r. owner r (length S)) e in
            let from : u.registers.slots ≡ slots_from layout (length S) = slots ∙ shows.slots ∙ ap (λ q. slots_from layout q) own in
            record {
              next = record moved { role = with_variables a.role new };
              rest = S;
              is = ap (λ q. set_variables (moved ∷ S) q new) own ∙ set_top moved S new;
              same_instance = refl;
              same_procedure = refl;
              same_place = refl;
              shows_it = record {
                is = shows.is;
                top = top ∙ shows.top;
                slots = slots ∙ shows.slots ∙ ap (λ q. slots_from layout q) (sym (same_owner a.role new (length S)));
                sp = ends_there;
                begins = begins;
                deep = deep;
                placed = record {
                  variables = subst (λ r. HasVariables u.region (slots_from layout (length S)) p.frame (with_variables r new)) (sym e) (ap (λ k. part u.region k p.frame) (sym from));
                  operands = there;
                };
                rowed = record {
                  row = shows.rowed.row;
                  there = shows.rowed.there;
                  same_instance = shows.rowed.same_instance;
                  same_procedure = shows.rowed.same_procedure;
                  same_kind = same_kind shows.rowed.row.kind a.role new shows.rowed.same_kind;
                };
                owned = owned_role a.role new a.instance a.procedure S shows.owned;
                below = subst (λ o. Below image layout u.region table o S) (sym (same_over a.role new a.instance a.procedure))
                    (below_same image layout prepared.laid table s.region u.region (over a) S (λ k n l. same k n (omega (arith, l)) (inl (omega (arith, l, from, slots)))) shows.below);
              };
            }
        set_by (InArm own arm why) e owned =
            let at : owner a.role (length S) ≡ own = ap (λ r. owner r (length S)) e in
            let less = frame_within S own _ owned in
            let here : s.registers.slots ≡ slots_from layout own = shows.slots ∙ ap (λ q. slots_from layout q) at in
            let from : u.registers.slots ≡ slots_from layout own = slots ∙ here in
            let words : List ℕ = part u.region (slots_from layout own) p.frame in
            let long : length (set_variables S own words) ≡ length S = set_long S own words in
            let back : length S ≡ length (set_variables S own words) = sym long in
            record {
              next = moved;
              rest = set_variables S own words;
              is = ap (λ q. set_variables (moved ∷ S) q new) at ∙ ap (λ k. set_variables (moved ∷ S) own (part u.region k p.frame)) from ∙ set_lower moved S own words less;
              same_instance = refl;
              same_procedure = refl;
              same_place = long;
              shows_it = record {
                is = shows.is;
                top = top ∙ shows.top ∙ back;
                slots = from ∙ ap (λ r. slots_from layout (owner r (length (set_variables S own words)))) (sym e);
                sp = ends_there ∙ ap (λ q. floor_at layout q + length (operands_to u.region floor u.registers.sp)) back;
                begins = begins;
                deep = deep;
                placed = subst (λ q. Placed layout u.region q p.frame moved) back (record {
                  variables = subst (λ r. HasVariables u.region (slots_from layout (length S)) p.frame r) (sym e) tt;
                  operands = there;
                });
                rowed = subst (λ q. Rowed table q moved) back
                    (record { row = shows.rowed.row; there = shows.rowed.there; same_instance = shows.rowed.same_instance; same_procedure = shows.rowed.same_procedure; same_kind = shows.rowed.same_kind });
                owned = owned_set a.role a.instance a.procedure S own words shows.owned;
                below = below_stored image layout prepared.laid table own a.instance a.procedure p shows.is s.region u.region (over a) S owned
                    (λ k n l side. subst (λ at. SameBut s.region u.region at p.frame floor) here same k n (omega (arith, l)) side) shows.below;
              };
            }

        pub shows_set : IsSet
        shows_set = set_by a.role refl shows.owned

  -- One instruction.

  module _ (targets : List ℕ) (leads : HasTargets p.code targets) (number : ℕ) (s : Flat) (a : Active) (S : Activations) (shows : Shows image layout s.region table s.registers p a S)
      (numbered : module_number image a.instance ≡ Some number)
      (standing : Standing code p (length s.region) (length s.globals) (floor_at layout (length S)) s.registers) (e : CodeEntry) (fetched : slice_get p.code s.registers.entry ≡ Some e) where
    abbrev at_floor : ℕ
    at_floor = floor_at layout (length S)

    abbrev target : ℕ
    target = slice_index targets s.registers.entry

    abbrev runs : EntryRuns (routine code p) p s.registers.entry e
    runs = entry_runs code p valid depths of s.registers.entry e fetched

    under : instruction_under image a ≡ Some e.instruction
    under = stands_at image layout prepared a p shows.is s.registers.entry e fetched shows.begins

    pub step_is : (m : Store) → step image (Runs (a ∷ S) m) ≡ worked image e.instruction (works_in image e.instruction a S m) a S (began m)
    unfolding step run begin with
    step_is m = ap (λ o. with o m (λ (i : Instruction). worked image i (works_in image i a S m) a S (began m))) under

    pub works_are : (m : Store) → m.globals a.instance ≡ s.globals → jumps_within e.instruction ≡ false
        → works_in image e.instruction a S m ≡ worked_shown p.frame at_floor (flat_at (text_of image) number targets e s)
    unfolding works_in
    works_are m same still =
        ap (λ o. works (text_of image) (unwrap_or o 0) e.instruction (work_of a S m)) numbered
        ∙ ap (λ w. works (text_of image) number e.instruction w) (work_is s a S shows m same)
        ∙ works_as_defined code p valid depths of (text_of image) number at_floor targets s e standing fetched still

    -- the next entry begins behind the instruction
    next_begins : IsTrue (goes_on (routine code p) e.instruction) → Begins (spots p.code) (s.registers.entry + 1) (a.offset + bytes_of e.instruction)
    next_begins goes_on =
        let next = runs.next goes_on in
        let here : e.at ≡ a.offset = at_offset p.code s.registers.entry a.offset e fetched shows.begins in
        let same : next.0.at ≡ a.offset + bytes_of e.instruction = sym (joined code of.0 p of.1 s.registers.entry e next.0 fetched next.1) ∙ ap (λ k. k + bytes_of e.instruction) here in
        subst (λ k. Begins (spots p.code) (s.registers.entry + 1) k) same (begins_there p.code (s.registers.entry + 1) next.0 next.1)

    -- where it goes on, the registers stand
    module _ (u : Flat) (goes_to : flat_at (text_of image) number targets e s ≡ Went u) where
      stands : Standing code p (length u.region) (length u.globals) at_floor u.registers
      stands = stands_then code p targets valid depths of leads at_floor (text_of image) number s e standing fetched u goes_to

      top_stays : u.registers.top ≡ s.registers.top
      top_stays = same_top code p targets valid depths of leads at_floor (text_of image) number s e standing fetched u goes_to

      slots_stay : u.registers.slots ≡ s.registers.slots
      slots_stay = same_slots code p targets valid depths of leads at_floor (text_of image) number s e standing fetched u goes_to

      -- An instruction that works on one activation.

      record Onward : Type 0 where
        entry : u.registers.entry ≡ s.registers.entry + 1
        turns : u.turns ≡ s.turns
        goes_on_so : IsTrue (goes_on (routine code p) e.instruction)

      on_way : jumps_within e.instruction ≡ false → Way (routine code p) e.instruction target s u → Onward
      on_way still (on goes entry turns) = record { entry = entry; turns = turns; goes_on_so = goes }
      on_way still (forward offset is entry turns) = absurd (no_target e.instruction offset still is)
      on_way still (back offset is entry turns) = absurd (no_back e.instruction offset still is)

      onward_is : jumps_within e.instruction ≡ false → Onward
      onward_is still = on_way still (goes (text_of image) number (routine code p) target s e.instruction u
          (fits_here code p targets valid depths of leads at_floor (text_of image) number s e standing fetched) goes_to).way

      pub works_follow : (m : Store) → m.globals a.instance ≡ s.globals → m.turns ≡ s.turns → jumps_within e.instruction ≡ false → Followed image layout table p a S m u
      unfolding worked own_frame
      works_follow m same turns still =
          let o = onward_is still in
          let deep = standing.deep e fetched in
          let roomy = standing.roomy in
          let below = depth_below code p valid depths of s.registers.entry e fetched in
          let enough = runs.enough in
          let room = runs.room in
          let begins : Begins (spots p.code) u.registers.entry (a.offset + bytes_of e.instruction) = subst (λ k. Begins (spots p.code) k (a.offset + bytes_of e.instruction)) (sym o.entry) (next_begins o.goes_on_so) in
          let outside : SameBut s.region u.region s.registers.slots p.frame at_floor = same_outside (text_of image) number (routine code p) _ at_floor e.depth s deep standing.apart (omega (arith, deep, below, roomy))
          e.instruction target u runs.enough (omega (arith, deep, roomy, enough, room)) runs.operands.own goes_to in
          let set = shows_set s a S shows u (a.offset + bytes_of e.instruction) begins stands top_stays slots_stay outside in
          let store : Store = record m { begun = suc m.begun; globals = set_of m.globals a.instance u.globals } in
          record {
            next = set.next;
            rest = set.rest;
            store = store;
            same_instance = set.same_instance;
            same_procedure = set.same_procedure;
            same_place = set.same_place;
            shows = set.shows_it;
            later = record {
              begun = omega arith;
              own = set_own m.globals a.instance u.globals;
              others = λ j other. set_other m.globals a.instance u.globals j other;
              same_turns = turns ∙ sym o.turns;
              started = λ j. refl;
              control = refl;
              input = refl;
              faulty = refl;
              output = refl;
            };
            is = step_is m
                ∙ ap (λ w. worked image e.instruction w a S (began m)) (works_are m same still ∙ ap (λ f. worked_shown p.frame at_floor f) goes_to)
                ∙ ap (λ T. Goes (Runs T store)) set.is;
          }

      -- Jumps.

      -- it goes on elsewhere, with these operands
      jumped : (m : Store) (offset turns : ℕ) → m.globals a.instance ≡ s.globals → u.region ≡ s.region → u.globals ≡ s.globals → u.turns ≡ turns → Begins (spots p.code) u.registers.entry offset
          → step image (Runs (a ∷ S) m) ≡ Goes (Runs (record a { offset = offset; operands = operands_to u.region at_floor u.registers.sp } ∷ S) (record m { begun = suc m.begun; turns = turns }))
          → Followed image layout table p a S m u
      jumped m offset turns same region globals left begins is = record {
        next = record a { offset = offset; operands = operands_to u.region at_floor u.registers.sp };
        rest = S;
        store = record m { begun = suc m.begun; turns = turns };
        same_instance = refl;
        same_procedure = refl;
        same_place = refl;
        shows = shows_moved s a S shows u offset begins stands top_stays slots_stay region;
        later = record {
          begun = omega arith;
          own = same ∙ sym globals;
          others = λ j other. refl;
          same_turns = sym left;
          started = λ j. refl;
          control = refl;
          input = refl;
          faulty = refl;
          output = refl;
        };
        is = is;
      }

      step_jumps : (i : Instruction) → e.instruction ≡ i → (m : Store) → step image (Runs (a ∷ S) m) ≡ worked image i (works_in image i a S m) a S (began m)
      step_jumps i is m = step_is m ∙ ap (λ i. worked image i (works_in image i a S m) a S (began m)) is

      operands_go : (t : Flat) → t ≡ u → t.region ≡ s.region → operands_to s.region at_floor t.registers.sp ≡ operands_to u.region at_floor u.registers.sp
      operands_go t same region = ap (λ r. operands_to r at_floor t.registers.sp) (sym region) ∙ ap (λ (v : Flat). operands_to v.region at_floor v.registers.sp) same

      takes_one : (i : Instruction) → e.instruction ≡ i → (moves (routine code p) i).takes ≤ e.depth
      takes_one i is = subst (λ j. (moves (routine code p) j).takes ≤ e.depth) is runs.enough

      -- behind the jump, or at its target
      begins_if : (b : Bool) (i : Instruction) (offset : ℕ) → e.instruction ≡ i → goes_on (routine code p) i ≡ true → forward_target i ≡ Some offset
          → Begins (spots p.code) (if b then s.registers.entry + 1 else target) (if b then a.offset + bytes_of i else offset)
      begins_if true i offset is goes_so to =
          subst (λ j. Begins (spots p.code) (s.registers.entry + 1) (a.offset + bytes_of j)) is (next_begins (ap (λ j. goes_on (routine code p) j) is ∙ goes_so))
      begins_if false i offset is goes_so to = leads.lead s.registers.entry offset e fetched (inl (ap forward_target is ∙ to))

      step_if : (b : Bool) (i : Instruction) (offset : ℕ) (operands : List ℕ) (m : Store) → (if b then onward i operands a S m else go_to offset operands a S m)
          ≡ Goes (Runs (record a { offset = if b then a.offset + bytes_of i else offset; operands = operands } ∷ S) m)
      unfolding onward go_to
      step_if true i offset operands m = refl
      step_if false i offset operands m = refl

      begins_unless : (b : Bool) (i : Instruction) (offset : ℕ) → e.instruction ≡ i → goes_on (routine code p) i ≡ true → forward_target i ≡ Some offset
          → Begins (spots p.code) (if b then target else s.registers.entry + 1) (if b then offset else a.offset + bytes_of i)
      begins_unless true i offset is goes_so to = begins_if false i offset is goes_so to
      begins_unless false i offset is goes_so to = begins_if true i offset is goes_so to

      step_unless : (b : Bool) (i : Instruction) (offset : ℕ) (operands : List ℕ) (m : Store) → (if b then go_to offset operands a S m else onward i operands a S m)
          ≡ Goes (Runs (record a { offset = if b then offset else a.offset + bytes_of i; operands = operands } ∷ S) m)
      unfolding onward go_to
      step_unless true i offset operands m = refl
      step_unless false i offset operands m = refl

      pub jumps_follow : (m : Store) → m.globals a.instance ≡ s.globals → m.turns ≡ s.turns → (i : Instruction) → jumps_within i ≡ true → e.instruction ≡ i
          → flat (text_of image) number i target s ≡ Went u → Followed image layout table p a S m u
      unfolding flat works_in works worked perform go_to spend
      jumps_follow m same turns (Jump offset) j is h =
          let to = went _ u h in
          let entry : u.registers.entry ≡ target = ap (λ (t : Flat). t.registers.entry) (sym to) in
          jumped m offset m.turns same (ap (λ (t : Flat). t.region) (sym to)) (ap (λ (t : Flat). t.globals) (sym to)) (ap (λ (t : Flat). t.turns) (sym to) ∙ sym turns)
          (subst (λ k. Begins (spots p.code) k offset) (sym entry) (leads.lead s.registers.entry offset e fetched (inl (ap forward_target is))))
          (step_jumps (Jump offset) is m
          ∙ ap (λ o. Goes (Runs (record a { offset = offset; operands = o } ∷ S) (began m))) (operands_are s a S shows ∙ operands_go _ to refl))
      jumps_follow m same turns (JumpIf offset) j is h =
          let to = went _ u h in
          let b = nat_eq (operand 1 s) 0 in
          let some = takes_one (JumpIf offset) is in
          let deep = standing.deep e fetched in
          let ends = operands_end code p valid depths of (length s.region) (length s.globals) at_floor s.registers standing in
          let entry : u.registers.entry ≡ (if nat_eq (operand 1 s) 0 then s.registers.entry + 1 else target) = ap (λ (t : Flat). t.registers.entry) (sym to) in
          jumped m (if nat_eq (operand 1 s) 0 then a.offset + bytes_of (JumpIf offset) else offset) m.turns same (ap (λ (t : Flat). t.region) (sym to)) (ap (λ (t : Flat). t.globals) (sym to)) (ap (λ (t : Flat). t.turns) (sym to) ∙ sym turns)
          (subst (λ k. Begins (spots p.code) k (if nat_eq (operand 1 s) 0 then a.offset + bytes_of (JumpIf offset) else offset)) (sym entry) (begins_if (nat_eq (operand 1 s) 0) (JumpIf offset) offset is refl refl))
          (step_jumps (JumpIf offset) is m
          ∙ jump_if_shown image offset a S (began m) s.region at_floor s.registers.sp (operands_are s a S shows) (omega (arith, some, deep)) ends.full
          ∙ step_if (nat_eq (operand 1 s) 0) (JumpIf offset) offset (operands_to s.region at_floor (place 1 s)) (began m)
          ∙ ap (λ o. Goes (Runs (record a { offset = if nat_eq (operand 1 s) 0 then a.offset + bytes_of (JumpIf offset) else offset; operands = o } ∷ S) (began m))) (operands_go _ to refl))
      jumps_follow m same turns (JumpIfNot offset) j is h =
          let to = went _ u h in
          let some = takes_one (JumpIfNot offset) is in
          let deep = standing.deep e fetched in
          let ends = operands_end code p valid depths of (length s.region) (length s.globals) at_floor s.registers standing in
          let entry : u.registers.entry ≡ (if nat_eq (operand 1 s) 0 then target else s.registers.entry + 1) = ap (λ (t : Flat). t.registers.entry) (sym to) in
          jumped m (if nat_eq (operand 1 s) 0 then offset else a.offset + bytes_of (JumpIfNot offset)) m.turns same (ap (λ (t : Flat). t.region) (sym to)) (ap (λ (t : Flat). t.globals) (sym to)) (ap (λ (t : Flat). t.turns) (sym to) ∙ sym turns)
          (subst (λ k. Begins (spots p.code) k (if nat_eq (operand 1 s) 0 then offset else a.offset + bytes_of (JumpIfNot offset))) (sym entry) (begins_unless (nat_eq (operand 1 s) 0) (JumpIfNot offset) offset is refl refl))
          (step_jumps (JumpIfNot offset) is m
          ∙ jump_if_not_shown image offset a S (began m) s.region at_floor s.registers.sp (operands_are s a S shows) (omega (arith, some, deep)) ends.full
          ∙ step_unless (nat_eq (operand 1 s) 0) (JumpIfNot offset) offset (operands_to s.region at_floor (place 1 s)) (began m)
          ∙ ap (λ o. Goes (Runs (record a { offset = if nat_eq (operand 1 s) 0 then offset else a.offset + bytes_of (JumpIfNot offset); operands = o } ∷ S) (began m))) (operands_go _ to refl))
      jumps_follow m same turns (JumpBack offset) j is h =
          let w = went_past _ _ _ u h in
          let to = went _ u w.1 in
          let entry : u.registers.entry ≡ target = ap (λ (t : Flat). t.registers.entry) (sym to) in
          jumped m offset (m.turns - 1) same (ap (λ (t : Flat). t.region) (sym to)) (ap (λ (t : Flat). t.globals) (sym to)) (ap (λ (t : Flat). t.turns) (sym to) ∙ ap (λ n. n - 1) (sym turns))
          (subst (λ k. Begins (spots p.code) k offset) (sym entry) (leads.lead s.registers.entry offset e fetched (inr (ap backward_target is))))
          (step_jumps (JumpBack offset) is m
          ∙ spent_by m.turns (began m) (λ m1. Goes (Runs (record a { offset = offset; operands = a.operands } ∷ S) m1)) (ap (λ n. nat_eq n 0) turns ∙ w.0)
          ∙ ap (λ o. Goes (Runs (record a { offset = offset; operands = o } ∷ S) (record m { begun = suc m.begun; turns = m.turns - 1 }))) (operands_are s a S shows ∙ operands_go _ to refl))
      jumps_follow m same turns _ j is h = absurd (false≢true j)

      follow_by : (b : Bool) → jumps_within e.instruction ≡ b → (m : Store) → m.globals a.instance ≡ s.globals → m.turns ≡ s.turns → Followed image layout table p a S m u
      follow_by true j m same turns = jumps_follow m same turns e.instruction j refl goes_to
      follow_by false j m same turns = works_follow m same turns j

      pub follows : (m : Store) → m.globals a.instance ≡ s.globals → m.turns ≡ s.turns → Followed image layout table p a S m u
      follows = follow_by (jumps_within e.instruction) refl
