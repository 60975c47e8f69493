-- Where a jump that has arrived leads.
use Rattle.std.proofs.Common.{◌≡◌, ℕ, zero, suc, ◌+◌, ◌-◌, ◌*◌, ◌<◌, ◌≤◌, List, [], ◌∷◌, length, Option, Some, None, refl, sym, ap, subst, ◌∙◌, arith}
use Rattle.std.specs.Prelude.{slice_get}
use Rattle.std.proofs.lemmas.Option.{same_Some, slice_get_within}
use Rattle.code_forms.specs.declared.module_code.CodeProcedure.{CodeProcedure}
use Rattle.code_forms.specs.Instructions.{bytes_of}
use Rattle.code_forms.specs.Routine.{Begins, spots}
use Rattle.object_files.specs.declared.image.Image.{Image}
use Rattle.code_forms.specs.declared.instruction.Instruction.{Instruction}
use Rattle.machine_rules.specs.State.{Role, Frame, InArm, Active, Activations, Store, Runs, Stuck, Stepped, Goes, Stops}
use Rattle.machine_rules.specs.Words.{words_at, push, under}
use Rattle.machine_rules.specs.LookUps.{procedure_of, procedure_under, instruction_under}
use Rattle.machine_rules.specs.Activations.{own_frame}
use Rattle.machine_rules.specs.Moves.{with, onward, give, go_to}
use Rattle.machine_rules.specs.Calls.{pending, returned, return_of, return_from}
use Rattle.machine_rules.specs.Leaving.{arrived}
use Rattle.machine_rules.specs.Steps.{Ends, stops}
use Rattle.machine_topmost.specs.Flat.{part, with_part}
use Rattle.machine_topmost.proofs.Copied.{length-part}
use Rattle.machine_topmost.proofs.Parts.{part_inside, words_are_part}
use Rattle.machine_activations.specs.declared.row.Layout.{Layout}
use Rattle.machine_activations.specs.declared.row.Row.{Row}
use Rattle.machine_activations.specs.Placed.{slots_from, HasVariables}
use Rattle.machine_activations.specs.Below.{Called, Left, over, over_by, GoesOn, IsAtLink, Waits, Waiting, Owned, Below}
use Rattle.machine_activations.specs.Calling.{CallsThen}
use Rattle.machine_activations.specs.Frames.{row_at, owner_place, end_at, back_registers}
use Rattle.machine_activations.specs.Reaching.{Reaches, IsUnstuck, Shown}
use Rattle.machine_activations.specs.Shows.{IsPrepared, IsAmple, Shows}
use Rattle.machine_activations.proofs.Called.{words_fit}
use Rattle.machine_activations.proofs.GivingBack.{HasRoom, returned_none}
use Rattle.machine_activations.proofs.Located.{in_code, same_number}
use Rattle.machine_activations.proofs.Tables.{row_there}
use Rattle.machine_signals.specs.Leaving.{Arrives, emptied}
use Rattle.machine_signals.specs.Raising.{FindsNone}
use Rattle.machine_signals.proofs.Given.{given_room, given_shows, there_room, there_again, stands_there, here}
use Rattle.machine_signals.specs.Indexed.{IsAsked}
use Rattle.machine_signals.proofs.Leaves.{Top, top_told}
use Rattle.machine_signals.proofs.Places.{place_at, at_asked}
use Rattle.std.proofs.Math.Nat.{mul-le-mul_right}
use Rattle.machine_activations.proofs.Reach.{reaches_so, ends_alike}

-- what is over an activation that a frame was called by
waits_called : (image : Image) (j n : ℕ) (p q : CodeProcedure) (entry count : ℕ) → 0 < n → procedure_of image j n ≡ Some p → Waits image (Called j n) q entry count → GoesOn q entry (count + p.results)
unfolding Waits
waits_called image j zero p q entry count some is w = absurd (omega (arith, some))
waits_called image j (suc n) p q entry count some is w = let same : w.0 ≡ p = same_Some w.0 p (sym w.1 ∙ is) in subst (λ (c : CodeProcedure). GoesOn q entry (count + c.results)) same w.2

waits_started : (image : Image) (j n : ℕ) (q : CodeProcedure) (entry count : ℕ) → n ≡ 0 → Waits image (Called j n) q entry count → IsAtLink q entry count
unfolding Waits
waits_started image j zero q entry count none w = w
waits_started image j (suc n) q entry count none w = absurd (omega (arith, none))

returned_some : (image : Image) (n : ℕ) (results : List ℕ) (b : Active) (T : Activations) (m : Store) (i : Instruction) → 0 < n → instruction_under image b ≡ Some i
    → returned image n results (b ∷ T) m ≡ Goes (Runs (record b { offset = b.offset + bytes_of i; operands = push results b.operands } ∷ T) m)
unfolding returned give with onward
returned_some image zero results b T m i some is = absurd (omega (arith, some))
returned_some image (suc n) results b T m i some is = ap (λ o. with o m (λ (i : Instruction). onward i (push results (under 0 b.operands)) b T m)) is

returned_body : (image : Image) (n : ℕ) (results : List ℕ) (b : Active) (T : Activations) (m : Store) → n ≡ 0
    → returned image n results (b ∷ T) m ≡ with (instruction_under image b) m (λ i. pending image i b T m)
unfolding returned
returned_body image zero results b T m none = refl
returned_body image (suc n) results b T m none = absurd (omega (arith, none))

over_frame : (role : Role (List ℕ)) (variables : List ℕ) (j n : ℕ) → role ≡ Frame variables → over_by j n role ≡ Called j n
unfolding over_by
over_frame role variables j n is = ap (λ role. over_by j n role) is

module _ (image : Image) (layout : Layout) (prepared : IsPrepared image layout) (region : List ℕ) (table : List Row) (place : ℕ) (ample : IsAmple layout region table place) where
  module _ (goal : Option ℕ) (s : Stepped) (m : Store) (w : Arrives image layout region table place goal s m) where
    -- its row tells its procedure and an entry of it
    pub arrive_asked : IsAsked image table place
    arrive_asked =
        let h = w.high in
        at_asked image layout region table (w.top ∷ w.rest) place (place_at image layout region table Left (w.top ∷ w.rest) place w.below (omega (arith, h)))

    pub place_within : place < length table
    place_within =
        let h = w.high in
        let t = place_at image layout region table Left (w.top ∷ w.rest) place w.below (omega (arith, h)) in
        slice_get_within table place t.waiting.rowed.row t.waiting.rowed.there

    pub owner_fits : owner_place (row_at table place).kind place * layout.part ≤ length region
    owner_fits =
        let k : owner_place (row_at table place).kind place * layout.part ≤ place * layout.part = mul-le-mul_right layout.part arrive_asked.low in
        let wide = ample.wide in omega (arith, k, wide)

    pub room_there : place * layout.part + layout.frame ≤ length region
    room_there =
        let l = prepared.laid (row_at table place).instance (row_at table place).procedure arrive_asked.read.procedure arrive_asked.read.is in
        let wide = ample.wide in omega (arith, l.1, wide)

  -- At an offset.

  module _ (offset : ℕ) (s : Stepped) (m : Store) (w : Arrives image layout region table place (Some offset) s m) where
    abbrev t : Top image layout region table place w.top w.rest
    t = top_told image layout region table place w.top w.rest w.below w.high

    row_code : procedure_of image (row_at table place).instance (row_at table place).procedure ≡ Some t.waiting.procedure
    row_code = ap (λ j. procedure_of image j (row_at table place).procedure) t.instance ∙ ap (λ n. procedure_of image w.top.instance n) t.procedure ∙ t.waiting.is

    goes_so : arrived image (Some offset) w.top w.rest m ≡ Goes (Runs (record w.top { offset = offset; operands = [] } ∷ w.rest) m)
    unfolding arrived go_to
    goes_so = refl

    pub go_shown : (p : CodeProcedure) → procedure_of image (row_at table place).instance (row_at table place).procedure ≡ Some p → FindsNone p offset
        → (entry : ℕ) → Begins (spots p.code) entry offset
        → Shown image layout region table (emptied (row_at table place) place layout entry) s m
    unfolding Below own_frame
    go_shown p is finds entry begins =
        let same : t.waiting.procedure ≡ p = same_Some t.waiting.procedure p (sym row_code ∙ is) in
        let own_code = t.waiting.is ∙ ap Some same in
        let c = in_code image layout prepared w.top.instance w.top.procedure p own_code in
        let number : finds.number ≡ entry = same_number c.code w.top.procedure p c.there finds.number entry offset finds.begins begins in
        let high = w.high in
        let up : length w.rest * layout.part ≡ place * layout.part = ap (λ q. q * layout.part) high in
        record {
          top = record w.top { offset = offset; operands = [] };
          rest = w.rest;
          procedure = p;
          shows = record {
            is = own_code;
            top = sym high;
            slots = ap (λ q. q * layout.part) t.own;
            sp = omega (arith, up);
            begins = begins;
            deep = λ e at. sym (finds.deep e (ap (λ k. slice_get p.code k) number ∙ at));
            placed = record { variables = subst (λ (q : CodeProcedure). HasVariables region (slots_from layout (length w.rest)) q.frame w.top.role) same t.waiting.placed.variables; operands = refl };
            rowed = record {
              row = t.waiting.rowed.row;
              there = t.waiting.rowed.there;
              same_instance = t.waiting.rowed.same_instance;
              same_procedure = t.waiting.rowed.same_procedure;
              same_kind = t.waiting.rowed.same_kind;
            };
            owned = w.below.1;
            below = t.lower;
          };
          reaches = reaches_so image _ _ _ w.reaches goes_so;
        }

  -- To return.

  module _ (s : Stepped) (m : Store) (unstuck : IsUnstuck image s) (w : Arrives image layout region table place None s m) where
    abbrev pub a : Active
    a = w.top

    abbrev S : Activations
    S = w.rest

    abbrev pub told : Top image layout region table place a S
    told = top_told image layout region table place a S w.below w.high

    abbrev pub p : CodeProcedure
    p = told.waiting.procedure

    performs : arrived image None a S m ≡ return_of image p a a.role S m
    unfolding arrived return_from with procedure_under
    performs = ap (λ o. with o m (λ (q : CodeProcedure). return_of image q a a.role S m)) told.waiting.is

    frame_by : (role : Role (List ℕ)) → a.role ≡ role → (variables : List ℕ) × (a.role ≡ Frame variables)
    unfolding return_of
    frame_by (Frame variables) is = (variables, is)
    frame_by (InArm own n why) is =
        let stuck : arrived image None a S m ≡ Stops Stuck m = performs ∙ ap (λ role. return_of image p a role S m) is in
        absurd (unstuck Stuck m (ends_alike image _ _ w.reaches Stuck m (subst (λ x. Ends image x Stuck m) (sym stuck) (stops Stuck m))) refl)

    frame : (variables : List ℕ) × (a.role ≡ Frame variables)
    frame = frame_by a.role refl

    abbrev pub results : List ℕ
    results = part region (place * layout.part + p.args) p.results

    words : p.args + p.results ≤ p.frame
    words = let c = in_code image layout prepared a.instance a.procedure p told.waiting.is in words_fit c.code a.procedure p c.there

    pub return_source : place * layout.part + p.args + p.results ≤ length region
    return_source = let f = words in let wide = ample.wide in let l = prepared.laid a.instance a.procedure p told.waiting.is in omega (arith, f, wide, l.0, l.1)

    results_many : length results ≡ p.results
    results_many = length-part region (place * layout.part + p.args) p.results return_source

    variables_here : part region (place * layout.part) p.frame ≡ frame.0
    unfolding HasVariables
    variables_here =
        ap (λ q. part region (q * layout.part) p.frame) (sym w.high)
        ∙ subst (λ role. HasVariables region (slots_from layout (length S)) p.frame role) frame.1 told.waiting.placed.variables

    results_are : words_at frame.0 p.args p.results ≡ results
    results_are =
        let f = words in let wide = ample.wide in let l = prepared.laid a.instance a.procedure p told.waiting.is in
        let size = length-part region (place * layout.part) p.frame (omega (arith, wide, l.0, l.1)) in
        ap (λ v. words_at v p.args p.results) (sym variables_here)
        ∙ words_are_part (part region (place * layout.part) p.frame) p.args p.results (omega (arith, size, f))
        ∙ part_inside region (place * layout.part) p.frame p.args p.results f

    returns_so : arrived image None a S m ≡ returned image a.procedure results S m
    unfolding return_of
    returns_so = performs ∙ ap (λ role. return_of image p a role S m) frame.1 ∙ ap (λ r. returned image a.procedure r S m) results_are

    -- under the lowest frame there is none
    pub return_empty : place ≡ 0 → Reaches image s (Goes (Runs [] m))
    return_empty none = reaches_so image _ _ _ w.reaches (empty_by S (w.high ∙ none) returns_so)
      where
        empty_by : (S : Activations) → length S ≡ 0 → arrived image None a w.rest m ≡ returned image a.procedure results S m → arrived image None a w.rest m ≡ Goes (Runs [] m)
        empty_by [] long e = e ∙ returned_none image a.procedure results m
        empty_by (b ∷ T) long e = absurd (omega (arith, long))

    -- where there is one
    pub record Under : Type 0 where
      pub b : Active
      pub T : Activations
      pub is : S ≡ b ∷ T
      pub place_is : length T ≡ place - 1
      pub waiting : Waiting image layout region table (Called a.instance a.procedure) (length T) b
      pub owned : Owned b T
      pub lower : Below image layout region table (over b) T
      pub within : length T * layout.part + layout.part ≤ length region

    under_by : (S' : Activations) → S ≡ S' → 0 < length S' → Below image layout region table (over a) S' → Under
    unfolding Below
    under_by [] is some below = absurd (omega (arith, some))
    under_by (b ∷ T) is some below =
        let high = ap length (sym is) ∙ w.high in
        let wide = ample.wide in
        let up : (place + 1) * layout.part ≡ length T * layout.part + layout.part + layout.part = ap (λ q. (q + 1) * layout.part) (sym high) ∙ omega arith in
        record {
          b = b;
          T = T;
          is = is;
          place_is = omega (arith, high);
          waiting = subst (λ x. Waiting image layout region table x (length T) b) (over_frame a.role frame.0 a.instance a.procedure frame.1) below.0;
          owned = below.1;
          lower = below.2;
          within = omega (arith, up, wide);
        }

    pub under_there : 0 < place → Under
    under_there some = under_by S refl (let h = w.high in omega (arith, h, some)) told.lower

    module _ (some : 0 < place) where
      abbrev u : Under
      u = under_there some

      abbrev b : Active
      b = u.b

      abbrev T : Activations
      T = u.T

      abbrev row : Row
      row = row_at table (length T)

      kept_row : row ≡ u.waiting.kept.row
      kept_row = row_there table (length T) u.waiting.kept.row u.waiting.kept.there

      waits : Waits image (Called a.instance a.procedure) u.waiting.procedure row.entry row.count
      waits = subst (λ (k : Row). Waits image (Called a.instance a.procedure) u.waiting.procedure k.entry k.count) (sym kept_row) u.waiting.kept.waits

      returns_under : arrived image None a S m ≡ returned image a.procedure results (b ∷ T) m
      returns_under = returns_so ∙ ap (λ l. returned image a.procedure results l m) u.is

      module _ (called : 0 < a.procedure) where
        next : GoesOn u.waiting.procedure row.entry (row.count + length results)
        next = subst (λ k. GoesOn u.waiting.procedure row.entry (row.count + k)) (sym results_many) (waits_called image a.instance a.procedure p u.waiting.procedure row.entry row.count called told.waiting.is waits)

        pub return_room : HasRoom layout region (row_at table (place - 1)) (place - 1) p.results
        return_room =
            subst (λ q. HasRoom layout region (row_at table q) q p.results) u.place_is
            (subst (λ k. HasRoom layout region row (length T) k) results_many
            (given_room image layout prepared region table (Called a.instance a.procedure) b T u.waiting u.owned u.lower u.within results next))

        pub return_shown : Shown image layout (with_part region (end_at (row_at table (place - 1)) (place - 1) layout) results) table
            (back_registers (row_at table (place - 1)) (place - 1) layout p.results ((row_at table (place - 1)).entry + 1)) s m
        return_shown =
            let i = here image layout prepared region table (Called a.instance a.procedure) b T u.waiting u.owned u.lower u.within in
            let stands = stands_there image layout prepared region table (Called a.instance a.procedure) b T u.waiting u.owned u.lower u.within in
            let shows = given_shows image layout prepared region table (Called a.instance a.procedure) b T u.waiting u.owned u.lower u.within results next in
            let top : Active = record b { offset = b.offset + bytes_of i.instruction; operands = push results b.operands } in
            record {
              top = top;
              rest = T;
              procedure = u.waiting.procedure;
              shows =
                  subst (λ q. Shows image layout (with_part region (end_at (row_at table q) q layout) results) table (back_registers (row_at table q) q layout p.results ((row_at table q).entry + 1)) u.waiting.procedure top T) u.place_is
                  (subst (λ k. Shows image layout (with_part region (end_at row (length T) layout) results) table (back_registers row (length T) layout k (row.entry + 1)) u.waiting.procedure top T) results_many shows);
              reaches = reaches_so image _ _ _ w.reaches (returns_under ∙ returned_some image a.procedure results b T m i.instruction called stands);
            }

      module _ (body : a.procedure ≡ 0) where
        pub pending_room : HasRoom layout region (row_at table (place - 1)) (place - 1) 0
        pending_room =
            subst (λ q. HasRoom layout region (row_at table q) q 0) u.place_is
            (there_room image layout prepared region table (Called a.instance a.procedure) b T u.waiting u.owned u.lower u.within)

        pub return_pending : CallsThen image layout (with_part region (end_at (row_at table (place - 1)) (place - 1) layout) []) table
            (back_registers (row_at table (place - 1)) (place - 1) layout 0 (row_at table (place - 1)).entry) s m
        return_pending =
            let shows = there_again image layout prepared region table (Called a.instance a.procedure) b T u.waiting u.owned u.lower u.within
            (waits_started image a.instance a.procedure u.waiting.procedure row.entry row.count body waits) in
            record {
              top = b;
              rest = T;
              procedure = u.waiting.procedure;
              shows = subst (λ q. Shows image layout (with_part region (end_at (row_at table q) q layout) []) table (back_registers (row_at table q) q layout 0 (row_at table q).entry) u.waiting.procedure b T) u.place_is shows;
              reaches = reaches_so image _ _ _ w.reaches (returns_under ∙ returned_body image a.procedure results b T m body);
            }
