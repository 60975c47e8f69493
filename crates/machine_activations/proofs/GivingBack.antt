-- A return over the region is a return of the machine.
use Rattle.std.proofs.Common.{◌≡◌, ℕ, zero, suc, ◌+◌, ◌-◌, ◌*◌, ◌<◌, ◌≤◌, List, [], ◌∷◌, length, get_or, Some, refl, sym, ap, subst, ◌∙◌, arith}
use Rattle.std.specs.Prelude.{slice_get}
use Rattle.std.proofs.lemmas.Option.{same_Some, slice_get-get_or}
use Rattle.std.proofs.Math.Nat.{mul-le-mul_right}
use Rattle.code_forms.specs.declared.instruction.Instruction.{Instruction}
use Rattle.code_forms.specs.declared.instruction.Instruction.TheVariants.{Return}
use Rattle.code_forms.specs.declared.module_code.CodeEntry.{CodeEntry}
use Rattle.code_forms.specs.declared.module_code.CodeProcedure.{CodeProcedure}
use Rattle.code_forms.specs.Instructions.{bytes_of}
use Rattle.code_forms.specs.Routine.{Begins, spots}
use Rattle.code_forms.proofs.Ordered.{blank, spot_within}
use Rattle.object_files.specs.declared.image.Image.{Image}
use Rattle.machine_rules.specs.State.{Role, Frame, InArm, Active, Activations, Store, Runs, Stuck, Stepped, Goes, Stops}
use Rattle.machine_rules.specs.Words.{words_at, push, under}
use Rattle.machine_rules.specs.LookUps.{procedure_of, procedure_under, instruction_under}
use Rattle.machine_rules.specs.Activations.{owner, own_frame}
use Rattle.machine_rules.specs.Moves.{with, onward, give}
use Rattle.machine_rules.specs.Calls.{pending, returned, return_of, return_from}
use Rattle.machine_rules.specs.Steps.{perform, worked, works_in, step, Ends, stops, goes}
use Rattle.machine_rules.specs.Working.{works}
use Rattle.machine_topmost.specs.declared.registers.Registers.{Registers}
use Rattle.machine_topmost.specs.Flat.{part, with_part}
use Rattle.machine_topmost.proofs.Copied.{length-part}
use Rattle.machine_topmost.proofs.Parts.{part_inside, words_are_part}
use Rattle.machine_activations.specs.declared.row.Layout.{Layout}
use Rattle.machine_activations.specs.declared.row.Row.{Row}
use Rattle.machine_activations.specs.Placed.{slots_from, HasVariables}
use Rattle.machine_activations.specs.Below.{Called, over, over_by, GoesOn, IsAtLink, Waits, Waiting, OwnedBy, Owned, Below}
use Rattle.machine_activations.specs.Frames.{row_at, end_at, owner_place, back_registers}
use Rattle.machine_activations.specs.Shows.{IsPrepared, IsAmple, Shows}
use Rattle.machine_activations.specs.Reaching.{Reaches, IsUnstuck}
use Rattle.machine_activations.proofs.Located.{in_code, number_small, stands_at}
use Rattle.machine_activations.proofs.Following.{began}
use Rattle.machine_activations.proofs.Called.{words_fit, below_here, step_here}
use Rattle.machine_activations.proofs.Homes.{frame_within}
use Rattle.machine_activations.proofs.Returning.{row_is, row_count, row_owner, row_begins, goes_on_shows, begins_next}
use Rattle.machine_activations.proofs.Standing.{part_within, top_part}
use Rattle.machine_activations.proofs.Reach.{ends_alike}

module _ (image : Image) (layout : Layout) (prepared : IsPrepared image layout) (region : List ℕ) (table : List Row) (r : Registers) (p : CodeProcedure) (a : Active) (S : Activations)
    (shows : Shows image layout region table r p a S) (m : Store) (e : CodeEntry) (fetched : slice_get p.code r.entry ≡ Some e) (returns : e.instruction ≡ Return) where
  performs : step image (Runs (a ∷ S) m) ≡ return_of image p a a.role S (began m)
  unfolding worked works_in works perform return_from with procedure_under
  performs =
      step_here image layout prepared region table r p a S shows m e fetched
      ∙ ap (λ i. worked image i (works_in image i a S m) a S (began m)) returns
      ∙ ap (λ o. with o (began m) (λ (q : CodeProcedure). return_of image q a a.role S (began m))) shows.is

  -- it is a frame that returns
  frame_by : (s : Stepped) → IsUnstuck image s → Reaches image s (Goes (Runs (a ∷ S) m)) → (role : Role (List ℕ)) → a.role ≡ role → (variables : List ℕ) × (a.role ≡ Frame variables)
  unfolding return_of
  frame_by s unstuck reaches (Frame variables) is = (variables, is)
  frame_by s unstuck reaches (InArm own arm why) is =
      let stuck : step image (Runs (a ∷ S) m) ≡ Stops Stuck (began m) = performs ∙ ap (λ role. return_of image p a role S (began m)) is in
      let ends : Ends image (Goes (Runs (a ∷ S) m)) Stuck (began m) = goes (Runs (a ∷ S) m) Stuck (began m) (subst (λ x. Ends image x Stuck (began m)) (sym stuck) (stops Stuck (began m))) in
      absurd (unstuck Stuck (began m) (ends_alike image _ _ reaches Stuck (began m) ends) refl)

  pub is_frame : (s : Stepped) → IsUnstuck image s → Reaches image s (Goes (Runs (a ∷ S) m)) → (variables : List ℕ) × (a.role ≡ Frame variables)
  is_frame s unstuck reaches = frame_by s unstuck reaches a.role refl

  module _ (variables : List ℕ) (is_frame_here : a.role ≡ Frame variables) where
    slots_here : r.slots ≡ length S * layout.part
    unfolding own_frame owner
    slots_here = shows.slots ∙ ap (λ role. slots_from layout (owner role (length S))) is_frame_here

    variables_here : part region (slots_from layout (length S)) p.frame ≡ variables
    unfolding HasVariables
    variables_here = subst (λ role. HasVariables region (slots_from layout (length S)) p.frame role) is_frame_here shows.placed.variables

    words : p.args + p.results ≤ p.frame
    words = let c = in_code image layout prepared a.instance a.procedure p shows.is in words_fit c.code a.procedure p c.there

    module _ (ample : IsAmple layout region table r.top) where
      frame_within_region : length S * layout.part + layout.part ≤ length region
      frame_within_region = let w = part_within image layout prepared region table r p a S shows ample in let t = top_part image layout prepared region table r p a S shows ample in omega (arith, w, t)

      pub source_fits : r.slots + p.args + p.results ≤ length region
      source_fits =
          let s = slots_here in let w = words in let f = frame_within_region in
          let l = prepared.laid a.instance a.procedure p shows.is in omega (arith, s, w, f, l.0, l.1)

      abbrev pub results_of : List ℕ
      results_of = part region (r.slots + p.args) p.results

      pub results_many : length results_of ≡ p.results
      results_many = length-part region (r.slots + p.args) p.results source_fits

      -- they are the results of the machine
      results_are : words_at variables p.args p.results ≡ results_of
      results_are =
          let s = slots_here in let w = words in let f = frame_within_region in
          let l = prepared.laid a.instance a.procedure p shows.is in
          let size = length-part region (slots_from layout (length S)) p.frame (omega (arith, f, l.0, l.1)) in
          ap (λ v. words_at v p.args p.results) (sym variables_here)
          ∙ words_are_part (part region (slots_from layout (length S)) p.frame) p.args p.results (omega (arith, size, w))
          ∙ part_inside region (slots_from layout (length S)) p.frame p.args p.results w
          ∙ ap (λ k. part region (k + p.args) p.results) (sym s)

      pub return_step : step image (Runs (a ∷ S) m) ≡ returned image a.procedure results_of S (began m)
      unfolding return_of
      return_step = performs ∙ ap (λ role. return_of image p a role S (began m)) is_frame_here ∙ ap (λ w. returned image a.procedure w S (began m)) results_are

-- under the lowest frame there is none
pub returned_none : (image : Image) (number : ℕ) (results : List ℕ) (m : Store) → returned image number results [] m ≡ Goes (Runs [] m)
unfolding returned
returned_none image zero results m = refl
returned_none image (suc number) results m = refl

-- what is over an activation that a frame was called by
waits_called : (image : Image) (j n : ℕ) (p q : CodeProcedure) (entry count : ℕ) → 0 < n → procedure_of image j n ≡ Some p → Waits image (Called j n) q entry count → GoesOn q entry (count + p.results)
unfolding Waits
waits_called image j zero p q entry count some is w = absurd (omega (arith, some))
waits_called image j (suc n) p q entry count some is w = let same : w.0 ≡ p = same_Some w.0 p (sym w.1 ∙ is) in subst (λ (c : CodeProcedure). GoesOn q entry (count + c.results)) same w.2

waits_started : (image : Image) (j n : ℕ) (q : CodeProcedure) (entry count : ℕ) → n ≡ 0 → Waits image (Called j n) q entry count → IsAtLink q entry count
unfolding Waits
waits_started image j zero q entry count none w = w
waits_started image j (suc n) q entry count none w = absurd (omega (arith, none))

returned_some : (image : Image) (n : ℕ) (results : List ℕ) (b : Active) (T : Activations) (m : Store) (i : Instruction) → 0 < n → instruction_under image b ≡ Some i
    → returned image n results (b ∷ T) m ≡ Goes (Runs (record b { offset = b.offset + bytes_of i; operands = push results b.operands } ∷ T) m)
unfolding returned give with onward
returned_some image zero results b T m i some is = absurd (omega (arith, some))
returned_some image (suc n) results b T m i some is = ap (λ o. with o m (λ (i : Instruction). onward i (push results (under 0 b.operands)) b T m)) is

returned_body : (image : Image) (n : ℕ) (results : List ℕ) (b : Active) (T : Activations) (m : Store) → n ≡ 0
    → returned image n results (b ∷ T) m ≡ with (instruction_under image b) m (λ i. pending image i b T m)
unfolding returned
returned_body image zero results b T m none = refl
returned_body image (suc n) results b T m none = absurd (omega (arith, none))

over_frame : (role : Role (List ℕ)) (variables : List ℕ) (j n : ℕ) → role ≡ Frame variables → over_by j n role ≡ Called j n
unfolding over_by
over_frame role variables j n is = ap (λ role. over_by j n role) is

-- where it comes to
pub record GivenBack (image : Image) (layout : Layout) (region' : List ℕ) (table : List Row) (r' : Registers) (a : Active) (S : Activations) (m : Store) : Type 0 where
  pub top : Active
  pub rest : Activations
  pub procedure : CodeProcedure
  pub shows : Shows image layout region' table r' procedure top rest
  pub is : step image (Runs (a ∷ S) m) ≡ Goes (Runs (top ∷ rest) (began m))

pub record GivenUp (image : Image) (layout : Layout) (region' : List ℕ) (table : List Row) (r' : Registers) (a : Active) (S : Activations) (m : Store) : Type 0 where
  pub top : Active
  pub rest : Activations
  pub procedure : CodeProcedure
  pub shows : Shows image layout region' table r' procedure top rest
  pub is : step image (Runs (a ∷ S) m) ≡ with (instruction_under image top) (began m) (λ i. pending image i top rest (began m))

owner_low : (role : Role (List ℕ)) (j n : ℕ) (T : Activations) → OwnedBy role j n T → owner role (length T) ≤ length T
unfolding OwnedBy owner
owner_low (Frame variables) j n T owned = omega arith
owner_low (InArm own arm why) j n T owned = let l = frame_within T own _ owned in omega (arith, l)

-- the row below
abbrev pub back_row : List Row → Registers → Row
back_row table r = row_at table (r.top - 1)

-- what giving it back asks of the region
pub record HasRoom (layout : Layout) (region : List ℕ) (row : Row) (place count : ℕ) : Type 0 where
  pub room : place * layout.part + layout.frame + row.count + count ≤ length region
  pub entry : row.entry < 4294967296
  pub owner_fits : owner_place row.kind place * layout.part ≤ length region

module _ (image : Image) (layout : Layout) (prepared : IsPrepared image layout) (region : List ℕ) (table : List Row) (r : Registers) (p : CodeProcedure) (a : Active)
    (ample : IsAmple layout region table r.top) (variables : List ℕ) (is_frame_here : a.role ≡ Frame variables) (b : Active) (T : Activations)
    (shows : Shows image layout region table r p a (b ∷ T)) (w : Waiting image layout region table (over a) (length T) b) (owned : Owned b T) (lower : Below image layout region table (over b) T) where
  abbrev row : Row
  row = row_at table (length T)

  place : length T ≡ r.top - 1
  place = let t = shows.top in omega (arith, t)

  counts : row.count ≡ length b.operands
  counts = row_count image layout prepared region table (over a) b T w owned lower

  begins : Begins (spots w.procedure.code) row.entry b.offset
  begins = row_begins image layout prepared region table (over a) b T w owned lower

  waits : Waits image (Called a.instance a.procedure) w.procedure row.entry row.count
  waits =
      let same = row_is image layout prepared region table (over a) b T w owned lower in
      subst (λ (k : Row). Waits image (Called a.instance a.procedure) w.procedure k.entry k.count) (sym same)
      (subst (λ o. Waits image o w.procedure w.kept.row.entry w.kept.row.count) (over_frame a.role variables a.instance a.procedure is_frame_here) w.kept.waits)

  abbrev here : CodeEntry
  here = get_or w.procedure.code row.entry blank

  here_there : slice_get w.procedure.code row.entry ≡ Some here
  here_there = slice_get-get_or w.procedure.code row.entry blank (spot_within w.procedure.code row.entry begins.spot begins.is)

  stands_there : instruction_under image b ≡ Some here.instruction
  stands_there = stands_at image layout prepared b w.procedure w.is row.entry here here_there begins

  below_within : length T * layout.part + layout.part ≤ length region
  below_within = let f = part_within image layout prepared region table r p a (b ∷ T) shows ample in let t = top_part image layout prepared region table r p a (b ∷ T) shows ample in omega (arith, f, t)

  -- with so many words more it has room
  room_for : (count : ℕ) → length b.operands + count ≤ w.procedure.depth → HasRoom layout region row (length T) count
  room_for count fits =
      let laid = prepared.laid b.instance b.procedure w.procedure w.is in
      let c = in_code image layout prepared b.instance b.procedure w.procedure w.is in
      let n = counts in let f = below_within in
      record {
        room = omega (arith, laid.1, fits, n, f);
        entry = number_small c.code b.procedure w.procedure c.there row.entry b.offset begins;
        owner_fits =
            let o = row_owner image layout prepared region table (over a) b T w owned lower in
            let l = owner_low b.role b.instance b.procedure T owned in
            let k : owner b.role (length T) * layout.part ≤ length T * layout.part = mul-le-mul_right layout.part l in
            let same = ap (λ q. q * layout.part) o in omega (arith, same, k, f);
      }

  -- A procedure that was called.

  module _ (some : 0 < a.procedure) where
    next : GoesOn w.procedure row.entry (row.count + p.results)
    next = waits_called image a.instance a.procedure p w.procedure row.entry row.count some shows.is waits

    next_below : length b.operands + p.results ≤ w.procedure.depth
    next_below =
        let c = in_code image layout prepared b.instance b.procedure w.procedure w.is in
        let d = below_here image layout prepared c.code b.instance b.procedure w.procedure c.is w.is (row.entry + 1) next.next next.is in
        let deep = next.deep in let n = counts in omega (arith, d, deep, n)

    pub called_room : HasRoom layout region (back_row table r) (r.top - 1) p.results
    called_room = subst (λ q. HasRoom layout region (row_at table q) q p.results) place (room_for p.results next_below)

    module _ (m : Store) (e : CodeEntry) (fetched : slice_get p.code r.entry ≡ Some e) (returns : e.instruction ≡ Return) where
      abbrev results : List ℕ
      results = part region (r.slots + p.args) p.results

      many : length results ≡ p.results
      many = results_many image layout prepared region table r p a (b ∷ T) shows m e fetched returns variables is_frame_here ample

      shown_there : Shows image layout (with_part region (end_at row (length T) layout) results) table (back_registers row (length T) layout (length results) (row.entry + 1)) w.procedure
          (record b { offset = b.offset + bytes_of here.instruction; operands = push results b.operands }) T
      shown_there =
          let n = counts in let k = many in let deep = next.deep in let fits = next_below in
          goes_on_shows image layout prepared region table (over a) b T w owned lower results (row.entry + 1) (b.offset + bytes_of here.instruction)
          (begins_next image layout prepared region table (over a) b T w owned lower here (row.count + p.results) here_there next)
          (λ f at. let same : next.next ≡ f = same_Some next.next f (sym next.is ∙ at) in let d = ap (λ (x : CodeEntry). x.depth) same in omega (arith, d, deep, n, k))
          below_within (omega (arith, fits, k))

      pub given : GivenBack image layout (with_part region (end_at (back_row table r) (r.top - 1) layout) results) table (back_registers (back_row table r) (r.top - 1) layout p.results ((back_row table r).entry + 1)) a (b ∷ T) m
      given = record {
        top = record b { offset = b.offset + bytes_of here.instruction; operands = push results b.operands };
        rest = T;
        procedure = w.procedure;
        shows = subst (λ q. Shows image layout (with_part region (end_at (row_at table q) q layout) results) table (back_registers (row_at table q) q layout p.results ((row_at table q).entry + 1)) w.procedure
            (record b { offset = b.offset + bytes_of here.instruction; operands = push results b.operands }) T) place
            (subst (λ k. Shows image layout (with_part region (end_at row (length T) layout) results) table (back_registers row (length T) layout k (row.entry + 1)) w.procedure
            (record b { offset = b.offset + bytes_of here.instruction; operands = push results b.operands }) T) many shown_there);
        is = return_step image layout prepared region table r p a (b ∷ T) shows m e fetched returns variables is_frame_here ample
            ∙ returned_some image a.procedure results b T (began m) here.instruction some stands_there;
      }

  -- A body that was started for a call.

  module _ (none : a.procedure ≡ 0) where
    at_link : IsAtLink w.procedure row.entry row.count
    at_link = waits_started image a.instance a.procedure w.procedure row.entry row.count none waits

    pub started_room : HasRoom layout region (back_row table r) (r.top - 1) 0
    started_room = subst (λ q. HasRoom layout region (row_at table q) q 0) place (room_for 0 (let room = w.room in omega (arith, room)))

    module _ (m : Store) (e : CodeEntry) (fetched : slice_get p.code r.entry ≡ Some e) (returns : e.instruction ≡ Return) where
      there_again : Shows image layout (with_part region (end_at row (length T) layout) []) table (back_registers row (length T) layout 0 row.entry) w.procedure b T
      there_again =
          let n = counts in let deep = at_link.deep in let room = w.room in
          goes_on_shows image layout prepared region table (over a) b T w owned lower [] row.entry b.offset begins
          (λ f at. let same : at_link.here ≡ f = same_Some at_link.here f (sym at_link.is ∙ at) in let d = ap (λ (x : CodeEntry). x.depth) same in omega (arith, d, deep, n))
          below_within (omega (arith, room))

      pub given_up : GivenUp image layout (with_part region (end_at (back_row table r) (r.top - 1) layout) []) table (back_registers (back_row table r) (r.top - 1) layout 0 (back_row table r).entry) a (b ∷ T) m
      given_up = record {
        top = b;
        rest = T;
        procedure = w.procedure;
        shows = subst (λ q. Shows image layout (with_part region (end_at (row_at table q) q layout) []) table (back_registers (row_at table q) q layout 0 (row_at table q).entry) w.procedure b T) place there_again;
        is = return_step image layout prepared region table r p a (b ∷ T) shows m e fetched returns variables is_frame_here ample
            ∙ returned_body image a.procedure _ b T (began m) none;
      }
