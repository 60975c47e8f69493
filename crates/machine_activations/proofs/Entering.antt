-- A frame that is made is shown.
use Rattle.std.proofs.Common.{◌≡◌, ℕ, suc, ◌+◌, ◌-◌, ◌*◌, ◌<◌, ◌≤◌, List, [], ◌∷◌, ◌++◌, length, reverse, replicate, get_or, Some, refl, sym, ap, subst, ◌∙◌, arith}
use Rattle.std.specs.Prelude.{slice_get}
use Rattle.std.proofs.lemmas.List.{length-drop}
use Rattle.std.proofs.lemmas.Option.{slice_get-get_or, slice_get_within}
use Rattle.std.proofs.Math.ListN.{length-set, length-replicate}
use Rattle.code_forms.specs.declared.module_code.CodeEntry.{CodeEntry}
use Rattle.code_forms.specs.declared.module_code.CodeProcedure.{CodeProcedure}
use Rattle.code_forms.specs.Depths.{Settled, at_none, at_first}
use Rattle.code_forms.specs.Routine.{Routine, Begins, routine, spots}
use Rattle.code_forms.proofs.Leading.{begins_there}
use Rattle.code_forms.proofs.Ordered.{blank}
use Rattle.object_files.specs.declared.image.Image.{Image}
use Rattle.machine_rules.specs.State.{Frame, Active, Activations}
use Rattle.machine_rules.specs.Words.{zeros, popped, under}
use Rattle.machine_rules.specs.LookUps.{procedure_of}
use Rattle.machine_rules.specs.Activations.{owner, own_frame}
use Rattle.machine_topmost.specs.declared.registers.Registers.{Registers}
use Rattle.machine_topmost.specs.Flat.{part, with_part}
use Rattle.machine_topmost.proofs.Copied.{length-part, length-with_part}
use Rattle.machine_topmost.proofs.Parts.{part_before, part_there, part_with_end}
use Rattle.machine_topmost.proofs.Showing.{operands_to, under_shown, popped_shown}
use Rattle.machine_activations.specs.declared.row.Layout.{Layout}
use Rattle.machine_activations.specs.declared.row.Row.{Row}
use Rattle.machine_activations.specs.Placed.{slots_from, floor_at, HasVariables}
use Rattle.machine_activations.specs.Rows.{IsKind}
use Rattle.machine_activations.specs.Below.{Called, over, over_by, args_over, Waits, Waiting, OwnedBy, Below}
use Rattle.machine_activations.specs.Frames.{entered, frame_row, row_at, waiting, with_frame, frame_registers}
use Rattle.machine_activations.specs.Shows.{IsPrepared, Shows}
use Rattle.machine_activations.proofs.Located.{InCode, in_code, ordered}
use Rattle.machine_activations.proofs.Keeping.{SameTo, below_same, variables_same}
use Rattle.machine_activations.proofs.Tables.{get_set_same, get_set_other, row_there, below_rows}

-- the frame of a called procedure, and the activation that called it
abbrev pub made : (j n : ℕ) → CodeProcedure → Active → Active
made j n called a = record {
  instance = j;
  procedure = n;
  offset = 0;
  operands = [];
  role = Frame (popped called.args a.operands ++ zeros (called.frame - length (popped called.args a.operands)));
}

abbrev pub without_args : CodeProcedure → Active → Active
without_args called a = record a { operands = under called.args a.operands }

-- the first entry finds no operands
pub settled_first : (r : Routine) (i depth : ℕ) → Settled r i depth → i ≡ 0 → depth ≡ 0
settled_first r _ _ (at_none i none) first = refl
settled_first r _ _ (at_first i j depth spot is leads earlier settled) first = absurd (let later = leads.later in omega (arith, later, first))

module _ (image : Image) (layout : Layout) (prepared : IsPrepared image layout) (j n : ℕ) (p : CodeProcedure) (is : procedure_of image j n ≡ Some p) where
  abbrev inside : InCode image j n p
  inside = in_code image layout prepared j n p is

  pub some_code : 0 < length p.code
  some_code = let l = ordered inside.code n p inside.there 1 (length p.code) (λ o. let s = o.some in omega (arith, s)) in omega (arith, l)

  abbrev first : CodeEntry
  first = get_or p.code 0 blank

  first_there : slice_get p.code 0 ≡ Some first
  first_there = slice_get-get_or p.code 0 blank some_code

  -- the code begins at offset 0
  pub begins_first : Begins (spots p.code) 0 0
  begins_first =
      let low : first.at ≤ 0 = ordered inside.code n p inside.there first.at 0 (λ o. let f = o.first blank in omega (arith, f)) in
      let at : first.at ≡ 0 = omega (arith, low) in
      subst (λ k. Begins (spots p.code) 0 k) at (begins_there p.code 0 first first_there)

  pub deep_first : (e : CodeEntry) → slice_get p.code 0 ≡ Some e → 0 ≡ e.depth
  deep_first e at = sym (settled_first (routine inside.code p) 0 e.depth (inside.depths n p (slice_get_within inside.code.procedures n p inside.there) inside.there 0 e at) refl)

module _ (image : Image) (layout : Layout) (prepared : IsPrepared image layout) (region : List ℕ) (table : List Row) (r : Registers) (p : CodeProcedure) (a : Active) (S : Activations)
    (shows : Shows image layout region table r p a S) (full : r.sp ≤ length region) (j n : ℕ) (called : CodeProcedure) (is : procedure_of image j n ≡ Some called)
    (args_fit : called.args ≤ called.frame) (args : called.args ≤ length a.operands) (rows : r.top + 1 < length table) (room : (r.top + 1) * layout.part + layout.part ≤ length region)
    (waits : Waits image (Called j n) p r.entry (length a.operands - called.args)) (fits : length a.operands - called.args ≤ p.depth) where
  abbrev moved : List ℕ
  moved = part region (r.sp - called.args) called.args

  abbrev frame_made : Active
  frame_made = made j n called a

  abbrev caller : Active
  caller = without_args called a

  abbrev base : ℕ
  base = (r.top + 1) * layout.part

  abbrev floor : ℕ
  floor = floor_at layout (length S)

  abbrev once : List ℕ
  once = with_part region base moved

  abbrev twice : List ℕ
  twice = entered region r layout called.args called.frame

  abbrev rows_then : List Row
  rows_then = with_frame table r layout called.args j n

  next_place : r.top + 1 ≡ suc (length S)
  next_place = let t = shows.top in omega (arith, t)

  operands_here : a.operands ≡ operands_to region floor r.sp
  operands_here =
      let sp = shows.sp in
      let many : length a.operands ≡ r.sp - floor = omega (arith, sp) in
      sym shows.placed.operands ∙ ap (λ k. reverse (part region floor k)) many

  moved_are : moved ≡ popped called.args a.operands
  moved_are =
      let sp = shows.sp in
      sym (popped_shown region floor r.sp called.args (omega (arith, sp, args)) full) ∙ ap (λ o. popped called.args o) (sym operands_here)

  moved_many : length moved ≡ called.args
  moved_many = let sp = shows.sp in length-part region (r.sp - called.args) called.args (omega (arith, sp, args, full))

  zeros_many : length {A = ℕ} (replicate (called.frame - called.args) 0) ≡ called.frame - called.args
  zeros_many = length-replicate (called.frame - called.args) 0

  frame_room : base + called.frame ≤ length region
  frame_room = let f = prepared.laid j n called is in omega (arith, f.0, f.1, room)

  once_long : length once ≡ length region
  once_long = let m = moved_many in let f = frame_room in length-with_part region base moved (omega (arith, m, f, args_fit))

  frame_words : part twice base called.frame ≡ popped called.args a.operands ++ zeros (called.frame - length (popped called.args a.operands))
  frame_words =
      let m = moved_many in let z = zeros_many in let o = once_long in let f = frame_room in
      let all : called.args + length {A = ℕ} (replicate (called.frame - called.args) 0) ≡ called.frame = omega (arith, z, args_fit) in
      let many : called.args ≡ length (popped called.args a.operands) = sym m ∙ ap length moved_are in
      ap (λ k. part twice base k) (sym all)
      ∙ part_with_end once base called.args (replicate (called.frame - called.args) 0) (omega (arith, o, f, args_fit))
      ∙ ap (λ x. x ++ replicate (called.frame - called.args) 0) (ap (λ k. part once base k) (sym m) ∙ part_there region base moved (omega (arith, f)) ∙ moved_are)
      ∙ ap (λ k. popped called.args a.operands ++ replicate (called.frame - k) 0) many

  same : SameTo region twice base
  same k m l =
      let o = once_long in let f = frame_room in
      part_before once (base + called.args) (replicate (called.frame - called.args) 0) k m (omega (arith, o, f, args_fit)) (omega (arith, l))
      ∙ part_before region base moved k m (omega (arith, f)) (omega (arith, l))

  new_row : slice_get rows_then (suc (length S)) ≡ Some (frame_row j n)
  new_row =
      let l = length-set table r.top (waiting (row_at table r.top) r layout called.args) in
      ap (λ q. slice_get rows_then q) (sym next_place) ∙ get_set_same _ (r.top + 1) (frame_row j n) (omega (arith, l, rows))

  old_row : slice_get rows_then (length S) ≡ Some (waiting (row_at table r.top) r layout called.args)
  old_row =
      ap (λ q. slice_get rows_then q) (sym shows.top)
      ∙ get_set_other _ (r.top + 1) r.top (frame_row j n) (λ e. omega (arith, e))
      ∙ get_set_same table r.top _ (omega (arith, rows))

  lower_rows : (q : ℕ) → q < length S → slice_get rows_then q ≡ slice_get table q
  lower_rows q less =
      let t = shows.top in
      get_set_other _ (r.top + 1) q (frame_row j n) (λ e. omega (arith, e, t, less)) ∙ get_set_other table r.top q _ (λ e. omega (arith, e, t, less))

  row_is : row_at table r.top ≡ shows.rowed.row
  row_is = ap (λ q. row_at table q) shows.top ∙ row_there table (length S) shows.rowed.row shows.rowed.there

  base_is : base ≡ length S * layout.part + layout.part
  base_is = ap (λ q. q * layout.part) next_place ∙ (let z : suc (length S) * layout.part ≡ length S * layout.part + layout.part = omega arith in z)

  few : length (under called.args a.operands) ≡ length a.operands - called.args
  few = length-drop called.args a.operands

  under_there : reverse (part twice floor (length (under called.args a.operands))) ≡ under called.args a.operands
  under_there =
      let sp = shows.sp in let b = base_is in let f = few in let fits_part = prepared.laid a.instance a.procedure p shows.is in
      let many : length (under called.args a.operands) ≡ r.sp - called.args - floor = omega (arith, sp, f) in
      ap (λ l. reverse l) (same floor (length (under called.args a.operands)) (omega (arith, b, f, fits, fits_part.1)))
      ∙ ap (λ k. reverse (part region floor k)) many
      ∙ sym (under_shown region floor r.sp called.args (omega (arith, sp, args)) full)
      ∙ ap (λ o. under called.args o) (sym operands_here)

  caller_waits : Waiting image layout twice rows_then (Called j n) (length S) caller
  unfolding args_over
  caller_waits =
      let b = base_is in let f = few in let sp = shows.sp in let t = shows.top in let fits_part = prepared.laid a.instance a.procedure p shows.is in
      let top_at : r.top * layout.part ≡ length S * layout.part = ap (λ q. q * layout.part) t in
      let count : r.sp - called.args - (r.top * layout.part + layout.frame) ≡ length a.operands - called.args = omega (arith, sp, top_at) in
      record {
        procedure = p;
        is = shows.is;
        placed = record {
          variables = variables_same region twice (slots_from layout (length S)) p.frame a.role (same (slots_from layout (length S)) p.frame (omega (arith, b, fits_part.0, fits_part.1))) shows.placed.variables;
          operands = under_there;
        };
        args = refl;
        room = omega (arith, f, fits);
        rowed = record {
          row = waiting (row_at table r.top) r layout called.args;
          there = old_row;
          same_instance = ap (λ (x : Row). x.instance) row_is ∙ shows.rowed.same_instance;
          same_procedure = ap (λ (x : Row). x.procedure) row_is ∙ shows.rowed.same_procedure;
          same_kind = subst (λ (x : Row). IsKind x.kind a.role) (sym row_is) shows.rowed.same_kind;
        };
        kept = record {
          row = waiting (row_at table r.top) r layout called.args;
          there = old_row;
          begins = shows.begins;
          same_count = count ∙ sym f;
          waits = subst (λ k. Waits image (Called j n) p r.entry k) (sym count) waits;
        };
      }

  pub frame_shows : Shows image layout twice rows_then (frame_registers r layout) called frame_made (caller ∷ S)
  unfolding Below owner own_frame HasVariables IsKind OwnedBy over_by
  frame_shows =
      let b = base_is in
      let here = next_place in
      record {
        is = is;
        top = here;
        slots = ap (λ q. q * layout.part) here;
        sp = (let z : (r.top + 1) * layout.part + layout.frame ≡ suc (length S) * layout.part + layout.frame + 0 = (let e = ap (λ q. q * layout.part) here in omega (arith, e)) in z);
        begins = begins_first image layout prepared j n called is;
        deep = deep_first image layout prepared j n called is;
        placed = record {
          variables = ap (λ q. part twice (q * layout.part) called.frame) (sym here) ∙ frame_words;
          operands = refl;
        };
        rowed = record { row = frame_row j n; there = new_row; same_instance = refl; same_procedure = refl; same_kind = tt };
        owned = tt;
        below = (
          caller_waits,
          shows.owned,
          below_rows image layout twice table rows_then (over a) S lower_rows (below_same image layout prepared.laid table region twice (over a) S (λ k m l. same k m (omega (arith, l, b))) shows.below),
        );
      }
