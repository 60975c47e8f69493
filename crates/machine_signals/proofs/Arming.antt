-- An arm that is run over activations that wait is shown.
use Rattle.std.proofs.Common.{◌≡◌, ⊎_elim, ℕ, ◌+◌, ◌*◌, ◌<◌, ◌≤◌, List, [], length, Some, refl, sym, ap, subst, ◌∙◌, arith}
use Rattle.std.specs.Prelude.{slice_get, slice_set}
use Rattle.code_forms.specs.declared.module_code.CodeEntry.{CodeEntry}
use Rattle.code_forms.specs.declared.module_code.CodeProcedure.{CodeProcedure}
use Rattle.code_forms.specs.Routine.{Begins, spots}
use Rattle.object_files.specs.declared.image.Image.{Image}
use Rattle.machine_rules.specs.State.{Why, InArm, Active, Activations}
use Rattle.machine_rules.specs.Words.{put_words}
use Rattle.machine_rules.specs.LookUps.{procedure_of}
use Rattle.machine_rules.specs.Activations.{activation_at, owner, own_frame, variables_of, set_variables}
use Rattle.machine_rules.specs.Signals.{put_at}
use Rattle.machine_topmost.specs.Flat.{part}
use Rattle.machine_topmost.proofs.Copied.{length-part}
use Rattle.machine_topmost.proofs.Parts.{part_before, part_past, part_around, put_is_replaced}
use Rattle.machine_activations.specs.declared.row.Layout.{Layout}
use Rattle.machine_activations.specs.declared.row.Reason.{Reason}
use Rattle.machine_activations.specs.declared.row.Row.{Row}
use Rattle.machine_activations.specs.Placed.{slots_from, HasVariables}
use Rattle.machine_activations.specs.Rows.{IsKind, IsWhy}
use Rattle.machine_activations.specs.Below.{over_by, frame_at, OwnedBy, Below}
use Rattle.machine_activations.specs.Shows.{IsPrepared, Shows}
use Rattle.machine_activations.proofs.Homes.{set_long, set_frames, frame_within}
use Rattle.machine_activations.proofs.Keeping.{SameBut, next_part, variables_below, below_stored}
use Rattle.machine_activations.proofs.Tables.{get_set_same, get_set_other, below_rows}
use Rattle.machine_signals.specs.Arms.{arm_row, arm_registers, with_params}

-- the arm of a number, of a procedure, whose region begins at an offset
abbrev pub arm_made : (j k own n : ℕ) → Why → (start : ℕ) → Active
arm_made j k own n why start = record { instance = j; procedure = k; offset = start; operands = []; role = InArm own n why }

module _ (image : Image) (layout : Layout) (prepared : IsPrepared image layout) (region : List ℕ) (table : List Row) (j k own n : ℕ) (why : Why) (reason : Reason)
    (same_why : IsWhy reason why) (S : Activations) (below : Below image layout region table (over_by j k (InArm own n why)) S)
    (home : frame_at S own ≡ Some (record { instance = j; procedure = k })) (p : CodeProcedure) (is : procedure_of image j k ≡ Some p)
    (slot : ℕ) (new : List ℕ) (inside : slot + length new ≤ p.frame) (room : length S * layout.part ≤ length region) (rows : length S < length table) where
  abbrev stored : List ℕ
  stored = with_params region layout own slot new

  abbrev rows_then : List Row
  rows_then = slice_set table (length S) (arm_row j k own n reason)

  abbrev at : ℕ
  at = slots_from layout own

  low : own < length S
  low = frame_within S own _ home

  own_part : own * layout.part + layout.part ≤ length S * layout.part
  own_part = next_part own (length S) layout.part low

  laid_here : (p.frame ≤ layout.frame) × (layout.frame + p.depth ≤ layout.part)
  laid_here = prepared.laid j k p is

  frame_room : at + p.frame ≤ length region
  frame_room = let o = own_part in let l = laid_here in omega (arith, o, l.0, l.1, room)

  pub params_fit : at + slot + length new ≤ length region
  params_fit = let f = frame_room in omega (arith, f, inside)

  same : SameBut region stored at p.frame (length S * layout.part)
  same q m l side =
      let f = params_fit in
      ⊎_elim
      (λ (b : q + m ≤ at). part_before region (at + slot) new q m (omega (arith, f)) (omega (arith, b)))
      (λ (b : at + p.frame ≤ q). part_past region (at + slot) new q m (omega (arith, f)) (omega (arith, b, inside)))
      side

  abbrev frame_then : List ℕ
  frame_then = part stored at p.frame

  variables_are : put_words (variables_of (activation_at S own)) slot new ≡ frame_then
  variables_are =
      let f = frame_room in
      let size = length-part region at p.frame f in
      ap (λ v. put_words v slot new) (variables_below image layout prepared.laid table own j k p is region (over_by j k (InArm own n why)) S below home)
      ∙ put_is_replaced (part region at p.frame) slot new (omega (arith, size, inside))
      ∙ sym (part_around region at slot p.frame new inside f)

  abbrev set : Activations
  set = set_variables S own frame_then

  set_is : put_at S own slot new ≡ set
  unfolding put_at
  set_is = ap (λ v. set_variables S own v) variables_are

  long : length set ≡ length S
  long = set_long S own frame_then

  module _ (start entry : ℕ) (begins : Begins (spots p.code) entry start) (deep : (e : CodeEntry) → slice_get p.code entry ≡ Some e → 0 ≡ e.depth) where
    abbrev arm : Active
    arm = arm_made j k own n why start

    new_row : slice_get rows_then (length set) ≡ Some (arm_row j k own n reason)
    new_row = ap (λ q. slice_get rows_then q) long ∙ get_set_same table (length S) (arm_row j k own n reason) rows

    below_then : Below image layout stored rows_then (over_by j k (InArm own n why)) set
    below_then =
        let l = long in
        below_rows image layout stored table rows_then (over_by j k (InArm own n why)) set
        (λ q less. get_set_other table (length S) q (arm_row j k own n reason) (λ e. omega (arith, e, less, l)))
        (below_stored image layout prepared.laid table own j k p is region stored (over_by j k (InArm own n why)) S home same below)

    set_shows : Shows image layout stored rows_then (arm_registers layout (length S) own entry) p arm set
    unfolding owner own_frame HasVariables IsKind OwnedBy
    set_shows =
        let l = long in
        let places : length set * layout.part ≡ length S * layout.part = ap (λ q. q * layout.part) l in
        record {
          is = is;
          top = sym l;
          slots = refl;
          sp = omega (arith, places);
          begins = begins;
          deep = deep;
          placed = record { variables = tt; operands = refl };
          rowed = record { row = arm_row j k own n reason; there = new_row; same_instance = refl; same_procedure = refl; same_kind = (refl, refl, same_why) };
          owned = set_frames S own frame_then own ∙ home;
          below = below_then;
        }

    pub arm_shows : Shows image layout stored rows_then (arm_registers layout (length S) own entry) p arm (put_at S own slot new)
    arm_shows = subst (λ T. Shows image layout stored rows_then (arm_registers layout (length S) own entry) p arm T) (sym set_is) set_shows
