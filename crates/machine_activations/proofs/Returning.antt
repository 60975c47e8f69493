-- The activation below a frame that is given up is shown, with the results.
use Rattle.std.proofs.Common.{◌≡◌, ℕ, ◌+◌, ◌*◌, ◌≤◌, List, length, reverse, Some, refl, sym, ap, subst, ◌∙◌, arith}
use Rattle.std.specs.Prelude.{slice_get}
use Rattle.std.proofs.lemmas.List.{length-append, length-reverse}
use Rattle.std.proofs.lemmas.Option.{same_Some}
use Rattle.code_forms.specs.declared.module_code.CodeEntry.{CodeEntry}
use Rattle.code_forms.specs.Instructions.{bytes_of}
use Rattle.code_forms.specs.Routine.{Begins, spots}
use Rattle.code_forms.proofs.Leading.{begins_there}
use Rattle.object_files.specs.declared.image.Image.{Image}
use Rattle.machine_rules.specs.State.{Role, Frame, InArm, Active, Activations}
use Rattle.machine_rules.specs.Words.{push}
use Rattle.machine_rules.specs.Activations.{owner, own_frame}
use Rattle.machine_topmost.specs.Flat.{part, with_part}
use Rattle.machine_topmost.proofs.Parts.{part_before, part_with_end, push_is, pushed}
use Rattle.machine_activations.specs.declared.row.Kind.{Kind}
use Rattle.machine_activations.specs.declared.row.Kind.TheVariants.{Frame as FrameRow, Arm as ArmRow}
use Rattle.machine_activations.specs.declared.row.Layout.{Layout}
use Rattle.machine_activations.specs.declared.row.Row.{Row}
use Rattle.machine_activations.specs.Placed.{slots_from, floor_at}
use Rattle.machine_activations.specs.Rows.{IsKind}
use Rattle.machine_activations.specs.Below.{Over, over, GoesOn, Waiting, Owned, Below}
use Rattle.machine_activations.specs.Frames.{row_at, owner_place, end_at, back_registers}
use Rattle.machine_activations.specs.Shows.{IsPrepared, Shows}
use Rattle.machine_activations.proofs.Located.{in_code, joined, at_offset}
use Rattle.machine_activations.proofs.Keeping.{below_same, variables_same}
use Rattle.machine_activations.proofs.Tables.{row_there}

pub owner_kind : (kind : Kind) (role : Role (List ℕ)) (q : ℕ) → IsKind kind role → owner_place kind q ≡ owner role q
unfolding IsKind owner_place owner
owner_kind FrameRow (Frame variables) q h = refl
owner_kind FrameRow (InArm own arm why) q h = absurd h
owner_kind (ArmRow own arm reason) (Frame variables) q h = absurd h
owner_kind (ArmRow own arm reason) (InArm own' arm' why) q h = h.0

pub length-push : (words operands : List ℕ) → length (push words operands) ≡ length operands + length words
length-push words operands =
    let both = length-append (reverse words) operands in let turned = length-reverse words in
    ap length (push_is words operands) ∙ omega (arith, both, turned)

module _ (image : Image) (layout : Layout) (prepared : IsPrepared image layout) (region : List ℕ) (table : List Row) (x : Over) (b : Active) (T : Activations)
    (w : Waiting image layout region table x (length T) b) (owned : Owned b T) (lower : Below image layout region table (over b) T) where
  abbrev pub waiting_row : Row
  waiting_row = row_at table (length T)

  abbrev floor : ℕ
  floor = floor_at layout (length T)

  pub row_is : waiting_row ≡ w.kept.row
  row_is = row_there table (length T) w.kept.row w.kept.there

  pub row_count : waiting_row.count ≡ length b.operands
  row_count = ap (λ (r : Row). r.count) row_is ∙ w.kept.same_count

  same_row : w.kept.row ≡ w.rowed.row
  same_row = same_Some w.kept.row w.rowed.row (sym w.kept.there ∙ w.rowed.there)

  pub row_owner : owner_place waiting_row.kind (length T) ≡ owner b.role (length T)
  row_owner =
      ap (λ (r : Row). owner_place r.kind (length T)) (row_is ∙ same_row) ∙ owner_kind w.rowed.row.kind b.role (length T) w.rowed.same_kind

  pub row_begins : Begins (spots w.procedure.code) waiting_row.entry b.offset
  row_begins = subst (λ (r : Row). Begins (spots w.procedure.code) r.entry b.offset) (sym row_is) w.kept.begins

  -- it goes on at an entry with these words more
  module _ (results : List ℕ) (entry offset : ℕ) (begins : Begins (spots w.procedure.code) entry offset)
      (deep : (e : CodeEntry) → slice_get w.procedure.code entry ≡ Some e → length b.operands + length results ≡ e.depth)
      (room : length T * layout.part + layout.part ≤ length region) (fits : length b.operands + length results ≤ w.procedure.depth) where
    abbrev pub gone_on : Active
    gone_on = record b { offset = offset; operands = push results b.operands }

    abbrev then_region : List ℕ
    then_region = with_part region (end_at waiting_row (length T) layout) results

    many : length (push results b.operands) ≡ length b.operands + length results
    many = length-push results b.operands

    end_is : end_at waiting_row (length T) layout ≡ floor + length b.operands
    end_is = ap (λ k. floor + k) row_count

    within : floor + length b.operands ≤ length region
    within = let laid = prepared.laid b.instance b.procedure w.procedure w.is in omega (arith, laid.1, fits, room)

    operands_there : reverse (part then_region floor (length (push results b.operands))) ≡ push results b.operands
    operands_there =
        ap (λ at. reverse (part (with_part region at results) floor (length (push results b.operands)))) end_is
        ∙ ap (λ k. reverse (part (with_part region (floor + length b.operands) results) floor k)) many
        ∙ ap (λ l. reverse l) (part_with_end region floor (length b.operands) results within)
        ∙ sym (pushed (part region floor (length b.operands)) results)
        ∙ ap (λ o. push results o) w.placed.operands

    same : (p n : ℕ) → p + n ≤ floor → part then_region p n ≡ part region p n
    same p n l = ap (λ at. part (with_part region at results) p n) end_is ∙ part_before region (floor + length b.operands) results p n within (omega (arith, l))

    pub goes_on_shows : Shows image layout then_region table (back_registers waiting_row (length T) layout (length results) entry) w.procedure gone_on T
    unfolding own_frame
    goes_on_shows =
        let laid = prepared.laid b.instance b.procedure w.procedure w.is in
        record {
          is = w.is;
          top = refl;
          slots = ap (λ q. q * layout.part) row_owner;
          sp = (let m = many in let e = end_is in omega (arith, m, e));
          begins = begins;
          deep = λ e at. many ∙ deep e at;
          placed = record {
            variables = variables_same region then_region (slots_from layout (length T)) w.procedure.frame b.role (same (slots_from layout (length T)) w.procedure.frame (omega (arith, laid.0))) w.placed.variables;
            operands = operands_there;
          };
          rowed = record { row = w.rowed.row; there = w.rowed.there; same_instance = w.rowed.same_instance; same_procedure = w.rowed.same_procedure; same_kind = w.rowed.same_kind };
          owned = owned;
          below = below_same image layout prepared.laid table region then_region (over b) T (λ p n l. same p n (omega (arith, l))) lower;
        }

  -- the next entry begins behind the instruction for which it waits
  pub begins_next : (e : CodeEntry) (depth : ℕ) → slice_get w.procedure.code waiting_row.entry ≡ Some e → (g : GoesOn w.procedure waiting_row.entry depth)
      → Begins (spots w.procedure.code) (waiting_row.entry + 1) (b.offset + bytes_of e.instruction)
  begins_next e depth there g =
      let c = in_code image layout prepared b.instance b.procedure w.procedure w.is in
      let here : e.at ≡ b.offset = at_offset w.procedure.code waiting_row.entry b.offset e there row_begins in
      let after : g.next.at ≡ b.offset + bytes_of e.instruction = sym (joined c.code b.procedure w.procedure c.there waiting_row.entry e g.next there g.is) ∙ ap (λ k. k + bytes_of e.instruction) here in
      subst (λ k. Begins (spots w.procedure.code) (waiting_row.entry + 1) k) after (begins_there w.procedure.code (waiting_row.entry + 1) g.next g.is)
