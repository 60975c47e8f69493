-- The topmost one of the activations that wait goes on, with words or where it stands.
use Rattle.std.proofs.Common.{◌≡◌, ℕ, ◌+◌, ◌*◌, ◌≤◌, List, [], length, get_or, Some, sym, ap, ◌∙◌, arith}
use Rattle.std.specs.Prelude.{slice_get}
use Rattle.std.proofs.lemmas.Option.{same_Some, slice_get-get_or}
use Rattle.std.proofs.Math.Nat.{mul-le-mul_right}
use Rattle.code_forms.specs.declared.module_code.CodeEntry.{CodeEntry}
use Rattle.code_forms.specs.Instructions.{bytes_of}
use Rattle.code_forms.specs.Routine.{Begins, spots}
use Rattle.code_forms.proofs.Ordered.{blank, spot_within}
use Rattle.object_files.specs.declared.image.Image.{Image}
use Rattle.machine_rules.specs.State.{Active, Activations}
use Rattle.machine_rules.specs.Words.{push}
use Rattle.machine_rules.specs.LookUps.{instruction_under}
use Rattle.machine_rules.specs.Activations.{owner}
use Rattle.machine_topmost.specs.Flat.{with_part}
use Rattle.machine_activations.specs.declared.row.Layout.{Layout}
use Rattle.machine_activations.specs.declared.row.Row.{Row}
use Rattle.machine_activations.specs.Below.{Over, over, GoesOn, IsAtLink, Waiting, Owned, Below}
use Rattle.machine_activations.specs.Frames.{row_at, end_at, back_registers}
use Rattle.machine_activations.specs.Shows.{IsPrepared, Shows}
use Rattle.machine_activations.proofs.Called.{below_here}
use Rattle.machine_activations.proofs.GivingBack.{HasRoom}
use Rattle.machine_activations.proofs.Located.{in_code, number_small, stands_at}
use Rattle.machine_activations.proofs.Returning.{row_count, row_owner, row_begins, goes_on_shows, begins_next}
use Rattle.machine_signals.proofs.Places.{homed}

module _ (image : Image) (layout : Layout) (prepared : IsPrepared image layout) (region : List ℕ) (table : List Row) (x : Over) (b : Active) (T : Activations)
    (w : Waiting image layout region table x (length T) b) (owned : Owned b T) (lower : Below image layout region table (over b) T)
    (below_within : length T * layout.part + layout.part ≤ length region) where
  abbrev pub row : Row
  row = row_at table (length T)

  counts : row.count ≡ length b.operands
  counts = row_count image layout prepared region table x b T w owned lower

  begins : Begins (spots w.procedure.code) row.entry b.offset
  begins = row_begins image layout prepared region table x b T w owned lower

  abbrev pub here : CodeEntry
  here = get_or w.procedure.code row.entry blank

  here_there : slice_get w.procedure.code row.entry ≡ Some here
  here_there = slice_get-get_or w.procedure.code row.entry blank (spot_within w.procedure.code row.entry begins.spot begins.is)

  pub stands_there : instruction_under image b ≡ Some here.instruction
  stands_there = stands_at image layout prepared b w.procedure w.is row.entry here here_there begins

  -- with so many words more it has room
  room_for : (count : ℕ) → length b.operands + count ≤ w.procedure.depth → HasRoom layout region row (length T) count
  room_for count fits =
      let laid = prepared.laid b.instance b.procedure w.procedure w.is in
      let c = in_code image layout prepared b.instance b.procedure w.procedure w.is in
      let n = counts in
      record {
        room = omega (arith, laid.1, fits, n, below_within);
        entry = number_small c.code b.procedure w.procedure c.there row.entry b.offset begins;
        owner_fits =
            let o = row_owner image layout prepared region table x b T w owned lower in
            let l = (homed b T owned).low in
            let k : owner b.role (length T) * layout.part ≤ length T * layout.part = mul-le-mul_right layout.part l in
            let same = ap (λ q. q * layout.part) o in omega (arith, same, k, below_within);
      }

  module _ (results : List ℕ) (next : GoesOn w.procedure row.entry (row.count + length results)) where
    next_below : length b.operands + length results ≤ w.procedure.depth
    next_below =
        let c = in_code image layout prepared b.instance b.procedure w.procedure w.is in
        let d = below_here image layout prepared c.code b.instance b.procedure w.procedure c.is w.is (row.entry + 1) next.next next.is in
        let deep = next.deep in let n = counts in omega (arith, d, deep, n)

    pub given_room : HasRoom layout region row (length T) (length results)
    given_room = room_for (length results) next_below

    pub given_shows : Shows image layout (with_part region (end_at row (length T) layout) results) table (back_registers row (length T) layout (length results) (row.entry + 1)) w.procedure
        (record b { offset = b.offset + bytes_of here.instruction; operands = push results b.operands }) T
    given_shows =
        let n = counts in let deep = next.deep in
        goes_on_shows image layout prepared region table x b T w owned lower results (row.entry + 1) (b.offset + bytes_of here.instruction)
        (begins_next image layout prepared region table x b T w owned lower here (row.count + length results) here_there next)
        (λ f at. let same : next.next ≡ f = same_Some next.next f (sym next.is ∙ at) in let d = ap (λ (y : CodeEntry). y.depth) same in omega (arith, d, deep, n))
        below_within next_below

  pub there_room : HasRoom layout region row (length T) 0
  there_room = room_for 0 (let room = w.room in omega (arith, room))

  -- at a call of a link it stands as it did
  pub there_again : IsAtLink w.procedure row.entry row.count → Shows image layout (with_part region (end_at row (length T) layout) []) table (back_registers row (length T) layout 0 row.entry) w.procedure b T
  there_again link =
      let n = counts in let deep = link.deep in let room = w.room in
      goes_on_shows image layout prepared region table x b T w owned lower [] row.entry b.offset begins
      (λ f at. let same : link.here ≡ f = same_Some link.here f (sym link.is ∙ at) in let d = ap (λ (y : CodeEntry). y.depth) same in omega (arith, d, deep, n))
      below_within (omega (arith, room))
