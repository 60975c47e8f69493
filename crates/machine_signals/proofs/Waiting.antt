-- The topmost activation, which raises a signal, waits with the others.
use Rattle.std.proofs.Common.{◌≡◌, ℕ, ◌+◌, ◌-◌, ◌*◌, ◌<◌, ◌≤◌, List, ◌∷◌, length, take, reverse, get_or, true, Some, sym, ap, subst, ◌∙◌, arith}
use Rattle.std.specs.Prelude.{slice_get}
use Rattle.std.proofs.lemmas.List.{length-drop, length-take-le, length-reverse}
use Rattle.std.proofs.lemmas.Option.{slice_get-get_or}
use Rattle.code_forms.specs.declared.module_code.CodeEntry.{CodeEntry}
use Rattle.code_forms.specs.declared.module_code.CodeProcedure.{CodeProcedure}
use Rattle.code_forms.proofs.Ordered.{blank, spot_within}
use Rattle.object_files.specs.declared.image.Image.{Image}
use Rattle.signaller.specs.declared.signal_id.SignalId.{SignalId}
use Rattle.machine_rules.specs.State.{Active, Activations}
use Rattle.machine_rules.specs.Words.{popped, under}
use Rattle.machine_rules.specs.Signals.{takes_back}
use Rattle.machine_topmost.specs.declared.registers.Registers.{Registers}
use Rattle.machine_topmost.specs.Flat.{part}
use Rattle.machine_topmost.proofs.Pausing.{depth_below}
use Rattle.machine_topmost.proofs.Showing.{operands_to, under_shown, popped_shown}
use Rattle.machine_activations.specs.declared.row.Layout.{Layout}
use Rattle.machine_activations.specs.declared.row.Row.{Row}
use Rattle.machine_activations.specs.Placed.{floor_at}
use Rattle.machine_activations.specs.Rows.{IsKind}
use Rattle.machine_activations.specs.Below.{Raised, over, args_over, GoesOn, Waits, Waiting, Below}
use Rattle.machine_activations.specs.Frames.{row_at, waiting}
use Rattle.machine_activations.specs.Shows.{IsPrepared, Shows}
use Rattle.machine_activations.proofs.Located.{in_code}
use Rattle.machine_activations.proofs.Tables.{get_set_same, get_set_other, row_there, below_rows}
use Rattle.machine_signals.specs.Arms.{with_waiting}

abbrev pub raiser_of : ℕ → Active → Active
raiser_of n a = record a { operands = under n a.operands }

pub length-popped : (n : ℕ) (operands : List ℕ) → n ≤ length operands → length (popped n operands) ≡ n
length-popped n operands enough = length-reverse (take n operands) ∙ length-take-le n operands enough

module _ (image : Image) (layout : Layout) (prepared : IsPrepared image layout) (region : List ℕ) (table : List Row) (r : Registers) (p : CodeProcedure) (a : Active) (S : Activations)
    (shows : Shows image layout region table r p a S) where
  abbrev here : CodeEntry
  here = get_or p.code r.entry blank

  here_there : slice_get p.code r.entry ≡ Some here
  here_there = slice_get-get_or p.code r.entry blank (spot_within p.code r.entry shows.begins.spot shows.begins.is)

  -- it has no more operands than there may be
  pub operands_fit : length a.operands ≤ p.depth
  operands_fit =
      let c = in_code image layout prepared a.instance a.procedure p shows.is in
      let b = depth_below c.code p c.valid c.depths (a.procedure, c.there) r.entry here here_there in
      let d = shows.deep here here_there in omega (arith, b, d)

  module _ (full : r.sp ≤ length region) (rows : r.top < length table) (signal : SignalId) (n : ℕ) (enough : n ≤ length a.operands)
      (waits : (k : ℕ) → takes_back image signal k ≡ true → GoesOn p r.entry (length a.operands - n + k)) where
    abbrev floor : ℕ
    floor = floor_at layout (length S)

    abbrev rows_then : List Row
    rows_then = with_waiting table r layout n

    abbrev row : Row
    row = waiting (row_at table r.top) r layout n

    operands_here : a.operands ≡ operands_to region floor r.sp
    operands_here =
        let sp = shows.sp in
        let many : length a.operands ≡ r.sp - floor = omega (arith, sp) in
        sym shows.placed.operands ∙ ap (λ k. reverse (part region floor k)) many

    few : length (under n a.operands) ≡ length a.operands - n
    few = length-drop n a.operands

    args_many : length (popped n a.operands) ≡ n
    args_many = length-popped n a.operands enough

    under_there : reverse (part region floor (length (under n a.operands))) ≡ under n a.operands
    under_there =
        let sp = shows.sp in let f = few in
        let many : length (under n a.operands) ≡ r.sp - n - floor = omega (arith, sp, f) in
        ap (λ k. reverse (part region floor k)) many
        ∙ sym (under_shown region floor r.sp n (omega (arith, sp, enough)) full)
        ∙ ap (λ o. under n o) (sym operands_here)

    -- its arguments stand above the operands that it keeps
    pub args_there : part region (r.sp - n) n ≡ popped n a.operands
    args_there =
        let sp = shows.sp in
        sym (popped_shown region floor r.sp n (omega (arith, sp, enough)) full) ∙ ap (λ o. popped n o) (sym operands_here)

    row_there_now : slice_get rows_then (length S) ≡ Some row
    row_there_now = ap (λ q. slice_get rows_then q) (sym shows.top) ∙ get_set_same table r.top row rows

    row_is : row_at table r.top ≡ shows.rowed.row
    row_is = ap (λ q. row_at table q) shows.top ∙ row_there table (length S) shows.rowed.row shows.rowed.there

    lower_rows : (q : ℕ) → q < length S → slice_get rows_then q ≡ slice_get table q
    lower_rows q less = let t = shows.top in get_set_other table r.top q row (λ e. omega (arith, e, t, less))

    top_at : r.top * layout.part ≡ length S * layout.part
    top_at = ap (λ q. q * layout.part) shows.top

    count_is : row.count ≡ length a.operands - n
    count_is = let sp = shows.sp in let t = top_at in omega (arith, sp, t)

    raiser_waits : Waiting image layout region rows_then (Raised signal (popped n a.operands)) (length S) (raiser_of n a)
    unfolding args_over Waits
    raiser_waits =
        let f = few in let k = args_many in let c = count_is in let sp = shows.sp in
        record {
          procedure = p;
          is = shows.is;
          placed = record { variables = shows.placed.variables; operands = under_there };
          args = (
              let at : floor + length (under n a.operands) ≡ r.sp - n = omega (arith, sp, f, enough) in
              ap (λ i. part region i (length (popped n a.operands))) at ∙ ap (λ i. part region (r.sp - n) i) k ∙ args_there);
          room = (let d = operands_fit in omega (arith, d, f, k, enough));
          rowed = record {
            row = row;
            there = row_there_now;
            same_instance = ap (λ (x : Row). x.instance) row_is ∙ shows.rowed.same_instance;
            same_procedure = ap (λ (x : Row). x.procedure) row_is ∙ shows.rowed.same_procedure;
            same_kind = subst (λ (x : Row). IsKind x.kind a.role) (sym row_is) shows.rowed.same_kind;
          };
          kept = record {
            row = row;
            there = row_there_now;
            begins = shows.begins;
            same_count = c ∙ sym f;
            waits = λ j back. subst (λ i. GoesOn p r.entry (i + j)) (sym c) (waits j back);
          };
        }

    pub raiser_below : Below image layout region rows_then (Raised signal (popped n a.operands)) (raiser_of n a ∷ S)
    unfolding Below
    raiser_below = (raiser_waits, shows.owned, below_rows image layout region table rows_then (over a) S lower_rows shows.below)
