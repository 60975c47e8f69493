-- The rows of arms hold on where a frame is made on top.
use Rattle.std.proofs.Common.{◌≡◌, ⊎_elim, ℕ, ◌+◌, ◌<◌, ◌≤◌, List, length, set, sym, ap, subst, ◌∙◌, arith}
use Rattle.std.proofs.lemmas.Bool.{cases_lt}
use Rattle.std.proofs.lemmas.Option.{slice_get_past}
use Rattle.std.proofs.Math.ListN.{length-set}
use Rattle.object_files.specs.declared.image.Image.{Image}
use Rattle.machine_topmost.specs.declared.registers.Registers.{Registers}
use Rattle.machine_activations.specs.declared.row.Kind.{Kind}
use Rattle.machine_activations.specs.declared.row.Kind.TheVariants.{Frame}
use Rattle.machine_activations.specs.declared.row.Layout.{Layout}
use Rattle.machine_activations.specs.declared.row.Row.{Row}
use Rattle.machine_activations.specs.Frames.{frame_row, row_in, row_at, with_frame}
use Rattle.machine_signals.specs.Arms.{with_waiting}
use Rattle.machine_signals.specs.Raising.{KindHolds, ArmsHold}
use Rattle.machine_signals.proofs.ArmRows.{Alike, arms_more, row_set, row_other, wait_alike}

-- a frame's row is one, and so is none
frame_there : (table : List Row) (i j n : ℕ) → (row_at (set table i (frame_row j n)) i).kind ≡ Frame
unfolding row_in
frame_there table i j n = ⊎_elim
    (λ (less : i < length table). ap (λ (x : Row). x.kind) (row_set table i (frame_row j n) less))
    (λ (past : length table ≤ i).
    let long = length-set table i (frame_row j n) in
    ap (λ o. (row_in o).kind) (slice_get_past (set table i (frame_row j n)) i (omega (arith, past, long))))
    (cases_lt i (length table))

module _ (image : Image) (table : List Row) (r : Registers) (layout : Layout) (args j n : ℕ) (there : r.top < length table) where
  same : (k : ℕ) → k ≤ r.top → Alike (row_at (with_frame table r layout args j n) k) (row_at table k)
  same k low =
      let w = wait_alike table r layout args there k low in
      let o = row_other (with_waiting table r layout args) (r.top + 1) k (frame_row j n) (omega (arith, low)) in
      record {
        instance = ap (λ (x : Row). x.instance) o ∙ w.instance;
        procedure = ap (λ (x : Row). x.procedure) o ∙ w.procedure;
        kind = ap (λ (x : Row). x.kind) o ∙ w.kind;
      }

  pub arms_framed : ArmsHold image table r.top → ArmsHold image (with_frame table r layout args j n) (r.top + 1)
  arms_framed holds =
      arms_more image table (with_frame table r layout args j n) r.top same holds
      (subst (λ (kind : Kind). KindHolds image (with_frame table r layout args j n) (r.top + 1) kind) (sym (frame_there (with_waiting table r layout args) (r.top + 1) j n)) tt)
