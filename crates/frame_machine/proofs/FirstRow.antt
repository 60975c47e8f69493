-- The rows of arms where the first frame stands.
use Rattle.std.proofs.Common.{◌≡◌, ℕ, List, [], ◌∷◌, refl, sym, subst, arith}
use Rattle.std.specs.Prelude.{slice_set}
use Rattle.object_files.specs.declared.image.Image.{Image}
use Rattle.machine_activations.specs.declared.row.Kind.{Kind}
use Rattle.machine_activations.specs.declared.row.Kind.TheVariants.{Frame}
use Rattle.machine_activations.specs.declared.row.Row.{Row}
use Rattle.machine_activations.specs.Frames.{frame_row, row_in, row_at}
use Rattle.machine_signals.specs.Raising.{KindHolds, ArmsHold}

first_kind : (table : List Row) (j : ℕ) → (row_at (slice_set table 0 (frame_row j 0)) 0).kind ≡ Frame
unfolding row_in
first_kind [] j = refl
first_kind (row ∷ rows) j = refl

-- the body of an instance that is started with no activation
pub first_arms : (image : Image) (table : List Row) (j : ℕ) → ArmsHold image (slice_set table 0 (frame_row j 0)) 0
first_arms image table j q low =
    let rows : List Row = slice_set table 0 (frame_row j 0) in
    subst (λ k. KindHolds image rows k (row_at rows k).kind) (let e : 0 ≡ q = omega (arith, low) in e)
    (subst (λ (kind : Kind). KindHolds image rows 0 kind) (sym (first_kind table j)) tt)
