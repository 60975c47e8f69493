-- Rows that change.
use Rattle.std.proofs.Common.{◌≡◌, ◌≢◌, ℕ, zero, suc, ◌<◌, List, [], ◌∷◌, length, get_or, set, Some, refl, sym, ap, ◌∙◌, arith}
use Rattle.std.specs.Prelude.{slice_get}
use Rattle.std.proofs.lemmas.Option.{slice_get-get_or}
use Rattle.object_files.specs.declared.image.Image.{Image}
use Rattle.machine_rules.specs.State.{Activations}
use Rattle.machine_activations.specs.declared.row.Layout.{Layout}
use Rattle.machine_activations.specs.declared.row.Row.{Row}
use Rattle.machine_activations.specs.Below.{Over, over, Below}
use Rattle.machine_activations.specs.Frames.{row_in, row_at}

pub get_set_same : (xs : List Row) (i : ℕ) (y : Row) → i < length xs → slice_get (set xs i y) i ≡ Some y
get_set_same [] i y less = absurd (omega (arith, less))
get_set_same (x ∷ xs) zero y less = refl
get_set_same (x ∷ xs) (suc i) y less = get_set_same xs i y (omega (arith, less))

pub get_set_other : (xs : List Row) (i j : ℕ) (y : Row) → i ≢ j → slice_get (set xs i y) j ≡ slice_get xs j
get_set_other [] i j y other = refl
get_set_other (x ∷ xs) zero zero y other = absurd (other refl)
get_set_other (x ∷ xs) zero (suc j) y other = refl
get_set_other (x ∷ xs) (suc i) zero y other = refl
get_set_other (x ∷ xs) (suc i) (suc j) y other = get_set_other xs i j y (λ e. other (ap suc e))

pub row_at_place : (table : List Row) (q : ℕ) (row : Row) → q < length table → get_or table q row ≡ row_at table q
unfolding row_in
row_at_place table q row less = sym (ap row_in (slice_get-get_or table q row less))

pub row_there : (table : List Row) (q : ℕ) (row : Row) → slice_get table q ≡ Some row → row_at table q ≡ row
unfolding row_in
row_there table q row e = ap row_in e

module _ (image : Image) (layout : Layout) (region : List ℕ) (table table' : List Row) where
  pub below_rows : (x : Over) (S : Activations) → ((q : ℕ) → q < length S → slice_get table' q ≡ slice_get table q) → Below image layout region table x S → Below image layout region table' x S
  unfolding Below
  below_rows x [] same b = tt
  below_rows x (a ∷ S) same b = (
    record {
      procedure = b.0.procedure;
      is = b.0.is;
      placed = b.0.placed;
      args = b.0.args;
      room = b.0.room;
      rowed = record { row = b.0.rowed.row; there = same (length S) (omega arith) ∙ b.0.rowed.there; same_instance = b.0.rowed.same_instance; same_procedure = b.0.rowed.same_procedure; same_kind = b.0.rowed.same_kind };
      kept = record { row = b.0.kept.row; there = same (length S) (omega arith) ∙ b.0.kept.there; begins = b.0.kept.begins; same_count = b.0.kept.same_count; waits = b.0.kept.waits };
    },
    b.1,
    below_rows (over a) S (λ q less. same q (omega (arith, less))) b.2,
  )
