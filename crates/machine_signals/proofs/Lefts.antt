-- Activations that wait for whatever stood over them wait as well for a jump.
use Rattle.std.proofs.Common.{ℕ, List, [], ◌∷◌, length, refl, arith}
use Rattle.object_files.specs.declared.image.Image.{Image}
use Rattle.machine_rules.specs.State.{Active, Activations}
use Rattle.machine_activations.specs.declared.row.Layout.{Layout}
use Rattle.machine_activations.specs.declared.row.Row.{Row}
use Rattle.machine_activations.specs.Below.{Over, Left, args_over, Waits, Waiting, Below}

module _ (image : Image) (layout : Layout) (region : List ℕ) (table : List Row) where
  waiting_left : (x : Over) (q : ℕ) (a : Active) → Waiting image layout region table x q a → Waiting image layout region table Left q a
  unfolding args_over Waits
  waiting_left x q a w = record {
    procedure = w.procedure;
    is = w.is;
    placed = w.placed;
    args = refl;
    room = (let r = w.room in omega (arith, r));
    rowed = w.rowed;
    kept = record { row = w.kept.row; there = w.kept.there; begins = w.kept.begins; same_count = w.kept.same_count; waits = tt };
  }

  pub below_left : (x : Over) (S : Activations) → Below image layout region table x S → Below image layout region table Left S
  unfolding Below
  below_left x [] b = tt
  below_left x (a ∷ S) b = (waiting_left x (length S) a b.0, b.1, b.2)
