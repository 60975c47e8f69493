-- Intervals by whether they are open.
use Rattle.std.proofs.Common.{◌≡◌, ap, ℕ}
use Rattle.mesa_types.specs.Plain.{interval}
use Rattle.mesa_types.specs.declared.typed_parts.Base.{Base}
use Rattle.mesa_types.specs.declared.typed_parts.Bases.{Bases}
use Rattle.mesa_types.specs.declared.typed_tree.Interval.{Interval}
use Rattle.code_rules.specs.Loops.{start_code}
use Rattle.code_rules.specs.OwnCode.{long_within_code, within_code}
use Rattle.code_blocks.specs.Translation as spec
use Rattle.code_trees.proofs.StatementSplits.{interval_is}

pub within_of_is : (t : ℕ) (bases : Bases) (x : Interval) → spec.within_of t bases (interval x) ≡ within_code t bases x.first_is_open x.last_is_open
within_of_is t bases x = ap (spec.within_of t bases) (interval_is x)

pub long_within_of_is : (t : ℕ) (bases : Bases) (x : Interval)
    → spec.long_within_of t bases (interval x) ≡ long_within_code t bases x.first_is_open x.last_is_open
long_within_of_is t bases x = ap (spec.long_within_of t bases) (interval_is x)

pub start_of_is : (z : ℕ) (base : Base) (x : Interval) → spec.start_of z base (interval x) ≡ start_code z base x.first_is_open x.last_is_open
start_of_is z base x = ap (spec.start_of z base) (interval_is x)
