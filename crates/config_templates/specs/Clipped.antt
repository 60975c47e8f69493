-- Counts of which only matters whether there are too many: all that are more than 1,024 are 1,025.
use Rattle.std.specs.Prelude.{ℕ, suc, min}
use Rattle.mesa_base.specs.declared.limits.TheConstants.{INSTANCES}

abbrev pub clipped : ℕ → ℕ
clipped n = min (suc INSTANCES) n
