-- The names so far.
use Rattle.std.proofs.Common.{◌≡◌, ◌∷◌, take}
use Rattle.load_checks.specs.Givers.{name_of}
use Rattle.load_checks.proofs.faults.path_of.Given as goal

abbrev pub invariant-loop-name : goal.invariant-loop-name
invariant-loop-name l = l.path ≡ name_of l.exporter.image ∷ take l.name-index l.name-items
