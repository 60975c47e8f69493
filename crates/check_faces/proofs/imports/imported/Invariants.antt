use Rattle.std.proofs.Common.{◌≡◌, ◌++◌, drop}
use Rattle.check_rules.specs.Programs.{imported}
use Rattle.check_directory.specs.Interfaces.{found}
use Rattle.check_faces.proofs.imports.imported.Given as goal

abbrev pub invariant-loop-interface : goal.invariant-loop-interface
invariant-loop-interface l = (l.number ≡ l.interface-index)
    × (imported (found l.those) l.used ≡ l.imports ++ imported (found (drop l.interface-index l.those)) (drop l.interface-index l.used))
