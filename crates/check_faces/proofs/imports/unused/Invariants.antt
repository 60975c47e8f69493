use Rattle.std.proofs.Common.{◌≡◌, ◌++◌, drop}
use Rattle.check_rules.specs.Programs.{unused}
use Rattle.check_directory.specs.Interfaces.{found}
use Rattle.check_faces.proofs.imports.unused.Given as goal

abbrev pub invariant-loop-interface : goal.invariant-loop-interface
invariant-loop-interface l = unused (found l.those) ≡ l.marks ++ unused (found (drop l.interface-index l.those))
