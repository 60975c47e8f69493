use Rattle.std.proofs.Common.{◌≡◌, ◌++◌, drop, map}
use Rattle.check_rules.specs.Directory.{those_of}
use Rattle.interface_records.specs.PlainTypes.{plain_interface}
use Rattle.check_directory.specs.Interfaces.{found}
use Rattle.check_directory.proofs.found.those_of.Given as goal

abbrev pub invariant-loop-name : goal.invariant-loop-name
invariant-loop-name l =
    those_of l.directory (map plain_interface l.interfaces) l.names
    ≡ found l.those.items ++ those_of l.directory (map plain_interface l.interfaces) (drop l.name-index l.names)
