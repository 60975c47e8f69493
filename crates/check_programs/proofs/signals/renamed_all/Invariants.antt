use Rattle.std.proofs.Common.{◌≡◌, map, take}
use Rattle.interface_records.specs.PlainTypes.{plain_item}
use Rattle.check_programs.specs.Heads.{renamed}
use Rattle.check_programs.proofs.signals.renamed_all.Given as goal

abbrev pub invariant-loop-name : goal.invariant-loop-name
invariant-loop-name l = map plain_item l.items ≡ map (renamed (plain_item l.head)) (take l.name-index l.names)
