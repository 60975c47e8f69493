use Rattle.std.proofs.Common.{◌≡◌, map, take}
use Rattle.check_rules.specs.Definitions.{named_type}
use Rattle.interface_records.specs.PlainTypes.{plain, plain_name}
use Rattle.check_heads.proofs.definitions.named_types.Given as goal

abbrev pub invariant-loop-name : goal.invariant-loop-name
invariant-loop-name l = map plain_name l.types ≡ map (named_type (plain l.kind)) (take l.name-index l.names)
