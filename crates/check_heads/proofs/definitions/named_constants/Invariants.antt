use Rattle.std.proofs.Common.{◌≡◌, map, take}
use Rattle.interface_records.specs.PlainTypes.{plain, plain_constant}
use Rattle.check_heads.specs.Forms.{named_constant}
use Rattle.check_heads.proofs.definitions.named_constants.Given as goal

abbrev pub invariant-loop-name : goal.invariant-loop-name
invariant-loop-name l = map plain_constant l.constants ≡ map (named_constant (plain l.kind) l.value) (take l.name-index l.names)
