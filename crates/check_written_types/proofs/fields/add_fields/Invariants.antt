use Rattle.std.proofs.Common.{◌≡◌, ◌++◌, drop}
use Rattle.check_rules.specs.Parts.{each_of}
use Rattle.interface_records.specs.PlainTypes.{plain}
use Rattle.check_state.specs.Views.{fields}
use Rattle.check_written_types.proofs.fields.add_fields.Given as goal

abbrev pub invariant-loop-name : goal.invariant-loop-name
invariant-loop-name l = fields l.fn.fields ++ each_of (plain l.kind) l.names ≡ fields l.fields ++ each_of (plain l.kind) (drop l.name-index l.names)
