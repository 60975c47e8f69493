use Rattle.std.proofs.Common.{◌≡◌, drop}
use Rattle.mesa_types.specs.Plain.{kinds_of}
use Rattle.mesa_types.specs.Shapes.{join}
use Rattle.interface_records.specs.PlainTypes as types
use Rattle.check_state.specs.Views.{fields}
use Rattle.check_jumps.proofs.entering.add_all.Given as goal

abbrev pub invariant-loop-field : goal.invariant-loop-field
invariant-loop-field l = join (kinds_of l.fn.frame.fields) (types.kinds_of (fields l.fields)) ≡ join (kinds_of l.frame.fields) (types.kinds_of (fields (drop l.field-index l.fields)))
