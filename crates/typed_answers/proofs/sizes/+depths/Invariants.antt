use Rattle.std.proofs.Common.{◌≡◌, min, take}
use Rattle.mesa_types.specs.Types.{depth_of_fields}
use Rattle.typed_answers.proofs.sizes.+depths.Given as goal

abbrev pub invariant-fields_depth-loop-field : goal.invariant-fields_depth-loop-field
invariant-fields_depth-loop-field l = l.deepest ≡ min (depth_of_fields (take l.field-index l.fields)) 4294967295
