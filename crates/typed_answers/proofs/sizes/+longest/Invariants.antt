use Rattle.std.proofs.Common.{◌≡◌, take}
use Rattle.mesa_types.specs.Types.{longest_of_fields}
use Rattle.typed_answers.proofs.sizes.+longest.Given as goal

abbrev pub invariant-fields_longest-loop-field : goal.invariant-fields_longest-loop-field
invariant-fields_longest-loop-field l = l.longest ≡ longest_of_fields (take l.field-index l.fields)
