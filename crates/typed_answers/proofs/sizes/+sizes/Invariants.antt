use Rattle.std.proofs.Common.{◌≡◌, min, take}
use Rattle.mesa_types.specs.Types.{words_of_fields}
use Rattle.typed_answers.proofs.sizes.+sizes.Given as goal

abbrev pub invariant-fields_words-loop-field : goal.invariant-fields_words-loop-field
invariant-fields_words-loop-field l = l.words ≡ min (words_of_fields (take l.field-index l.fields)) 4294967295
