use Rattle.std.proofs.Common.{◌≡◌, take}
use Rattle.mesa_types.specs.Types.{words_of_fields}
use Rattle.object_readers.proofs.link_rows.all_words.Given as goal

abbrev pub invariant-loop-field : goal.invariant-loop-field
invariant-loop-field l = l.words ≡ words_of_fields (take l.field-index l.fields)
