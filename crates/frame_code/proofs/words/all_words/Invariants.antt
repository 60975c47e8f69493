use Rattle.std.proofs.Common.{◌≡◌, ◌+◌, drop}
use Rattle.mesa_types.specs.Plain.{kinds_of}
use Rattle.mesa_types.specs.Shapes.{words_in_all}
use Rattle.code_rules.specs.Modules.{words_of_fields}
use Rattle.frame_code.proofs.words.all_words.Given as goal

abbrev pub invariant-loop-field : goal.invariant-loop-field
invariant-loop-field l = l.words + words_in_all (kinds_of (drop l.field-index l.fields)) ≡ words_of_fields l.fields
