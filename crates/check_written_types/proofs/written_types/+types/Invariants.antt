-- What is still to come, behind the fields that are done.
use Rattle.std.proofs.Common.{◌≡◌, [], map, take, drop}
use Rattle.syntax_trees.specs.PlainSyntax as plain
use Rattle.interface_records.specs.PlainTypes.{plain_field}
use Rattle.check_state.specs.Views as words
use Rattle.check_declared.specs.Naming.{HasNames}
use Rattle.check_written_types.proofs.FieldLoops.{named_rest, names_before, unnamed_rest}
use Rattle.check_written_types.proofs.written_types.+types.Given as goal

abbrev pub invariant-named_fields-loop-one : goal.invariant-named_fields-loop-one
invariant-named_fields-loop-one g l = record {
  names : HasNames l.taken (names_before (take l.one-index l.all));
  value : named_rest (words.around l.around) [] [] (plain.named_fields l.all) (words.state l.fn.state)
      ≡ named_rest (words.around l.around) (map plain_field l.done) (names_before (take l.one-index l.all)) (plain.named_fields (drop l.one-index l.all)) (words.state l.state);
}

abbrev pub invariant-unnamed_fields-loop-one : goal.invariant-unnamed_fields-loop-one
invariant-unnamed_fields-loop-one g l =
    unnamed_rest (words.around l.around) [] (plain.types l.all) (words.state l.fn.state)
    ≡ unnamed_rest (words.around l.around) (map plain_field l.done) (plain.types (drop l.one-index l.all)) (words.state l.state)
