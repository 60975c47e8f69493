use Rattle.std.proofs.Common.{◌≡◌, [], map, drop}
use Rattle.syntax_trees.specs.PlainSyntax as plain
use Rattle.interface_records.specs.PlainTypes.{plain_field}
use Rattle.check_state.specs.Views as words
use Rattle.check_heads.proofs.HeadingLaws.{parameters_rest}
use Rattle.check_heads.proofs.headings.named_parameters.Given as goal

abbrev pub invariant-loop-one : goal.invariant-loop-one
invariant-loop-one g l =
    parameters_rest (words.around l.around) [] (plain.named_fields l.all) (words.state l.fn.state)
    ≡ parameters_rest (words.around l.around) (map plain_field l.done) (plain.named_fields (drop l.one-index l.all)) (words.state l.state)
