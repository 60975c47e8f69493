use Rattle.std.proofs.Common.{◌≡◌, drop}
use Rattle.syntax_trees.specs.PlainSyntax as plain
use Rattle.check_rules.specs.Parts.{are_fields, keys_of_lefts}
use Rattle.check_state.specs.Views as words
use Rattle.check_simple_statements.proofs.storing.are_fields.Given as goal

abbrev pub invariant-loop-one : goal.invariant-loop-one
invariant-loop-one l =
    are_fields (words.fields l.spots.fields.now) (keys_of_lefts (plain.keyed_lefts l.all))
    ≡ are_fields (words.fields l.spots.fields.now) (keys_of_lefts (plain.keyed_lefts (drop l.one-index l.all)))
