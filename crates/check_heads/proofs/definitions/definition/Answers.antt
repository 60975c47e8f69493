use Rattle.std.proofs.Common.{rules}
use Rattle.syntax_trees.specs.PlainSyntax as plain
use Rattle.check_state.specs.Views as words
use Rattle.check_heads.specs.Views as view
use Rattle.check_heads.proofs.DefinedLaws.{counted_is, definition_is, is_defined}
use Rattle.check_heads.proofs.definitions.definition.Goals as goal

pub returns-in_err-made : goal.returns-in_err-made
returns-in_err-made g c =
    rw (definition_is (words.around c.args.around.now) (plain.definition c.args.d.now) c.as_slice-names.result.now (words.state c.args.state.now)
    (words.state c.count_from-outside.new.self) c.as_slice-names.ensures c.count_from-outside.ensures.state) (search rules)

pub returns-in_err-few_operands : goal.returns-in_err-few_operands
returns-in_err-few_operands g c =
    rw (counted_is (words.around c.args.around.now) (plain.definition c.args.d.now) c.as_slice-names.result.now (words.state c.args.state.now)
    (words.state c.count_from-outside.new.self) c.as_slice-names.ensures c.count_from-outside.ensures.state (view.defined c.in_ok-made.made) (words.state c.announced.new.state)
    c.count_from-words.result c.first_name.result c.in_ok-made.ensures c.count_from-words.ensures.counted c.first_name.ensures) (search rules)

pub returns : goal.returns
returns g c =
    is_defined (words.around c.args.around.now) (plain.definition c.args.d.now) c.as_slice-names.result.now (words.state c.args.state.now)
    (words.state c.count_from-outside.new.self) c.as_slice-names.ensures c.count_from-outside.ensures.state (view.defined c.in_ok-made.made) (words.state c.announced.new.state)
    c.count_from-words.result c.first_name.result c.in_ok-made.ensures c.count_from-words.ensures.counted c.first_name.ensures c.count_from-outside.result
    (words.state c.count_from-words.new.self) (search rules) c.count_from-outside.ensures.counted c.count_from-words.ensures.state
