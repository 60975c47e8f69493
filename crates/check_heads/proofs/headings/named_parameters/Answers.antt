use Rattle.std.proofs.Common.{map, rules}
use Rattle.syntax_trees.specs.PlainSyntax as plain
use Rattle.interface_records.specs.PlainTypes.{plain_field}
use Rattle.check_state.specs.Views as words
use Rattle.check_heads.proofs.HeadingLaws.{parameters_at, parameters_end, parameters_first}
use Rattle.check_heads.proofs.headings.named_parameters.Goals as goal

pub loop-one-preserved : goal.loop-one-preserved
loop-one-preserved g c = rw c.loop-one.invariant (rw (parameters_at (words.around c.args.around.now) (map plain_field c.loop-one.done) c.args.all.now c.loop-one.one-index c.one-item.result (words.state c.loop-one.state) (search rules) (search rules)) (search rules))

pub returns : goal.returns
returns g c = rw (parameters_first (words.around c.args.around.now) (plain.named_fields c.args.all.now) (words.state c.args.state.now)) (rw c.loop-one.invariant (rw (parameters_end (words.around c.args.around.now) (map plain_field c.loop-one.done) c.args.all.now c.loop-one.one-index (words.state c.loop-one.state) (search rules)) (search rules)))

pub returns-in_err-held : goal.returns-in_err-held
returns-in_err-held g c = rw (parameters_first (words.around c.args.around.now) (plain.named_fields c.args.all.now) (words.state c.args.state.now)) (rw c.loop-one.invariant (rw (parameters_at (words.around c.args.around.now) (map plain_field c.loop-one.done) c.args.all.now c.loop-one.one-index c.one-item.result (words.state c.loop-one.state) (search rules) (search rules)) (search rules)))

pub returns-in_err-held-2 : goal.returns-in_err-held-2
returns-in_err-held-2 g c = rw (parameters_first (words.around c.args.around.now) (plain.named_fields c.args.all.now) (words.state c.args.state.now)) (rw c.loop-one.invariant (rw (parameters_at (words.around c.args.around.now) (map plain_field c.loop-one.done) c.args.all.now c.loop-one.one-index c.one-item.result (words.state c.loop-one.state) (search rules) (search rules)) (search rules)))
