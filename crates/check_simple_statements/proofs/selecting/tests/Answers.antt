use Rattle.std.proofs.Common.{map, rules}
use Rattle.mesa_types.specs.Plain.{test}
use Rattle.check_state.specs.Views as words
use Rattle.check_simple_statements.specs.Views as view
use Rattle.check_simple_statements.proofs.Chains.{onto_none}
use Rattle.check_simple_statements.proofs.TestLaws.{tests_at, tests_end, tests_more}
use Rattle.check_simple_statements.proofs.selecting.tests.Goals as goal

pub loop-one-init : goal.loop-one-init
loop-one-init g c = rw c.new-done.ensures (onto_none _)

pub loop-one-preserved : goal.loop-one-preserved
loop-one-preserved g c = rw c.loop-one.invariant (rw (tests_at (words.around c.args.around.now) c.args.start (words.typed c.args.selector.now) (map test c.loop-one.done) c.args.all.now c.loop-one.one-index c.one-item.result (words.state c.loop-one.state) (search rules) (search rules)) (search (rules, tests_more)))

pub returns-in_err-held : goal.returns-in_err-held
returns-in_err-held g c = rw c.loop-one.invariant (rw (tests_at (words.around c.args.around.now) c.args.start (words.typed c.args.selector.now) (map test c.loop-one.done) c.args.all.now c.loop-one.one-index c.one-item.result (words.state c.loop-one.state) (search rules) (search rules)) (search rules))

pub returns : goal.returns
unfolding view.tests
returns g c = rw c.loop-one.invariant (rw (tests_end (words.around c.args.around.now) c.args.start (words.typed c.args.selector.now) (map test c.loop-one.done) c.args.all.now c.loop-one.one-index (words.state c.loop-one.state) (search rules)) (search rules))
