use Rattle.std.proofs.Common.{map, rules, arith}
use Rattle.mesa_types.specs.Plain.{expr}
use Rattle.syntax_trees.specs.PlainSyntax as plain
use Rattle.syntax_trees.specs.declared.syntax.Expr.{Expr}
use Rattle.syntax_trees.specs.declared.syntax.Keyed.{Keyed}
use Rattle.check_state.specs.Views as words
use Rattle.check_operands.specs.check_selectors.specs.Views as reaching
use Rattle.check_operands.specs.Lists.{value_turn}
use Rattle.check_operands.specs.Runs as runs
use Rattle.check_operands.specs.Views as view
use Rattle.check_expressions.proofs.Folding.{folded_at, folded_end, folded_view_end}
use Rattle.check_expressions.proofs.ListLaws.{arguments_fit, arguments_other, values_are, keyed_are, value_at}
use Rattle.check_expressions.proofs.RunLaws.{sums_folded, truths_folded, truth_at, exprs_more, walk_folded}
use Rattle.check_expressions.proofs.expressions.Checker.+expressions.Goals as goal

pub sums-loop-one-preserved : goal.sums-loop-one-preserved
sums-loop-one-preserved g t c = rw c.loop-one.invariant (rw (folded_at (runs.sum_turn (words.around c.args.around.now)) (view.run c.loop-one.done) c.args.all.now c.loop-one.one-index c.one-item.result (words.state c.loop-one.state) (search rules) (search rules)) (search rules))

pub sums-returns-in_err-done : goal.sums-returns-in_err-done
sums-returns-in_err-done g t c = rw (sums_folded (words.around c.args.around.now) c.args.start (words.typed c.args.first) c.args.all.now (words.state c.args.state.now)) (rw c.loop-one.invariant (rw (folded_at (runs.sum_turn (words.around c.args.around.now)) (view.run c.loop-one.done) c.args.all.now c.loop-one.one-index c.one-item.result (words.state c.loop-one.state) (search rules) (search rules)) (search rules)))

pub sums-returns : goal.sums-returns
sums-returns g t c = rw (sums_folded (words.around c.args.around.now) c.args.start (words.typed c.args.first) c.args.all.now (words.state c.args.state.now)) (rw c.loop-one.invariant (rw (folded_end (runs.sum_turn (words.around c.args.around.now)) (view.run c.loop-one.done) c.args.all.now c.loop-one.one-index (words.state c.loop-one.state) (search rules)) (search rules)))

pub truths-loop-one-preserved : goal.truths-loop-one-preserved
truths-loop-one-preserved g t c = rw c.loop-one.invariant (rw (truth_at (words.around c.args.around.now) c.loop-one.done c.loop-one.fits c.args.all.now c.loop-one.one-index c.one-item.result (words.state c.loop-one.state) (search rules) (search rules)) (search (rules, exprs_more)))

pub truths-returns-in_err-held : goal.truths-returns-in_err-held
truths-returns-in_err-held g t c = rw (truths_folded (words.around c.args.around.now) (words.typed c.args.first) c.args.all.now (words.state c.args.state.now)) (rw c.loop-one.invariant (rw (truth_at (words.around c.args.around.now) c.loop-one.done c.loop-one.fits c.args.all.now c.loop-one.one-index c.one-item.result (words.state c.loop-one.state) (search rules) (search rules)) (search rules)))

pub truths-returns : goal.truths-returns
unfolding view.exprs
truths-returns g t c = rw (truths_folded (words.around c.args.around.now) (words.typed c.args.first) c.args.all.now (words.state c.args.state.now)) (rw c.loop-one.invariant (rw (folded_end (runs.truth_turn (words.around c.args.around.now)) (map expr c.loop-one.done, c.loop-one.fits) c.args.all.now c.loop-one.one-index (words.state c.loop-one.state) (search rules)) (search rules)))

pub walk-loop-suffix-preserved : goal.walk-loop-suffix-preserved
walk-loop-suffix-preserved g t c = rw c.loop-suffix.invariant (rw (folded_at (runs.suffix (words.around c.args.around.now) (reaching.way c.args.way)) (view.at c.loop-suffix.at) c.args.suffixes.now c.loop-suffix.suffix-index c.suffix-item.result (words.state c.loop-suffix.state) (search rules) (search rules)) (search rules))

pub walk-returns-in_err-at : goal.walk-returns-in_err-at
walk-returns-in_err-at g t c = rw (walk_folded (words.around c.args.around.now) (reaching.way c.args.way) c.args.from.last (reaching.reached c.args.from.reached) c.args.suffixes.now (words.state c.args.state.now)) (rw c.loop-suffix.invariant (rw (folded_at (runs.suffix (words.around c.args.around.now) (reaching.way c.args.way)) (view.at c.loop-suffix.at) c.args.suffixes.now c.loop-suffix.suffix-index c.suffix-item.result (words.state c.loop-suffix.state) (search rules) (search rules)) (search rules)))

pub walk-returns : goal.walk-returns
walk-returns g t c = rw (walk_folded (words.around c.args.around.now) (reaching.way c.args.way) c.args.from.last (reaching.reached c.args.from.reached) c.args.suffixes.now (words.state c.args.state.now)) (rw c.loop-suffix.invariant (rw (folded_end (runs.suffix (words.around c.args.around.now) (reaching.way c.args.way)) (view.at c.loop-suffix.at) c.args.suffixes.now c.loop-suffix.suffix-index (words.state c.loop-suffix.state) (search rules)) (search rules)))

pub values-loop-e-preserved : goal.values-loop-e-preserved
values-loop-e-preserved g t c = rw c.loop-e.invariant (rw (value_at plain.expr (words.around c.args.around.now) (view.wanted c.args.wanted) c.loop-e.done c.args.all.now c.loop-e.e-index c.e-item.result (words.state c.loop-e.state) (search rules) (search rules)) (search (rules, exprs_more)))

pub values-returns-in_err-held : goal.values-returns-in_err-held
values-returns-in_err-held g t c = rw (values_are (words.around c.args.around.now) (view.wanted c.args.wanted) c.args.all.now (words.state c.args.state.now)) (rw c.loop-e.invariant (rw (value_at plain.expr (words.around c.args.around.now) (view.wanted c.args.wanted) c.loop-e.done c.args.all.now c.loop-e.e-index c.e-item.result (words.state c.loop-e.state) (search rules) (search rules)) (search rules)))

pub values-returns : goal.values-returns
unfolding view.exprs
values-returns g t c = rw (values_are (words.around c.args.around.now) (view.wanted c.args.wanted) c.args.all.now (words.state c.args.state.now)) (rw c.loop-e.invariant (rw (folded_view_end plain.expr (value_turn (words.around c.args.around.now) (view.wanted c.args.wanted)) (map expr c.loop-e.done) c.args.all.now c.loop-e.e-index (words.state c.loop-e.state) (search rules)) (search rules)))

pub keyed-loop-one-preserved : goal.keyed-loop-one-preserved
keyed-loop-one-preserved g t c = rw c.loop-one.invariant (rw (value_at (λ (x : Keyed Expr). plain.expr x.item) (words.around c.args.around.now) (view.wanted c.args.wanted) c.loop-one.done c.args.all.now c.loop-one.one-index c.one-item.result (words.state c.loop-one.state) (search rules) (search rules)) (search (rules, exprs_more)))

pub keyed-returns-in_err-held : goal.keyed-returns-in_err-held
keyed-returns-in_err-held g t c = rw (keyed_are (words.around c.args.around.now) (view.wanted c.args.wanted) c.args.all.now (words.state c.args.state.now)) (rw c.loop-one.invariant (rw (value_at (λ (x : Keyed Expr). plain.expr x.item) (words.around c.args.around.now) (view.wanted c.args.wanted) c.loop-one.done c.args.all.now c.loop-one.one-index c.one-item.result (words.state c.loop-one.state) (search rules) (search rules)) (search rules)))

pub keyed-returns : goal.keyed-returns
unfolding view.exprs
keyed-returns g t c = rw (keyed_are (words.around c.args.around.now) (view.wanted c.args.wanted) c.args.all.now (words.state c.args.state.now)) (rw c.loop-one.invariant (rw (folded_view_end (λ (x : Keyed Expr). plain.expr x.item) (value_turn (words.around c.args.around.now) (view.wanted c.args.wanted)) (map expr c.loop-one.done) c.args.all.now c.loop-one.one-index (words.state c.loop-one.state) (search rules)) (search rules)))

pub arguments_in_order-returns-then-all-fields : goal.arguments_in_order-returns-then-all-fields
arguments_in_order-returns-then-all-fields g t c = rw (arguments_other (words.around c.args.around.now) c.args.fields.now c.args.place c.args.all.now (words.state c.args.state.now) (λ e. absurd (omega arith))) (search rules)

pub arguments_in_order-returns-in_err-values : goal.arguments_in_order-returns-in_err-values
arguments_in_order-returns-in_err-values g t c = rw (arguments_fit (words.around c.args.around.now) c.args.fields.now c.args.place c.args.all.now (words.state c.args.state.now) (omega arith)) (search rules)

pub arguments_in_order-returns : goal.arguments_in_order-returns
arguments_in_order-returns g t c = rw (arguments_fit (words.around c.args.around.now) c.args.fields.now c.args.place c.args.all.now (words.state c.args.state.now) (omega arith)) (search rules)
