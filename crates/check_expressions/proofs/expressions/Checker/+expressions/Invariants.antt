use Rattle.std.proofs.Common.{◌≡◌, [], ◌∷◌, drop, map}
use Rattle.mesa_types.specs.Plain.{expr}
use Rattle.syntax_trees.specs.PlainSyntax as plain
use Rattle.syntax_trees.specs.declared.syntax.Expr.{Expr}
use Rattle.syntax_trees.specs.declared.syntax.Keyed.{Keyed}
use Rattle.check_rules.specs.Values.{is_truth}
use Rattle.check_state.specs.Views as words
use Rattle.check_operands.specs.check_selectors.specs.Views as reaching
use Rattle.check_operands.specs.Folds.{folded}
use Rattle.check_operands.specs.Lists.{value_turn}
use Rattle.check_operands.specs.Runs as runs
use Rattle.check_operands.specs.Views as view
use Rattle.check_expressions.proofs.expressions.Checker.+expressions.Given as goal

abbrev pub invariant-sums-loop-one : goal.invariant-sums-loop-one
invariant-sums-loop-one g l =
    folded (runs.sum_turn (words.around l.around)) (runs.begun l.fn.start (words.typed l.fn.first)) l.all (words.state l.fn.state)
    ≡ folded (runs.sum_turn (words.around l.around)) (view.run l.done) (drop l.one-index l.all) (words.state l.state)

abbrev pub invariant-truths-loop-one : goal.invariant-truths-loop-one
invariant-truths-loop-one g l =
    folded (runs.truth_turn (words.around l.around)) (expr l.fn.first.value ∷ [], is_truth (words.typed l.fn.first).kind) l.all (words.state l.fn.state)
    ≡ folded (runs.truth_turn (words.around l.around)) (map expr l.done, l.fits) (drop l.one-index l.all) (words.state l.state)

abbrev pub invariant-walk-loop-suffix : goal.invariant-walk-loop-suffix
invariant-walk-loop-suffix g l =
    folded (runs.suffix (words.around l.around) (reaching.way l.way)) (view.at l.fn.from) l.suffixes (words.state l.fn.state)
    ≡ folded (runs.suffix (words.around l.around) (reaching.way l.way)) (view.at l.at) (drop l.suffix-index l.suffixes) (words.state l.state)

abbrev pub invariant-values-loop-e : goal.invariant-values-loop-e
invariant-values-loop-e g l =
    folded (value_turn (words.around l.around) (view.wanted l.wanted)) [] (map plain.expr l.all) (words.state l.fn.state)
    ≡ folded (value_turn (words.around l.around) (view.wanted l.wanted)) (map expr l.done) (map plain.expr (drop l.e-index l.all)) (words.state l.state)

abbrev pub invariant-keyed-loop-one : goal.invariant-keyed-loop-one
invariant-keyed-loop-one g l =
    folded (value_turn (words.around l.around) (view.wanted l.wanted)) [] (map (λ (x : Keyed Expr). plain.expr x.item) l.all) (words.state l.fn.state)
    ≡ folded (value_turn (words.around l.around) (view.wanted l.wanted)) (map expr l.done) (map (λ (x : Keyed Expr). plain.expr x.item) (drop l.one-index l.all)) (words.state l.state)
