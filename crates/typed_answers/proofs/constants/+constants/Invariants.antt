use Rattle.std.proofs.Common.{◌≡◌, map, drop, Some}
use Rattle.std.specs.Prelude.{◌&&◌, ◌||◌}
use Rattle.mesa_types.specs.mesa_base.specs.Chain.{chain}
use Rattle.mesa_types.specs.Constants.{constant_run, constant_long_run, all_true, some_true, ◌>>=◌}
use Rattle.mesa_types.specs.Plain.{expr, exprs, operation}
use Rattle.mesa_types.specs.Typed.{NoOperation}
use Rattle.typed_answers.proofs.constants.+constants.Given as goal

abbrev pub invariant-constant_run-loop-step : goal.invariant-constant_run-loop-step
invariant-constant_run-loop-step l =
    constant_run (chain (map operation l.rest) NoOperation) l.first ≡ constant_run (chain (map operation (drop l.step-index l.rest)) NoOperation) l.word

abbrev pub invariant-constant_long_run-loop-step : goal.invariant-constant_long_run-loop-step
invariant-constant_long_run-loop-step l =
    constant_long_run (chain (map operation l.rest) NoOperation) l.first ≡ constant_long_run (chain (map operation (drop l.step-index l.rest)) NoOperation) l.number

abbrev pub invariant-all_true-loop-e : goal.invariant-all_true-loop-e
invariant-all_true-loop-e l =
    all_true (exprs (map expr l.all)) ≡ all_true (exprs (map expr (drop l.e-index l.all))) >>= (λ b. Some (l.are_true && b))

abbrev pub invariant-some_true-loop-e : goal.invariant-some_true-loop-e
invariant-some_true-loop-e l =
    some_true (exprs (map expr l.all)) ≡ some_true (exprs (map expr (drop l.e-index l.all))) >>= (λ b. Some (l.is_one_true || b))
