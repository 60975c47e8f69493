use Rattle.std.proofs.Common.{map, drop}
use Rattle.mesa_base.specs.Chain.{chain}
use Rattle.mesa_types.specs.Counts.{hidden_arms, hidden_cases, hidden_exits, hidden_exprs, hidden_operations, hidden_stmts, hidden_suffixes, hidden_targets, hidden_tests}
use Rattle.mesa_types.specs.Plain.{arm, case, exit, expr, exprs, operation, stmt, stmts, suffix, target, test}
use Rattle.mesa_types.specs.Typed as t
use Rattle.code_counts.proofs.WordLaws.{Counted}
use Rattle.code_counts.proofs.hidden.+hidden.Given as goal

abbrev pub invariant-in_exprs-loop-e : goal.invariant-in_exprs-loop-e
invariant-in_exprs-loop-e l = Counted l.words (hidden_exprs (exprs (map expr (drop l.e-index l.es)))) (hidden_exprs (exprs (map expr l.es)))

abbrev pub invariant-in_suffixes-loop-suffix : goal.invariant-in_suffixes-loop-suffix
invariant-in_suffixes-loop-suffix l =
    Counted l.words (hidden_suffixes (chain (map suffix (drop l.suffix-index l.suffixes)) t.NoSuffix)) (hidden_suffixes (chain (map suffix l.suffixes) t.NoSuffix))

abbrev pub invariant-in_operations-loop-step : goal.invariant-in_operations-loop-step
invariant-in_operations-loop-step l =
    Counted l.words (hidden_operations (chain (map operation (drop l.step-index l.operations)) t.NoOperation))
    (hidden_operations (chain (map operation l.operations) t.NoOperation))

abbrev pub invariant-in_arms-loop-arm : goal.invariant-in_arms-loop-arm
invariant-in_arms-loop-arm l =
    Counted l.words (hidden_arms (chain (map arm (drop l.arm-index l.arms)) t.NoArms)) (hidden_arms (chain (map arm l.arms) t.NoArms))

abbrev pub invariant-in_stmts-loop-s : goal.invariant-in_stmts-loop-s
invariant-in_stmts-loop-s l = Counted l.words (hidden_stmts (stmts (map stmt (drop l.s-index l.ss)))) (hidden_stmts (stmts (map stmt l.ss)))

abbrev pub invariant-in_targets-loop-target : goal.invariant-in_targets-loop-target
invariant-in_targets-loop-target l =
    Counted l.words (hidden_targets (chain (map target (drop l.target-index l.targets)) t.NoTargets)) (hidden_targets (chain (map target l.targets) t.NoTargets))

abbrev pub invariant-in_cases-loop-case : goal.invariant-in_cases-loop-case
invariant-in_cases-loop-case l =
    Counted l.words (hidden_cases (chain (map case (drop l.case-index l.cases)) (t.Otherwise t.Null)))
    (hidden_cases (chain (map case l.cases) (t.Otherwise t.Null)))

abbrev pub invariant-in_tests-loop-test : goal.invariant-in_tests-loop-test
invariant-in_tests-loop-test l =
    Counted l.words (hidden_tests (chain (map test (drop l.test-index l.tests)) t.NoTests)) (hidden_tests (chain (map test l.tests) t.NoTests))

abbrev pub invariant-in_exits-loop-exit : goal.invariant-in_exits-loop-exit
invariant-in_exits-loop-exit l =
    Counted l.words (hidden_exits (chain (map exit (drop l.exit-index l.exits)) t.NoExits)) (hidden_exits (chain (map exit l.exits) t.NoExits))
