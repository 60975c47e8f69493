use Rattle.std.proofs.Common.{◌≡◌, ◌++◌, map, drop}
use Rattle.mesa_base.specs.Chain.{chain}
use Rattle.mesa_types.specs.Plain.{arm, case, exit, expr, exprs, operation, stmt, stmts, suffix, target, test}
use Rattle.mesa_types.specs.Typed as t
use Rattle.code_rules.specs.Told.{told_arms, told_cases, told_exits, told_exprs, told_operations, told_stmts, told_suffixes, told_targets, told_tests}
use Rattle.signal_scopes.specs.Views.{jumps_of, arms_of, phrases_of}
use Rattle.signal_scopes.proofs.find_scopes.+scopes.Given as goal

abbrev pub invariant-find_in_exprs-loop-e : goal.invariant-find_in_exprs-loop-e
invariant-find_in_exprs-loop-e l =
    (jumps_of l.fn.jumps ++ (told_exprs (exprs (map expr l.es))).jumps ≡ jumps_of l.jumps ++ (told_exprs (exprs (map expr (drop l.e-index l.es)))).jumps)
    × (phrases_of l.fn.phrases ++ (told_exprs (exprs (map expr l.es))).phrases
    ≡ phrases_of l.phrases ++ (told_exprs (exprs (map expr (drop l.e-index l.es)))).phrases)

abbrev pub invariant-find_in_suffixes-loop-suffix : goal.invariant-find_in_suffixes-loop-suffix
invariant-find_in_suffixes-loop-suffix l =
    (jumps_of l.fn.jumps ++ (told_suffixes (chain (map suffix l.suffixes) t.NoSuffix)).jumps
    ≡ jumps_of l.jumps ++ (told_suffixes (chain (map suffix (drop l.suffix-index l.suffixes)) t.NoSuffix)).jumps)
    × (phrases_of l.fn.phrases ++ (told_suffixes (chain (map suffix l.suffixes) t.NoSuffix)).phrases
    ≡ phrases_of l.phrases ++ (told_suffixes (chain (map suffix (drop l.suffix-index l.suffixes)) t.NoSuffix)).phrases)

abbrev pub invariant-find_in_operations-loop-step : goal.invariant-find_in_operations-loop-step
invariant-find_in_operations-loop-step l =
    (jumps_of l.fn.jumps ++ (told_operations (chain (map operation l.operations) t.NoOperation)).jumps
    ≡ jumps_of l.jumps ++ (told_operations (chain (map operation (drop l.step-index l.operations)) t.NoOperation)).jumps)
    × (phrases_of l.fn.phrases ++ (told_operations (chain (map operation l.operations) t.NoOperation)).phrases
    ≡ phrases_of l.phrases ++ (told_operations (chain (map operation (drop l.step-index l.operations)) t.NoOperation)).phrases)

abbrev pub invariant-find_in_stmts-loop-s : goal.invariant-find_in_stmts-loop-s
invariant-find_in_stmts-loop-s l =
    (jumps_of l.fn.jumps ++ (told_stmts (stmts (map stmt l.ss))).jumps ≡ jumps_of l.jumps ++ (told_stmts (stmts (map stmt (drop l.s-index l.ss)))).jumps)
    × (phrases_of l.fn.phrases ++ (told_stmts (stmts (map stmt l.ss))).phrases
    ≡ phrases_of l.phrases ++ (told_stmts (stmts (map stmt (drop l.s-index l.ss)))).phrases)

abbrev pub invariant-find_in_targets-loop-target : goal.invariant-find_in_targets-loop-target
invariant-find_in_targets-loop-target l =
    (jumps_of l.fn.jumps ++ (told_targets (chain (map target l.targets) t.NoTargets)).jumps
    ≡ jumps_of l.jumps ++ (told_targets (chain (map target (drop l.target-index l.targets)) t.NoTargets)).jumps)
    × (phrases_of l.fn.phrases ++ (told_targets (chain (map target l.targets) t.NoTargets)).phrases
    ≡ phrases_of l.phrases ++ (told_targets (chain (map target (drop l.target-index l.targets)) t.NoTargets)).phrases)

abbrev pub invariant-find_in_cases-loop-case : goal.invariant-find_in_cases-loop-case
invariant-find_in_cases-loop-case l =
    (jumps_of l.fn.jumps ++ (told_cases (chain (map case l.cases) (t.Otherwise t.Null))).jumps
    ≡ jumps_of l.jumps ++ (told_cases (chain (map case (drop l.case-index l.cases)) (t.Otherwise t.Null))).jumps)
    × (phrases_of l.fn.phrases ++ (told_cases (chain (map case l.cases) (t.Otherwise t.Null))).phrases
    ≡ phrases_of l.phrases ++ (told_cases (chain (map case (drop l.case-index l.cases)) (t.Otherwise t.Null))).phrases)

abbrev pub invariant-find_in_tests-loop-test : goal.invariant-find_in_tests-loop-test
invariant-find_in_tests-loop-test l =
    (jumps_of l.fn.jumps ++ (told_tests (chain (map test l.tests) t.NoTests)).jumps
    ≡ jumps_of l.jumps ++ (told_tests (chain (map test (drop l.test-index l.tests)) t.NoTests)).jumps)
    × (phrases_of l.fn.phrases ++ (told_tests (chain (map test l.tests) t.NoTests)).phrases
    ≡ phrases_of l.phrases ++ (told_tests (chain (map test (drop l.test-index l.tests)) t.NoTests)).phrases)

abbrev pub invariant-find_in_exits-loop-exit : goal.invariant-find_in_exits-loop-exit
invariant-find_in_exits-loop-exit l =
    (jumps_of l.fn.jumps ++ (told_exits (chain (map exit l.exits) t.NoExits)).jumps
    ≡ jumps_of l.jumps ++ (told_exits (chain (map exit (drop l.exit-index l.exits)) t.NoExits)).jumps)
    × (phrases_of l.fn.phrases ++ (told_exits (chain (map exit l.exits) t.NoExits)).phrases
    ≡ phrases_of l.phrases ++ (told_exits (chain (map exit (drop l.exit-index l.exits)) t.NoExits)).phrases)

abbrev pub invariant-find_in_arms-loop-arm : goal.invariant-find_in_arms-loop-arm
invariant-find_in_arms-loop-arm l =
    ((told_arms (chain (map arm l.arms) t.NoArms)).arms ≡ arms_of l.found ++ (told_arms (chain (map arm (drop l.arm-index l.arms)) t.NoArms)).arms)
    × (phrases_of l.fn.phrases ++ (told_arms (chain (map arm l.arms) t.NoArms)).phrases
    ≡ phrases_of l.phrases ++ (told_arms (chain (map arm (drop l.arm-index l.arms)) t.NoArms)).phrases)
