use Rattle.std.proofs.Common.{[], drop, length, map, reverse, ◌++◌, ◌+◌, ◌≡◌, ◌≤◌}
use Rattle.mesa_base.specs.Chain.{chain}
use Rattle.mesa_types.specs.Counts.{hidden_arms, hidden_cases, hidden_exits, hidden_exprs, hidden_operations, hidden_stmts, hidden_suffixes, hidden_targets, hidden_tests}
use Rattle.mesa_types.specs.Plain.{arm, case, exit, expr, exprs, operation, stmt, stmts, suffix, target, test}
use Rattle.mesa_types.specs.Typed as t
use Rattle.code_rules.specs.Slots.{sizes}
use Rattle.code_blocks.specs.Sizes.{size}
use Rattle.code_blocks.specs.Translation as spec
use Rattle.code_trees.specs.ArmRows.{arms_before}
use Rattle.code_trees.specs.Excess.{excess, excess_in_arms}
use Rattle.code_trees.specs.Forms.{blocks_of, case_blocks, exit_blocks, test_blocks}
use Rattle.code_trees.specs.Plain.{in_order, off_in_arms, plain_blocks}
use Rattle.code_trees.specs.Routines.{coded}
use Rattle.code_trees.specs.Rows.{excess_among, sizes_in}
use Rattle.code_bodies.proofs.+blocks.Given as goal

abbrev pub invariant-expressions::values-loop-e : goal.invariant-expressions::values-loop-e
invariant-expressions::values-loop-e l = record {
  block : in_order (plain_blocks l.made.row.blocks) (spec.values (coded l.routine) l.next (exprs (map expr (drop l.e-index l.es))))
      ≡ spec.values (coded l.routine) l.fn.next (exprs (map expr l.es));
  fits : excess (spec.values (coded l.routine) l.next (exprs (map expr (drop l.e-index l.es)))) ≡ 0;
  small : sizes_in (plain_blocks l.made.row.blocks) + size (spec.values (coded l.routine) l.next (exprs (map expr (drop l.e-index l.es)))) ≤
      4294967295;
  words : l.made.sizes ++ sizes (exprs (map expr (drop l.e-index l.es))) ≡ sizes (exprs (map expr l.es));
  next : l.next + hidden_exprs (exprs (map expr (drop l.e-index l.es))) ≡ l.fn.next + hidden_exprs (exprs (map expr l.es));
}

abbrev pub invariant-expressions::operands-loop-e : goal.invariant-expressions::operands-loop-e
invariant-expressions::operands-loop-e l = record {
  block : in_order (plain_blocks l.row.blocks) (spec.operands (coded l.routine) l.next (exprs (map expr (drop l.e-index l.es))) l.sense l.part)
      ≡ spec.operands (coded l.routine) l.fn.next (exprs (map expr l.es)) l.sense l.part;
  fits : excess (spec.operands (coded l.routine) l.next (exprs (map expr (drop l.e-index l.es))) l.sense l.part) ≡ 0;
  small : sizes_in (plain_blocks l.row.blocks) + size (spec.operands (coded l.routine) l.next (exprs (map expr (drop l.e-index l.es))) l.sense l.part)
      ≤ 4294967295;
  next : l.next + hidden_exprs (exprs (map expr (drop l.e-index l.es))) ≡ l.fn.next + hidden_exprs (exprs (map expr l.es));
}

abbrev pub invariant-expressions::operations-loop-step : goal.invariant-expressions::operations-loop-step
invariant-expressions::operations-loop-step l = record {
  block : in_order (plain_blocks l.row.blocks) (spec.operations (coded l.routine) l.next (chain (map operation (drop l.step-index l.rest))
      t.NoOperation))
      ≡ spec.operations (coded l.routine) l.fn.next (chain (map operation l.rest) t.NoOperation);
  fits : excess (spec.operations (coded l.routine) l.next (chain (map operation (drop l.step-index l.rest)) t.NoOperation)) ≡ 0;
  small : sizes_in (plain_blocks l.row.blocks) + size (spec.operations (coded l.routine) l.next (chain (map operation (drop l.step-index l.rest))
      t.NoOperation)) ≤ 4294967295;
  next : l.next + hidden_operations (chain (map operation (drop l.step-index l.rest)) t.NoOperation)
      ≡ l.fn.next + hidden_operations (chain (map operation l.rest) t.NoOperation);
}

abbrev pub invariant-expressions::long_operations-loop-step : goal.invariant-expressions::long_operations-loop-step
invariant-expressions::long_operations-loop-step l = record {
  block : in_order (plain_blocks l.row.blocks) (spec.long_operations (coded l.routine) l.next (chain (map operation (drop l.step-index l.rest))
      t.NoOperation))
      ≡ spec.long_operations (coded l.routine) l.fn.next (chain (map operation l.rest) t.NoOperation);
  fits : excess (spec.long_operations (coded l.routine) l.next (chain (map operation (drop l.step-index l.rest)) t.NoOperation)) ≡ 0;
  small : sizes_in (plain_blocks l.row.blocks) + size (spec.long_operations (coded l.routine) l.next (chain (map operation (drop l.step-index l.rest))
      t.NoOperation)) ≤ 4294967295;
  next : l.next + hidden_operations (chain (map operation (drop l.step-index l.rest)) t.NoOperation)
      ≡ l.fn.next + hidden_operations (chain (map operation l.rest) t.NoOperation);
}

abbrev pub invariant-expressions::path-loop-suffix : goal.invariant-expressions::path-loop-suffix
invariant-expressions::path-loop-suffix l = record {
  block : in_order (plain_blocks l.row.blocks) (spec.path (coded l.routine) l.next (chain (map suffix (drop l.suffix-index l.suffixes)) t.NoSuffix))
      ≡ spec.path (coded l.routine) l.fn.next (chain (map suffix l.suffixes) t.NoSuffix);
  fits : excess (spec.path (coded l.routine) l.next (chain (map suffix (drop l.suffix-index l.suffixes)) t.NoSuffix)) ≡ 0;
  small : sizes_in (plain_blocks l.row.blocks) + size (spec.path (coded l.routine) l.next (chain (map suffix (drop l.suffix-index l.suffixes))
      t.NoSuffix)) ≤ 4294967295;
  next : l.next + hidden_suffixes (chain (map suffix (drop l.suffix-index l.suffixes)) t.NoSuffix)
      ≡ l.fn.next + hidden_suffixes (chain (map suffix l.suffixes) t.NoSuffix);
}

abbrev pub invariant-phrases::arm_blocks-loop-arm : goal.invariant-phrases::arm_blocks-loop-arm
invariant-phrases::arm_blocks-loop-arm l = record {
  arms : arms_before l.made (spec.arm_blocks (coded l.routine) l.next (chain (map arm (drop l.arm-index l.arms)) t.NoArms))
      ≡ spec.arm_blocks (coded l.routine) l.fn.next (chain (map arm l.arms) t.NoArms);
  right : off_in_arms l.made ≡ 0;
  fits : excess_in_arms (spec.arm_blocks (coded l.routine) l.next (chain (map arm (drop l.arm-index l.arms)) t.NoArms)) ≡ 0;
  next : l.next + hidden_arms (chain (map arm (drop l.arm-index l.arms)) t.NoArms)
      ≡ l.fn.next + hidden_arms (chain (map arm l.arms) t.NoArms);
}

abbrev pub invariant-statements::blocks-loop-s : goal.invariant-statements::blocks-loop-s
invariant-statements::blocks-loop-s l = record {
  block : in_order (plain_blocks l.row.blocks) (spec.blocks (coded l.routine) l.next (stmts (map stmt (drop l.s-index l.ss))))
      ≡ spec.blocks (coded l.routine) l.fn.next (stmts (map stmt l.ss));
  fits : excess (spec.blocks (coded l.routine) l.next (stmts (map stmt (drop l.s-index l.ss)))) ≡ 0;
  next : l.next + hidden_stmts (stmts (map stmt (drop l.s-index l.ss))) ≡ l.fn.next + hidden_stmts (stmts (map stmt l.ss));
}

abbrev pub invariant-cases::cases-loop-case : goal.invariant-cases::cases-loop-case
invariant-cases::cases-loop-case l = record {
  blocks : plain_blocks l.row.blocks ++ case_blocks (coded l.routine) l.next l.slot l.passes (chain (map case (drop l.case-index l.cs))
      (t.Otherwise t.Null))
      ≡ case_blocks (coded l.routine) l.fn.next l.slot l.passes (chain (map case l.cs) (t.Otherwise t.Null));
  fits : excess_among (case_blocks (coded l.routine) l.next l.slot l.passes (chain (map case (drop l.case-index l.cs)) (t.Otherwise t.Null))) ≡ 0;
  at : l.at ≡ l.case-index;
  next : l.next + hidden_cases (chain (map case (drop l.case-index l.cs)) (t.Otherwise t.Null))
      ≡ l.fn.next + hidden_cases (chain (map case l.cs) (t.Otherwise t.Null));
}

abbrev pub invariant-loops::exits-loop-exit : goal.invariant-loops::exits-loop-exit
invariant-loops::exits-loop-exit l = record {
  blocks : blocks_of l.held.parts.items ++ exit_blocks (coded l.routine) l.next (chain (map exit (drop l.exit-index l.es)) t.NoExits)
      ≡ exit_blocks (coded l.routine) l.fn.next (chain (map exit l.es) t.NoExits);
  fits : excess_among (exit_blocks (coded l.routine) l.next (chain (map exit (drop l.exit-index l.es)) t.NoExits)) ≡ 0;
  next : l.next + hidden_exits (chain (map exit (drop l.exit-index l.es)) t.NoExits) ≡ l.fn.next + hidden_exits (chain (map exit l.es) t.NoExits);
}

abbrev pub invariant-cases::tests-loop-of : goal.invariant-cases::tests-loop-of
invariant-cases::tests-loop-of l = record {
  blocks : plain_blocks l.row.blocks ++ test_blocks (coded l.routine) l.next l.slot (chain (map test (drop l.of-index l.ts)) t.NoTests)
      ≡ test_blocks (coded l.routine) l.fn.next l.slot (chain (map test l.ts) t.NoTests);
  left : l.left ≡ length (drop l.of-index l.ts);
  next : l.next + hidden_tests (chain (map test (drop l.of-index l.ts)) t.NoTests) ≡ l.fn.next + hidden_tests (chain (map test l.ts) t.NoTests);
}

abbrev pub invariant-targets::targets-loop-target : goal.invariant-targets::targets-loop-target
invariant-targets::targets-loop-target l = record {
  block : in_order (plain_blocks l.held.row.blocks)
      (spec.targets (coded l.routine) l.next l.all (reverse l.held.taken) (chain (map target (drop l.target-index l.ts)) t.NoTargets))
      ≡ spec.targets (coded l.routine) l.fn.next l.all [] (chain (map target l.ts) t.NoTargets);
  next : l.next + hidden_targets (chain (map target (drop l.target-index l.ts)) t.NoTargets)
      ≡ l.fn.next + hidden_targets (chain (map target l.ts) t.NoTargets);
}
