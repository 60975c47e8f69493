-- The answers of lists of statements, cases, tests, targets and arms.
use Rattle.std.proofs.Common.{List, ap, arith, drop, map, refl, sym, ℕ, ◌+◌, ◌∙◌, ◌≡◌}
use Rattle.std.specs.Prelude.{IfOk, Ok, OnOk, Result, not}
use Rattle.mesa_base.specs.Chain.{chain}
use Rattle.mesa_types.specs.Counts.{hidden_suffixes, hidden_tests}
use Rattle.mesa_types.specs.Plain.{case, stmt, suffix, test}
use Rattle.mesa_types.specs.Typed as t
use Rattle.mesa_types.specs.declared.typed_tree.Suffix.{Suffix}
use Rattle.code_rules.specs.Reading.{Coded}
use Rattle.code_blocks.specs.Blocks.{Does}
use Rattle.code_blocks.specs.Translation as spec
use Rattle.code_trees.proofs.ExitLaws.{none_left, some_left}
use Rattle.code_trees.proofs.Splits.{arms_split}
use Rattle.code_trees.proofs.Walks.{arm_first, arm_words, arms_fit, hidden_arm, hidden_arm_next}
use Rattle.code_trees.specs.Excess.{excess}
use Rattle.code_trees.specs.Forms.{blocks_of, goes_on}
use Rattle.code_trees.specs.Plain.{in_order, plain, plain_blocks}
use Rattle.code_trees.specs.Routines.{coded}
use Rattle.code_trees.specs.declared.held_parts.Held.{Held}
use Rattle.code_trees.specs.declared.part.Part.{Part}
use Rattle.code_trees.specs.declared.part.Row.{Row}
use Rattle.code_trees.specs.declared.target_forms.Taking.{Taking}
use Rattle.code_bodies.proofs.ArmTurns.{arm_turn, arms_begun, arms_done, arms_hidden, off_begun}
use Rattle.code_bodies.proofs.ListWalks.{case_more, case_small, cases_end_hidden, cases_end_is, cases_hidden, exit_more, exits_end_hidden, exits_end_is, exits_hidden, stmt_more, stmt_small, stmts_end_hidden, stmts_end_is, stmts_hidden, target_fits, target_more, target_small, targets_end_hidden, targets_end_is, targets_hidden, way_fits}
use Rattle.code_bodies.proofs.LoopWalks.{held_together}
use Rattle.code_bodies.proofs.RowWalks.{made_as, next_held, next_made, one_fewer, part_made, tail_among, tail_fits, whole_small}
use Rattle.code_bodies.proofs.StatementWalks.{case_same}
use Rattle.code_bodies.proofs.TestWalks.{case_parts, long_related_form, long_related_hidden, long_related_value_fits, long_within_bounds_fit, long_within_form, long_within_hidden, related_form, related_hidden, related_value_fits, test_fits, test_more, test_small, tests_end_hidden, tests_end_is, tests_hidden, tests_whole, within_bounds_fit, within_form, within_hidden}
use Rattle.code_bodies.proofs.+blocks.Goals as goal

way_is : {E : Type 0} (P : Coded) (z : ℕ) (r : Result Part E) (x : Part) (read ss : List Suffix) → r ≡ Ok x
    → IfOk r (λ y. plain y.block ≡ spec.path P z (chain (map suffix read) t.NoSuffix)) → read ≡ ss → plain x.block ≡ spec.path P z
    (chain (map suffix ss) t.NoSuffix)
way_is P z r x read ss is h same = part_made r x _ is h ∙ ap (λ l. spec.path P z (chain (map suffix l) t.NoSuffix)) same

after_is : {E : Type 0} (r : Result Part E) (x : Part) (z new : ℕ) (read ss : List Suffix) → r ≡ Ok x
    → OnOk r (new ≡ z + hidden_suffixes (chain (map suffix read) t.NoSuffix)) → read ≡ ss → new ≡ z + hidden_suffixes
    (chain (map suffix ss) t.NoSuffix)
after_is r x z new read ss is h same = next_made r x _ _ is h ∙ ap (λ l. z + hidden_suffixes (chain (map suffix l) t.NoSuffix)) same

pub phrases::arm_blocks-loop-arm-init : goal.phrases::arm_blocks-loop-arm-init
phrases::arm_blocks-loop-arm-init m c = record {
  arms = arms_begun _ _ c.new-made.ensures;
  right = off_begun _ c.new-made.ensures;
  fits = c.requires.fits;
  next = refl;
}

pub phrases::arm_blocks-room_for_statement-requires-clause-room : goal.phrases::arm_blocks-room_for_statement-requires-clause-room
phrases::arm_blocks-room_for_statement-requires-clause-room m c =
    let split = arms_split c.args.arms.now c.loop-arm.arm-index c.arm-item.result c.loop-arm-test.true c.arm-item.is in
    omega (arith, c.loop-arm.invariant.next, c.requires.room, hidden_arm (coded c.args.routine.now) 0 0 _ _ _ _ _ _ split)

pub phrases::arm_blocks-armed-requires-clause-few : goal.phrases::arm_blocks-armed-requires-clause-few
phrases::arm_blocks-armed-requires-clause-few m c =
    let split = arms_split c.args.arms.now c.loop-arm.arm-index c.arm-item.result c.loop-arm-test.true c.arm-item.is in
    arm_words (coded c.args.routine.now) c.loop-arm.next 0 _ _ _ _ _ _ split c.loop-arm.invariant.fits

pub phrases::arm_blocks-loop-arm-preserved : goal.phrases::arm_blocks-loop-arm-preserved
phrases::arm_blocks-loop-arm-preserved m c =
    let P = coded c.args.routine.now in
    let split = arms_split c.args.arms.now c.loop-arm.arm-index c.arm-item.result c.loop-arm-test.true c.arm-item.is in
    let made = rw c.in_ok-held.ensures.1 at c.block.ensures.block in
    let after = rw c.in_ok-held.ensures.1 at c.block.ensures.next in
    record {
      arms = arm_turn P c.loop-arm.next _ _ _ _ _ _ _ _ _ _ _ _ split c.as_slice-on.ensures c.in_ok-held.ensures.0 made after
          c.in_ok-made.ensures.arms _ c.loop-arm.invariant.arms;
      right = c.in_ok-made.ensures.right;
      fits = arms_fit P c.loop-arm.next _ _ _ _ _ _ _ split after c.loop-arm.invariant.fits;
      next = hidden_arm_next P c.loop-arm.next _ _ _ _ _ _ _ split after ∙ c.loop-arm.invariant.next;
    }

pub phrases::arm_blocks-returns-clause-blocks : goal.phrases::arm_blocks-returns-clause-blocks
phrases::arm_blocks-returns-clause-blocks m c = arms_done (coded c.args.routine.now) c.loop-arm.next c.loop-arm.arm-index c.args.arms.now _ _
    c.loop-arm-test.false c.loop-arm.invariant.arms

pub phrases::arm_blocks-returns-clause-next : goal.phrases::arm_blocks-returns-clause-next
phrases::arm_blocks-returns-clause-next m c = arms_hidden c.loop-arm.arm-index _ _ c.args.arms.now c.loop-arm-test.false c.loop-arm.invariant.next

pub statements::blocks-joined-requires : goal.statements::blocks-joined-requires
statements::blocks-joined-requires m c =
    stmt_small (coded c.args.routine.now) c.args.next.now c.args.ss.now c.loop-s.s-index c.s-item.result (plain_blocks c.loop-s.row.blocks)
    c.loop-s.next c.loop-s-test.true c.s-item.is c.loop-s.invariant.block c.requires.fits (plain_blocks c.in_ok-held.held.blocks) _
    (ap (λ (r : Row). plain_blocks r.blocks) c.in_ok-held.ensures.0) (part_made c.block.result c.in_ok-held.made _ c.in_ok-held.ensures.1
    c.block.ensures.block)

pub statements::blocks-loop-s-preserved : goal.statements::blocks-loop-s-preserved
statements::blocks-loop-s-preserved m c =
    let after = next_made c.block.result c.in_ok-held.made _ _ c.in_ok-held.ensures.1 c.block.ensures.next in
    record {
      block = stmt_more (coded c.args.routine.now) c.args.next.now c.args.ss.now c.loop-s.s-index c.s-item.result (plain_blocks c.loop-s.row.blocks)
          c.loop-s.next c.loop-s-test.true c.s-item.is c.loop-s.invariant.block c.requires.fits c.block.new.next
          (plain_blocks c.in_ok-held.held.blocks) _ _ after (ap (λ (r : Row). plain_blocks r.blocks) c.in_ok-held.ensures.0)
          (part_made c.block.result c.in_ok-held.made _ c.in_ok-held.ensures.1 c.block.ensures.block) c.in_ok-row.ensures;
      fits = tail_fits _ _ _ (stmt_more (coded c.args.routine.now) c.args.next.now c.args.ss.now c.loop-s.s-index c.s-item.result
          (plain_blocks c.loop-s.row.blocks) c.loop-s.next c.loop-s-test.true c.s-item.is c.loop-s.invariant.block c.requires.fits c.block.new.next
          (plain_blocks c.in_ok-held.held.blocks) (plain_blocks c.in_ok-row.row.blocks) _ after (ap (λ (r : Row). plain_blocks r.blocks)
          c.in_ok-held.ensures.0) (part_made c.block.result c.in_ok-held.made _ c.in_ok-held.ensures.1 c.block.ensures.block) c.in_ok-row.ensures)
          c.requires.fits;
      next = omega (
        arith,
        after,
        stmts_hidden c.args.ss.now c.loop-s.s-index c.s-item.result c.loop-s-test.true c.s-item.is,
        c.loop-s.invariant.next,
      );
    }

pub statements::blocks-closed-requires : goal.statements::blocks-closed-requires
statements::blocks-closed-requires m c =
    whole_small _ _ _ (ap (in_order (plain_blocks c.loop-s.row.blocks)) (c.does.ensures ∙ ap Does c.new.ensures) ∙ stmts_end_is
    (coded c.args.routine.now) c.args.next.now c.args.ss.now c.loop-s.s-index (plain_blocks c.loop-s.row.blocks) c.loop-s.next c.loop-s-test.false
    c.loop-s.invariant.block) c.requires.fits

pub statements::blocks-returns-clause-block : goal.statements::blocks-returns-clause-block
statements::blocks-returns-clause-block m c =
    made_as c.closed.result _ _ c.closed.ensures (ap (in_order (plain_blocks c.loop-s.row.blocks)) (c.does.ensures ∙ ap Does c.new.ensures)
    ∙ stmts_end_is (coded c.args.routine.now) c.args.next.now c.args.ss.now c.loop-s.s-index (plain_blocks c.loop-s.row.blocks) c.loop-s.next
    c.loop-s-test.false c.loop-s.invariant.block)

pub statements::blocks-returns-clause-next : goal.statements::blocks-returns-clause-next
statements::blocks-returns-clause-next m c =
    next_held c.closed.result _ _ (omega (
      arith,
      c.loop-s.invariant.next,
      stmts_end_hidden (coded c.args.routine.now) c.args.next.now c.args.ss.now
          c.loop-s.s-index (plain_blocks c.loop-s.row.blocks) c.loop-s.next c.loop-s-test.false,
    ))

pub cases::cases-joined-requires : goal.cases::cases-joined-requires
cases::cases-joined-requires m c =
    case_small (coded c.args.routine.now) c.args.next.now c.args.slot c.args.passes c.jumps_past-jumps.result c.args.cs.now c.loop-case.case-index
    c.case-item.result (plain_blocks c.loop-case.row.blocks) c.loop-case.next c.loop-case-test.true c.case-item.is c.loop-case.invariant.blocks
    (c.jumps_past-jumps.ensures ∙ ap (λ n. goes_on c.args.passes (chain (map case (drop (n + 1) c.args.cs.now)) (t.Otherwise t.Null)))
    c.loop-case.invariant.at) c.requires.small (plain_blocks c.in_ok-held.held.blocks) _ (ap (λ (r : Row). plain_blocks r.blocks)
    c.in_ok-held.ensures.0) (part_made c.a_case.result c.in_ok-held.made _ c.in_ok-held.ensures.1 c.a_case.ensures.block)

pub cases::cases-loop-case-preserved : goal.cases::cases-loop-case-preserved
cases::cases-loop-case-preserved m c =
    let after = next_made c.a_case.result c.in_ok-held.made _ _ c.in_ok-held.ensures.1 c.a_case.ensures.next in
    record {
      blocks = case_more (coded c.args.routine.now) c.args.next.now c.args.slot c.args.passes c.jumps_past-jumps.result c.args.cs.now
          c.loop-case.case-index c.case-item.result (plain_blocks c.loop-case.row.blocks) c.loop-case.next c.loop-case-test.true c.case-item.is
          c.loop-case.invariant.blocks (c.jumps_past-jumps.ensures
          ∙ ap (λ n. goes_on c.args.passes (chain (map case (drop (n + 1) c.args.cs.now)) (t.Otherwise t.Null))) c.loop-case.invariant.at)
          c.a_case.new.next (plain_blocks c.in_ok-held.held.blocks) _ _ after (ap (λ (r : Row). plain_blocks r.blocks) c.in_ok-held.ensures.0)
          (part_made c.a_case.result c.in_ok-held.made _ c.in_ok-held.ensures.1 c.a_case.ensures.block) c.in_ok-row.ensures;
      fits = tail_among _ _ _ (case_more (coded c.args.routine.now) c.args.next.now c.args.slot c.args.passes c.jumps_past-jumps.result c.args.cs.now
          c.loop-case.case-index c.case-item.result (plain_blocks c.loop-case.row.blocks) c.loop-case.next c.loop-case-test.true c.case-item.is
          c.loop-case.invariant.blocks (c.jumps_past-jumps.ensures
          ∙ ap (λ n. goes_on c.args.passes (chain (map case (drop (n + 1) c.args.cs.now)) (t.Otherwise t.Null))) c.loop-case.invariant.at)
          c.a_case.new.next (plain_blocks c.in_ok-held.held.blocks) (plain_blocks c.in_ok-row.row.blocks) _ after
          (ap (λ (r : Row). plain_blocks r.blocks) c.in_ok-held.ensures.0) (part_made c.a_case.result c.in_ok-held.made _ c.in_ok-held.ensures.1
          c.a_case.ensures.block) c.in_ok-row.ensures) c.requires.fits;
      at = omega arith;
      next = omega (
        arith,
        after,
        cases_hidden c.args.cs.now c.loop-case.case-index c.case-item.result c.loop-case-test.true c.case-item.is,
        c.loop-case.invariant.next,
      );
    }

pub cases::cases-returns-clause-blocks : goal.cases::cases-returns-clause-blocks
cases::cases-returns-clause-blocks m c =
    cases_end_is (coded c.args.routine.now) c.args.next.now c.args.slot c.args.passes c.args.cs.now c.loop-case.case-index
    (plain_blocks c.loop-case.row.blocks) c.loop-case.next c.loop-case-test.false c.loop-case.invariant.blocks

pub cases::cases-returns-clause-next : goal.cases::cases-returns-clause-next
cases::cases-returns-clause-next m c =
    omega (
      arith,
      c.loop-case.invariant.next,
      cases_end_hidden (coded c.args.routine.now) c.args.next.now c.args.slot c.args.passes c.args.cs.now
          c.loop-case.case-index (plain_blocks c.loop-case.row.blocks) c.loop-case.next c.loop-case-test.false,
    )

pub cases::a_case-room_for_tests-requires-clause-room : goal.cases::a_case-room_for_tests-requires-clause-room
cases::a_case-room_for_tests-requires-clause-room m c =
    omega (arith, ap (λ l. hidden_tests (chain (map test l) t.NoTests)) c.as_slice-ts.ensures, c.requires.room)

pub cases::a_case-room_for_tests-requires-clause-fits : goal.cases::a_case-room_for_tests-requires-clause-fits
cases::a_case-room_for_tests-requires-clause-fits m c =
    ap (λ l. excess (spec.tests (coded c.args.routine.now) c.args.next.now c.args.slot (chain (map test l) t.NoTests))) c.as_slice-ts.ensures
    ∙ (case_parts _ _ _ c.requires.fits).0

pub cases::a_case-tested-requires : goal.cases::a_case-tested-requires
cases::a_case-tested-requires m c =
    ap excess (case_same _ _ _ _ _ (ap (λ (p : Part). plain p.block) c.in_ok-kept.ensures.0
    ∙ (c.in_ok-of_tests.ensures.block ∙ ap (λ l. spec.tests (coded c.args.routine.now) c.args.next.now c.args.slot (chain (map test l) t.NoTests))
    c.as_slice-ts.ensures)) (part_made c.block.result c.in_ok-kept.statement _ c.in_ok-kept.ensures.1 c.block.ensures.block
    ∙ ap (λ n. spec.block (coded c.args.routine.now) n (stmt c.args.of.now.body)) (c.in_ok-of_tests.ensures.next
    ∙ ap (λ l. c.args.next.now + hidden_tests (chain (map test l) t.NoTests)) c.as_slice-ts.ensures))) ∙ c.requires.fits

pub cases::a_case-returns-clause-block : goal.cases::a_case-returns-clause-block
cases::a_case-returns-clause-block m c =
    made_as c.tested.result _ _ c.tested.ensures (case_same _ _ _ _ _ (ap (λ (p : Part). plain p.block) c.in_ok-kept.ensures.0
    ∙ (c.in_ok-of_tests.ensures.block ∙ ap (λ l. spec.tests (coded c.args.routine.now) c.args.next.now c.args.slot (chain (map test l) t.NoTests))
    c.as_slice-ts.ensures)) (part_made c.block.result c.in_ok-kept.statement _ c.in_ok-kept.ensures.1 c.block.ensures.block
    ∙ ap (λ n. spec.block (coded c.args.routine.now) n (stmt c.args.of.now.body)) (c.in_ok-of_tests.ensures.next
    ∙ ap (λ l. c.args.next.now + hidden_tests (chain (map test l) t.NoTests)) c.as_slice-ts.ensures)))

pub cases::a_case-returns-clause-next : goal.cases::a_case-returns-clause-next
cases::a_case-returns-clause-next m c =
    next_held c.tested.result _ _ (omega (
      arith,
      (c.in_ok-of_tests.ensures.next
          ∙ ap (λ l. c.args.next.now + hidden_tests (chain (map test l) t.NoTests)) c.as_slice-ts.ensures),
      next_made c.block.result c.in_ok-kept.statement
          _ _ c.in_ok-kept.ensures.1 c.block.ensures.next,
    ))

pub loops::exits-loop-exit-preserved : goal.loops::exits-loop-exit-preserved
loops::exits-loop-exit-preserved m c =
    let after = next_made c.block.result c.in_ok-before.statement _ _ c.in_ok-before.ensures.1 c.block.ensures.next in
    record {
      blocks = exit_more (coded c.args.routine.now) c.args.next.now c.args.es.now c.loop-exit.exit-index c.exit-item.result
          (blocks_of c.loop-exit.held.parts.items) c.loop-exit.next c.loop-exit-test.true c.exit-item.is c.loop-exit.invariant.blocks c.block.new.next
          (blocks_of c.in_ok-before.before.parts.items) _ _ after (ap (λ (h : Held). blocks_of h.parts.items) c.in_ok-before.ensures.0)
          (part_made c.block.result c.in_ok-before.statement _ c.in_ok-before.ensures.1 c.block.ensures.block) c.in_ok-held.ensures;
      fits = tail_among _ _ _ (exit_more (coded c.args.routine.now) c.args.next.now c.args.es.now c.loop-exit.exit-index c.exit-item.result
          (blocks_of c.loop-exit.held.parts.items) c.loop-exit.next c.loop-exit-test.true c.exit-item.is c.loop-exit.invariant.blocks c.block.new.next
          (blocks_of c.in_ok-before.before.parts.items) (blocks_of c.in_ok-held.held.parts.items) _ after (ap (λ (h : Held). blocks_of h.parts.items)
          c.in_ok-before.ensures.0) (part_made c.block.result c.in_ok-before.statement _ c.in_ok-before.ensures.1 c.block.ensures.block)
          c.in_ok-held.ensures) c.requires.fits;
      next = omega (
        arith,
        after,
        exits_hidden c.args.es.now c.loop-exit.exit-index c.exit-item.result c.loop-exit-test.true c.exit-item.is,
        c.loop-exit.invariant.next,
      );
    }

pub loops::exits-returns-clause-blocks : goal.loops::exits-returns-clause-blocks
loops::exits-returns-clause-blocks m c =
    exits_end_is (coded c.args.routine.now) c.args.next.now c.args.es.now c.loop-exit.exit-index (blocks_of c.loop-exit.held.parts.items)
    c.loop-exit.next c.loop-exit-test.false c.loop-exit.invariant.blocks

pub loops::exits-returns-clause-together : goal.loops::exits-returns-clause-together
loops::exits-returns-clause-together m c =
    held_together (coded c.args.routine.now) c.args.next.now c.args.es.now c.loop-exit.held.parts.items (exits_end_is (coded c.args.routine.now)
    c.args.next.now c.args.es.now c.loop-exit.exit-index (blocks_of c.loop-exit.held.parts.items) c.loop-exit.next c.loop-exit-test.false
    c.loop-exit.invariant.blocks)

pub loops::exits-returns-clause-next : goal.loops::exits-returns-clause-next
loops::exits-returns-clause-next m c =
    omega (
      arith,
      c.loop-exit.invariant.next,
      exits_end_hidden (coded c.args.routine.now) c.args.next.now c.args.es.now c.loop-exit.exit-index
          (blocks_of c.loop-exit.held.parts.items) c.loop-exit.next c.loop-exit-test.false,
    )

pub cases::tests-room_for_test-requires-clause-room : goal.cases::tests-room_for_test-requires-clause-room
cases::tests-room_for_test-requires-clause-room m c =
    omega (
      arith,
      tests_hidden c.args.ts.now c.loop-of.of-index c.of-item.result c.loop-of-test.true c.of-item.is,
      c.loop-of.invariant.next,
      c.requires.room,
    )

pub cases::tests-room_for_test-requires-clause-fits : goal.cases::tests-room_for_test-requires-clause-fits
cases::tests-room_for_test-requires-clause-fits m c =
    test_fits (coded c.args.routine.now) c.args.next.now c.args.slot c.args.ts.now c.loop-of.of-index c.of-item.result
    (plain_blocks c.loop-of.row.blocks) c.loop-of.next c.loop-of.left c.loop-of-test.true c.of-item.is
    c.loop-of.invariant.blocks c.loop-of.invariant.left c.requires.fits

pub cases::tests-joined-requires : goal.cases::tests-joined-requires
cases::tests-joined-requires m c =
    test_small (coded c.args.routine.now) c.args.next.now c.args.slot c.args.ts.now c.loop-of.of-index c.of-item.result
    (plain_blocks c.loop-of.row.blocks) c.loop-of.next c.loop-of.left c.loop-of-test.true c.of-item.is
    c.loop-of.invariant.blocks c.loop-of.invariant.left c.requires.fits
    (plain_blocks c.in_ok-held.held.blocks) _ (ap (λ (r : Row). plain_blocks r.blocks) c.in_ok-held.ensures.0)
    (part_made c.a_test.result c.in_ok-held.made _ c.in_ok-held.ensures.1 c.a_test.ensures.block)

pub cases::tests-loop-of-preserved : goal.cases::tests-loop-of-preserved
cases::tests-loop-of-preserved m c =
    let after = next_made c.a_test.result c.in_ok-held.made _ _ c.in_ok-held.ensures.1 c.a_test.ensures.next in
    record {
      blocks =
          test_more (coded c.args.routine.now) c.args.next.now c.args.slot c.args.ts.now c.loop-of.of-index c.of-item.result
          (plain_blocks c.loop-of.row.blocks) c.loop-of.next c.loop-of.left c.loop-of-test.true c.of-item.is
          c.loop-of.invariant.blocks c.loop-of.invariant.left c.requires.fits
          _ (plain_blocks c.in_ok-held.held.blocks) _ _ after (ap (λ (r : Row). plain_blocks r.blocks) c.in_ok-held.ensures.0)
          (part_made c.a_test.result c.in_ok-held.made _ c.in_ok-held.ensures.1 c.a_test.ensures.block) c.in_ok-row.ensures;
      left = one_fewer c.args.ts.now c.loop-of.of-index c.loop-of.left c.of-item.result c.loop-of-test.true c.of-item.is c.loop-of.invariant.left;
      next =
          omega (
            arith,
            after,
            tests_hidden c.args.ts.now c.loop-of.of-index c.of-item.result c.loop-of-test.true c.of-item.is,
            c.loop-of.invariant.next,
          );
    }

pub cases::tests-closed-requires : goal.cases::tests-closed-requires
cases::tests-closed-requires m c =
    whole_small _ _ _
    (tests_whole (coded c.args.routine.now) c.args.next.now c.args.slot c.args.ts.now c.is_empty.result (plain_blocks c.loop-of.row.blocks) _
    (λ e. none_left _ (ap not (sym c.is_empty.ensures ∙ e))) (λ e. some_left _ (ap not (sym c.is_empty.ensures ∙ e)))
    (tests_end_is (coded c.args.routine.now) c.args.next.now c.args.slot c.args.ts.now c.loop-of.of-index (plain_blocks c.loop-of.row.blocks)
    c.loop-of.next c.loop-of-test.false c.loop-of.invariant.blocks)
    c.past_if.ensures)
    c.requires.fits

pub cases::tests-returns-clause-block : goal.cases::tests-returns-clause-block
cases::tests-returns-clause-block m c =
    made_as c.closed.result _ _ c.closed.ensures
    (tests_whole (coded c.args.routine.now) c.args.next.now c.args.slot c.args.ts.now c.is_empty.result (plain_blocks c.loop-of.row.blocks) _
    (λ e. none_left _ (ap not (sym c.is_empty.ensures ∙ e))) (λ e. some_left _ (ap not (sym c.is_empty.ensures ∙ e)))
    (tests_end_is (coded c.args.routine.now) c.args.next.now c.args.slot c.args.ts.now c.loop-of.of-index (plain_blocks c.loop-of.row.blocks)
    c.loop-of.next c.loop-of-test.false c.loop-of.invariant.blocks)
    c.past_if.ensures)

pub cases::tests-returns-clause-next : goal.cases::tests-returns-clause-next
cases::tests-returns-clause-next m c =
    next_held c.closed.result _ _
    (omega (
      arith,
      c.loop-of.invariant.next,
      tests_end_hidden (coded c.args.routine.now) c.args.next.now c.args.slot c.args.ts.now c.loop-of.of-index (plain_blocks c.loop-of.row.blocks)
          c.loop-of.next c.loop-of-test.false,
    ))

pub cases::a_test-room_for_value-requires-clause-room : goal.cases::a_test-room_for_value-requires-clause-room
cases::a_test-room_for_value-requires-clause-room m c =
    omega (
      arith,
      related_hidden (coded c.args.routine.now) c.args.next.now c.args.slot c.args.last c.args.of.now _ _ _ _ c.in-IfRelated.is,
      c.requires.room,
    )

pub cases::a_test-room_for_value-requires-in-IfRelatedLong-clause-room : goal.cases::a_test-room_for_value-requires-in-IfRelatedLong-clause-room
cases::a_test-room_for_value-requires-in-IfRelatedLong-clause-room m c =
    omega (
      arith,
      long_related_hidden (coded c.args.routine.now) c.args.next.now c.args.slot c.args.last c.args.of.now _ _ _ _ c.in-IfRelatedLong.is,
      c.requires.room,
    )

pub cases::a_test-room_for_value-requires-clause-fits : goal.cases::a_test-room_for_value-requires-clause-fits
cases::a_test-room_for_value-requires-clause-fits m c =
    related_value_fits _ _ _ _ _ _
    (ap excess (sym (related_form (coded c.args.routine.now) c.args.next.now c.args.slot c.args.last c.args.of.now _ _ _ _ c.in-IfRelated.is))
    ∙ c.requires.fits)

pub cases::a_test-room_for_value-requires-in-IfRelatedLong-clause-fits : goal.cases::a_test-room_for_value-requires-in-IfRelatedLong-clause-fits
cases::a_test-room_for_value-requires-in-IfRelatedLong-clause-fits m c =
    long_related_value_fits _ _ _ _ _ _
    (ap excess (sym (long_related_form (coded c.args.routine.now) c.args.next.now c.args.slot c.args.last c.args.of.now _ _ _ _ c.in-IfRelatedLong.is))
    ∙ c.requires.fits)

pub cases::a_test-room_for_bounds-requires-clause-room : goal.cases::a_test-room_for_bounds-requires-clause-room
cases::a_test-room_for_bounds-requires-clause-room m c =
    omega (
      arith,
      within_hidden (coded c.args.routine.now) c.args.next.now c.args.slot c.args.last c.args.of.now _ _ _ c.in-IfWithin.is,
      c.requires.room,
    )

pub cases::a_test-room_for_bounds-requires-in-IfWithinLong-clause-room : goal.cases::a_test-room_for_bounds-requires-in-IfWithinLong-clause-room
cases::a_test-room_for_bounds-requires-in-IfWithinLong-clause-room m c =
    omega (
      arith,
      long_within_hidden (coded c.args.routine.now) c.args.next.now c.args.slot c.args.last c.args.of.now _ _ _ _ c.in-IfWithinLong.is,
      c.requires.room,
    )

pub cases::a_test-room_for_bounds-requires-clause-fits : goal.cases::a_test-room_for_bounds-requires-clause-fits
cases::a_test-room_for_bounds-requires-clause-fits m c =
    within_bounds_fit (coded c.args.routine.now) _ _ _ _ _ _
    (ap excess (sym (within_form (coded c.args.routine.now) c.args.next.now c.args.slot c.args.last c.args.of.now _ _ _ c.in-IfWithin.is))
    ∙ c.requires.fits)

pub cases::a_test-room_for_bounds-requires-in-IfWithinLong-clause-fits : goal.cases::a_test-room_for_bounds-requires-in-IfWithinLong-clause-fits
cases::a_test-room_for_bounds-requires-in-IfWithinLong-clause-fits m c =
    long_within_bounds_fit (coded c.args.routine.now) _ _ _ _ _ _ _
    (ap excess (sym (long_within_form (coded c.args.routine.now) c.args.next.now c.args.slot c.args.last c.args.of.now _ _ _ _ c.in-IfWithinLong.is))
    ∙ c.requires.fits)

pub cases::a_test-returns-in_ok-right-in-IfRelated-clause-next : goal.cases::a_test-returns-in_ok-right-in-IfRelated-clause-next
cases::a_test-returns-in_ok-right-in-IfRelated-clause-next m c =
    next_held c.related.result _ _
    (omega (
      arith,
      related_hidden (coded c.args.routine.now) c.args.next.now c.args.slot c.args.last c.args.of.now _ _ _ _ c.in-IfRelated.is,
      c.in_ok-right-in-IfRelated.ensures.next,
    ))

pub cases::a_test-returns-in_ok-right-in-IfRelatedLong-clause-next : goal.cases::a_test-returns-in_ok-right-in-IfRelatedLong-clause-next
cases::a_test-returns-in_ok-right-in-IfRelatedLong-clause-next m c =
    next_held c.long_related.result _ _
    (omega (
      arith,
      long_related_hidden (coded c.args.routine.now) c.args.next.now c.args.slot c.args.last c.args.of.now _ _ _ _ c.in-IfRelatedLong.is,
      c.in_ok-right-in-IfRelatedLong.ensures.next,
    ))

pub cases::a_test-returns-in_ok-ends-in-IfWithin-clause-next : goal.cases::a_test-returns-in_ok-ends-in-IfWithin-clause-next
cases::a_test-returns-in_ok-ends-in-IfWithin-clause-next m c =
    next_held c.within.result _ _
    (omega (
      arith,
      within_hidden (coded c.args.routine.now) c.args.next.now c.args.slot c.args.last c.args.of.now _ _ _ c.in-IfWithin.is,
      c.in_ok-ends-in-IfWithin.ensures.next,
    ))

pub cases::a_test-returns-in_ok-ends-in-IfWithinLong-clause-next : goal.cases::a_test-returns-in_ok-ends-in-IfWithinLong-clause-next
cases::a_test-returns-in_ok-ends-in-IfWithinLong-clause-next m c =
    next_held c.long_within.result _ _
    (omega (
      arith,
      long_within_hidden (coded c.args.routine.now) c.args.next.now c.args.slot c.args.last c.args.of.now _ _ _ _ c.in-IfWithinLong.is,
      c.in_ok-ends-in-IfWithinLong.ensures.next,
    ))

pub targets::targets-room_for_path-requires-clause-room : goal.targets::targets-room_for_path-requires-clause-room
targets::targets-room_for_path-requires-clause-room m c =
    omega (
      arith,
      ap (λ l. hidden_suffixes (chain (map suffix l) t.NoSuffix)) c.as_slice-suffixes.ensures,
      targets_hidden c.args.ts.now c.loop-target.target-index c.target-item.result c.loop-target-test.true c.target-item.is,
      c.loop-target.invariant.next,
      c.requires.room,
    )

pub targets::targets-room_for_path-requires-clause-fits : goal.targets::targets-room_for_path-requires-clause-fits
targets::targets-room_for_path-requires-clause-fits m c =
    ap (λ l. excess (spec.path (coded c.args.routine.now) c.loop-target.next (chain (map suffix l) t.NoSuffix))) c.as_slice-suffixes.ensures
    ∙ way_fits (coded c.args.routine.now) c.args.next.now c.args.all c.args.ts.now c.loop-target.target-index c.target-item.result
    (plain_blocks c.loop-target.held.row.blocks) c.loop-target.held.taken c.loop-target.next c.loop-target-test.true c.target-item.is
    c.loop-target.invariant.block c.requires.fits

pub targets::targets-take-requires-clause-small : goal.targets::targets-take-requires-clause-small
targets::targets-take-requires-clause-small m c =
    target_small (coded c.args.routine.now) c.args.next.now c.args.all c.args.ts.now c.loop-target.target-index c.target-item.result
    (plain_blocks c.loop-target.held.row.blocks) c.loop-target.held.taken c.loop-target.next c.loop-target-test.true c.target-item.is
    c.loop-target.invariant.block c.requires.fits
    (plain_blocks c.in_ok-before.before.row.blocks) c.in_ok-before.before.taken _
    (ap (λ (h : Taking). plain_blocks h.row.blocks) c.in_ok-before.ensures.0) (ap (λ (h : Taking). h.taken) c.in_ok-before.ensures.0)
    (way_is (coded c.args.routine.now) c.loop-target.next c.path.result c.in_ok-before.way _ _ c.in_ok-before.ensures.1 c.path.ensures.block
    c.as_slice-suffixes.ensures)

pub targets::targets-take-requires-clause-fits : goal.targets::targets-take-requires-clause-fits
targets::targets-take-requires-clause-fits m c =
    target_fits (coded c.args.routine.now) c.args.next.now c.args.all c.args.ts.now c.loop-target.target-index c.target-item.result
    (plain_blocks c.loop-target.held.row.blocks) c.loop-target.held.taken c.loop-target.next c.loop-target-test.true c.target-item.is
    c.loop-target.invariant.block c.requires.fits
    c.in_ok-before.before.taken _ (ap (λ (h : Taking). h.taken) c.in_ok-before.ensures.0)
    (way_is (coded c.args.routine.now) c.loop-target.next c.path.result c.in_ok-before.way _ _ c.in_ok-before.ensures.1 c.path.ensures.block
    c.as_slice-suffixes.ensures)

pub targets::targets-loop-target-preserved : goal.targets::targets-loop-target-preserved
targets::targets-loop-target-preserved m c =
    let after = after_is c.path.result c.in_ok-before.way c.loop-target.next c.path.new.next _ _ c.in_ok-before.ensures.1 c.path.ensures.next
    c.as_slice-suffixes.ensures in
    record {
      block =
          target_more (coded c.args.routine.now) c.args.next.now c.args.all c.args.ts.now c.loop-target.target-index c.target-item.result
          (plain_blocks c.loop-target.held.row.blocks) c.loop-target.held.taken c.loop-target.next c.loop-target-test.true c.target-item.is
          c.loop-target.invariant.block c.requires.fits
          c.path.new.next (plain_blocks c.in_ok-before.before.row.blocks) (plain_blocks c.in_ok-held.held.row.blocks) c.in_ok-before.before.taken
          c.in_ok-held.held.taken _
          after (ap (λ (h : Taking). plain_blocks h.row.blocks) c.in_ok-before.ensures.0) (ap (λ (h : Taking). h.taken) c.in_ok-before.ensures.0)
          (way_is (coded c.args.routine.now) c.loop-target.next c.path.result c.in_ok-before.way _ _ c.in_ok-before.ensures.1 c.path.ensures.block
          c.as_slice-suffixes.ensures)
          c.in_ok-held.ensures.blocks c.in_ok-held.ensures.taken;
      next =
          omega (
            arith,
            after,
            targets_hidden c.args.ts.now c.loop-target.target-index c.target-item.result c.loop-target-test.true c.target-item.is,
            c.loop-target.invariant.next,
          );
    }

pub targets::targets-taken-requires : goal.targets::targets-taken-requires
targets::targets-taken-requires m c =
    ap excess
    (targets_end_is (coded c.args.routine.now) c.args.next.now c.args.all c.args.ts.now c.loop-target.target-index
    (plain_blocks c.loop-target.held.row.blocks) c.loop-target.held.taken c.loop-target.next c.loop-target-test.false c.loop-target.invariant.block)
    ∙ c.requires.fits

pub targets::targets-returns-clause-block : goal.targets::targets-returns-clause-block
targets::targets-returns-clause-block m c =
    made_as c.taken.result _ _ c.taken.ensures
    (targets_end_is (coded c.args.routine.now) c.args.next.now c.args.all c.args.ts.now c.loop-target.target-index
    (plain_blocks c.loop-target.held.row.blocks) c.loop-target.held.taken c.loop-target.next c.loop-target-test.false c.loop-target.invariant.block)

pub targets::targets-returns-clause-next : goal.targets::targets-returns-clause-next
targets::targets-returns-clause-next m c =
    next_held c.taken.result _ _
    (omega (
      arith,
      c.loop-target.invariant.next,
      targets_end_hidden (coded c.args.routine.now) c.args.next.now c.args.all c.args.ts.now c.loop-target.target-index
          (plain_blocks c.loop-target.held.row.blocks) c.loop-target.held.taken c.loop-target.next c.loop-target-test.false
          c.loop-target.invariant.block,
    ))

pub phrases::arm_blocks-room_for_statement-requires-clause-fits : goal.phrases::arm_blocks-room_for_statement-requires-clause-fits
phrases::arm_blocks-room_for_statement-requires-clause-fits m c =
    let split = arms_split c.args.arms.now c.loop-arm.arm-index c.arm-item.result c.loop-arm-test.true c.arm-item.is in
    arm_first (coded c.args.routine.now) c.loop-arm.next 0 _ _ _ _ _ _ split c.loop-arm.invariant.fits
