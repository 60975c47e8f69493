-- The answers of values and of the lists in them.
use Rattle.std.proofs.Common.{[], ap, arith, drop, map, refl, sym, ◌+◌, ◌∙◌, ◌∷◌}
use Rattle.mesa_base.specs.Chain.{chain}
use Rattle.mesa_types.specs.Plain.{expr, exprs, operation, suffix}
use Rattle.mesa_types.specs.Typed as t
use Rattle.code_rules.specs.OwnCode.{check_code, index_code, long_operator_code, operator_code}
use Rattle.code_rules.specs.Reading.{scratch}
use Rattle.code_blocks.specs.Blocks.{Does}
use Rattle.code_blocks.specs.Sizes.{size}
use Rattle.code_blocks.specs.Translation as spec
use Rattle.code_trees.proofs.RowLaws.{row_begun, turn_block, turn_fits}
use Rattle.code_trees.proofs.Splits.{exprs_split, field_split, index_split, operations_split}
use Rattle.code_trees.proofs.Walks.{hidden_index_next, hidden_next, hidden_operation_next, hidden_passed, long_operations_next, operands_next, operations_next, path_index, path_next, path_passed, sizes_next, values_next}
use Rattle.code_trees.specs.Excess.{excess}
use Rattle.code_trees.specs.Plain.{in_order, plain, plain_blocks}
use Rattle.code_trees.specs.Routines.{coded}
use Rattle.code_trees.specs.declared.part.Part.{Part}
use Rattle.code_trees.specs.declared.part.Row.{Row}
use Rattle.code_trees.specs.declared.part.Values.{Values}
use Rattle.code_bodies.proofs.ExpressionLaws.{call_form, raise_form, variable_form, variable_hidden}
use Rattle.code_bodies.proofs.FormLaws.{call_made, fits_call}
use Rattle.code_bodies.proofs.ItemLaws.{index_fits, index_room, long_right_fits, operand_fits, right_fits, right_room, value_fits, value_room}
use Rattle.code_bodies.proofs.ReadLaws.{path_fits}
use Rattle.code_bodies.proofs.RowTurns.{begun_small, one_put, sizes_begun, three_put, turn_room, two_put}
use Rattle.code_bodies.proofs.+blocks.Goals as goal
use Rattle.code_bodies.proofs.+blocks.Goals.{expressions::path-in-Field, expressions::path-in-Index+in_ok-held-in-Index+in_ok-row-in-Index}

pub expressions::values-room_for_value-requires-clause-room : goal.expressions::values-room_for_value-requires-clause-room
expressions::values-room_for_value-requires-clause-room m c =
    value_room (coded c.args.routine.now) c.loop-e.next c.e-item.result c.loop-e.e-index c.args.es.now c.loop-e-test.true c.e-item.is _
    c.loop-e.invariant.next c.requires.room

pub expressions::values-room_for_value-requires-clause-fits : goal.expressions::values-room_for_value-requires-clause-fits
expressions::values-room_for_value-requires-clause-fits m c =
    value_fits (coded c.args.routine.now) c.loop-e.next c.e-item.result c.loop-e.e-index c.args.es.now c.loop-e-test.true c.e-item.is
    c.loop-e.invariant.fits

pub expressions::operands-room_for_jump-requires-clause-room : goal.expressions::operands-room_for_jump-requires-clause-room
expressions::operands-room_for_jump-requires-clause-room m c =
    value_room (coded c.args.routine.now) c.loop-e.next c.e-item.result c.loop-e.e-index c.args.es.now c.loop-e-test.true c.e-item.is _
    c.loop-e.invariant.next c.requires.room

pub expressions::operands-room_for_jump-requires-clause-fits : goal.expressions::operands-room_for_jump-requires-clause-fits
expressions::operands-room_for_jump-requires-clause-fits m c =
    operand_fits (coded c.args.routine.now) c.loop-e.next c.e-item.result c.loop-e.e-index c.args.es.now c.loop-e-test.true c.e-item.is c.args.sense
    c.args.part c.loop-e.invariant.fits

pub expressions::operations-room_for_value-requires-clause-room : goal.expressions::operations-room_for_value-requires-clause-room
expressions::operations-room_for_value-requires-clause-room m c =
    right_room (coded c.args.routine.now) c.loop-step.next c.step-item.result c.loop-step.step-index c.args.rest.now c.loop-step-test.true
    c.step-item.is _ c.loop-step.invariant.next c.requires.room

pub expressions::long_operations-room_for_value-requires-clause-room : goal.expressions::long_operations-room_for_value-requires-clause-room
expressions::long_operations-room_for_value-requires-clause-room m c =
    right_room (coded c.args.routine.now) c.loop-step.next c.step-item.result c.loop-step.step-index c.args.rest.now c.loop-step-test.true
    c.step-item.is _ c.loop-step.invariant.next c.requires.room

pub expressions::operations-room_for_value-requires-clause-fits : goal.expressions::operations-room_for_value-requires-clause-fits
expressions::operations-room_for_value-requires-clause-fits m c =
    right_fits (coded c.args.routine.now) c.loop-step.next c.step-item.result c.loop-step.step-index c.args.rest.now c.loop-step-test.true
    c.step-item.is c.loop-step.invariant.fits

pub expressions::long_operations-room_for_value-requires-clause-fits : goal.expressions::long_operations-room_for_value-requires-clause-fits
expressions::long_operations-room_for_value-requires-clause-fits m c =
    long_right_fits (coded c.args.routine.now) c.loop-step.next c.step-item.result c.loop-step.step-index c.args.rest.now c.loop-step-test.true
    c.step-item.is c.loop-step.invariant.fits

pub expressions::path-room_for_value-requires-clause-room : goal.expressions::path-room_for_value-requires-clause-room
expressions::path-room_for_value-requires-clause-room m c =
    index_room (coded c.args.routine.now) c.loop-suffix.next c.in-Index.e c.loop-suffix.suffix-index c.args.suffixes.now c.suffix-item.result
    c.in-Index.extent c.loop-suffix-test.true c.suffix-item.is c.in-Index.is _ c.loop-suffix.invariant.next c.requires.room

pub expressions::path-room_for_value-requires-clause-fits : goal.expressions::path-room_for_value-requires-clause-fits
expressions::path-room_for_value-requires-clause-fits m c =
    index_fits (coded c.args.routine.now) c.loop-suffix.next c.in-Index.e c.loop-suffix.suffix-index c.args.suffixes.now c.suffix-item.result
    c.in-Index.extent c.loop-suffix-test.true c.suffix-item.is c.in-Index.is c.loop-suffix.invariant.fits

pub expressions::value-room_for_path-requires-clause-room : goal.expressions::value-room_for_path-requires-clause-room
expressions::value-room_for_path-requires-clause-room m c =
    omega (
      arith,
      c.requires.room,
      variable_hidden (coded c.args.routine.now) c.args.next.now c.args.e.now _ _ c.as_slice-suffixes.result.now _
          c.in-Variable.is c.as_slice-suffixes.ensures,
    )

pub expressions::value-room_for_path-requires-clause-fits : goal.expressions::value-room_for_path-requires-clause-fits
expressions::value-room_for_path-requires-clause-fits m c =
    path_fits (coded c.args.routine.now) c.args.next.now c.in-Variable.home (chain (map suffix c.as_slice-suffixes.result.now) t.NoSuffix)
    c.in-Variable.words
    (ap excess (sym (variable_form (coded c.args.routine.now) c.args.next.now c.args.e.now _ _ c.as_slice-suffixes.result.now _ c.in-Variable.is
    c.as_slice-suffixes.ensures)) ∙ c.requires.fits)

pub expressions::values-loop-e-preserved : goal.expressions::values-loop-e-preserved
expressions::values-loop-e-preserved m c =
    let P = coded c.args.routine.now in
    let split = exprs_split c.args.es.now c.loop-e.e-index c.e-item.result c.loop-e-test.true c.e-item.is in
    let words = rw c.in_ok-held.ensures.1 at c.value_words.ensures in
    let made = rw c.in_ok-held-2.ensures.1 at c.value.ensures.block in
    let after = rw c.in_ok-held-2.ensures.1 at c.value.ensures.next in
    let next = values_next P c.loop-e.next _ _ _ _ split after in
    let row = ap (λ (x : Values). plain_blocks x.row.blocks) (c.in_ok-held-2.ensures.0 ∙ c.in_ok-held.ensures.0) in
    let lengths = ap (λ (x : Values). x.sizes) (c.in_ok-held-2.ensures.0 ∙ c.in_ok-held.ensures.0) in
    let put = one_put _ _ _ _ _ row made c.in_ok-made.ensures.blocks in
    let sized = one_put _ _ _ _ _ lengths refl c.in_ok-made.ensures.sizes in
    let rest = exprs (map expr (drop c.loop-e.e-index c.args.es.now)) in
    let later = exprs (map expr (drop (c.loop-e.e-index + 1) c.args.es.now)) in
    let old = plain_blocks c.loop-e.made.row.blocks in
    let new = plain_blocks c.in_ok-made.made.row.blocks in
    let bs = (spec.forms P c.loop-e.next (expr c.e-item.result)).value ∷ [] in
    record {
      block = turn_block old bs new (spec.values P c.loop-e.next rest) (spec.values P c.value.new.next later) next put _ c.loop-e.invariant.block;
      fits = turn_fits old bs new (spec.values P c.loop-e.next rest) (spec.values P c.value.new.next later) next put c.loop-e.invariant.fits;
      small = turn_room old bs new (spec.values P c.loop-e.next rest) (spec.values P c.value.new.next later) next put c.loop-e.invariant.small;
      words = sizes_next P c.loop-e.next 0 _ _ _ split _ _ _ words sized ∙ c.loop-e.invariant.words;
      next = hidden_next P c.loop-e.next _ _ _ _ split after ∙ c.loop-e.invariant.next;
    }

pub expressions::operands-loop-e-preserved : goal.expressions::operands-loop-e-preserved
expressions::operands-loop-e-preserved m c =
    let P = coded c.args.routine.now in
    let split = exprs_split c.args.es.now c.loop-e.e-index c.e-item.result c.loop-e-test.true c.e-item.is in
    let made = rw c.in_ok-held.ensures.1 at c.jump.ensures.block in
    let after = rw c.in_ok-held.ensures.1 at c.jump.ensures.next in
    let next = operands_next P c.loop-e.next _ _ _ _ split c.args.sense c.args.part after in
    let row = ap (λ (x : Row). plain_blocks x.blocks) c.in_ok-held.ensures.0 in
    let put = one_put _ _ _ _ _ row made c.in_ok-row.ensures in
    let rest = exprs (map expr (drop c.loop-e.e-index c.args.es.now)) in
    let later = exprs (map expr (drop (c.loop-e.e-index + 1) c.args.es.now)) in
    let all = spec.operands P c.loop-e.next rest c.args.sense c.args.part in
    let tail = spec.operands P c.jump.new.next later c.args.sense c.args.part in
    let old = plain_blocks c.loop-e.row.blocks in
    let new = plain_blocks c.in_ok-row.row.blocks in
    let bs = (spec.forms P c.loop-e.next (expr c.e-item.result)).jump c.args.sense c.args.part ∷ [] in
    record {
      block = turn_block old bs new all tail next put _ c.loop-e.invariant.block;
      fits = turn_fits old bs new all tail next put c.loop-e.invariant.fits;
      small = turn_room old bs new all tail next put c.loop-e.invariant.small;
      next = hidden_next P c.loop-e.next _ _ _ _ split after ∙ c.loop-e.invariant.next;
    }

pub expressions::operations-loop-step-preserved : goal.expressions::operations-loop-step-preserved
expressions::operations-loop-step-preserved m c =
    let P = coded c.args.routine.now in
    let split = operations_split c.args.rest.now c.loop-step.step-index c.step-item.result c.loop-step-test.true c.step-item.is in
    let made = rw c.in_ok-held.ensures.1 at c.value.ensures.block in
    let after = rw c.in_ok-held.ensures.1 at c.value.ensures.next in
    let next = operations_next P c.loop-step.next _ _ _ _ _ _ split after in
    let row = ap (λ (x : Row). plain_blocks x.blocks) c.in_ok-held.ensures.0 in
    let put = three_put _ _ _ _ _ _ _ row made c.in_ok-row.ensures in
    let rest = chain (map operation (drop c.loop-step.step-index c.args.rest.now)) t.NoOperation in
    let later = chain (map operation (drop (c.loop-step.step-index + 1) c.args.rest.now)) t.NoOperation in
    let all = spec.operations P c.loop-step.next rest in
    let tail = spec.operations P c.value.new.next later in
    let old = plain_blocks c.loop-step.row.blocks in
    let new = plain_blocks c.in_ok-row.row.blocks in
    let step = c.step-item.result in
    let bs = Does (check_code step.check) ∷ (spec.forms P c.loop-step.next (expr step.right)).value ∷ Does (operator_code (scratch P) step.operator) ∷
    [] in
    record {
      block = turn_block old bs new all tail next put _ c.loop-step.invariant.block;
      fits = turn_fits old bs new all tail next put c.loop-step.invariant.fits;
      small = turn_room old bs new all tail next put c.loop-step.invariant.small;
      next = hidden_operation_next P c.loop-step.next _ _ _ _ _ _ split after ∙ c.loop-step.invariant.next;
    }

pub expressions::long_operations-loop-step-preserved : goal.expressions::long_operations-loop-step-preserved
expressions::long_operations-loop-step-preserved m c =
    let P = coded c.args.routine.now in
    let split = operations_split c.args.rest.now c.loop-step.step-index c.step-item.result c.loop-step-test.true c.step-item.is in
    let made = rw c.in_ok-held.ensures.1 at c.value.ensures.block in
    let after = rw c.in_ok-held.ensures.1 at c.value.ensures.next in
    let next = long_operations_next P c.loop-step.next _ _ _ _ _ _ split after in
    let row = ap (λ (x : Row). plain_blocks x.blocks) c.in_ok-held.ensures.0 in
    let put = two_put _ _ _ _ _ _ row made c.in_ok-row.ensures in
    let rest = chain (map operation (drop c.loop-step.step-index c.args.rest.now)) t.NoOperation in
    let later = chain (map operation (drop (c.loop-step.step-index + 1) c.args.rest.now)) t.NoOperation in
    let all = spec.long_operations P c.loop-step.next rest in
    let tail = spec.long_operations P c.value.new.next later in
    let old = plain_blocks c.loop-step.row.blocks in
    let new = plain_blocks c.in_ok-row.row.blocks in
    let step = c.step-item.result in
    let bs = (spec.forms P c.loop-step.next (expr step.right)).value ∷ Does (long_operator_code step.operator) ∷ [] in
    record {
      block = turn_block old bs new all tail next put _ c.loop-step.invariant.block;
      fits = turn_fits old bs new all tail next put c.loop-step.invariant.fits;
      small = turn_room old bs new all tail next put c.loop-step.invariant.small;
      next = hidden_operation_next P c.loop-step.next _ _ _ _ _ _ split after ∙ c.loop-step.invariant.next;
    }

pub expressions::values-loop-e-init : goal.expressions::values-loop-e-init
expressions::values-loop-e-init m c = record {
  block = row_begun _ _ c.no_row-row.ensures;
  fits = c.requires.fits;
  small = begun_small _ _ c.no_row-row.ensures c.requires.fits;
  words = sizes_begun _ _ c.new-sizes.ensures;
  next = refl;
}

pub expressions::operands-loop-e-init : goal.expressions::operands-loop-e-init
expressions::operands-loop-e-init m c = record {
  block = row_begun _ _ c.no_row-row.ensures;
  fits = c.requires.fits;
  small = begun_small _ _ c.no_row-row.ensures c.requires.fits;
  next = refl;
}

pub expressions::operations-loop-step-init : goal.expressions::operations-loop-step-init
expressions::operations-loop-step-init m c = record {
  block = row_begun _ _ c.no_row-row.ensures;
  fits = c.requires.fits;
  small = begun_small _ _ c.no_row-row.ensures c.requires.fits;
  next = refl;
}

pub expressions::long_operations-loop-step-init : goal.expressions::long_operations-loop-step-init
expressions::long_operations-loop-step-init m c = record {
  block = row_begun _ _ c.no_row-row.ensures;
  fits = c.requires.fits;
  small = begun_small _ _ c.no_row-row.ensures c.requires.fits;
  next = refl;
}

pub expressions::path-loop-suffix-init : goal.expressions::path-loop-suffix-init
expressions::path-loop-suffix-init m c = record {
  block = row_begun _ _ c.no_row-row.ensures;
  fits = c.requires.fits;
  small = begun_small _ _ c.no_row-row.ensures c.requires.fits;
  next = refl;
}

pub expressions::path-indexed-requires-clause-fits : goal.expressions::path-indexed-requires-clause-fits
expressions::path-indexed-requires-clause-fits m c =
    let split = index_split c.args.suffixes.now c.loop-suffix.suffix-index c.suffix-item.result c.loop-suffix-test.true c.suffix-item.is
    c.in-Index.extent c.in-Index.e c.in-Index.is in
    path_index (coded c.args.routine.now) c.loop-suffix.next 0 _ _ _ _ _ _ _ split c.loop-suffix.invariant.fits

pub expressions::path-loop-suffix-preserved : goal.expressions::path-loop-suffix-preserved
expressions::path-loop-suffix-preserved m c =
    let P = coded c.args.routine.now in
    let all = chain (map suffix (drop c.loop-suffix.suffix-index c.args.suffixes.now)) t.NoSuffix in
    let tail = chain (map suffix (drop (c.loop-suffix.suffix-index + 1) c.args.suffixes.now)) t.NoSuffix in
    elim c.match-suffix.branch [
      | expressions::path-in-Field w ↦
          let split = field_split c.args.suffixes.now c.loop-suffix.suffix-index c.suffix-item.result c.loop-suffix-test.true c.suffix-item.is _ _
          w.in-Field.is in
          rw (w.next-is, w.row-is) (record {
            block = ap (in_order (plain_blocks c.loop-suffix.row.blocks)) (sym (path_passed P c.loop-suffix.next _ _ all tail split))
                ∙ c.loop-suffix.invariant.block;
            fits = ap excess (sym (path_passed P c.loop-suffix.next _ _ all tail split)) ∙ c.loop-suffix.invariant.fits;
            small = omega (arith, c.loop-suffix.invariant.small, ap size (path_passed P c.loop-suffix.next _ _ all tail split));
            next = omega (arith, c.loop-suffix.invariant.next, hidden_passed P c.loop-suffix.next _ _ all tail split);
          })
      | expressions::path-in-Index+in_ok-held-in-Index+in_ok-row-in-Index w ↦
          let split = index_split c.args.suffixes.now c.loop-suffix.suffix-index c.suffix-item.result c.loop-suffix-test.true c.suffix-item.is
          w.in-Index.extent w.in-Index.e w.in-Index.is in
          let made = rw w.in_ok-held-in-Index.ensures.1 at w.value.ensures.block in
          let after = w.next-is ∙ rw w.in_ok-held-in-Index.ensures.1 at w.value.ensures.next in
          let next = path_next P c.loop-suffix.next _ _ _ _ _ _ all tail split after in
          let row = ap (λ (x : Row). plain_blocks x.blocks) w.in_ok-held-in-Index.ensures.0 in
          let put = ap (λ (x : Row). plain_blocks x.blocks) w.row-is ∙ two_put _ _ _ _ _ _ row made w.in_ok-row-in-Index.ensures in
          let bs = (spec.forms P c.loop-suffix.next (expr w.in-Index.e)).value
          ∷ Does (index_code w.in-Index.extent.check w.in-Index.extent.first w.in-Index.extent.elements w.in-Index.extent.words) ∷ [] in
          record {
            block = turn_block (plain_blocks c.loop-suffix.row.blocks) bs (plain_blocks c.match-suffix.row.blocks)
                (spec.path P c.loop-suffix.next all) (spec.path P c.match-suffix.next tail) next put _ c.loop-suffix.invariant.block;
            fits = turn_fits (plain_blocks c.loop-suffix.row.blocks) bs (plain_blocks c.match-suffix.row.blocks) (spec.path P c.loop-suffix.next all)
                (spec.path P c.match-suffix.next tail) next put c.loop-suffix.invariant.fits;
            small = turn_room (plain_blocks c.loop-suffix.row.blocks) bs (plain_blocks c.match-suffix.row.blocks) (spec.path P c.loop-suffix.next all)
                (spec.path P c.match-suffix.next tail) next put c.loop-suffix.invariant.small;
            next = hidden_index_next P c.loop-suffix.next _ _ _ _ _ _ all tail split after ∙ c.loop-suffix.invariant.next;
          }
    ]

pub expressions::value-called-requires-clause-fits : goal.expressions::value-called-requires-clause-fits
expressions::value-called-requires-clause-fits m c =
    let arms = rw c.in_ok-of-in-Call-2.ensures.1 at c.caught_by.ensures.blocks in
    let part = ap (λ (x : Part). plain x.block) c.in_ok-of-in-Call-2.ensures.0 ∙ c.in_ok-of-in-Call.ensures.block in
    let form = call_form (coded c.args.routine.now) c.args.next.now c.args.e.now _ c.as_slice-order.result.now _ c.as_slice-taken.result.now
    c.in-Call.words _ c.get-arms_of.result.now
    c.as_slice-order.ensures c.as_slice-taken.ensures c.get-arms_of.ensures c.in-Call.callee c.in-Call.is c.as_slice-lengths.result.now _ _
    c.in_ok-call-in-Call.ensures (c.as_slice-lengths.ensures ∙ c.in_ok-of-in-Call.ensures.sizes) c.in_ok-of-in-Call.ensures.next in
    fits_call _ _ c.as_slice-order.result.now c.as_slice-lengths.result.now c.in_ok-call-in-Call.call c.in-Call.words _ form _ _ part arms
    c.requires.fits

pub expressions::value-returns-in_ok-of-in-Call-2-clause-block : goal.expressions::value-returns-in_ok-of-in-Call-2-clause-block
expressions::value-returns-in_ok-of-in-Call-2-clause-block m c =
    let arms = rw c.in_ok-of-in-Call-2.ensures.1 at c.caught_by.ensures.blocks in
    let part = ap (λ (x : Part). plain x.block) c.in_ok-of-in-Call-2.ensures.0 ∙ c.in_ok-of-in-Call.ensures.block in
    let form = call_form (coded c.args.routine.now) c.args.next.now c.args.e.now _ c.as_slice-order.result.now _ c.as_slice-taken.result.now
    c.in-Call.words _ c.get-arms_of.result.now
    c.as_slice-order.ensures c.as_slice-taken.ensures c.get-arms_of.ensures c.in-Call.callee c.in-Call.is c.as_slice-lengths.result.now _ _
    c.in_ok-call-in-Call.ensures (c.as_slice-lengths.ensures ∙ c.in_ok-of-in-Call.ensures.sizes) c.in_ok-of-in-Call.ensures.next in
    call_made c.called.result _ _ c.as_slice-order.result.now c.as_slice-lengths.result.now c.in_ok-call-in-Call.call c.in-Call.words _ form _ _ part
    arms c.called.ensures

pub expressions::value-called-requires-in-Raise-clause-fits : goal.expressions::value-called-requires-in-Raise-clause-fits
expressions::value-called-requires-in-Raise-clause-fits m c =
    let arms = rw c.in_ok-of-in-Raise-2.ensures.1 at c.caught_by-in-Raise.ensures.blocks in
    let part = ap (λ (x : Part). plain x.block) c.in_ok-of-in-Raise-2.ensures.0 ∙ c.in_ok-of-in-Raise.ensures.block in
    let form = raise_form (coded c.args.routine.now) c.args.next.now c.args.e.now _ c.as_slice-ranks.result.now _ c.as_slice-told.result.now
    c.in-Raise.words _ c.get-catches.result.now
    c.as_slice-ranks.ensures c.as_slice-told.ensures c.get-catches.ensures c.in-Raise.raised c.in-Raise.is c.as_slice-widths.result.now _ _
    c.in_ok-raise-in-Raise.ensures (c.as_slice-widths.ensures ∙ c.in_ok-of-in-Raise.ensures.sizes) c.in_ok-of-in-Raise.ensures.next in
    fits_call _ _ c.as_slice-ranks.result.now c.as_slice-widths.result.now c.in_ok-raise-in-Raise.raise c.in-Raise.words _ form _ _ part arms
    c.requires.fits

pub expressions::value-returns-in_ok-of-in-Raise-2-clause-block : goal.expressions::value-returns-in_ok-of-in-Raise-2-clause-block
expressions::value-returns-in_ok-of-in-Raise-2-clause-block m c =
    let arms = rw c.in_ok-of-in-Raise-2.ensures.1 at c.caught_by-in-Raise.ensures.blocks in
    let part = ap (λ (x : Part). plain x.block) c.in_ok-of-in-Raise-2.ensures.0 ∙ c.in_ok-of-in-Raise.ensures.block in
    let form = raise_form (coded c.args.routine.now) c.args.next.now c.args.e.now _ c.as_slice-ranks.result.now _ c.as_slice-told.result.now
    c.in-Raise.words _ c.get-catches.result.now
    c.as_slice-ranks.ensures c.as_slice-told.ensures c.get-catches.ensures c.in-Raise.raised c.in-Raise.is c.as_slice-widths.result.now _ _
    c.in_ok-raise-in-Raise.ensures (c.as_slice-widths.ensures ∙ c.in_ok-of-in-Raise.ensures.sizes) c.in_ok-of-in-Raise.ensures.next in
    call_made c.called-in-Raise.result _ _ c.as_slice-ranks.result.now c.as_slice-widths.result.now c.in_ok-raise-in-Raise.raise c.in-Raise.words _
    form _ _ part arms c.called-in-Raise.ensures
