use Rattle.std.proofs.Common.{◌≤◌, ◌+◌, drop, arith}
use Rattle.mesa_types.specs.Plain.{kinds_of}
use Rattle.mesa_types.specs.Shapes.{words_in_all}
use Rattle.code_trees.proofs.OwnCode.{one_put}
use Rattle.code_trees.proofs.VariableStarts.{ends_left, from_field, words_left}
use Rattle.code_trees.proofs.laying.put_ends.Goals as goal

pub overflow_add-end : goal.overflow_add-end
overflow_add-end c =
    let split = from_field c.args.fields.now c.loop-field.field-index c.field-item.result c.loop-field-test.true c.field-item.is in
    let small : words_in_all (kinds_of (drop c.loop-field.field-index c.args.fields.now)) ≤ 65535 = omega (arith, c.loop-field.invariant.1) in
    omega (arith, c.loop-field.invariant.1, words_left c.args.fields.now c.loop-field.field-index c.field-item.result c.size_words-end.result split c.size_words-end.ensures small)

pub loop-field-preserved : goal.loop-field-preserved
loop-field-preserved c =
    let split = from_field c.args.fields.now c.loop-field.field-index c.field-item.result c.loop-field-test.true c.field-item.is in
    let small : words_in_all (kinds_of (drop c.loop-field.field-index c.args.fields.now)) ≤ 65535 = omega (arith, c.loop-field.invariant.1) in (
      one_put _ c.loop-field.starts _ _ c.push.new.self (c.loop-field.end + c.size_words-end.result) c.loop-field.invariant.0
          (ends_left c.args.fields.now c.loop-field.field-index c.field-item.result c.size_words-end.result c.loop-field.end split c.size_words-end.ensures small)
          c.in_ok-push.ensures.ok,
      omega (arith, c.loop-field.invariant.1, words_left c.args.fields.now c.loop-field.field-index c.field-item.result c.size_words-end.result split c.size_words-end.ensures small),
    )
