use Rattle.std.proofs.Common.{arith, ◌<◌, get_or}
use Rattle.file_forms.proofs.Numbers.{value_fits, value_room, value_below, value_more}
use Rattle.file_forms.proofs.value.value.Goals as goal

pub overflow_mul-value : goal.overflow_mul-value
overflow_mul-value c = omega (arith, value_room c.loop-byte.value c.loop-byte.byte-index _ c.loop-byte.invariant.below c.loop-byte-test.true c.requires)

pub overflow_add-value : goal.overflow_add-value
overflow_add-value c =
    let small : get_or c.args.bytes.now c.loop-byte.byte-index 0 < 256 = omega (arith, c.type_inv.bytes c.loop-byte.byte-index) in
    omega (arith, value_fits c.loop-byte.value c.loop-byte.byte-index _ _ c.loop-byte.invariant.below c.loop-byte-test.true c.requires small)

pub loop-byte-preserved : goal.loop-byte-preserved
loop-byte-preserved c = record {
  is = value_more c.args.bytes.now c.loop-byte.value c.loop-byte.byte-index _ c.loop-byte-test.true c.loop-byte.invariant.is;
  below =
      let small : get_or c.args.bytes.now c.loop-byte.byte-index 0 < 256 = omega (arith, c.type_inv.bytes c.loop-byte.byte-index) in
      value_below c.loop-byte.value c.loop-byte.byte-index _ c.loop-byte.invariant.below small;
}
