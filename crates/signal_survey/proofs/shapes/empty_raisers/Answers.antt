use Rattle.std.proofs.Common.{◌+◌, ◌∙◌, refl, arith}
use Rattle.signal_survey.specs.Shapes.{raisers_width}
use Rattle.signal_survey.proofs.Shaped.{shape_none, shape_more, shape_all, raisers_wide, valid_none, valid_more, valid_all}
use Rattle.signal_survey.proofs.shapes.empty_raisers.Goals as goal

pub loop-instance-init : goal.loop-instance-init
loop-instance-init c = (
  shape_more (raisers_width c.args.image.now) 0 4 c.new-table.result c.add_row.new.self _ c.in_ok-add_row.ensures refl c.in_ok-empty_row.ensures
      (shape_none (raisers_width c.args.image.now) c.new-table.result c.new-table.ensures),
  valid_none c.args.image.now,
)

pub loop-instance-preserved : goal.loop-instance-preserved
loop-instance-preserved c = (
  shape_more (raisers_width c.args.image.now) (c.loop-instance.instance + 1) c.len.result c.loop-instance.table c.add_row-in-loop-instance.new.self _ c.in_ok-add_row-2.ensures
      (c.len.ensures ∙ raisers_wide c.args.image.now c.loop-instance.instance c.valid_code-code.result.now c.valid_code-code.ensures.is) c.in_ok-empty_row-2.ensures
      c.loop-instance.invariant.0,
  valid_more c.args.image.now c.loop-instance.instance c.valid_code-code.result.now c.valid_code-code.ensures.is c.valid_code-code.ensures.valid c.loop-instance.invariant.1,
)

pub returns : goal.returns
returns c =
    let l = c.loop-instance-test.false in let u = c.loop-instance.auto.instance-end in let e = c.len-instance-end.ensures in
    record {
      shape = shape_all (raisers_width c.args.image.now) (c.loop-instance.instance + 1) _ c.loop-instance.table (omega (arith, l, u, e)) c.loop-instance.invariant.0;
      valid = valid_all c.args.image.now c.loop-instance.instance (omega (arith, l, e)) c.loop-instance.invariant.1;
    }
