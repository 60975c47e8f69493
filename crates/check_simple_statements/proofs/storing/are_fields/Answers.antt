use Rattle.std.proofs.Common.{rules, ◌∙◌, sym}
use Rattle.check_state.specs.Views as words
use Rattle.check_simple_statements.proofs.TargetLaws.{fields_at, fields_end}
use Rattle.check_simple_statements.proofs.storing.are_fields.Goals as goal

pub loop-one-preserved : goal.loop-one-preserved
loop-one-preserved c = rw c.loop-one.invariant (rw (fields_at (words.fields c.args.spots.now.fields.now) c.args.all.now c.loop-one.one-index c.one-item.result (search rules) (search rules)) (search rules))

pub returns : goal.returns
returns c = sym (c.loop-one.invariant ∙ fields_end (words.fields c.args.spots.now.fields.now) c.args.all.now c.loop-one.one-index (search rules))

pub returns-then-is_none : goal.returns-then-is_none
returns-then-is_none c = rw c.loop-one.invariant (rw (fields_at (words.fields c.args.spots.now.fields.now) c.args.all.now c.loop-one.one-index c.one-item.result (search rules) (search rules)) (search rules))
