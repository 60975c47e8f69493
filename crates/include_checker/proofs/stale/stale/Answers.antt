use Rattle.std.proofs.Common.{map, ◌∙◌}
use Rattle.include_rules.specs.Stale.{faced, is_stale}
use Rattle.include_checker.proofs.Staling.{kept, left_out}
use Rattle.include_checker.proofs.stale.stale.Goals as goal
use Rattle.include_checker.proofs.stale.stale.Goals.{then-is_stale+in_ok-push, else-is_stale}

pub loop-text-preserved : goal.loop-text-preserved
loop-text-preserved c =
    let p = is_stale (map faced c.args.files.now) in
    elim c.if-is_stale.branch [
      | then-is_stale+in_ok-push w ↦
          kept p c.loop-text.numbers c.if-is_stale.numbers c.loop-text.text c.is_stale.result c.is_stale.ensures w.if-is_stale.true (w.numbers-is ∙ w.in_ok-push.ensures.ok) c.loop-text.invariant
      | else-is_stale w ↦ w.numbers-is ∙ left_out p c.loop-text.numbers c.loop-text.text c.is_stale.result c.is_stale.ensures w.if-is_stale.false c.loop-text.invariant
    ]
