use Rattle.command_passes.specs.command_rules.specs.Planning.{plan_text}
use Rattle.command_plans.proofs.Lines.{three_put}
use Rattle.command_plans.proofs.report.plan_lines.Goals as goal

pub returns : goal.returns
unfolding plan_text
returns c =
    three_put c.new-out.result c.put_texts.new.out c.put_texts-2.new.out c.put_names.new.out _ _ _ c.new-out.ensures
    (rw c.as_slice.ensures at c.in_ok-put_texts.ensures) (rw c.as_slice-2.ensures at c.in_ok-put_texts-2.ensures)
    (rw c.as_slice-3.ensures at c.in_ok-put_names.ensures)
