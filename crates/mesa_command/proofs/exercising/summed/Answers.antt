use Rattle.command_rules.specs.Shown.{image_names}
use Rattle.mesa_command.specs.Exercises.{not_summed, summed}
use Rattle.mesa_command.proofs.exercising.summed.Goals as goal

pub returns-then-print_summary : goal.returns-then-print_summary
returns-then-print_summary g c =
    rw c.end_of.ensures (summed (rw (c.len-instances.ensures, c.machine.view_is) at (c.print_summary.ensures.whole (image_names c.args.machine.now) c.if-print_summary.true)))

pub returns-else-print_summary : goal.returns-else-print_summary
returns-else-print_summary g c =
    not_summed (c.print_summary.ensures.fault c.if-print_summary.false)
    (rw (c.len-instances.ensures, c.machine.view_is) at (c.print_summary.ensures.cut (image_names c.args.machine.now) c.if-print_summary.false))
