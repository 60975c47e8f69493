use Rattle.command_laws.proofs.Uncaught.{uncaught_is_surveyed}
use Rattle.command_laws.proofs.laws.uncaught_is_surveyed.Goals as goal

pub returns : goal.returns
returns c =
    uncaught_is_surveyed c.uncaught_signals_escape.ensures c.depths_do_not_matter.ensures c.ordered_can_run.ensures c.images_of_files_are_in_order.ensures
