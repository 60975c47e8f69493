use Rattle.std.proofs.Common.{sym}
use Rattle.include_checker.proofs.Walking.{goes_on}
use Rattle.include_checker.proofs.cycle.onward.Goals as goal

pub unreachable-requires : goal.unreachable-requires
unreachable-requires c = goes_on c.args.names.now c.args.taken.now c.args.text c.requires.stuck c.requires.is_text c.requires.left (sym c.in-None.ensures)
