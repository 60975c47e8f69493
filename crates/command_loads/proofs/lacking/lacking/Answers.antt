use Rattle.std.proofs.Common.{refl}
use Rattle.command_passes.specs.Stops.{stop_case}
use Rattle.command_loads.proofs.Joining.{lack_ends}
use Rattle.command_loads.proofs.lacking.lacking.Goals as goal

pub returns : goal.returns
returns c =
    lack_ends c.args.bases.now c.args.lack.number c.index-bases-number.result c.requires.one c.index-bases-number.is c.args.lack (stop_case c.refused.result) refl
    (rw c.as_slice.ensures at c.refused.ensures)
