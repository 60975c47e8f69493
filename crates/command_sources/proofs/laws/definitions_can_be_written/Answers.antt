use Rattle.command_sources.proofs.Kept.{can_be_written}
use Rattle.command_sources.proofs.laws.definitions_can_be_written.Goals as goal

pub returns : goal.returns
returns c = can_be_written c.interfaces_fit.ensures c.built_in_fits.ensures c.defined_interfaces_can_be_spelled.ensures
