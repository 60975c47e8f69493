use Rattle.command_sizes.proofs.Complete.{small_calls_are_complete}
use Rattle.command_sizes.proofs.laws.small_calls_are_complete.Goals as goal

pub returns : goal.returns
returns c = small_calls_are_complete c.passes_are_exact.ensures c.files_are_small.ensures
