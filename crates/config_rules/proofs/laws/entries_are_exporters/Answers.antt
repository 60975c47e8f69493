use Rattle.config_rules.proofs.Entries.{entries_are_exporters}
use Rattle.config_rules.proofs.laws.entries_are_exporters.Goals as goal

pub returns : goal.returns
returns c = entries_are_exporters
