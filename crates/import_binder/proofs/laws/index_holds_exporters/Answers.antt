use Rattle.import_binder.proofs.Holding.{index_holds_exporters}
use Rattle.import_binder.proofs.laws.index_holds_exporters.Goals as goal

pub returns : goal.returns
returns c = index_holds_exporters
