use Rattle.std.proofs.Common.{drop}
use Rattle.import_binder.proofs.Linking.{RestOf}
use Rattle.import_binder.proofs.links.all_links.Given as goal

abbrev pub invariant-loop-instance : goal.invariant-loop-instance
invariant-loop-instance l = RestOf l.indexed.tree.now l.all l.instance-items (drop l.instance-index l.instance-items)
