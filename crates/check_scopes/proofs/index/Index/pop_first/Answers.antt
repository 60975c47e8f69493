-- What the index says of the entry that it gave, or that it has none.
use Rattle.std.proofs.Common.{None}
use Rattle.check_scopes.specs.Shows.{listed}
use Rattle.check_scopes.proofs.Indexes.{indexed-updated, indexed-none, none_left}
use Rattle.check_scopes.proofs.index.Index.pop_first.Goals as goal

pub returns-in-Some-clause-left : goal.returns-in-Some-clause-left
unfolding listed
returns-in-Some-clause-left g c = indexed-updated c.in-Some.name c.args.self.now.index c.pop_first.new.self None c.in-Some.ensures.updates

pub returns-in-None-clause-none : goal.returns-in-None-clause-none
unfolding listed
returns-in-None-clause-none g c = indexed-none c.args.self.now.index (none_left c.args.self.now.index.entries c.in-None.ensures.variant.1)
