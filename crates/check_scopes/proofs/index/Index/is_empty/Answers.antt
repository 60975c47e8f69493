-- An index without entries has no names.
use Rattle.check_scopes.specs.Shows.{listed}
use Rattle.check_scopes.proofs.Indexes.{indexed-none, no_entries}
use Rattle.check_scopes.proofs.index.Index.is_empty.Goals as goal

pub returns : goal.returns
unfolding listed
returns g c = λ e. indexed-none c.args.self.now.index (no_entries c.args.self.now.index.entries (c.is_empty.ensures.0 e))
