-- The index has the meaning under the key, which is the name.
use Rattle.std.proofs.Common.{Some, ap, ◌∙◌}
use Rattle.check_scopes.specs.Scopes.{with_name}
use Rattle.check_scopes.specs.Shows.{listed, indexed}
use Rattle.check_scopes.proofs.Indexes.{indexed-updated}
use Rattle.check_scopes.proofs.index.Index.declare.Goals as goal

pub returns-clause-ok : goal.returns-clause-ok
unfolding listed
returns-clause-ok g c =
    indexed-updated c.in_ok-name.name c.args.self.now.index c.insert.new.self (Some c.args.meaning) c.in_ok-insert.ensures.updates
    ∙ ap (λ x. with_name x c.args.meaning (indexed c.args.self.now.index)) c.in_ok-name.ensures.items
