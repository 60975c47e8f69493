use Rattle.std.proofs.Common.{drop}
use Rattle.config_rules.specs.Resolves.{wants_of, wants_in}
use Rattle.import_binder.proofs.Linking.{Rest}
use Rattle.import_binder.proofs.links.links_of.Given as goal

abbrev pub invariant-loop-at : goal.invariant-loop-at
invariant-loop-at l =
    Rest l.initial.links l.links (wants_in l.indexed.tree.now l.instance) (wants_of l.indexed.tree.now l.instance (drop l.at l.instance.imports) (drop l.at l.instance.shape.imports))
