use Rattle.std.proofs.Common.{◌≡◌, ◌++◌, drop}
use Rattle.config_rules.specs.Exporters.{outlets_of}
use Rattle.config_rules.specs.Outgoing.{entries_of}
use Rattle.config_tree.proofs.reaching.put_exports.Given as goal

-- the entries so far, and those of the exports that are left
abbrev pub invariant-loop-at : goal.invariant-loop-at
invariant-loop-at l =
    l.entries ++ entries_of l.tree (outlets_of l.number l.at l.instance.scope (drop l.at l.instance.exports) (drop l.at l.instance.shape.exports))
    ≡ l.initial.entries ++ entries_of l.tree (outlets_of l.number 0 l.instance.scope l.instance.exports l.instance.shape.exports)
