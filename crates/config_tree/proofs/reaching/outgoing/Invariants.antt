use Rattle.std.proofs.Common.{◌≡◌, ◌++◌, drop}
use Rattle.config_rules.specs.Exporters.{outlets_from}
use Rattle.config_rules.specs.Outgoing.{entries_of}
use Rattle.config_tree.proofs.reaching.outgoing.Given as goal

-- the entries so far, and those of the instances that are left
abbrev pub invariant-loop-number : goal.invariant-loop-number
invariant-loop-number l = l.entries ++ entries_of l.tree (outlets_from l.number (drop l.number l.tree.instances)) ≡ entries_of l.tree (outlets_from 0 l.tree.instances)
