use Rattle.std.proofs.Common.{drop, map}
use Rattle.syntax_trees.specs.PlainSyntax as plain
use Rattle.check_rules.specs.Mentions.{of_definitions}
use Rattle.check_mentions.specs.Gathering.{Leaves}
use Rattle.check_mentions.proofs.gathered.Gathered.definitions.Given as goal

abbrev pub invariant-loop-one : goal.invariant-loop-one
invariant-loop-one l = Leaves l.fn.self (of_definitions (map plain.definition l.all)) l.self (of_definitions (map plain.definition (drop l.one-index l.all)))
