use Rattle.std.proofs.Common.{drop, map}
use Rattle.syntax_trees.specs.PlainSyntax as plain
use Rattle.check_rules.specs.Mentions.{of_declarations}
use Rattle.check_mentions.specs.Gathering.{Leaves}
use Rattle.check_mentions.proofs.gathered.Gathered.declarations.Given as goal

abbrev pub invariant-loop-one : goal.invariant-loop-one
invariant-loop-one l = Leaves l.fn.self (of_declarations (map plain.declaration l.all)) l.self (of_declarations (map plain.declaration (drop l.one-index l.all)))
