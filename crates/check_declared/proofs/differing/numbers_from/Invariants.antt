use Rattle.std.proofs.Common.{◌≡◌, ◌++◌, drop}
use Rattle.check_rules.specs.Statements.{numbers_from}
use Rattle.check_declared.proofs.differing.numbers_from.Given as goal

abbrev pub invariant-loop-name : goal.invariant-loop-name
invariant-loop-name l = numbers_from l.first l.names ≡ l.numbers ++ numbers_from l.number (drop l._name-index l.names)
