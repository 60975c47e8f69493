use Rattle.std.proofs.Common.{◌≡◌, length}
use Rattle.token_cursor.specs.Parsing.{repeat}
use Rattle.grammar_rules.specs.ReadExpressions.{undecided_turn}
use Rattle.grammar_rules.specs.ReadStatements.{nested}
use Rattle.grammar_expressions.proofs.nesting.Level.undecided.Given as goal

abbrev pub invariant-names : goal.invariant-names
invariant-names g l = repeat (undecided_turn (nested l.self.depth)) (record { before = l.fn.before; last = l.fn.last }) l.fn.tokens.rest.now
    ≡ repeat (undecided_turn (nested l.self.depth)) (record { before = l.before; last = l.last }) l.tokens.rest.now

abbrev pub decreases-names : goal.decreases-names
decreases-names g l = length l.tokens.rest.now
