use Rattle.std.proofs.Common.{◌≡◌, length}
use Rattle.token_cursor.specs.Parsing.{repeat}
use Rattle.grammar_rules.specs.ReadStatements.{nested}
use Rattle.grammar_rules.specs.ReadModules.{front_turn}
use Rattle.mesa_grammar.proofs.nesting.Grammar.front.Given as goal

abbrev pub invariant-declarations : goal.invariant-declarations
invariant-declarations g l = repeat (front_turn (nested l.self.statements.level.depth)) l.fn.all l.fn.tokens.rest.now ≡ repeat (front_turn (nested l.self.statements.level.depth)) l.all l.tokens.rest.now

abbrev pub decreases-declarations : goal.decreases-declarations
decreases-declarations g l = length l.tokens.rest.now
