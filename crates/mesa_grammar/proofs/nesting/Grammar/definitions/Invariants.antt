use Rattle.std.proofs.Common.{◌≡◌, length, []}
use Rattle.token_cursor.specs.Parsing.{a_name, many}
use Rattle.grammar_rules.specs.ReadStatements.{nested}
use Rattle.grammar_rules.specs.ReadModules.{definitions_step}
use Rattle.mesa_grammar.proofs.nesting.Grammar.definitions.Given as goal

abbrev pub invariant-definitions : goal.invariant-definitions
invariant-definitions g l = many a_name (definitions_step (nested l.self.statements.level.depth)) [] l.fn.tokens.rest.now ≡ many a_name (definitions_step (nested l.self.statements.level.depth)) l.all l.tokens.rest.now

abbrev pub decreases-definitions : goal.decreases-definitions
decreases-definitions g l = length l.tokens.rest.now
