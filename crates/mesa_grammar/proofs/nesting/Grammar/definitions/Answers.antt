use Rattle.std.proofs.Common.{rules, arith}
use Rattle.std.proofs.lemmas.Grind.{common_steps}
use Rattle.token_cursor.specs.Parsing.{a_name}
use Rattle.grammar_rules.specs.ReadStatements.{nested}
use Rattle.grammar_rules.specs.ReadModules.{definitions_step}
use Rattle.mesa_grammar.proofs.FrontSteps.{definitions_eats}
use Rattle.token_cursor.proofs.Taking.{many_falls}
use Rattle.mesa_grammar.proofs.nesting.Grammar.definitions.Goals as goal

pub definitions-smaller : goal.definitions-smaller
definitions-smaller g c = many_falls a_name (definitions_step (nested c.args.self.now.statements.level.depth)) (definitions_eats c.args.self.now.statements.level.depth) c.definitions.all c.in_ok-all-in-Ok-Some.all _ _ (first_of (search rules, grind (arith, common_steps)))
