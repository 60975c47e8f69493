use Rattle.std.proofs.Common.{rules, arith}
use Rattle.std.proofs.lemmas.Grind.{common_steps}
use Rattle.grammar_rules.specs.ReadExpressions.{suffixes_step, suffixing}
use Rattle.grammar_rules.specs.ReadStatements.{nested}
use Rattle.grammar_rules.proofs.Parts.{suffixes_eats}
use Rattle.token_cursor.proofs.Taking.{many_falls}
use Rattle.grammar_expressions.proofs.nesting.Level.more_suffixes.Goals as goal

pub suffixes-smaller : goal.suffixes-smaller
suffixes-smaller g c = many_falls suffixing (suffixes_step (nested c.args.self.now.depth)) (suffixes_eats c.args.self.now.depth) c.suffixes.all c.in_ok-all.all _ _ (first_of (search rules, grind (arith, common_steps)))
