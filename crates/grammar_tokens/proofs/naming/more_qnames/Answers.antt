use Rattle.std.proofs.Common.{rules, arith}
use Rattle.std.proofs.lemmas.Grind.{common_steps}
use Rattle.grammar_rules.specs.ReadNested.{comma, qnames_step}
use Rattle.grammar_rules.proofs.Names.{qnames_eats}
use Rattle.token_cursor.proofs.Taking.{many_falls}
use Rattle.grammar_tokens.proofs.naming.more_qnames.Goals as goal

pub qnames-smaller : goal.qnames-smaller
qnames-smaller c = many_falls comma qnames_step qnames_eats c.qnames.all c.push.new.self _ _ (first_of (search rules, grind (arith, common_steps)))
