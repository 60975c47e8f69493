use Rattle.std.proofs.Common.{rules, arith}
use Rattle.std.proofs.lemmas.Grind.{common_steps}
use Rattle.token_cursor.specs.ReadNames.{comma, names_step}
use Rattle.token_cursor.proofs.Names.{names_eats}
use Rattle.token_cursor.proofs.Taking.{many_falls}
use Rattle.token_cursor.proofs.naming.more_names.Goals as goal

pub names-smaller : goal.names-smaller
names-smaller c = many_falls comma names_step names_eats c.names.all c.push.new.self _ _ (first_of (search rules, grind (arith, common_steps)))
