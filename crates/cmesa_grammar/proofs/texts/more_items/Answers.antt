use Rattle.std.proofs.Common.{rules, arith}
use Rattle.std.proofs.lemmas.Grind.{common_steps}
use Rattle.token_cursor.proofs.Taking.{many_falls}
use Rattle.cmesa_grammar.specs.ReadConfigs.{comma, items_step}
use Rattle.cmesa_grammar.proofs.Keep.{items_eats}
use Rattle.cmesa_grammar.proofs.texts.more_items.Goals as goal

pub items-smaller : goal.items-smaller
items-smaller c = many_falls comma items_step items_eats c.items.all c.in_ok-all.all _ _ (first_of (search rules, grind (arith, common_steps)))
