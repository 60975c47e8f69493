use Rattle.std.proofs.Common.{◌≡◌, length}
use Rattle.token_cursor.specs.Parsing.{many}
use Rattle.cmesa_grammar.specs.ReadConfigs.{comma, items_step}
use Rattle.cmesa_grammar.proofs.texts.more_items.Given as goal

abbrev pub invariant-items : goal.invariant-items
invariant-items l = many comma items_step l.fn.all l.fn.tokens.rest.now ≡ many comma items_step l.all l.tokens.rest.now

abbrev pub decreases-items : goal.decreases-items
decreases-items l = length l.tokens.rest.now
