use Rattle.std.proofs.Common.{◌≡◌, length}
use Rattle.token_cursor.specs.Parsing.{many}
use Rattle.token_cursor.specs.ReadNames.{comma, names_step}
use Rattle.token_cursor.proofs.naming.more_names.Given as goal

abbrev pub invariant-names : goal.invariant-names
invariant-names l = many comma names_step l.fn.all l.fn.tokens.rest.now ≡ many comma names_step l.all l.tokens.rest.now

abbrev pub decreases-names : goal.decreases-names
decreases-names l = length l.tokens.rest.now
