use Rattle.std.proofs.Common.{◌≡◌, length}
use Rattle.token_cursor.specs.Parsing.{many}
use Rattle.grammar_rules.specs.ReadNested.{comma, qnames_step}
use Rattle.grammar_tokens.proofs.naming.more_qnames.Given as goal

abbrev pub invariant-qnames : goal.invariant-qnames
invariant-qnames l = many comma qnames_step l.fn.all l.fn.tokens.rest.now ≡ many comma qnames_step l.all l.tokens.rest.now

abbrev pub decreases-qnames : goal.decreases-qnames
decreases-qnames l = length l.tokens.rest.now
