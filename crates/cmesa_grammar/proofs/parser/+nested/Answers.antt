use Rattle.std.proofs.Common.{arith}
use Rattle.cmesa_grammar.specs.ReadConfigs.{begins_configuration, nested}
use Rattle.cmesa_grammar.proofs.Deeper.{deeper, too_deep_by}
use Rattle.cmesa_grammar.proofs.parser.+nested.Goals as goal

pub returns-then-depth-eq0 : goal.returns-then-depth-eq0
unfolding nested
returns-then-depth-eq0 t c = λ other. rw c.if-depth-eq0.true (too_deep_by begins_configuration c.args.tokens.now.rest.now c.begins_configuration.result c.too_deep.result c.begins_configuration.ensures c.too_deep.ensures)

pub returns : goal.returns
unfolding nested
returns t c = rw (deeper (λ n. nested n c.args.name c.args.tokens.now.rest.now) c.args.depth (omega arith)) c.configured.ensures
