use Rattle.std.proofs.Common.{arith}
use Rattle.cmesa_grammar.proofs.OneNode.{config}
use Rattle.cmesa_grammar.proofs.laws.one_node_a_token.Goals as goal

pub returns : goal.returns
returns c = λ x h. omega (arith, config h.0)
