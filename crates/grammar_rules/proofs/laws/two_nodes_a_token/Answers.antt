use Rattle.std.proofs.Common.{arith}
use Rattle.grammar_rules.proofs.TwoNodes.{module_fits}
use Rattle.grammar_rules.proofs.laws.two_nodes_a_token.Goals as goal

pub returns : goal.returns
returns c = λ x h. omega (arith, (module_fits h.0).fits)
