use Rattle.mesa_grammar.proofs.parser.+nest.Given as goal

abbrev pub decreases-stmt : goal.decreases-stmt
decreases-stmt l = l.depth

abbrev pub decreases-expr : goal.decreases-expr
decreases-expr l = l.depth

abbrev pub decreases-type_exp : goal.decreases-type_exp
decreases-type_exp l = l.depth
