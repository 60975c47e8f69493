use Rattle.cmesa_grammar.proofs.parser.+nested.Given as goal

abbrev pub decreases-nested : goal.decreases-nested
decreases-nested l = l.depth
