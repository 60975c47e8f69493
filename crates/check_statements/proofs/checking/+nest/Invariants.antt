use Rattle.check_statements.proofs.checking.+nest.Given as goal

abbrev pub decreases-at : goal.decreases-at
decreases-at l = l.depth
