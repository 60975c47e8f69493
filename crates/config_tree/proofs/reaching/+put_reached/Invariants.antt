use Rattle.config_tree.proofs.reaching.+put_reached.Given as goal

abbrev pub decreases-put_reached : goal.decreases-put_reached
decreases-put_reached l = l.most
