use Rattle.import_binder.proofs.finder.+source.Given as goal

abbrev pub decreases-source : goal.decreases-source
decreases-source l = l.most
