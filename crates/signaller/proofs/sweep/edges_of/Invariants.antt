use Rattle.signaller.proofs.Edges.{EdgesOf}
use Rattle.signaller.proofs.sweep.edges_of.Given as goal

abbrev pub invariant-loop-phrase : goal.invariant-loop-phrase
invariant-loop-phrase l = EdgesOf l.table l.phrase-index l.edges.items
