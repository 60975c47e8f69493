use Rattle.std.proofs.lemmas.List.Sorted.{IsNonDecreasingBy-from_sort}
use Rattle.signaller.proofs.Edges.{edges_none, edges_more, edges_sorted}
use Rattle.signaller.proofs.sweep.edges_of.Goals as goal

pub loop-phrase-init : goal.loop-phrase-init
loop-phrase-init c = edges_none c.args.table.now c.new-edges.result.items c.new-edges.ensures.items

pub loop-phrase-preserved : goal.loop-phrase-preserved
loop-phrase-preserved c =
    edges_more c.args.table.now c.loop-phrase.phrase-index c.phrase-item.result c.loop-phrase.edges.items c.push.new.self.items c.push-in-loop-phrase.new.self.items
    c.phrase-item.is c.loop-phrase-test.true c.in_ok-push.ensures.items c.in_ok-push-2.ensures.items c.loop-phrase.invariant

pub returns : goal.returns
returns c =
    edges_sorted c.args.table.now c.loop-phrase.phrase-index c.loop-phrase.edges.items c.sort_unstable.new.self.items c.loop-phrase.invariant c.loop-phrase-test.false c.loop-phrase.auto.phrase-index-end
    c.sort_unstable.ensures.permutation (IsNonDecreasingBy-from_sort (λ n. n) c.sort_unstable.new.self.items c.sort_unstable.ensures.sorted)
