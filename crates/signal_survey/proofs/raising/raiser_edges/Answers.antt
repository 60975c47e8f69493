use Rattle.std.proofs.Common.{[]}
use Rattle.signal_survey.proofs.Added.{loop_none, loop_more, loop_all}
use Rattle.signal_survey.proofs.raising.raiser_edges.Goals as goal

pub loop-it-init : goal.loop-it-init
loop-it-init c = loop_none _ c.args.list.now [] c.new-edges.result c.new-edges.ensures

pub loop-it-preserved : goal.loop-it-preserved
loop-it-preserved c =
    loop_more _ c.args.list.now [] c.loop-it.edges c.add_raiser.new.edges c.loop-it.it-index _ c.loop-it-test.true c.loop-it.invariant c.in_ok-add_raiser.ensures

pub returns : goal.returns
returns c = loop_all _ c.args.list.now [] c.loop-it.edges c.loop-it.it-index c.loop-it-test.false c.loop-it.invariant
