use Rattle.std.proofs.Common.{◌∙◌}
use Rattle.check_scopes.specs.Scopes.{nothing, over, with_name}
use Rattle.check_scopes.specs.Shows.{listed}
use Rattle.config_tree.proofs.Pairs.{pair_more, all_pairs}
use Rattle.config_tree.proofs.outward.pairs_index.Goals as goal

pub loop-pair-preserved : goal.loop-pair-preserved
loop-pair-preserved c =
    let now = listed c.loop-pair.index in
    pair_more now (listed c.declare_first.new.self) c.args.pairs.now c.loop-pair.pair-index c.pair-item.result c.pair-item.result _ c.loop-pair-test.true c.pair-item.is
    (c.in_ok-declare_first.ensures.ok ∙ (λ j. over now (with_name (c.bytes.ensures j) (c.in_ok-outside.ensures j) nothing))) c.loop-pair.invariant

pub returns : goal.returns
returns c = all_pairs (listed c.loop-pair.index) c.args.pairs.now c.loop-pair.pair-index _ c.loop-pair-test.false c.loop-pair.invariant
