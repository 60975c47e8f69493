use Rattle.std.proofs.Common.{[], ◌∷◌, ◌++◌, ap, ◌∙◌}
use Rattle.config_rules.specs.Components.{names_of}
use Rattle.config_rules.specs.Grown.{pairs}
use Rattle.config_rules.specs.declared.tree.RecordPair.{RecordPair}
use Rattle.config_tree.proofs.Pairing.{own_pair, own_pairs_end}
use Rattle.config_tree.proofs.records.own_pairs.Goals as goal

pub loop-identifier-preserved : goal.loop-identifier-preserved
loop-identifier-preserved c =
    own_pair c.loop-identifier.pairs (pairs (names_of c.args.names.now) (names_of c.args.names.now)) c.push.new.self c.args.names.now c.loop-identifier.identifier-index c.identifier-item.result
    c.identifier-item.result c.loop-identifier-test.true c.identifier-item.is
    (c.in_ok-push.ensures.ok ∙ ap (λ (p : RecordPair). c.loop-identifier.pairs ++ p ∷ []) c.in_ok-pair.ensures) c.loop-identifier.invariant

pub returns : goal.returns
returns c =
    own_pairs_end c.loop-identifier.pairs (pairs (names_of c.args.names.now) (names_of c.args.names.now)) c.args.names.now c.loop-identifier.identifier-index c.loop-identifier-test.false
    c.loop-identifier.invariant
