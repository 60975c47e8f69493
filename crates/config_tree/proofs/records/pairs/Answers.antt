use Rattle.std.proofs.Common.{[], ◌∷◌, ◌++◌, ap, ◌∙◌}
use Rattle.config_rules.specs.Components.{names_of}
use Rattle.config_rules.specs.Grown as spec
use Rattle.config_rules.specs.declared.tree.RecordPair.{RecordPair}
use Rattle.config_tree.proofs.Pairing.{no_inside, no_outside, one_pair}
use Rattle.config_tree.proofs.records.pairs.Goals as goal

pub returns-in_default-split_first : goal.returns-in_default-split_first
returns-in_default-split_first c =
    no_outside c.pairs.pairs (spec.pairs (names_of c.args.inside.now) c.args.outside.now) c.pairs.rest.now c.pairs.others.now c.in_default-split_first.ensures.cases c.pairs.invariant

pub pairs-preserved : goal.pairs-preserved
pairs-preserved c =
    one_pair c.pairs.pairs (spec.pairs (names_of c.args.inside.now) c.args.outside.now) c.push.new.self c.pairs.rest.now c.in-Some.more.now c.pairs.others.now c.in-Some-split_first.behind.now
    c.in-Some.identifier.now c.in-Some-split_first.record_name.now c.in-Some.ensures.cases.0 c.in-Some-split_first.ensures.cases.0
    (c.in_ok-push.ensures.ok ∙ ap (λ (p : RecordPair). c.pairs.pairs ++ p ∷ []) c.in_ok-pair.ensures) c.pairs.invariant

pub returns : goal.returns
returns c = no_inside c.pairs.pairs (spec.pairs (names_of c.args.inside.now) c.args.outside.now) c.pairs.rest.now c.pairs.others.now c.in_default.ensures.cases c.pairs.invariant
