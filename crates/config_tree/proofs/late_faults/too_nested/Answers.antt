use Rattle.config_rules.specs.Tree as spec
use Rattle.config_templates.specs.Shown.{chained}
use Rattle.config_tree.proofs.LateFaults.{nested_end, nested_here, nested_more}
use Rattle.config_tree.proofs.late_faults.too_nested.Goals as goal

pub returns-in-Some-nested_too_deep : goal.returns-in-Some-nested_too_deep
returns-in-Some-nested_too_deep c =
    nested_here c.parts.rest.now c.in-Some.more.now c.in-Some.part.now c.in-Some-nested_too_deep.place (spec.too_nested (chained c.args.parts.now)) c.in-Some.ensures.cases.0
    (c.in-Some-nested_too_deep.ensures (chained c.in-Some.more.now)) c.parts.invariant

pub parts-preserved : goal.parts-preserved
parts-preserved c =
    nested_more c.parts.rest.now c.in-Some.more.now c.in-Some.part.now (spec.too_nested (chained c.args.parts.now)) c.in-Some.ensures.cases.0
    (c.in_default-nested_too_deep.ensures (chained c.in-Some.more.now)) c.parts.invariant

pub returns : goal.returns
returns c = nested_end c.parts.rest.now (spec.too_nested (chained c.args.parts.now)) c.in_default.ensures.cases c.parts.invariant
