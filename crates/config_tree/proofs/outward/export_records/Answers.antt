use Rattle.std.proofs.Common.{ap, ◌∙◌}
use Rattle.config_rules.specs.Exporters.{outside_of}
use Rattle.config_tree.specs.Outward.{exported}
use Rattle.config_tree.proofs.Pairs.{lists, no_scopes, scope_more, all_scopes}
use Rattle.config_tree.proofs.outward.export_records.Goals as goal

pub loop-scope-init : goal.loop-scope-init
loop-scope-init c = no_scopes exported c.as_slice-scope-items.result.now c.new-records.result c.new-records.ensures

pub loop-scope-preserved : goal.loop-scope-preserved
loop-scope-preserved c =
    scope_more exported c.as_slice-scope-items.result.now c.loop-scope.records c.push.new.self c.in_ok-index.index c.loop-scope.scope-index c.scope-item.result c.scope-item.result _
    c.loop-scope-test.true c.scope-item.is c.in_ok-push.ensures.ok (c.in_ok-index.ensures ∙ ap outside_of c.as_slice.ensures) c.loop-scope.invariant

pub returns : goal.returns
returns c =
    all_scopes exported c.as_slice-scope-items.result.now c.loop-scope.records c.loop-scope.scope-index _ c.loop-scope-test.false c.loop-scope.invariant
    ∙ ap (lists exported) c.as_slice-scope-items.ensures
