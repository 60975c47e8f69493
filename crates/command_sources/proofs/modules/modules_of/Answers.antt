use Rattle.mesa_types.specs.Plain.{plain}
use Rattle.command_passes.specs.command_rules.specs.Configurations.{component_in}
use Rattle.command_passes.proofs.Steps.{no_turns}
use Rattle.command_sources.proofs.Binding.{no_room}
use Rattle.command_sources.proofs.EachComponent.{all_had, none_more, one_more}
use Rattle.command_sources.proofs.modules.modules_of.Goals as goal

pub loop-component-init : goal.loop-component-init
loop-component-init g c = rw c.new-modules.ensures (no_turns component_in _)

pub loop-component-preserved : goal.loop-component-preserved
loop-component-preserved g c =
    one_more _ _ component_in plain c.args.components.now c.loop-component.component-index c.component-item.result c.loop-component-test.true c.component-item.is _ _ _
    c.loop-component.modules _ c.in-Ok.module c.in_ok-modules.ensures c.loop-component.invariant c.in-Ok.ensures.passes

pub returns-in-Err-clause-passes : goal.returns-in-Err-clause-passes
returns-in-Err-clause-passes g c =
    none_more _ _ component_in plain c.args.components.now c.loop-component.component-index c.component-item.result c.loop-component-test.true c.component-item.is _ _ _
    c.loop-component.modules _ c.loop-component.invariant c.in-Err.ensures.passes

pub returns-in_err-modules-clause-passes : goal.returns-in_err-modules-clause-passes
returns-in_err-modules-clause-passes g c = no_room _ _ _ _ c.from_residual.result c.from_residual.ensures.1

pub returns-clause-passes : goal.returns-clause-passes
returns-clause-passes g c =
    all_had _ _ component_in plain c.args.components.now c.loop-component.component-index _ _ c.loop-component.modules c.loop-component-test.false
    c.loop-component.invariant
