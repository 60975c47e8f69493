use Rattle.std.proofs.lemmas.List.Elements.{All-nil}
use Rattle.object_rules.specs.Parts.{parts_of}
use Rattle.linked_objects.specs.Filed.{IsFiled}
use Rattle.command_passes.specs.command_rules.specs.Binding.{object_of}
use Rattle.command_passes.proofs.Steps.{no_turns}
use Rattle.command_sources.proofs.Binding.{no_room}
use Rattle.command_sources.proofs.EachComponent.{all_had, none_more, one_more}
use Rattle.command_sources.proofs.OfObjects.{one_more_filed}
use Rattle.command_sources.proofs.objects.put_objects.Goals as goal

pub loop-component-init : goal.loop-component-init
loop-component-init g c = (rw c.requires.empty (no_turns object_of _), rw c.requires.empty (All-nil IsFiled))

pub loop-component-preserved : goal.loop-component-preserved
loop-component-preserved g c = (
  one_more _ _ object_of parts_of c.args.components.now c.loop-component.component-index c.component-item.result c.loop-component-test.true c.component-item.is _ _ _
      c.loop-component.objects.items _ c.in-Ok.object c.in_ok-put_object.ensures c.loop-component.invariant.0 c.in-Ok.ensures.passes,
  one_more_filed c.loop-component.objects.items _ c.in-Ok.object c.in_ok-put_object.ensures c.loop-component.invariant.1 c.in-Ok.ensures.filed,
)

pub returns-in-Err-clause-passes : goal.returns-in-Err-clause-passes
returns-in-Err-clause-passes g c =
    none_more _ _ object_of parts_of c.args.components.now c.loop-component.component-index c.component-item.result c.loop-component-test.true c.component-item.is _ _ _
    c.loop-component.objects.items _ c.loop-component.invariant.0 c.in-Err.ensures.passes

pub returns-in_err-put_object-clause-passes : goal.returns-in_err-put_object-clause-passes
returns-in_err-put_object-clause-passes g c = no_room _ _ _ _ c.from_residual.result c.from_residual.ensures.1

pub returns-clause-passes : goal.returns-clause-passes
returns-clause-passes g c =
    all_had _ _ object_of parts_of c.args.components.now c.loop-component.component-index _ _ c.loop-component.objects.items c.loop-component-test.false
    c.loop-component.invariant.0
