use Rattle.cmesa_grammar.specs.Plain as grammar
use Rattle.command_passes.specs.Stops.{stop_case}
use Rattle.command_sources.proofs.Binding.{no_room}
use Rattle.command_sources.proofs.OfObjects.{as_many, no_objects, objects_passes}
use Rattle.command_sources.proofs.objects.bound_of_plan.Goals as goal

pub returns-in_err-file-clause-passes : goal.returns-in_err-file-clause-passes
returns-in_err-file-clause-passes g c = no_room _ _ _ _ c.from_residual.result c.from_residual.ensures.1

pub objects_of-requires : goal.objects_of-requires
objects_of-requires g c = rw c.as_slice.ensures c.requires.plan.files

pub objects_bound-requires : goal.objects_bound-requires
objects_bound-requires g c = record {
  plan = c.requires.plan;
  as_many =
      as_many c.args.plan.now.components (grammar.plain c.args.plan.now.config) c.requires.plan.components_are _ _ c.in-Ok.objects.items
      (rw c.as_slice.ensures at c.in-Ok.ensures.passes);
  filed = c.in-Ok.ensures.filed;
}

pub returns-in-Ok-clause-passes : goal.returns-in-Ok-clause-passes
returns-in-Ok-clause-passes g c =
    rw c.in_ok-file.ensures at
    (objects_passes (grammar.plain c.args.plan.now.config) c.args.plan.now.components c.requires.plan.components_are c.in_ok-file.file _ _ c.in-Ok.objects.items
    c.objects_bound.result (rw c.as_slice.ensures at c.in-Ok.ensures.passes) c.objects_bound.ensures.passes)

pub returns-in-Err-clause-passes : goal.returns-in-Err-clause-passes
returns-in-Err-clause-passes g c =
    no_objects (grammar.plain c.args.plan.now.config) c.args.plan.now.components c.requires.plan.components_are _ _ _ (stop_case c.in-Err.why)
    (rw c.as_slice.ensures at c.in-Err.ensures.passes)
