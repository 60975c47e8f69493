use Rattle.std.proofs.Common.{subst, IfOk, Result}
use Rattle.mesa_base.specs.declared.out_of_memory.OutOfMemory.{OutOfMemory}
use Rattle.config_tree.specs.Outlines.{IsOutline}
use Rattle.config_tree.specs.declared.alone.Outline.{Outline}
use Rattle.config_tree.proofs.SingleTrees.{tree_of_outline}
use Rattle.config_tree.proofs.alone.single_tree.Goals as goal

pub returns : goal.returns
returns c =
    tree_of_outline c.args.shape c.in_ok-shape.shape c.in_ok-shape.outline c.new.result c.in_ok-instances.instances
    (subst (λ (r : Result Outline OutOfMemory). IfOk r (IsOutline c.args.shape)) c.in_ok-shape.ensures.1 c.outline_of-outline.ensures) c.in_ok-shape.ensures.0 c.new.ensures c.in_ok-instances.ensures
