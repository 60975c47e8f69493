use Rattle.std.proofs.Common.{[], ◌∷◌, subst}
use Rattle.mesa_types.specs.declared.faces.Face.{Face}
use Rattle.config_tree.specs.Noted.{Notes}
use Rattle.config_tree.proofs.NotedShapes.{next_shape, refused_shape, all_shapes}
use Rattle.config_tree.proofs.differing.differing_behind.Goals as goal

pub loop-n-init : goal.loop-n-init
loop-n-init c = subst (λ (f : Face). Notes (f ∷ []) c.in_ok-seen.seen.entries) c.requires c.in_ok-seen.ensures

pub returns-then-not-branch : goal.returns-then-not-branch
returns-then-not-branch c = (
  c.loop-n-test.true,
  refused_shape c.args.shapes.now c.loop-n.n c.loop-n.seen.entries c.loop-n.invariant c.index-shapes-n.result c.index-shapes-n.result c.loop-n-test.true c.index-shapes-n.is
      c.shape_agrees.new.seen.entries c.in_ok-shape_agrees.field-0 c.in_ok-shape_agrees.ensures c.if-not-branch.true,
)

pub loop-n-preserved : goal.loop-n-preserved
loop-n-preserved c =
    next_shape c.args.shapes.now c.loop-n.n c.loop-n.seen.entries c.loop-n.invariant c.index-shapes-n.result c.index-shapes-n.result c.loop-n-test.true c.index-shapes-n.is
    c.shape_agrees.new.seen.entries c.in_ok-shape_agrees.field-0 c.in_ok-shape_agrees.ensures c.if-not-branch.false

pub returns : goal.returns
returns c = all_shapes c.args.shapes.now c.loop-n.n c.loop-n.seen.entries c.loop-n.invariant c.loop-n-test.false
