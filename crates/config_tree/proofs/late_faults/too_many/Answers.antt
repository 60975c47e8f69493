use Rattle.std.proofs.Common.{Some, ap, ◌∙◌}
use Rattle.config_rules.specs.Tree as spec
use Rattle.config_templates.specs.Shown.{chained}
use Rattle.config_tree.specs.Places.{part_place}
use Rattle.config_tree.proofs.LateFaults.{many_end, many_here, many_more}
use Rattle.config_tree.proofs.late_faults.too_many.Goals as goal

pub returns-then-so_far-gt-INSTANCES : goal.returns-then-so_far-gt-INSTANCES
returns-then-so_far-gt-INSTANCES c =
    ap Some c.place_of.ensures
    ∙ many_here c.parts.rest.now c.in-Some.more.now c.in-Some.part.now (part_place c.in-Some.part.now) (spec.too_many 0 (chained c.args.parts.now)) c.parts.so_far c.instances_of-so_far.result
    c.in-Some.ensures.cases.0 (c.instances_of-so_far.ensures.many c.parts.so_far (chained c.in-Some.more.now)) c.parts.invariant.1 c.if-so_far-gt-INSTANCES.true

pub parts-preserved : goal.parts-preserved
parts-preserved c = (
  c.if-so_far-gt-INSTANCES.false,
  many_more c.parts.rest.now c.in-Some.more.now c.in-Some.part.now (part_place c.in-Some.part.now) (spec.too_many 0 (chained c.args.parts.now)) c.parts.so_far c.instances_of-so_far.result
      c.in-Some.ensures.cases.0 (c.instances_of-so_far.ensures.many c.parts.so_far (chained c.in-Some.more.now)) c.parts.invariant.1 c.if-so_far-gt-INSTANCES.false,
)

pub returns : goal.returns
returns c = many_end c.parts.rest.now (spec.too_many 0 (chained c.args.parts.now)) c.parts.so_far c.in_default.ensures.cases c.parts.invariant.1
