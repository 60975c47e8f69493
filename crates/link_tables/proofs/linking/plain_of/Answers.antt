-- The numbers of the modules are those by the marks.
use Rattle.std.proofs.Common.{List, Bool, map, length, ap, subst, ◌∙◌}
use Rattle.config_rules.specs.declared.tree.TreeInstance.{TreeInstance}
use Rattle.link_tables.specs.Modules.{AreMarks, AreNumbers, numbered}
use Rattle.link_tables.proofs.Marking.{all_numbered}
use Rattle.link_tables.proofs.WholeImage.{at_place, numbers_fit}
use Rattle.link_tables.proofs.linking.plain_of.Goals as goal

pub returns : goal.returns
returns c =
    let xs = c.args.tree.now.instances in
    let marks = c.in_ok-marks.marks.items in
    let numbers = c.in_ok-numbers.numbers.items in
    let tell : AreMarks xs 0 c.args.many marks = subst (λ (ys : List TreeInstance). AreMarks ys 0 c.args.many marks) c.as_slice-instances.ensures c.in_ok-marks.ensures in
    let count : AreNumbers marks numbers = subst (λ (ms : List Bool). AreNumbers ms numbers) c.as_slice.ensures.value c.in_ok-numbers.ensures in
    record {
      marks = tell;
      instances = c.in_ok-instances.ensures ∙ (λ j. map (numbered (c.as_slice-2.ensures.value j)) (c.as_slice-instances.ensures j))
          ∙ all_numbered xs c.args.many marks numbers tell count xs (at_place c.args.many xs c.requires.fits);
      offered = c.in_ok-offered.ensures;
      control = c.in_ok-control.ensures ∙ c.as_slice-3.ensures;
    }

pub instances_of-requires : goal.instances_of-requires
instances_of-requires c =
    numbers_fit c.args.many c.args.tree.now.instances c.as_slice-instances.result.now c.as_slice-2.result.now c.as_slice-instances.ensures
    (ap length c.as_slice-2.ensures.value ∙ c.in_ok-numbers.ensures.length_is ∙ ap length c.as_slice.ensures.value ∙ c.in_ok-marks.ensures.length_is) c.requires.fits
