-- An instance more marks its component.
use Rattle.std.proofs.Common.{◌≡◌, [], false, sym, subst, arith, rules}
use Rattle.std.proofs.Math.ListN.{replicate}
use Rattle.link_tables.specs.Modules.{AreMarks}
use Rattle.link_tables.proofs.Marking.{none_marked, one_marked, none_within}
use Rattle.link_tables.proofs.modules.marks_of.Goals as goal
use Rattle.link_tables.proofs.modules.marks_of.Goals.{then-component-len, else-component-len}

pub loop-instance-init : goal.loop-instance-init
loop-instance-init c =
    let all_false : c.in_ok-marks.marks.items ≡ replicate c.args.many false = search rules in
    subst (AreMarks [] 0 c.args.many) (sym all_false) (none_marked c.args.many)

pub loop-instance-preserved : goal.loop-instance-preserved
loop-instance-preserved c = elim c.if-component-len.branch [
  | then-component-len w ↦
      let is : c.if-component-len.marks.items ≡ _ = (λ j. (w.marks-is j).items) in
      subst (AreMarks _ 0 c.args.many) (sym is)
      (one_marked c.args.instances.now c.loop-instance.instance-index c.args.many c.instance-item.result c.loop-instance.marks.items c.loop-instance-test.true c.instance-item.is c.loop-instance.invariant
      (let t = w.if-component-len.true in let l = c.len.ensures in omega (arith, t, l)))
  | else-component-len w ↦
      let is : c.if-component-len.marks.items ≡ _ = (λ j. (w.marks-is j).items) in
      subst (AreMarks _ 0 c.args.many) (sym is)
      (none_within c.args.instances.now c.loop-instance.instance-index c.args.many c.instance-item.result c.loop-instance.marks.items c.loop-instance-test.true c.instance-item.is c.loop-instance.invariant
      (let t = w.if-component-len.false in let l = c.len.ensures in omega (arith, t, l)))
]
