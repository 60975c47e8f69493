use Rattle.config_tree.proofs.SingleTrees.{single_differs, single_in_order, single_whole}
use Rattle.config_tree.proofs.alone.single.Goals as goal

pub returns-then-not-agree-clause-tree : goal.returns-then-not-agree-clause-tree
returns-then-not-agree-clause-tree c = λ _. single_differs c.args.shape c.faces_agree-agree.result c.in_ok-shape.agree c.in_ok-shape.ensures.1 c.faces_agree-agree.ensures c.if-not-agree.true

pub returns-clause-tree : goal.returns-clause-tree
returns-clause-tree c = λ _.
    single_whole c.args.shape c.faces_agree-agree.result c.in_ok-shape.agree c.in_ok-shape.ensures.1 c.faces_agree-agree.ensures c.in_ok-single_tree.field-0 c.in_ok-shape.shape c.if-not-agree.false
    c.in_ok-shape.ensures.0 c.in_ok-single_tree.ensures

pub returns-clause-in_order : goal.returns-clause-in_order
returns-clause-in_order c = single_in_order c.args.shape c.in_ok-single_tree.field-0 c.in_ok-shape.shape c.in_ok-shape.ensures.0 c.in_ok-single_tree.ensures
