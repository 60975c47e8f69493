use Rattle.std.proofs.Common.{◌++◌, ◌<◌, ◌∙◌, ap, sym, arith}
use Rattle.code_trees.proofs.OwnCode.{dropped, in_two}
use Rattle.code_trees.proofs.stack_code.put_drop.Goals as goal

pub returns-in_ok-push : goal.returns-in_ok-push
returns-in_ok-push c =
    let some : 0 < c.args.words = omega arith in
    in_two c.args.code.now _ _ _ _ c.in_ok-put_lift.ensures c.in_ok-push.ensures.ok
    ∙ ap (λ x. c.args.code.now ++ x) (sym (dropped c.args.words c.args.over some))
