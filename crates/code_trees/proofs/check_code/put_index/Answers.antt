use Rattle.code_trees.proofs.OwnCode.{in_three}
use Rattle.code_trees.proofs.check_code.put_index.Goals as goal

pub returns : goal.returns
returns c = in_three _ _ _ _ _ _ _ c.in_ok-put_check.ensures c.in_ok-put_first.ensures c.in_ok-push.ensures.ok
