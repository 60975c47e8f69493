use Rattle.std.proofs.Common.{◌∙◌, sym, arith}
use Rattle.code_trees.proofs.ExitLaws.{past_some}
use Rattle.code_trees.proofs.exit_forms.past_exits.Goals as goal

pub returns-in-len1-up : goal.returns-in-len1-up
returns-in-len1-up c = c.out.ensures ∙ sym (past_some c.args.exits.now (omega arith))
