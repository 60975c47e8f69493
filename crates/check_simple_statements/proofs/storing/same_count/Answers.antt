use Rattle.std.proofs.Common.{rules, arith}
use Rattle.check_simple_statements.proofs.TargetLaws.{counts_agree, counts_differ}
use Rattle.check_simple_statements.proofs.storing.same_count.Goals as goal

pub returns-then-all-fields : goal.returns-then-all-fields
returns-then-all-fields c = rw (counts_agree c.args.all.now c.args.fields.now c.args.place (omega arith)) (search rules)

pub returns-else-all-fields : goal.returns-else-all-fields
returns-else-all-fields c = rw (counts_differ c.args.all.now c.args.fields.now c.args.place (λ e. absurd (omega arith))) (search rules)
