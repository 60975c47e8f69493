use Rattle.std.proofs.Common.{arith}
use Rattle.code_counts.proofs.WordLaws.{last_at}
use Rattle.code_counts.proofs.values.last_part.Goals as goal

pub returns-in-len1-up : goal.returns-in-len1-up
returns-in-len1-up c = last_at c.args.parts.now _ (omega arith)
