use Rattle.std.proofs.Common.{ap, []}
use Rattle.check_mentions.specs.Parts.{ahead, before}
use Rattle.check_mentions.proofs.parts.Parts.new.Goals as goal

pub returns : goal.returns
unfolding ahead
returns c = ap (before []) c.new.ensures.items
