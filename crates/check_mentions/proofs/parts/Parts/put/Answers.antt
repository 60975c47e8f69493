use Rattle.std.proofs.Common.{ap, ◌∙◌, []}
use Rattle.check_mentions.specs.Parts.{ahead, before}
use Rattle.check_mentions.proofs.PartLaws.{before_last}
use Rattle.check_mentions.proofs.parts.Parts.put.Goals as goal

pub returns : goal.returns
unfolding ahead
returns c = ap (before []) c.in_ok-push.ensures.items ∙ before_last [] c.args.self.now.stack.items c.args.part
