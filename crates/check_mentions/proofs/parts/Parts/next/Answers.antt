use Rattle.std.proofs.Common.{arith}
use Rattle.check_mentions.specs.Parts.{ahead}
use Rattle.check_mentions.proofs.PartLaws.{taken}
use Rattle.check_mentions.proofs.parts.Parts.next.Goals as goal

pub returns : goal.returns
unfolding ahead
returns c =
    taken c.args.self.now.stack.len c.args.self.now.stack.items c.pop.new.self.items c.pop.result (omega arith) c.pop.ensures.variant.1 c.pop.ensures.items
