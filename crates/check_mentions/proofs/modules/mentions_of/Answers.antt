use Rattle.syntax_trees.specs.PlainSyntax as plain
use Rattle.check_rules.specs.Mentions.{of_kind}
use Rattle.check_mentions.proofs.GatherLaws.{origins_whole, texts_whole}
use Rattle.check_mentions.proofs.modules.mentions_of.Goals as goal

pub module-requires : goal.module-requires
module-requires c = c.new-gathered.ensures.indexed

pub returns-clause-texts : goal.returns-clause-texts
returns-clause-texts c = texts_whole c.new-gathered.result c.module.new.self (of_kind (plain.kind c.args.kind.now)) c.in_ok-module.ensures c.new-gathered.ensures.texts

pub returns-clause-origins : goal.returns-clause-origins
returns-clause-origins c = origins_whole c.new-gathered.result c.module.new.self (of_kind (plain.kind c.args.kind.now)) c.in_ok-module.ensures c.new-gathered.ensures.origins
