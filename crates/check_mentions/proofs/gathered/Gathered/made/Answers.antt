use Rattle.std.proofs.Common.{refl}
use Rattle.check_mentions.proofs.GatherLaws.{token_is_made}
use Rattle.check_mentions.proofs.gathered.Gathered.made.Goals as goal

pub returns : goal.returns
returns c = token_is_made c.args.self.now (record { texts = c.args.self.now.texts; seen = c.args.self.now.seen; origins = c.push.new.self }) c.args.token c.requires refl c.in_ok-push.ensures.ok
