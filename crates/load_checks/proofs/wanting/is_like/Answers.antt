use Rattle.load_checks.proofs.Alike.{like_is}
use Rattle.load_checks.proofs.wanting.is_like.Goals as goal

pub returns : goal.returns
returns c = like_is c.same_signature.result c.args.a.now c.args.b.now c.same_signature.ensures
