use Rattle.image_readers.proofs.Sameness.{told_signature}
use Rattle.image_readers.proofs.link_fields.is_like.Goals as goal

pub returns : goal.returns
returns c = told_signature c.same_signature.result c.args.a.now c.args.b.now c.same_signature.ensures
