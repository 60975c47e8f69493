use Rattle.image_readers.proofs.Sameness.{told_name}
use Rattle.image_readers.proofs.link_fields.is_spelled.Goals as goal

pub returns : goal.returns
returns c = told_name c.same_name.result c.args.a.now c.args.b.now c.same_name.ensures
