use Rattle.load_checks.proofs.Alike.{other_is}
use Rattle.load_checks.proofs.faces.is_other.Goals as goal

pub returns : goal.returns
returns c = other_is c.same_face.result c.args.a.now c.args.b.now c.same_face.ensures
