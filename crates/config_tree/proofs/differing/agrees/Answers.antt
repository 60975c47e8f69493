use Rattle.config_tree.proofs.Noting.{noted_by, noted_new}
use Rattle.config_tree.proofs.differing.agrees.Goals as goal

pub returns-in-Some : goal.returns-in-Some
returns-in-Some c = noted_by c.same_face.result c.args.seen.now.entries c.args.face.now c.in-Some.first.now c.in_ok-key.key c.in_ok-key.ensures c.in-Some.ensures.value c.same_face.ensures

pub returns : goal.returns
returns c = noted_new c.args.seen.now.entries c.insert.new.self.entries c.args.face c.in_ok-key.key c.in_ok-key.ensures c.in_default.ensures.value c.in_ok-insert.ensures.updates.0
