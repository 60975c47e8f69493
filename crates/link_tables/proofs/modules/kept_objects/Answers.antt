-- All objects are gone through, each beside its mark.
use Rattle.std.proofs.Common.{◌∙◌}
use Rattle.std.proofs.lemmas.Iterator.{YieldsList-from_zip, YieldsList-from_slice}
use Rattle.std.proofs.lemmas.Iterator.Adapters.{YieldsList-from_vec}
use Rattle.std.proofs.lemmas.Iterator.Consumers.{YieldsList-end}
use Rattle.link_tables.proofs.Marking.{seen_marked}
use Rattle.link_tables.proofs.modules.kept_objects.Goals as goal

pub returns : goal.returns
returns c =
    let all = YieldsList-end (YieldsList-from_zip (YieldsList-from_vec c.args.objects.items (cc) (cc)) (YieldsList-from_slice c.args.marks.now (cc)))
    c.loop-object.yielded c.loop-object.object-iterator c.loop-object.yielded_by c.next.result c.next.new.self c.in-None.is c.next.ensures.steps in
    c.loop-object.invariant ∙ seen_marked c.loop-object.yielded c.args.objects.items c.args.marks.now all.0
