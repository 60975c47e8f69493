use Rattle.std.proofs.Common.{All, refl, subst}
use Rattle.std.proofs.lemmas.List.{take_all}
use Rattle.std.proofs.lemmas.List.Elements.{All-more}
use Rattle.machine_ready.specs.Hosts.{IsHostItem}
use Rattle.machine_ready.proofs.hosts.all_offered.Goals as goal

pub loop-wanted-preserved : goal.loop-wanted-preserved
loop-wanted-preserved c =
    All-more IsHostItem c.args.wanteds.now c.loop-wanted.wanted-index c.wanted-item.result c.loop-wanted-test.true c.loop-wanted.invariant
    (subst IsHostItem c.wanted-item.is (c.if-not-is_host_item.ensures.0 refl))

pub returns-clause-ok : goal.returns-clause-ok
returns-clause-ok c = subst (All IsHostItem) (take_all c.loop-wanted.wanted-index c.args.wanteds.now c.loop-wanted-test.false) c.loop-wanted.invariant
