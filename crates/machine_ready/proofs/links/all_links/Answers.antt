use Rattle.std.proofs.Common.{arith}
use Rattle.std.specs.Prelude.{slice_get}
use Rattle.machine_rules.specs.LookUps.{links_of}
use Rattle.machine_ready.proofs.Each.{each_none, each_more, some_same}
use Rattle.machine_ready.proofs.links.all_links.Goals as goal

pub loop-number-init : goal.loop-number-init
loop-number-init c = each_none _ c.new-links.result c.new-links.ensures

pub loop-number-preserved : goal.loop-number-preserved
loop-number-preserved c =
    each_more _ c.loop-number.number c.loop-number.links c.push.new.self c.in_ok-links_of.field-0 c.in_ok-push.ensures.ok c.in_ok-links_of.ensures c.loop-number.invariant

pub returns : goal.returns
returns c j l =
    some_same (slice_get c.loop-number.links j) (links_of c.args.image.now j)
    (c.loop-number.invariant.each j (let t = c.loop-number-test.false in let e = c.len-number-end.ensures in omega (arith, t, e, l)))
