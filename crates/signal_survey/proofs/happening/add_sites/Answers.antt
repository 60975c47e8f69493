use Rattle.std.proofs.Common.{refl}
use Rattle.signal_survey.proofs.Added.{adds_one, loop_none, loop_more, loop_all}
use Rattle.signal_survey.proofs.happening.add_sites.Goals as goal

pub loop-site-init : goal.loop-site-init
loop-site-init c = loop_none _ c.args.sites.now c.args.list.now c.args.list.now refl

pub loop-site-preserved : goal.loop-site-preserved
loop-site-preserved c =
    loop_more _ c.args.sites.now c.args.list.now c.loop-site.list c.push.new.self c.loop-site.site-index _ c.loop-site-test.true c.loop-site.invariant
    (adds_one _ c.loop-site.list c.push.new.self _ c.in_ok-push.ensures.ok refl (λ x e. e))

pub returns : goal.returns
returns c = loop_all _ c.args.sites.now c.args.list.now c.loop-site.list c.loop-site.site-index c.loop-site-test.false c.loop-site.invariant
