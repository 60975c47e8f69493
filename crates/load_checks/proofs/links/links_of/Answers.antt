use Rattle.load_checks.specs.Wanting.{entries_shown}
use Rattle.load_checks.proofs.Passing.{made_more}
use Rattle.std.proofs.Common.{arith}
use Rattle.load_checks.proofs.links.links_of.Goals as goal

pub loop-at-preserved : goal.loop-at-preserved
loop-at-preserved c =
    made_more (entries_shown c.args.wanting.now.entries.items) c.args.wanteds.now c.args.chosen.now c.loop-at.at c.loop-at.links _ c.loop-at.invariant c.index-wanteds-at.result c.index-wanteds-at.result c.index-chosen-at.result
    c.index-chosen-at.result c.push.new.self c.in_ok-link_by.field-0 c.loop-at-test.true c.index-wanteds-at.is (omega (arith, c.loop-at-test.true, c.requires.long)) c.index-chosen-at.is c.in_ok-push.ensures.ok c.in_ok-link_by.ensures
