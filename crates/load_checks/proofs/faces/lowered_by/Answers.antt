use Rattle.load_checks.proofs.Passing.{link_more, link_none}
use Rattle.load_checks.specs.Choosing.{choices_shown}
use Rattle.load_checks.proofs.faces.lowered_by.Goals as goal

pub returns-in_default : goal.returns-in_default
returns-in_default c = link_none (choices_shown c.args.chosen.now) c.loop-at.least c.args.faces.now c.args.table.now c.loop-at.at _ c.loop-at.invariant c.in_default.ensures

pub loop-at-preserved : goal.loop-at-preserved
loop-at-preserved c =
    link_more (choices_shown c.args.chosen.now) c.loop-at.least c.args.faces.now c.args.table.now c.loop-at.at _ c.loop-at.invariant c.lowered-least.result c.index-faces-at.result c.index-faces-at.result
    c.in-Some.link.now c.loop-at-test.true c.index-faces-at.is c.in-Some.ensures c.lowered-least.ensures
