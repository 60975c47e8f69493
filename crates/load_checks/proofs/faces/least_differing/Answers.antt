use Rattle.std.proofs.Common.{List, ap, ◌∙◌, length}
use Rattle.object_files.specs.declared.image.Instance.{Instance}
use Rattle.load_checks.specs.Choosing.{choices_shown}
use Rattle.load_checks.specs.Faces.{lowered_in}
use Rattle.load_checks.proofs.Passing.{table_more, table_none}
use Rattle.load_checks.proofs.faces.least_differing.Goals as goal

pub returns-in_default : goal.returns-in_default
returns-in_default c =
    table_none c.args.image.now (choices_shown c.args.chosen.now) c.loop-at.least c.as_slice-instances.result.now c.args.image.now.links c.loop-at.at _ c.loop-at.invariant c.in_default.ensures
    ∙ ap (λ (xs : List Instance). lowered_in c.args.image.now (choices_shown c.args.chosen.now) (length c.args.chosen.now) xs c.args.image.now.links) c.as_slice-instances.ensures

pub loop-at-preserved : goal.loop-at-preserved
loop-at-preserved c =
    table_more c.args.image.now (choices_shown c.args.chosen.now) c.loop-at.least c.as_slice-instances.result.now c.args.image.now.links c.loop-at.at _ c.loop-at.invariant c.in_ok-least.least
    c.index-instances-at.result c.index-instances-at.result c.in-Some.table.now c.loop-at-test.true c.index-instances-at.is c.in-Some.ensures c.in_ok-least.ensures
