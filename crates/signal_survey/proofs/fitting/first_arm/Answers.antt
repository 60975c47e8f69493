use Rattle.signal_survey.proofs.Caught.{first_is}
use Rattle.signal_survey.proofs.fitting.first_arm.Goals as goal

pub returns : goal.returns
returns c =
    first_is c.args.image.now c.args.instance c.args.code.now c.table_of-table.result.now c.as_slice.result.now c.args.signal c.args.arms.now c.first_fitting.result c.requires c.table_of-table.ensures
    c.as_slice.ensures c.first_fitting.ensures
