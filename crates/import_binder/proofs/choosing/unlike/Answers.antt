use Rattle.std.proofs.Common.{arith}
use Rattle.import_binder.specs.Choosing.{shown, cause_shown}
use Rattle.import_binder.proofs.Outlets.{by_none_of, by_first_of}
use Rattle.import_binder.proofs.choosing.unlike.Goals as goal

pub returns-in-empty : goal.returns-in-empty
unfolding shown cause_shown
returns-in-empty c = λ name all are. by_none_of c.args.tree.now c.args.face.now name c.args.exporters.now (omega (arith, c.in-empty.len_below)) all are

pub returns-in-len1-up : goal.returns-in-len1-up
returns-in-len1-up c = λ name all are.
    by_first_of c.args.tree.now c.args.face.now name c.args.exporters.now (record { instance = 0; export = 0 }) (omega (arith, c.in-len1-up.len_at_least)) all are (shown c.unlike_first.result) c.unlike_first.ensures
