use Rattle.std.proofs.Common.{Err, ap}
use Rattle.command_plans.proofs.TextsRead.{tree_read, tree_unread}
use Rattle.command_plans.proofs.texts.tree_of_file.Goals as goal

pub returns-in-Ok-clause-passes : goal.returns-in-Ok-clause-passes
returns-in-Ok-clause-passes g c =
    let read = rw c.as_str.ensures at c.in-Ok.ensures in
    tree_read c.args.file _ _ c.in-Ok.text c.parsed.result
    (record {
      given = read.given;
      called = read.called;
      onward = record { files = read.unchanged; faults = read.faults_stay; misses = read.misses_stay };
    })
    (rw c.as_slice.ensures at c.parsed.ensures)

pub returns-in-Err-clause-passes : goal.returns-in-Err-clause-passes
returns-in-Err-clause-passes g c =
    let read = rw c.as_str.ensures at c.in-Err.ensures in
    tree_unread c.args.file _ _ c.in-Err.why c.unread.result
    (record {
      called = read.called;
      miss = λ is. read.miss (ap Err is);
      absent = λ is. read.absent (ap Err is);
      fault = λ is. read.fault (ap Err is);
    })
    c.unread.ensures
