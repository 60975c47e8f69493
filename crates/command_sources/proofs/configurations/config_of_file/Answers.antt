use Rattle.std.proofs.Common.{Err, ap}
use Rattle.command_sources.proofs.Binding.{no_room}
use Rattle.command_sources.proofs.Parsing.{config_read, config_unread}
use Rattle.command_sources.proofs.configurations.config_of_file.Goals as goal

pub returns-in_err-file-clause-passes : goal.returns-in_err-file-clause-passes
returns-in_err-file-clause-passes g c = no_room _ _ _ _ c.from_residual.result c.from_residual.ensures.1

pub returns-in-Ok-clause-passes : goal.returns-in-Ok-clause-passes
returns-in-Ok-clause-passes g c =
    let read = rw c.as_str.ensures at c.in-Ok.ensures in
    config_read c.args.base.now c.in_ok-file.file c.in_ok-file.ensures _ _ c.in-Ok.text c.config_of_text.result
    (record {
      given = read.given;
      called = read.called;
      onward = record { files = read.unchanged; faults = read.faults_stay; misses = read.misses_stay };
    })
    (rw c.as_slice.ensures at c.config_of_text.ensures.decides)

pub returns-in-Err-clause-passes : goal.returns-in-Err-clause-passes
returns-in-Err-clause-passes g c =
    let read = rw c.as_str.ensures at c.in-Err.ensures in
    config_unread c.args.base.now c.in_ok-file.file c.in_ok-file.ensures _ _ c.in-Err.why c.unread.result
    (record {
      called = read.called;
      miss = λ is. read.miss (ap Err is);
      absent = λ is. read.absent (ap Err is);
      fault = λ is. read.fault (ap Err is);
    })
    c.unread.ensures
