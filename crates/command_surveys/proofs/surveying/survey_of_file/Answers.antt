use Rattle.std.proofs.Common.{Err, ap}
use Rattle.std.proofs.lemmas.Result.{err_from_is_err_and}
use Rattle.command_passes.proofs.Passed.{memory_ends}
use Rattle.command_surveys.proofs.Read.{survey_read, survey_unread}
use Rattle.command_surveys.proofs.surveying.survey_of_file.Goals as goal

pub returns-in_err-file-clause-passes : goal.returns-in_err-file-clause-passes
returns-in_err-file-clause-passes g c =
    let p = err_from_is_err_and c.from_residual.result c.from_residual.ensures.1 in
    rw p.1 (memory_ends _ _ _ p.0 p.2)

pub returns-in-Ok-clause-passes : goal.returns-in-Ok-clause-passes
returns-in-Ok-clause-passes g c =
    let read = rw c.as_str.ensures at c.in-Ok.ensures in
    survey_read _ _ _ _ c.in-Ok.bytes _ c.in_ok-file.ensures
    (record {
      given = read.given;
      called = read.called;
      onward = record { files = read.unchanged; faults = read.faults_stay; misses = read.misses_stay };
    })
    (rw c.as_slice.ensures at c.surveyed.ensures)

pub returns-in-Err-clause-passes : goal.returns-in-Err-clause-passes
returns-in-Err-clause-passes g c =
    let read = rw c.as_str.ensures at c.in-Err.ensures in
    survey_unread _ _ _ _ c.in-Err.why _ c.in_ok-file.ensures
    (record {
      called = read.called;
      miss = λ is. read.miss (ap Err is);
      absent = λ is. read.absent (ap Err is);
      fault = λ is. read.fault (ap Err is);
    })
    c.unread.ensures
