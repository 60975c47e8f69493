use Rattle.std.proofs.Common.{Err, ap}
use Rattle.command_sources.proofs.Defining.{definitions_read, definitions_unread}
use Rattle.command_sources.proofs.Sourcing.{can_be_written}
use Rattle.command_sources.proofs.definitions.interface_defined_in.Goals as goal

pub returns-in-Ok-clause-passes : goal.returns-in-Ok-clause-passes
returns-in-Ok-clause-passes g c =
    let read = rw c.as_str.ensures at c.in-Ok.ensures in
    definitions_read c.args.file c.args.stamp _ _ _ c.in-Ok.text c.interface_of_text.result
    (record {
      given = read.given;
      called = read.called;
      onward = record { files = read.unchanged; faults = read.faults_stay; misses = read.misses_stay };
    })
    c.interface_of_text.ensures.onward (rw c.as_slice.ensures at c.interface_of_text.ensures.passes)

pub returns-in-Err-clause-passes : goal.returns-in-Err-clause-passes
returns-in-Err-clause-passes g c =
    let read = rw c.as_str.ensures at c.in-Err.ensures in
    definitions_unread c.args.file c.args.stamp _ _ c.in-Err.why c.unread.result
    (record {
      called = read.called;
      miss = λ is. read.miss (ap Err is);
      absent = λ is. read.absent (ap Err is);
      fault = λ is. read.fault (ap Err is);
    })
    c.unread.ensures

pub returns-in-Ok-clause-fits : goal.returns-in-Ok-clause-fits
returns-in-Ok-clause-fits g c =
    let read = rw c.as_str.ensures at c.in-Ok.ensures in
    can_be_written c.definitions_can_be_written.ensures c.args.file c.args.stamp _ _ c.interface_of_text.result c.requires
    (definitions_read c.args.file c.args.stamp _ _ _ c.in-Ok.text c.interface_of_text.result
    (record {
      given = read.given;
      called = read.called;
      onward = record { files = read.unchanged; faults = read.faults_stay; misses = read.misses_stay };
    })
    c.interface_of_text.ensures.onward (rw c.as_slice.ensures at c.interface_of_text.ensures.passes))
