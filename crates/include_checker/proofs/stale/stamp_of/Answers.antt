use Rattle.std.proofs.Common.{map}
use Rattle.include_rules.specs.Stale.{faced, stamp_of}
use Rattle.include_checker.proofs.Staling.{stamp_here, stamp_behind, no_stamp}
use Rattle.include_checker.proofs.stale.stamp_of.Goals as goal

pub returns-in-Some : goal.returns-in-Some
returns-in-Some c =
    stamp_here c.args.files.now c.loop-file.file-index c.file-item.result c.file-item.result c.args.name.now c.stamp_under.result c.in-Some.stamp (stamp_of (map faced c.args.files.now) c.args.name.now)
    c.loop-file-test.true c.file-item.is c.stamp_under.ensures c.in-Some.is c.loop-file.invariant

pub loop-file-preserved : goal.loop-file-preserved
loop-file-preserved c =
    stamp_behind c.args.files.now c.loop-file.file-index c.file-item.result c.file-item.result c.args.name.now c.stamp_under.result (stamp_of (map faced c.args.files.now) c.args.name.now)
    c.loop-file-test.true c.file-item.is c.stamp_under.ensures c.in_default.is c.loop-file.invariant

pub returns : goal.returns
returns c = no_stamp c.args.files.now c.loop-file.file-index c.args.name.now (stamp_of (map faced c.args.files.now) c.args.name.now) c.loop-file-test.false c.loop-file.invariant
