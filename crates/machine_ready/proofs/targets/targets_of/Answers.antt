use Rattle.std.proofs.Common.{arith}
use Rattle.machine_ready.proofs.Jumping.{targets_none, targets_more, has_targets}
use Rattle.machine_ready.proofs.targets.targets_of.Goals as goal

pub loop-entry-init : goal.loop-entry-init
loop-entry-init c = targets_none c.args.code.now c.new-targets.result c.new-targets.ensures

pub entry_of-requires-clause-starts : goal.entry_of-requires-clause-starts
entry_of-requires-clause-starts c = c.requires.starts c.loop-entry.entry-index _ c.loop-entry-test.true

pub loop-entry-preserved : goal.loop-entry-preserved
loop-entry-preserved c =
    targets_more c.args.code.now c.loop-entry.entry-index c.entry_of.result c.loop-entry.targets c.push.new.self _
    c.loop-entry-test.true c.in_ok-push.ensures.ok c.entry_of.ensures c.loop-entry.invariant

pub returns : goal.returns
returns c =
    has_targets c.args.code.now c.loop-entry.entry-index c.loop-entry.targets
    (let t = c.loop-entry-test.false in let e = c.loop-entry.auto.entry-index-end in omega (arith, t, e)) c.loop-entry.invariant
