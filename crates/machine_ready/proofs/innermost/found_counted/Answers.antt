use Rattle.machine_ready.specs.Openings.{IsInnermostAt}
use Rattle.machine_ready.proofs.Each.{zip_read, zip_all}
use Rattle.machine_ready.proofs.innermost.found_counted.Goals as goal

pub loop-entry-preserved : goal.loop-entry-preserved
loop-entry-preserved g c table is =
    zip_read (IsInnermostAt table) c.args.code.now c.loop-entry.found c.push.new.self c.loop-entry.entry-index _ c.innermost.result
    c.loop-entry-test.true c.in_ok-push.ensures.ok (c.loop-entry.invariant table is) (c.innermost.ensures.phrase table is)

pub returns : goal.returns
returns g c table is =
    zip_all (IsInnermostAt table) c.args.code.now c.loop-entry.found c.loop-entry.entry-index c.loop-entry-test.false (c.loop-entry.invariant table is)
