use Rattle.std.proofs.Common.{◌-◌, arith}
use Rattle.module_readers.proofs.Turns.{begins, goes_on, is_cut, is_done}
use Rattle.module_readers.proofs.code.entries.Goals as goal

pub entries-init : goal.entries-init
entries-init c = begins c.args.count c.new-all.result c.args.input.now.rest.now c.new-all.ensures

pub entries-preserved : goal.entries-preserved
entries-preserved c =
    rw c.bytes-left.ensures
    (goes_on c.args.count c.entries.left (c.args.count - c.entries.left) c.entries.all c.push.new.self c.in-Ok.instruction c.entries.input.rest.now c.instruction.new.input.rest.now _
    c.entries-test.true c.in-Ok.ensures.size.0 c.in-Ok.ensures.size.1 c.entries.invariant c.in-Ok.ensures.read (omega (arith, c.entries.invariant.sizes)) c.in_ok-push.ensures.ok)

pub returns-in-Err-clause-read : goal.returns-in-Err-clause-read
returns-in-Err-clause-read c = λ other. is_cut c.args.count c.entries.left c.entries.all c.in-Err.why c.entries.input.rest.now _ c.entries-test.true c.entries.invariant (c.in-Err.ensures.read other)

pub returns-clause-read : goal.returns-clause-read
returns-clause-read c = is_done c.args.count c.entries.left c.entries.all c.entries.input.rest.now _ c.entries-test.false c.entries.invariant
