-- Each is told by the length of its name.
use Rattle.std.proofs.Common.{sym}
use Rattle.machine_calls.proofs.HostNames.{named, named_last}
use Rattle.machine_calls.proofs.host.host_named.Goals as goal

pub returns-then-length-eq9 : goal.returns-then-length-eq9
returns-then-length-eq9 c = named c.args.name.now 9 c.requires (sym c.if-length-eq9.true)

pub returns-then-length-eq8 : goal.returns-then-length-eq8
returns-then-length-eq8 c = named c.args.name.now 8 c.requires (sym c.if-length-eq8.true)

pub returns-then-length-eq10 : goal.returns-then-length-eq10
returns-then-length-eq10 c = named c.args.name.now 10 c.requires (sym c.if-length-eq10.true)

pub returns-then-length-eq11 : goal.returns-then-length-eq11
returns-then-length-eq11 c = named c.args.name.now 11 c.requires (sym c.if-length-eq11.true)

pub returns-else-length-eq11 : goal.returns-else-length-eq11
returns-else-length-eq11 c =
    named_last c.args.name.now c.requires c.if-length-eq9.false c.if-length-eq8.false c.if-length-eq10.false c.if-length-eq11.false
