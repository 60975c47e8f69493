use Rattle.std.proofs.Common.{suc}
use Rattle.machine_signals.proofs.RaiserCalls.{fault_within, host_raises_so}
use Rattle.machine_signals.proofs.raising.raise_host.Goals as goal

pub host_signal-signal-requires : goal.host_signal-signal-requires
host_signal-signal-requires c = fault_within c.args.image.now c.args.stack.now.layout c.requires.tables.prepared c.args.stack.now.region.items c.args.stack.now.rows.items c.args.r c.args.code.now c.requires.code c.args.fault c.requires.at c.requires.stands.start c.requires.stands.store c.requires.stands.shown

pub raise-requires-clause-raises : goal.raise-requires-clause-raises
raise-requires-clause-raises c = record {
  start = c.requires.stands.start;
  store = record c.requires.stands.store { begun = suc c.requires.stands.store.begun };
  raises = host_raises_so c.args.image.now c.args.stack.now.layout c.requires.tables.prepared c.args.stack.now.region.items c.args.stack.now.rows.items c.args.r c.args.code.now c.requires.code c.args.fault c.requires.at c.requires.stands.start c.requires.stands.store c.requires.stands.shown c.host_signal-signal.result c.host_signal-signal.ensures;
}

pub returns-clause-leads : goal.returns-clause-leads
returns-clause-leads c s m turns shown =
    c.raise.ensures.leads s (record m { begun = suc m.begun }) turns
    (host_raises_so c.args.image.now c.args.stack.now.layout c.requires.tables.prepared c.args.stack.now.region.items c.args.stack.now.rows.items c.args.r c.args.code.now c.requires.code c.args.fault c.requires.at s m shown c.host_signal-signal.result c.host_signal-signal.ensures)
