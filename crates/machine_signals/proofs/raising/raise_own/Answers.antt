use Rattle.std.proofs.Common.{suc, ap}
use Rattle.machine_activations.specs.declared.row.Row.{Row}
use Rattle.machine_signals.proofs.RaiserCalls.{own_within, own_raises_so}
use Rattle.machine_signals.proofs.raising.raise_own.Goals as goal

pub bounds-as_slice-number : goal.bounds-as_slice-number
bounds-as_slice-number c = own_within c.args.image.now c.args.stack.now.layout c.requires.tables.prepared c.args.stack.now.region.items c.args.stack.now.rows.items c.args.r c.args.code.now c.requires.code c.args.number c.requires.at c.as_slice.result.now c.as_slice.ensures c.requires.stands.start c.requires.stands.store c.requires.stands.shown

pub bounds-as_slice-number-2 : goal.bounds-as_slice-number-2
bounds-as_slice-number-2 c = own_within c.args.image.now c.args.stack.now.layout c.requires.tables.prepared c.args.stack.now.region.items c.args.stack.now.rows.items c.args.r c.args.code.now c.requires.code c.args.number c.requires.at c.as_slice.result.now c.as_slice.ensures c.requires.stands.start c.requires.stands.store c.requires.stands.shown

pub raise-requires-clause-raises : goal.raise-requires-clause-raises
raise-requires-clause-raises c = record {
  start = c.requires.stands.start;
  store = record c.requires.stands.store { begun = suc c.requires.stands.store.begun };
  raises = own_raises_so c.args.image.now c.args.stack.now.layout c.requires.tables.prepared c.args.stack.now.region.items c.args.stack.now.rows.items c.args.r c.args.code.now c.requires.code c.args.number c.requires.at c.as_slice.result.now c.as_slice.ensures
      c.requires.stands.start c.requires.stands.store c.requires.stands.shown c.index-as_slice-number.result c.from-args.result c.row_of.result.instance c.from-args.ensures (ap (λ (x : Row). x.instance) c.row_of.ensures);
}

pub returns-clause-leads : goal.returns-clause-leads
returns-clause-leads c s m turns shown =
    c.raise.ensures.leads s (record m { begun = suc m.begun }) turns
    (own_raises_so c.args.image.now c.args.stack.now.layout c.requires.tables.prepared c.args.stack.now.region.items c.args.stack.now.rows.items c.args.r c.args.code.now c.requires.code c.args.number c.requires.at c.as_slice.result.now c.as_slice.ensures
    s m shown c.index-as_slice-number.result c.from-args.result c.row_of.result.instance c.from-args.ensures (ap (λ (x : Row). x.instance) c.row_of.ensures))
