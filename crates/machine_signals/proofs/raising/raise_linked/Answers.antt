use Rattle.std.proofs.Common.{suc, ap, refl}
use Rattle.machine_activations.specs.declared.row.Row.{Row}
use Rattle.machine_signals.proofs.RaiserCalls.{table_within, bound_within, link_within, linked_raises_so}
use Rattle.machine_signals.proofs.raising.raise_linked.Goals as goal

pub bounds-as_slice-instance : goal.bounds-as_slice-instance
bounds-as_slice-instance c =
    table_within c.args.image.now c.args.stack.now.layout c.requires.tables.prepared c.args.stack.now.region.items c.args.stack.now.rows.items c.args.r c.args.code.now c.requires.code c.args.link c.requires.at c.requires.stands.start c.requires.stands.store c.requires.stands.shown
    c.row_of-instance.result.instance (ap (λ (x : Row). x.instance) c.row_of-instance.ensures) c.as_slice.result.now c.as_slice.ensures

pub bounds-as_slice-link : goal.bounds-as_slice-link
bounds-as_slice-link c =
    bound_within c.args.image.now c.args.stack.now.layout c.requires.tables.prepared c.args.stack.now.region.items c.args.stack.now.rows.items c.args.r c.args.code.now c.requires.code c.args.link c.requires.at c.requires.stands.start c.requires.stands.store c.requires.stands.shown
    c.row_of-instance.result.instance (ap (λ (x : Row). x.instance) c.row_of-instance.ensures) c.as_slice.result.now c.as_slice.ensures
    c.index-as_slice-instance.result c.index-as_slice-instance.is c.as_slice-2.result.now c.as_slice-2.ensures

pub bounds-as_slice-link-2 : goal.bounds-as_slice-link-2
bounds-as_slice-link-2 c =
    link_within c.args.image.now c.args.stack.now.layout c.requires.tables.prepared c.args.stack.now.region.items c.args.stack.now.rows.items c.args.r c.args.code.now c.requires.code c.args.link c.requires.at c.requires.stands.start c.requires.stands.store c.requires.stands.shown
    c.row_of-instance.result.instance (ap (λ (x : Row). x.instance) c.row_of-instance.ensures) c.as_slice.result.now c.as_slice.ensures
    c.index-as_slice-instance.result c.index-as_slice-instance.is c.as_slice-2.result.now c.as_slice-2.ensures c.as_slice-3.result.now c.as_slice-3.ensures

pub raise-requires-clause-raises : goal.raise-requires-clause-raises
raise-requires-clause-raises c = record {
  start = c.requires.stands.start;
  store = record c.requires.stands.store { begun = suc c.requires.stands.store.begun };
  raises = linked_raises_so c.args.image.now c.args.stack.now.layout c.requires.tables.prepared c.args.stack.now.region.items c.args.stack.now.rows.items c.args.r c.args.code.now c.requires.code c.args.link c.requires.at c.requires.stands.start c.requires.stands.store c.requires.stands.shown
      c.row_of-instance.result.instance (ap (λ (x : Row). x.instance) c.row_of-instance.ensures) c.as_slice.result.now c.as_slice.ensures
      c.index-as_slice-instance.result c.index-as_slice-instance.is c.as_slice-2.result.now c.as_slice-2.ensures c.as_slice-3.result.now c.as_slice-3.ensures
      _ _ c.raised_by-signal.result _ c.raised_by-signal.ensures refl;
}

pub returns-clause-leads : goal.returns-clause-leads
returns-clause-leads c s m turns shown =
    c.raise.ensures.leads s (record m { begun = suc m.begun }) turns
    (linked_raises_so c.args.image.now c.args.stack.now.layout c.requires.tables.prepared c.args.stack.now.region.items c.args.stack.now.rows.items c.args.r c.args.code.now c.requires.code c.args.link c.requires.at s m shown
    c.row_of-instance.result.instance (ap (λ (x : Row). x.instance) c.row_of-instance.ensures) c.as_slice.result.now c.as_slice.ensures
    c.index-as_slice-instance.result c.index-as_slice-instance.is c.as_slice-2.result.now c.as_slice-2.ensures c.as_slice-3.result.now c.as_slice-3.ensures
    _ _ c.raised_by-signal.result _ c.raised_by-signal.ensures refl)
