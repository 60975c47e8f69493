-- What is put so far, and then the rest, is all.
use Rattle.std.proofs.Common.{◌≡◌, drop}
use Rattle.link_tables.specs.Passes.{tables, all_tables}
use Rattle.link_tables.specs.Wanting.{IsIndexed}
use Rattle.link_tables.proofs.links.put_all.Given as goal

abbrev pub invariant-loop-instance : goal.invariant-loop-instance
invariant-loop-instance l = record {
  done : all_tables l.bindings (tables l.wanting.entries l.links) (drop l.instance-index l.instances)
      ≡ all_tables l.bindings (tables l.initial.wanting.entries l.initial.links) l.instances;
  indexed : IsIndexed l.wanting;
}
