-- What is bound so far, and then the rest, is all.
use Rattle.std.proofs.Common.{◌≡◌, drop}
use Rattle.link_tables.specs.Passes.{pass, all_bound, entries_in}
use Rattle.link_tables.specs.Wanting.{IsIndexed}
use Rattle.link_tables.proofs.links.put_imports.Given as goal

abbrev pub invariant-loop-import : goal.invariant-loop-import
invariant-loop-import l = record {
  done : all_bound l.bindings (pass l.wanting.entries l.table) (entries_in (drop l.import-index l.imports))
      ≡ all_bound l.bindings (pass l.initial.wanting.entries l.initial.table) (entries_in l.imports);
  indexed : IsIndexed l.wanting;
}
