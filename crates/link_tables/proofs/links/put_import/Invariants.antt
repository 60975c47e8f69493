-- What is bound so far, and then the rest, is all.
use Rattle.std.proofs.Common.{◌≡◌, drop, flat_map, slice_get}
use Rattle.link_tables.specs.Passes.{pass, all_bound, entry_at}
use Rattle.link_tables.specs.Wanting.{IsIndexed}
use Rattle.link_tables.proofs.links.put_import.Given as goal

abbrev pub invariant-loop-number : goal.invariant-loop-number
invariant-loop-number l = record {
  done : all_bound l.bindings (pass l.wanting.entries l.table) (flat_map (λ n. entry_at l.import.face (slice_get l.import.face.items n)) (drop l.number-index l.number-items))
      ≡ all_bound l.bindings (pass l.initial.wanting.entries l.initial.table) (flat_map (λ n. entry_at l.import.face (slice_get l.import.face.items n)) l.number-items);
  indexed : IsIndexed l.wanting;
}
