-- What is noted so far, and then the rest, is all.
use Rattle.std.proofs.Common.{◌≡◌, false, drop, is_some}
use Rattle.check_scopes.specs.Shows.{listed}
use Rattle.link_tables.specs.declared.key.EntryKey.{EntryKey}
use Rattle.load_checks.specs.Givers.{offering_shown}
use Rattle.load_checks.specs.Index.{found_under, noted_pairs}
use Rattle.load_checks.proofs.exporters.note_given.Given as goal

abbrev pub invariant-loop-pair : goal.invariant-loop-pair
invariant-loop-pair l = (k : EntryKey)
    → noted_pairs k (offering_shown l.offering) (drop l.pair-index l.pair-items) (is_some (listed l.names k.item)) (found_under k l.index.entries)
    ≡ noted_pairs k (offering_shown l.offering) l.pair-items false (found_under k l.initial.index.entries)
