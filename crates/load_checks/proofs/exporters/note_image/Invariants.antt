-- What is noted so far, and then the rest, is all.
use Rattle.std.proofs.Common.{◌≡◌, drop}
use Rattle.link_tables.specs.declared.key.EntryKey.{EntryKey}
use Rattle.load_checks.specs.Index.{found_under, noted_offers}
use Rattle.load_checks.proofs.exporters.note_image.Given as goal

abbrev pub invariant-loop-offer : goal.invariant-loop-offer
invariant-loop-offer l = (k : EntryKey)
    → noted_offers k l.number l.before l.image (drop l.offer-index l.offer-items) (found_under k l.index.entries)
    ≡ noted_offers k l.number l.before l.image l.offer-items (found_under k l.initial.index.entries)
