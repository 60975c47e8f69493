-- Those so far have no fault, and their links are put.
use Rattle.std.proofs.Common.{◌≡◌, [], map, take}
use Rattle.loader_rules.specs.LoadFaults.{load_faults}
use Rattle.loader_rules.specs.Parts.{parts}
use Rattle.load_checks.specs.Links.{wanted_links}
use Rattle.load_checks.specs.Turns.{IsSeen}
use Rattle.load_checks.specs.Wanting.{entries_shown}
use Rattle.load_checks.proofs.resolving.tables_of.Given as goal

abbrev pub invariant-loop-at : goal.invariant-loop-at
invariant-loop-at l = record {
  none : load_faults (take l.at l.images) ≡ [];
  seen : IsSeen (take l.at l.images) l.seen;
  links : l.links ≡ map (wanted_links (entries_shown l.wanting.entries.items)) (parts (take l.at l.images));
}
