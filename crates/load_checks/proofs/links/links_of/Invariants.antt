-- What is put so far, and then the rest, is all.
use Rattle.std.proofs.Common.{◌≡◌, ◌++◌, drop}
use Rattle.load_checks.specs.Choosing.{choices_shown, links_by}
use Rattle.load_checks.specs.Wanting.{entries_shown}
use Rattle.load_checks.proofs.links.links_of.Given as goal

abbrev pub invariant-loop-at : goal.invariant-loop-at
invariant-loop-at l =
    l.links ++ links_by (entries_shown l.wanting.entries.items) (drop l.at l.wanteds) (drop l.at (choices_shown l.chosen)) ≡ links_by (entries_shown l.wanting.entries.items) l.wanteds (choices_shown l.chosen)
