use Rattle.std.proofs.Common.{◌≡◌, drop, []}
use Rattle.import_binder.specs.Index.{indexed, mentions_in}
use Rattle.import_binder.proofs.index.index_of.Given as goal

-- what is noted so far, and then the rest, is all
abbrev pub invariant-loop-entry : goal.invariant-loop-entry
invariant-loop-entry l = indexed l.index.entries (mentions_in l.tree (drop l.entry-index l.entries)) ≡ indexed [] (mentions_in l.tree l.entries)
