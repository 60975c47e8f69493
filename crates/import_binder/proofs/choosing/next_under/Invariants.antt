use Rattle.std.proofs.Common.{◌≡◌, filter, drop}
use Rattle.import_binder.specs.Choosing.{is_under}
use Rattle.import_binder.proofs.choosing.next_under.Given as goal

-- none before exports under the interface's name and stamp
abbrev pub invariant-loop-at : goal.invariant-loop-at
invariant-loop-at l = filter (is_under l.tree l.face) (drop l.at l.exporters) ≡ filter (is_under l.tree l.face) l.exporters
