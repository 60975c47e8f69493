-- None so far gives it.
use Rattle.std.proofs.Common.{◌≡◌, drop}
use Rattle.config_rules.specs.Exporters.{is_given}
use Rattle.load_checks.proofs.faults.is_given.Given as goal

abbrev pub invariant-loop-pair : goal.invariant-loop-pair
invariant-loop-pair l = is_given l.name l.export.face (drop l.pair-index l.pair-items) ≡ is_given l.name l.export.face l.pair-items
