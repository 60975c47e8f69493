use Rattle.std.proofs.Common.{◌≡◌, map, take}
use Rattle.code_rules.specs.Modules.{signal_code}
use Rattle.frame_code.proofs.signals.signals_of.Given as goal

abbrev pub invariant-loop-item : goal.invariant-loop-item
invariant-loop-item l = l.signals ≡ map signal_code (take l.item-index l.items)
