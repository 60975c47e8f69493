use Rattle.std.proofs.Common.{◌≡◌, take}
use Rattle.config_templates.proofs.copies.copied.Given as goal

abbrev pub invariant-loop-one : goal.invariant-loop-one
invariant-loop-one l = l.copy ≡ take l.one-index l.list
