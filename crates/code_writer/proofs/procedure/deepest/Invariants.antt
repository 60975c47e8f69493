use Rattle.std.proofs.Common.{◌≡◌, drop, max}
use Rattle.code_blocks.specs.Modules.{deepest}
use Rattle.code_writer.proofs.procedure.deepest.Given as goal

abbrev pub invariant-loop-entry : goal.invariant-loop-entry
invariant-loop-entry l = max l.most (deepest (drop l.entry-index l.code)) ≡ deepest l.code
