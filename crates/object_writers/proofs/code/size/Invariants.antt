use Rattle.std.proofs.Common.{◌≡◌, take}
use Rattle.object_writers.specs.CodeBytes.{code_size}
use Rattle.object_writers.proofs.code.size.Given as goal

abbrev pub invariant-entries : goal.invariant-entries
invariant-entries l = l.sum ≡ code_size (take l.entry-index l.code)
