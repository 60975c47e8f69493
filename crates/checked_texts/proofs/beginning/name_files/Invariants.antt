use Rattle.std.proofs.Common.{◌≡◌, drop}
use Rattle.checked_texts.specs.Asked.{name_files}
use Rattle.checked_texts.proofs.beginning.name_files.Given as goal

abbrev pub invariant-loop-item : goal.invariant-loop-item
invariant-loop-item l = name_files l.directory ≡ name_files (drop l.item-index l.directory)
