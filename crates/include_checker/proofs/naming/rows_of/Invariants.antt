use Rattle.std.proofs.Common.{take}
use Rattle.std.specs.List.{AllZip}
use Rattle.include_checker.specs.Named.{FindsAs, rows_of}
use Rattle.include_checker.proofs.naming.rows_of.Given as goal

abbrev pub invariant-loop-text : goal.invariant-loop-text
invariant-loop-text l = AllZip FindsAs l.names (rows_of l.bases (take l.text-index l.texts))
