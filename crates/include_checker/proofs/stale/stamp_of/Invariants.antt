use Rattle.std.proofs.Common.{◌≡◌, map, drop}
use Rattle.include_rules.specs.Stale.{faced, stamp_of}
use Rattle.include_checker.proofs.stale.stamp_of.Given as goal

-- none before is one of this name
abbrev pub invariant-loop-file : goal.invariant-loop-file
invariant-loop-file l = stamp_of (map faced (drop l.file-index l.files)) l.name ≡ stamp_of (map faced l.files) l.name
