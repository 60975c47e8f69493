use Rattle.std.proofs.Common.{take}
use Rattle.std.specs.Prelude.{Contains}
use Rattle.place_walks.specs.Walks.{Visits}
use Rattle.place_walks.proofs.walk.visit_all.Given as goal

-- it came to those before
abbrev pub invariant-loop-place : goal.invariant-loop-place
invariant-loop-place l = Visits l.round (Contains (take l.place-index l.places)) l.initial.walk l.walk
